-- Stages in a row: each refuses what it is given, or passes on what it makes of it.
use Rattle.std.specs.Prelude.{◌≡◌, ◌⊎◌, ◌<◌, ◌≤◌, ℕ, List, [], ◌∷◌, length, Option, Some, None, Result, Ok, Err}
use Rattle.dx_stages.specs.Worlds.{World}

-- In a world, of what it is given: it refuses with this, it passes with that, and it asks for a file of this name.
pub record Stage (E A B : Type 0) : Type 1 where
  pub refuses : World → A → E → Type 0
  pub passes : World → A → B → Type 0
  pub asks : World → A → List ℕ → Type 0

-- ---- one after the other

-- the first stage, and on what it passes the second
abbrev pub next : {E A B C : Type 0} → Stage E A B → Stage E B C → Stage E A C
next {E} {A} {B} {C} s t = record {
  refuses = λ c a e. s.refuses c a e ⊎ ((b : B) × s.passes c a b × t.refuses c b e);
  passes = λ c a x. (b : B) × s.passes c a b × t.passes c b x;
  asks = λ c a n. s.asks c a n ⊎ ((b : B) × s.passes c a b × t.asks c b n);
}

-- what it is given is passed on as it is
abbrev pub stay : {E A : Type 0} → Stage E A A
stay {E} {A} = record {
  refuses = λ c a e. ⊥;
  passes = λ c a b. b ≡ a;
  asks = λ c a n. ⊥;
}

-- one stage for each of these, in order, over a state
abbrev pub each : {E X S : Type 0} → (X → Stage E S S) → List X → Stage E S S
each f [] = stay
each f (x ∷ xs) = next (f x) (each f xs)

-- ---- changes of what goes in, comes out and is said

-- which stage it is depends on what it is given
abbrev pub by : {E A B : Type 0} → (A → Stage E A B) → Stage E A B
by {E} {A} {B} f = record {
  refuses = λ c a e. (f a).refuses c a e;
  passes = λ c a b. (f a).passes c a b;
  asks = λ c a n. (f a).asks c a n;
}

-- what it is given is changed before
abbrev pub over : {E A B C : Type 0} → (A → B) → Stage E B C → Stage E A C
over {E} {A} {B} {C} f s = record {
  refuses = λ c a e. s.refuses c (f a) e;
  passes = λ c a x. s.passes c (f a) x;
  asks = λ c a n. s.asks c (f a) n;
}

-- what it passes is changed, with what it was given
abbrev pub into : {E A B C : Type 0} → (A → B → C) → Stage E A B → Stage E A C
into {E} {A} {B} {C} f s = record {
  refuses = s.refuses;
  passes = λ c a x. (b : B) × s.passes c a b × (x ≡ f a b);
  asks = s.asks;
}

-- what it passes becomes one of these, with what it was given
abbrev pub become : {E A B C : Type 0} → (A → B → C → Type 0) → Stage E A B → Stage E A C
become {E} {A} {B} {C} R s = record {
  refuses = s.refuses;
  passes = λ c a x. (b : B) × s.passes c a b × R a b x;
  asks = s.asks;
}

-- it says its refusals so
abbrev pub saying : {E F A B : Type 0} → (E → F) → Stage E A B → Stage F A B
saying {E} {F} {A} {B} f s = record {
  refuses = λ c a e. (k : E) × s.refuses c a k × (e ≡ f k);
  passes = s.passes;
  asks = s.asks;
}

-- it says those of its refusals so that have a word; with the others it doesn't refuse
abbrev pub saying_if : {E F A B : Type 0} → (E → Option F) → Stage E A B → Stage F A B
saying_if {E} {F} {A} {B} word s = record {
  refuses = λ c a e. (k : E) × s.refuses c a k × (word k ≡ Some e);
  passes = s.passes;
  asks = s.asks;
}

-- ---- the first stages

-- a file of this name, which may have so many bytes; it says this if the file is absent, and that if it is too long
abbrev pub file : {E A : Type 0} → List ℕ → ℕ → E → E → Stage E A (List ℕ)
file {E} {A} name limit absent long = record {
  refuses = λ c a e. ((c name ≡ None) × (e ≡ absent))
      ⊎ ((bytes : List ℕ) × (c name ≡ Some bytes) × (limit < length bytes) × (e ≡ long));
  passes = λ c a bytes. (c name ≡ Some bytes) × (length bytes ≤ limit);
  asks = λ c a n. n ≡ name;
}

-- a computation, by its result
abbrev pub computing : {E A B : Type 0} → (A → Result B E) → Stage E A B
computing {E} {A} {B} f = record {
  refuses = λ c a e. f a ≡ Err e;
  passes = λ c a b. f a ≡ Ok b;
  asks = λ c a n. ⊥;
}

-- a test: it refuses with what the test finds
abbrev pub testing : {E A : Type 0} → (A → Option E) → Stage E A A
testing {E} {A} f = record {
  refuses = λ c a e. f a ≡ Some e;
  passes = λ c a b. (f a ≡ None) × (b ≡ a);
  asks = λ c a n. ⊥;
}

-- two notions over what it is given, whatever is outside
abbrev pub notions : {E A B : Type 0} → (A → E → Type 0) → (A → B → Type 0) → Stage E A B
notions {E} {A} {B} refused passed = record {
  refuses = λ c. refused;
  passes = λ c. passed;
  asks = λ c a n. ⊥;
}

-- a check by two notions: it refuses, or what it is given is in form and is passed on
abbrev pub checking : {E A : Type 0} → (A → E → Type 0) → (A → Type 0) → Stage E A A
checking {E} {A} refused fits = notions refused (λ a b. fits a × (b ≡ a))
