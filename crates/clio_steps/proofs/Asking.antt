-- Which files the source asks for.
use Rattle.std.proofs.Common.{◌≡◌, ℕ, List, [], ◌∷◌, ◌++◌, refl, sym, ap, subst, inl, inr}
use Rattle.dx_stages.specs.Worlds.{World}
use Rattle.dx_stages.specs.Stages.{Stage, each}
use Rattle.dx_used.specs.Passing.{Passes}
use Rattle.clio_source.specs.Source.{at_start, reading, roots, source_stages, SourceRequest}
use Rattle.clio_source.proofs.Roots.{asks_own}
use Rattle.clio_steps.specs.Outcomes.{IsNextFile}

-- ---- stages in a row

-- the one that asks, after those that passed
pub record AsksAt {E X S : Type 0} (f : X → Stage E S S) (xs : List X) (c : World) (a : S) (n : List ℕ) : Type 0 where
  pub before : List X
  pub one : X
  pub after : List X
  pub split : xs ≡ before ++ one ∷ after
  pub given : S
  pub passed : (each f before).passes c a given
  pub asks : (f one).asks c given n

pub one_asks : {E X S : Type 0} (f : X → Stage E S S) (xs : List X) (c : World) (a : S) (n : List ℕ) → (each f xs).asks c a n → AsksAt f xs c a n
one_asks f [] c a n h = absurd h
one_asks f (x ∷ xs) c a n (inl h) = record { before = []; one = x; after = xs; split = refl; given = a; passed = refl; asks = h }
one_asks f (x ∷ xs) c a n (inr (b, p, h)) =
    let r = one_asks f xs c b n h in record {
      before = x ∷ r.before;
      one = r.one;
      after = r.after;
      split = ap (λ l. x ∷ l) r.split;
      given = r.given;
      passed = (b, p, r.passed);
      asks = r.asks;
    }

pub asks_after : {E X S : Type 0} (f : X → Stage E S S) (before : List X) (one : X) (after : List X) (c : World) (a b : S) (n : List ℕ)
    → (each f before).passes c a b → (f one).asks c b n → (each f (before ++ one ∷ after)).asks c a n
asks_after f [] one after c a b n is h = inl (subst (λ s. (f one).asks c s n) is h)
asks_after f (x ∷ before) one after c a b n (d, p, passed) h = inr (d, p, asks_after f before one after c d b n passed h)

-- ---- the source

pub next_file : (passes : Passes) (c : World) (w : SourceRequest) (n : List ℕ) → (source_stages passes).asks c w n → IsNextFile c w.schema n
next_file passes c w n (inl h) =
    let f = w.schema in
    let r = one_asks (reading f) (roots f) c at_start n h in record {
      before = r.before;
      root = r.one;
      after = r.after;
      roots_are = r.split;
      read = r.given;
      passed = r.passed;
      is = asks_own f r.one c r.given n r.asks;
    }
next_file passes c w n (inr h) = absurd h.2

pub asks_next : (passes : Passes) (c : World) (w : SourceRequest) (n : List ℕ) → IsNextFile c w.schema n → (source_stages passes).asks c w n
asks_next passes c w n h =
    let f = w.schema in
    inl (subst (λ xs. (each (reading f) xs).asks c at_start n) (sym h.roots_are)
    (asks_after (reading f) h.before h.root h.after c at_start h.read n h.passed (inl h.is)))
