-- What stages keep when they are joined: proved once, for all.
use Rattle.std.proofs.Common.{◌≡◌, ◌⊎◌, ◌<◌, ◌≤◌, ℕ, List, [], ◌∷◌, length, refl, sym, ◌∙◌, ap, subst, inl, inr, arith, Option, Some, None, Result, Ok, Err}
use Rattle.std.proofs.lemmas.Bool.{cases_lt}
use Rattle.std.proofs.lemmas.Option.{same_Some}
use Rattle.dx_stages.specs.Worlds.{World}
use Rattle.dx_stages.specs.Stages.{Stage, next, stay, each, by, over, into, saying, saying_if, file, computing, testing, notions, checking, become}
use Rattle.dx_base.specs.Members.{◌∈◌, here, there}
use Rattle.dx_stages.specs.Laws.{PassesOne, IsDecided, Leads, HasWords, AsksOtherFiles, AsksOnly}

-- every value is given
abbrev pub Any : {A : Type 0} → A → Type 0
Any a = Unit {0}

-- ---- one after the other

pub next_one : {E A B C : Type 0} (s : Stage E A B) (t : Stage E B C) → PassesOne s → PassesOne t → PassesOne (next s t)
next_one s t p q c a x y (b, sb, tx) (d, sd, ty) = q c b x y tx (subst (λ v. t.passes c v y) (p c a d b sd sb) ty)

pub next_decided : {E A B C : Type 0} (Alike : E → E → Type 0) (Given : A → Type 0) (Between : B → Type 0) (s : Stage E A B) (t : Stage E B C)
    → PassesOne s → Leads Given Between s → IsDecided Alike Given s → IsDecided Alike Between t → IsDecided Alike Given (next s t)
next_decided {E} {A} {B} {C} Alike Given Between s t p leads u v = record { one = one; never_both = never_both; either = either }
  where
    one : (c : World) (a : A) (e f : E) → Given a → (next s t).refuses c a e → (next s t).refuses c a f → Alike e f
    one c a e f g (inl x) (inl y) = u.one c a e f g x y
    one c a e f g (inl x) (inr y) = absurd (u.never_both c a y.0 e g y.1 x)
    one c a e f g (inr x) (inl y) = absurd (u.never_both c a x.0 f g x.1 y)
    one c a e f g (inr x) (inr y) = v.one c x.0 e f (leads c a x.0 g x.1) x.2 (subst (λ w. t.refuses c w f) (p c a y.0 x.0 y.1 x.1) y.2)

    never_both : (c : World) (a : A) (x : C) (e : E) → Given a → (next s t).passes c a x → ¬ ((next s t).refuses c a e)
    never_both c a x e g y (inl r) = u.never_both c a y.0 e g y.1 r
    never_both c a x e g y (inr r) = v.never_both c y.0 x e (leads c a y.0 g y.1) y.2 (subst (λ w. t.refuses c w e) (p c a r.0 y.0 r.1 y.1) r.2)

    after : (c : World) (a : A) (b : B) → s.passes c a b → ((x : C) × t.passes c b x) ⊎ ((e : E) × t.refuses c b e)
        → ((x : C) × (next s t).passes c a x) ⊎ ((e : E) × (next s t).refuses c a e)
    after c a b pb (inl y) = inl (y.0, (b, pb, y.1))
    after c a b pb (inr r) = inr (r.0, inr (b, pb, r.1))

    first : (c : World) (a : A) → Given a → ((b : B) × s.passes c a b) ⊎ ((e : E) × s.refuses c a e)
        → ((x : C) × (next s t).passes c a x) ⊎ ((e : E) × (next s t).refuses c a e)
    first c a g (inl y) = after c a y.0 y.1 (v.either c y.0 (leads c a y.0 g y.1))
    first c a g (inr r) = inr (r.0, inl r.1)

    either : (c : World) (a : A) → Given a → ((x : C) × (next s t).passes c a x) ⊎ ((e : E) × (next s t).refuses c a e)
    either c a g = first c a g (u.either c a g)

pub next_leads : {E A B C : Type 0} (Given : A → Type 0) (Between : B → Type 0) (Passed : C → Type 0) (s : Stage E A B) (t : Stage E B C)
    → Leads Given Between s → Leads Between Passed t → Leads Given Passed (next s t)
next_leads Given Between Passed s t p q c a x g (b, sb, tx) = q c b x (p c a b g sb) tx

-- ---- none, and one for each

pub stay_one : (E A : Type 0) → PassesOne (stay {E = E} {A = A})
stay_one E A c a b d p q = p ∙ sym q

pub stay_decided : {E A : Type 0} (Alike : E → E → Type 0) (Given : A → Type 0) → IsDecided Alike Given (stay {E = E} {A = A})
stay_decided Alike Given = record {
  one = λ c a e f g x y. absurd x;
  never_both = λ c a b e g p r. r;
  either = λ c a g. inl (a, refl);
}

pub each_one : {E X S : Type 0} (f : X → Stage E S S) (xs : List X) → ((x : X) → PassesOne (f x)) → PassesOne (each f xs)
each_one {E} {X} {S} f [] p = stay_one E S
each_one {E} {X} {S} f (x ∷ xs) p = next_one (f x) (each f xs) (p x) (each_one f xs p)

pub each_leads : {E X S : Type 0} (Given : S → Type 0) (f : X → Stage E S S) (xs : List X) → ((x : X) → Leads Given Given (f x)) → Leads Given Given (each f xs)
each_leads Given f [] p = λ c a b g q. subst Given (sym q) g
each_leads Given f (x ∷ xs) p = next_leads Given Given Given (f x) (each f xs) (p x) (each_leads Given f xs p)

pub each_decided : {E X S : Type 0} (Alike : E → E → Type 0) (Given : S → Type 0) (f : X → Stage E S S) (xs : List X) → ((x : X) → PassesOne (f x)) → ((x : X) → Leads Given Given (f x))
    → ((x : X) → IsDecided Alike Given (f x)) → IsDecided Alike Given (each f xs)
each_decided Alike Given f [] p l d = stay_decided Alike Given
each_decided Alike Given f (x ∷ xs) p l d = next_decided Alike Given Given (f x) (each f xs) (p x) (l x) (d x) (each_decided Alike Given f xs p l d)

-- ---- changes

pub by_one : {E A B : Type 0} (f : A → Stage E A B) → ((a : A) → PassesOne (f a)) → PassesOne (by f)
by_one f p c a = p a c a

pub by_decided : {E A B : Type 0} (Alike : E → E → Type 0) (Given : A → Type 0) (f : A → Stage E A B) → ((a : A) → Given a → IsDecided Alike Given (f a)) → IsDecided Alike Given (by f)
by_decided Alike Given f d = record {
  one = λ c a e k g. (d a g).one c a e k g;
  never_both = λ c a b e g. (d a g).never_both c a b e g;
  either = λ c a g. (d a g).either c a g;
}

pub over_one : {E A B C : Type 0} (f : A → B) (s : Stage E B C) → PassesOne s → PassesOne (over f s)
over_one f s p c a = p c (f a)

pub over_decided : {E A B C : Type 0} (Alike : E → E → Type 0) (Given : A → Type 0) (Changed : B → Type 0) (f : A → B) (s : Stage E B C)
    → ((a : A) → Given a → Changed (f a)) → IsDecided Alike Changed s → IsDecided Alike Given (over f s)
over_decided Alike Given Changed f s h d = record {
  one = λ c a e k g. d.one c (f a) e k (h a g);
  never_both = λ c a b e g. d.never_both c (f a) b e (h a g);
  either = λ c a g. d.either c (f a) (h a g);
}

pub into_one : {E A B C : Type 0} (f : A → B → C) (s : Stage E A B) → PassesOne s → PassesOne (into f s)
into_one f s p c a x y (b, sb, e) (d, sd, k) = e ∙ ap (f a) (p c a b d sb sd) ∙ sym k

pub into_decided : {E A B C : Type 0} (Alike : E → E → Type 0) (Given : A → Type 0) (f : A → B → C) (s : Stage E A B) → IsDecided Alike Given s → IsDecided Alike Given (into f s)
into_decided {E} {A} {B} {C} Alike Given f s d = record {
  one = λ c a e k g. d.one c a e k g;
  never_both = λ c a x e g p. d.never_both c a p.0 e g p.1;
  either = λ c a g. made c a (d.either c a g);
}
  where
    made : (c : World) (a : A) → ((b : B) × s.passes c a b) ⊎ ((e : E) × s.refuses c a e) → ((x : C) × (into f s).passes c a x) ⊎ ((e : E) × s.refuses c a e)
    made c a (inl p) = inl (f a p.0, (p.0, p.1, refl))
    made c a (inr r) = inr r

pub saying_decided : {E F A B : Type 0} (Alike : E → E → Type 0) (Alike' : F → F → Type 0) (Given : A → Type 0) (f : E → F) (s : Stage E A B)
    → ((e k : E) → Alike e k → Alike' (f e) (f k)) → IsDecided Alike Given s → IsDecided Alike' Given (saying f s)
saying_decided {E} {F} {A} {B} Alike Alike' Given f s h d = record {
  one = λ c a e k g p q. one c a e k g p q;
  never_both = λ c a b e g p r. d.never_both c a b r.0 g p r.1;
  either = λ c a g. said c a (d.either c a g);
}
  where
    one : (c : World) (a : A) (e k : F) → Given a → (saying f s).refuses c a e → (saying f s).refuses c a k → Alike' e k
    one c a e k g (x, p, is) (y, q, are) =
        subst (λ v. Alike' v k) (sym is) (subst (λ v. Alike' (f x) v) (sym are) (h x y (d.one c a x y g p q)))

    said : (c : World) (a : A) → ((b : B) × s.passes c a b) ⊎ ((e : E) × s.refuses c a e) → ((b : B) × s.passes c a b) ⊎ ((e : F) × (saying f s).refuses c a e)
    said c a (inl p) = inl p
    said c a (inr r) = inr (f r.0, (r.0, r.1, refl))

-- what is one has one word
pub one_word : {E F : Type 0} (word : E → Option F) (e k : E) (x y : F) → e ≡ k → word e ≡ Some x → word k ≡ Some y → x ≡ y
one_word word e k x y is p q = same_Some x y (sym p ∙ ap word is ∙ q)

pub saying_if_decided : {E F A B : Type 0} (Alike : E → E → Type 0) (Alike' : F → F → Type 0) (Given : A → Type 0) (word : E → Option F) (s : Stage E A B)
    → ((e k : E) (x y : F) → Alike e k → word e ≡ Some x → word k ≡ Some y → Alike' x y) → HasWords word s → IsDecided Alike Given s → IsDecided Alike' Given (saying_if word s)
saying_if_decided {E} {F} {A} {B} Alike Alike' Given word s h words d = record {
  one = λ c a e k g p q. h p.0 q.0 e k (d.one c a p.0 q.0 g p.1 q.1) p.2 q.2;
  never_both = λ c a b e g p r. d.never_both c a b r.0 g p r.1;
  either = λ c a g. said c a (d.either c a g);
}
  where
    said : (c : World) (a : A) → ((b : B) × s.passes c a b) ⊎ ((e : E) × s.refuses c a e) → ((b : B) × s.passes c a b) ⊎ ((e : F) × (saying_if word s).refuses c a e)
    said c a (inl p) = inl p
    said c a (inr r) = let f = words c a r.0 r.1 in inr (f.0, (r.0, r.1, f.1))

-- ---- the first stages

same_found : {x y : List ℕ} (o : Option (List ℕ)) → o ≡ Some x → o ≡ Some y → x ≡ y
same_found o p q = cc

some_or_none : {x : List ℕ} (o : Option (List ℕ)) → o ≡ None → o ≡ Some x → ⊥
some_or_none o p q = cc

within_or_long : (n : ℕ) (x y : List ℕ) → x ≡ y → length x ≤ n → n < length y → ⊥
within_or_long n x y e p q = let q = rw (← e) at q in omega (arith, p, q)

pub file_one : {E : Type 0} (A : Type 0) (name : List ℕ) (limit : ℕ) (absent long : E) → PassesOne (file {A = A} name limit absent long)
file_one A name limit absent long c a b d p q = same_found (c name) p.0 q.0

abbrev FileRefuses : {E : Type 0} → List ℕ → ℕ → E → E → World → E → Type 0
FileRefuses {E} name limit absent long c e = ((c name ≡ None) × (e ≡ absent)) ⊎ ((bytes : List ℕ) × (c name ≡ Some bytes) × (limit < length bytes) × (e ≡ long))

abbrev FilePasses : List ℕ → ℕ → World → List ℕ → Type 0
FilePasses name limit c bytes = (c name ≡ Some bytes) × (length bytes ≤ limit)

file_never_both : {E : Type 0} (name : List ℕ) (limit : ℕ) (absent long : E) (c : World) (b : List ℕ) (e : E) → FilePasses name limit c b → ¬ (FileRefuses name limit absent long c e)
file_never_both name limit absent long c b e p (inl r) = some_or_none (c name) r.0 p.0
file_never_both name limit absent long c b e p (inr r) = within_or_long limit b r.0 (same_found (c name) p.0 r.1) p.1 r.2

file_either : {E : Type 0} (name : List ℕ) (limit : ℕ) (absent long : E) (c : World) (o : Option (List ℕ)) → c name ≡ o
    → ((b : List ℕ) × FilePasses name limit c b) ⊎ ((e : E) × FileRefuses name limit absent long c e)
file_either name limit absent long c None is = inr (absent, inl (is, refl))
file_either {E} name limit absent long c (Some bytes) is = measured (cases_lt limit (length bytes))
  where
    measured : (limit < length bytes) ⊎ (length bytes ≤ limit) → ((b : List ℕ) × FilePasses name limit c b) ⊎ ((e : E) × FileRefuses name limit absent long c e)
    measured (inl more) = inr (long, inr (bytes, is, more, refl))
    measured (inr within) = inl (bytes, (is, within))

pub file_decided : {E A : Type 0} (Alike : E → E → Type 0) (Given : A → Type 0) (name : List ℕ) (limit : ℕ) (absent long : E)
    → ((e : E) → Alike e e) → IsDecided Alike Given (file name limit absent long)
file_decided {E} {A} Alike Given name limit absent long alike = record {
  one = λ c a e k g. one c e k;
  never_both = λ c a b e g. file_never_both name limit absent long c b e;
  either = λ c a g. file_either name limit absent long c (c name) refl;
}
  where
    of_equal : (e k x : E) → e ≡ x → k ≡ x → Alike e k
    of_equal e k x p q = subst (λ v. Alike e v) (sym q) (subst (λ v. Alike e v) p (alike e))

    one : (c : World) (e k : E) → FileRefuses name limit absent long c e → FileRefuses name limit absent long c k → Alike e k
    one c e k (inl p) (inl q) = of_equal e k absent p.1 q.1
    one c e k (inl p) (inr q) = absurd (some_or_none (c name) p.0 q.1)
    one c e k (inr p) (inl q) = absurd (some_or_none (c name) q.0 p.1)
    one c e k (inr p) (inr q) = of_equal e k long p.3 q.3

pub computing_one : {E A B : Type 0} (f : A → Result B E) → PassesOne (computing f)
computing_one f c a b d p q = ok_of (f a) p q
  where
    ok_of : {E B : Type 0} {b d : B} (r : Result B E) → r ≡ Ok b → r ≡ Ok d → b ≡ d
    ok_of r p q = cc

pub computing_decided : {E A B : Type 0} (Alike : E → E → Type 0) (Given : A → Type 0) (f : A → Result B E) → ((e : E) → Alike e e) → IsDecided Alike Given (computing f)
computing_decided {E} {A} {B} Alike Given f alike = record {
  one = λ c a e k g p q. subst (λ v. Alike e v) (err_of (f a) p q) (alike e);
  never_both = λ c a b e g p r. both_of (f a) p r;
  either = λ c a g. either (f a);
}
  where
    err_of : {e k : E} (r : Result B E) → r ≡ Err e → r ≡ Err k → e ≡ k
    err_of r p q = cc

    both_of : {e : E} {b : B} (r : Result B E) → r ≡ Ok b → r ≡ Err e → ⊥
    both_of r p q = cc

    either : (r : Result B E) → ((b : B) × (r ≡ Ok b)) ⊎ ((e : E) × (r ≡ Err e))
    either (Ok b) = inl (b, refl)
    either (Err e) = inr (e, refl)

pub testing_one : {E A : Type 0} (f : A → Option E) → PassesOne (testing f)
testing_one f c a b d p q = p.1 ∙ sym q.1

pub testing_decided : {E A : Type 0} (Alike : E → E → Type 0) (Given : A → Type 0) (f : A → Option E) → ((e : E) → Alike e e) → IsDecided Alike Given (testing f)
testing_decided {E} {A} Alike Given f alike = record {
  one = λ c a e k g p q. subst (λ v. Alike e v) (some_of (f a) p q) (alike e);
  never_both = λ c a b e g p r. both_of (f a) p.0 r;
  either = λ c a g. either a (f a) refl;
}
  where
    some_of : {e k : E} (o : Option E) → o ≡ Some e → o ≡ Some k → e ≡ k
    some_of o p q = cc

    both_of : {e : E} (o : Option E) → o ≡ None → o ≡ Some e → ⊥
    both_of o p q = cc

    either : (a : A) (o : Option E) → f a ≡ o → ((b : A) × ((f a ≡ None) × (b ≡ a))) ⊎ ((e : E) × (f a ≡ Some e))
    either a None is = inl (a, (is, refl))
    either a (Some e) is = inr (e, is)

-- ---- faults of reading

-- where the first stage refuses, no file of a later one is asked for
pub refused_asks : {E A B C : Type 0} (Alike : E → E → Type 0) (Given : A → Type 0) (s : Stage E A B) (t : Stage E B C) → IsDecided Alike Given s
    → (c : World) (a : A) (e : E) (n : List ℕ) → Given a → s.refuses c a e → (next s t).asks c a n → s.asks c a n
refused_asks Alike Given s t d c a e n g r (inl h) = h
refused_asks Alike Given s t d c a e n g r (inr h) = absurd (d.never_both c a h.0 e g h.1 r)

pub become_decided : {E A B C : Type 0} (Alike : E → E → Type 0) (Given : A → Type 0) (R : A → B → C → Type 0) (s : Stage E A B)
    → ((c : World) (a : A) (b : B) → Given a → s.passes c a b → (x : C) × R a b x) → IsDecided Alike Given s → IsDecided Alike Given (become R s)
become_decided {E} {A} {B} {C} Alike Given R s has d = record {
  one = λ c a e f g. d.one c a e f g;
  never_both = λ c a x e g p. d.never_both c a p.0 e g p.1;
  either = λ c a g. of c a g (d.either c a g);
}
  where
    of : (c : World) (a : A) → Given a → ((b : B) × s.passes c a b) ⊎ ((e : E) × s.refuses c a e) → ((x : C) × ((b : B) × s.passes c a b × R a b x)) ⊎ ((e : E) × s.refuses c a e)
    of c a g (inl p) = let x = has c a p.0 g p.1 in inl (x.0, (p.0, p.1, x.1))
    of c a g (inr r) = inr r

-- what is decided of more is decided of less
pub weaker : {E A B : Type 0} (Alike : E → E → Type 0) (More Less : A → Type 0) (s : Stage E A B) → ((a : A) → Less a → More a) → IsDecided Alike More s → IsDecided Alike Less s
weaker Alike More Less s h d = record {
  one = λ c a e f g. d.one c a e f (h a g);
  never_both = λ c a b e g. d.never_both c a b e (h a g);
  either = λ c a g. d.either c a (h a g);
}

-- ---- checks

pub checking_one : {E A : Type 0} (refused : A → E → Type 0) (fits : A → Type 0) → PassesOne (checking refused fits)
checking_one refused fits c a b d p q = p.1 ∙ sym q.1

pub checking_decided : {E A : Type 0} (Alike : E → E → Type 0) (Given : A → Type 0) (refused : A → E → Type 0) (fits : A → Type 0)
    → ((a : A) (e f : E) → refused a e → refused a f → Alike e f) → ((a : A) (e : E) → fits a → ¬ (refused a e)) → ((a : A) → fits a ⊎ ((e : E) × refused a e))
    → IsDecided Alike Given (checking refused fits)
checking_decided {E} {A} Alike Given refused fits one never either = record {
  one = λ c a e f g. one a e f;
  never_both = λ c a b e g p. never a e p.0;
  either = λ c a g. of a (either a);
}
  where
    of : (a : A) → fits a ⊎ ((e : E) × refused a e) → ((b : A) × (fits a × (b ≡ a))) ⊎ ((e : E) × refused a e)
    of a (inl f) = inl (a, (f, refl))
    of a (inr r) = inr r

pub notions_decided : {E A B : Type 0} (Alike : E → E → Type 0) (Given : A → Type 0) (refused : A → E → Type 0) (passed : A → B → Type 0)
    → ((a : A) (e f : E) → Given a → refused a e → refused a f → Alike e f) → ((a : A) (b : B) (e : E) → Given a → passed a b → ¬ (refused a e))
    → ((a : A) → Given a → ((b : B) × passed a b) ⊎ ((e : E) × refused a e)) → IsDecided Alike Given (notions refused passed)
notions_decided Alike Given refused passed one never either =
    record { one = λ c a e f. one a e f; never_both = λ c a b e. never a b e; either = λ c a. either a }

-- ---- names

pub apart_by : {E A B C : Type 0} (P Q : List ℕ → Type 0) (s : Stage E A B) (t : Stage E B C) → AsksOnly P s → AsksOnly Q t → ((n : List ℕ) → P n → ¬ (Q n)) → AsksOtherFiles s t
apart_by P Q s t p q never c d a b n pb x y = never n (p c a n x) (q d b n y)

pub next_only : {E A B C : Type 0} (P : List ℕ → Type 0) (s : Stage E A B) (t : Stage E B C) → AsksOnly P s → AsksOnly P t → AsksOnly P (next s t)
next_only P s t p q c a n (inl h) = p c a n h
next_only P s t p q c a n (inr h) = q c h.0 n h.2

-- a stage that asks for nothing
pub silent_only : {E A B : Type 0} (P : List ℕ → Type 0) (s : Stage E A B) → AsksOnly (λ n. ⊥) s → AsksOnly P s
silent_only P s h c a n x = absurd (h c a n x)

-- each of the stages asks for the file of its own, so together they ask for files of these
pub each_only : {E X S : Type 0} (f : X → Stage E S S) (name : X → List ℕ) (xs : List X) → ((x : X) → AsksOnly (λ n. n ≡ name x) (f x))
    → AsksOnly (λ n. (x : X) × (x ∈ xs) × (n ≡ name x)) (each f xs)
each_only f name [] h c a n r = absurd r
each_only f name (x ∷ xs) h c a n (inl r) = (x, here refl, h x c a n r)
each_only f name (x ∷ xs) h c a n (inr r) = let k = each_only f name xs h c r.0 n r.2 in (k.0, there k.1, k.2)
