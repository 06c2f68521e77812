-- Steps of a search, and what they exclude.
use Rattle.std.proofs.Common.{◌≡◌, ℕ, ◌<◌, ◌≤◌, ◌+◌, ◌-◌, ◌*◌, ◌^◌, List, [], ◌∷◌, ◌++◌, inl, inr, length, take}
use Rattle.std.proofs.Common.{refl, sym, ◌∙◌, ap, arith, zero, suc}
use Rattle.std.specs.Prelude.{map, Option, Bool}
use Rattle.std.proofs.lemmas.Bool.{cases_eq, cases_lt}
use Rattle.std.proofs.lemmas.List.{length-append, map-append, append-nil, same_from_push}
use Rattle.std.proofs.lemmas.Grind.{flat_map-append}
use Rattle.std.proofs.Math.Seq.{take-append_seam}
use Rattle.std.proofs.Math.Nat.{mul-le-mul_right, add-mul}
use Rattle.dx_model.specs.declared.values.NullId.{NullId}
use Rattle.dx_model.specs.declared.values.Value.{Value}
use Rattle.dx_model.specs.declared.facts.Fact.{Fact}
use Rattle.dx_model.specs.Instances.{moved, fact_moved, values, nulls_in}
use Rattle.dx_instance.specs.NullMaps.{ByNull}
use Rattle.dx_instance.specs.Places.{row_at, fact_at}
use Rattle.dx_instance.specs.Stored.{TableRows, rows_of}
use Rattle.dx_base.specs.Members.{◌∈◌, ◌⊆◌, ◌≈◌, here, there, IsPrefix}
use Rattle.dx_base.proofs.Members.{in_left, in_right, from_append, in_flat_map, from_flat_map}
use Rattle.dx_model.proofs.Reduction.{in_nulls, from_nulls, nulls_append}
use Rattle.dx_hom.specs.declared.matching.Found.{Found}
use Rattle.dx_hom.specs.declared.searching.Step.{Step}
use Rattle.dx_hom.specs.Narrowing.{found_nulls, AtMost, ExtendsPartialMap, GivesRow, Narrows, RulesOut}
use Rattle.dx_hom.specs.Searching.{IsOpen, IsOpenFact, Skips, NotFrom, MovesOpen, MovesTo, FindsAll, NoMore}
use Rattle.dx_hom.proofs.Narrowing.{narrower}

-- a list that begins with another, cut where it began
pub cut : (old new : List Found) (n : ℕ) → n ≡ length old → IsPrefix old new → take n new ≡ old
cut old new n e b = rw (e, b.1) (take-append_seam old b.0)

-- the nulls of some of the facts
nulls_in_part : (F G : List Fact) → F ⊆ G → nulls_in (values F) ⊆ nulls_in (values G)
nulls_in_part F G s n m =
    let r = from_flat_map (λ (f : Fact). f.row) F (from_nulls n (values F) m) in
    in_nulls n (values G) (in_flat_map (λ (f : Fact). f.row) (s r.0 r.1) r.2)

nulls_more : (G : List Fact) (a : Fact) → nulls_in (values (G ++ a ∷ [])) ≡ nulls_in (values G) ++ nulls_in a.row
nulls_more G a =
    ap nulls_in (flat_map-append (λ (f : Fact). f.row) G (a ∷ []))
    ∙ (nulls_append (values G) (a.row ++ []) ∙ ap (λ vs. nulls_in (values G) ++ nulls_in vs) (append-nil a.row))

module _ (T : List TableRows) (gone : List (List Bool)) (fixed : ByNull) (avoid : Option Fact) where
  -- ---- one fact

  pub skips_more : (found : List Found) (f : Fact) (a p : ℕ) → Skips T gone fixed avoid found f a p
      → (IsOpen T gone avoid f.table p → (g : NullId → Value) → ExtendsPartialMap T fixed found g → ¬ (fact_moved g f ≡ fact_at T f.table p))
      → Skips T gone fixed avoid found f a (p + 1)
  skips_more found f a p s h q g l k o w e = elim (cases_eq q p) [
    | inl d ↦ h (rw d at o) g w (rw d at e)
    | inr d ↦ let m : q < p = omega arith in s q g l m o w e
  ]

  pub skips_on : (found : List Found) (f : Fact) (a n p : ℕ) → Skips T gone fixed avoid found f a n → NotFrom T fixed found f n p
      → Skips T gone fixed avoid found f a p
  skips_on found f a n p s h q g l k o w = elim (cases_lt q n) [ inl d ↦ s q g l d o w | inr d ↦ h q g d k w ]

  pub row_excluded : (found new old : List Found) (f : Fact) (row : List Value) (p : ℕ) → row ≡ f.row → found ≡ old
      → RulesOut T fixed found (GivesRow T row f.table p) new
      → (g : NullId → Value) → ExtendsPartialMap T fixed old g → ¬ (fact_moved g f ≡ fact_at T f.table p)
  row_excluded found new old f row p d e k g w q =
      let r : map (moved g) f.row ≡ row_at T f.table p = ap (λ (x : Fact). x.row) q in
      k.none g (rw e w) (rw d r)

  pub row_met : (found new old : List Found) (f : Fact) (row : List Value) (p : ℕ) → row ≡ f.row → found ≡ old
      → Narrows T fixed found (nulls_in row) (GivesRow T row f.table p) new
      → Narrows T fixed old (nulls_in f.row) (MovesTo T f p) new
  row_met found new old f row p d e n = record {
    begins = rw e at n.begins;
    good = n.good;
    whole = λ k m. n.whole k (rw d m);
    only = λ k m. rw (← d, ← e) (n.only k m);
    exact = λ g. (
      (λ w.
          let r = (n.exact g).0 w in
          let k : map (moved g) f.row ≡ row_at T f.table p = rw (← d) r.1 in
          (rw (← e) r.0, λ i. record { table = f.table; row = k i })),
      (λ w.
          let k : map (moved g) f.row ≡ row_at T f.table p = ap (λ (x : Fact). x.row) w.1 in
          (n.exact g).1 (rw e w.0, rw d k)),
    );
  }

  -- ---- what is found moves the facts

  sound_none : FindsAll T gone fixed avoid [] []
  sound_none = record {
    good = record { once = tt; cells = λ b m. elim m [ ]; allowed = λ b m. elim m [ ] };
    whole = λ n m. elim m [ ];
    only = λ n m. elim m [ ];
    moves = λ g w f m. elim m [ ];
  }

  sound_more : (G : List Fact) (old found : List Found) (a : Fact) (p : ℕ) → FindsAll T gone fixed avoid G old → IsOpen T gone avoid a.table p
      → Narrows T fixed old (nulls_in a.row) (MovesTo T a p) found → FindsAll T gone fixed avoid (G ++ a ∷ []) found
  sound_more G old found a p before o n = record {
    good = n.good;
    whole = λ k m. elim (from_append (nulls_in (values G)) (rw nulls_more at m)) [
      | inl l ↦
          let e = ap found_nulls n.begins.1 ∙ map-append (λ (b : Found). b.null) old n.begins.0 in
          rw e (in_left _ (before.whole k l))
      | inr r ↦ n.whole k r
    ];
    only = λ k m. rw nulls_more (elim (from_append (found_nulls old) (n.only k m)) [
      | inl l ↦ in_left _ (before.only k l)
      | inr r ↦ in_right (nulls_in (values G)) r
    ]);
    moves = λ g w f m. elim (from_append G m) [ inl l ↦ before.moves g ((n.exact g).0 w).0 f l | inr r ↦ last g w f r ];
  }
    where
      last : (g : NullId → Value) → ExtendsPartialMap T fixed found g → (f : Fact) → f ∈ (a ∷ []) → IsOpenFact T gone avoid (fact_moved g f)
      last g w f (here e) = rw (← e) (p, o, ((n.exact g).0 w).1)
      last g w f (there m) = elim m [ ]

  -- the same facts in another order
  pub ends_same : (G F : List Fact) (found : List Found) → G ≈ F → FindsAll T gone fixed avoid G found → FindsAll T gone fixed avoid F found
  ends_same G F found s e = record {
    good = e.good;
    whole = λ n m. e.whole n (nulls_in_part F G s.1 n m);
    only = λ n m. nulls_in_part G F s.0 n (e.only n m);
    moves = λ g w f m. e.moves g w f (s.1 f m);
  }

  module _ (F : List Fact) where
    -- nothing of which found is true and that moves F moves the fact a to a place below n
    abbrev pub Passed : List Found → Fact → ℕ → Type 0
    Passed found a n =
        (p : ℕ) (g : NullId → Value) → p < n → IsOpen T gone avoid a.table p → ExtendsPartialMap T fixed found g → MovesOpen T gone avoid g F
        → ¬ (fact_moved g a ≡ fact_at T a.table p)

    -- step s moves the fact a
    pub record IsStep (old : List Found) (s : Step) (a : Fact) (found : List Found) : Type 0 where
      pub member : a ∈ F
      pub met : IsOpen T gone avoid a.table s.place
      pub narrows : Narrows T fixed old (nulls_in a.row) (MovesTo T a s.place) found
      pub passed : Passed old a s.place
      pub small : s.place + 1 < 2 ^ 32

    -- the steps move the facts G, and lead to what is found
    pub data Trail : List Step → List Fact → List Found → Type 0 where
      start : Trail [] [] []
      onward : {steps : List Step} {G : List Fact} {found : List Found} (before : List Step) (H : List Fact) (old : List Found) (s : Step)
          (a : Fact) → Trail before H old → steps ≡ before ++ s ∷ [] → G ≡ H ++ a ∷ [] → old ≡ take s.before found → IsStep old s a found
          → Trail steps G found

    -- the last step
    pub record Last (before : List Step) (H : List Fact) (s : Step) (a : Fact) (found : List Found) : Type 0 where
      pub trail : Trail before H (take s.before found)
      pub step : IsStep (take s.before found) s a found

    pub last_of : {steps : List Step} {G : List Fact} {found : List Found} (before : List Step) (H : List Fact) (s : Step) (a : Fact)
        → Trail steps G found → steps ≡ before ++ s ∷ [] → G ≡ H ++ a ∷ [] → Last before H s a found
    last_of before H s a start e d = absurd (let l = ap length e in omega (arith, simp length-append at l))
    last_of {steps} {G} {found} before H s a (onward b K old r x t p q o st) e d =
        let w = same_from_push b before r s (sym p ∙ e) in
        let v = same_from_push K H x a (sym q ∙ d) in
        let i : b ≡ before = w.0 in
        let j : r ≡ s = w.1 in
        let k : K ≡ H = v.0 in
        let l : x ≡ a = v.1 in
        let m : old ≡ take s.before found = rw j at o in
        record { trail = rw (i, k, m) at t; step = rw (j, l, m) at st }

    pub none_yet : {steps : List Step} {G : List Fact} {found : List Found} → Trail steps G found → steps ≡ [] → found ≡ []
    none_yet start e = refl
    none_yet (onward b K old r x t p q o st) e = absurd (let l = ap length (sym e ∙ p) in omega (arith, simp length-append at l))

    pub sound : {steps : List Step} {G : List Fact} {found : List Found} → Trail steps G found → FindsAll T gone fixed avoid G found
    sound start = sound_none
    sound {steps} {G} {found} (onward b K old r x t p q o st) = rw q (sound_more K old found x r.place (sound t) st.met st.narrows)

    inside : {steps : List Step} {G : List Fact} {found : List Found} → Trail steps G found → G ⊆ F
    inside start f m = elim m [ ]
    inside {steps} {G} {found} (onward b K old r x t p q o st) f m =
        elim (from_append K (rw q at m)) [ inl l ↦ inside t f l | inr l ↦ last l ]
      where
        last : f ∈ (x ∷ []) → f ∈ F
        last (here e) = rw (← e) st.member
        last (there i) = elim i [ ]

    -- the room that all facts need serves for one of them
    pub room_next : {steps : List Step} {G : List Fact} {found : List Found} → Trail steps G found → (a : Fact) (n : ℕ) → a ∈ F
        → AtMost (nulls_in (values F)) n → AtMost (found_nulls found ++ nulls_in a.row) n
    room_next {steps} {G} {found} t a n i r = narrower (nulls_in (values F)) (found_nulls found ++ nulls_in a.row) n part r
      where
        part : (found_nulls found ++ nulls_in a.row) ⊆ nulls_in (values F)
        part k m = elim (from_append (found_nulls found) m) [
          | inl l ↦ nulls_in_part G F (inside t) k ((sound t).only k l)
          | inr l ↦ in_nulls k (values F) (in_flat_map (λ (f : Fact). f.row) i (from_nulls k a.row l))
        ]

    -- ---- what is excluded

    pub passed_none : (found : List Found) (a : Fact) → Passed found a 0
    passed_none found a p g h o w m q = omega arith

    passed_to : (found : List Found) (a : Fact) (n p : ℕ) → Passed found a n → Skips T gone fixed avoid found a n p → Passed found a p
    passed_to found a n p passed skips q g h o w m k = elim (cases_lt q n) [
      | inl l ↦ passed q g l o w m k
      | inr l ↦ skips q g l h o w k
    ]

    -- all places were tried
    pub exhausted : (found : List Found) (a : Fact) (n : ℕ) → a ∈ F → Passed found a n
        → Skips T gone fixed avoid found a n (length (rows_of T a.table)) → NoMore T gone fixed avoid found F
    exhausted found a n i passed skips g w m =
        let s = m a i in
        elim (cases_lt s.0 n) [
          | inl h ↦ passed s.0 g h s.1 w m s.2
          | inr h ↦ skips s.0 g h s.1.place s.1 w s.2
        ]

    -- the last step was tried as well
    pub passed_back : (old found : List Found) (s : Step) (a : Fact) → IsStep old s a found → NoMore T gone fixed avoid found F
        → Passed old a (s.place + 1)
    passed_back old found s a st none p g h o w m k = elim (cases_eq p s.place) [
      | inl d ↦ none g ((st.narrows.exact g).1 (w, rw d at k)) m
      | inr d ↦ let j : p < s.place = omega arith in st.passed p g j o w m k
    ]

    -- one step more
    pub pushed : {steps : List Step} {G : List Fact} {found : List Found} → Trail steps G found → (a : Fact) (new : List Found) (k n p : ℕ)
        → a ∈ F → Passed found a n → k ≡ length found → IsOpen T gone avoid a.table p → Skips T gone fixed avoid found a n p
        → Narrows T fixed found (nulls_in a.row) (MovesTo T a p) new → p + 1 < 2 ^ 32
        → Trail (steps ++ record { place = p; before = k } ∷ []) (G ++ a ∷ []) new
    pushed {steps} {G} {found} t a new k n p i passed d o s w l =
        onward steps G found (record { place = p; before = k }) a t refl refl (sym (cut found new k d w.begins)) (record {
          member = i;
          met = o;
          narrows = w;
          passed = passed_to found a n p passed s;
          small = l;
        })

-- ---- the measure of a search: how much of its tree is left, if a fact has at most c places

-- below a fact, when n are to be moved
abbrev pub size : ℕ → ℕ → ℕ
size c zero = 1
size c (suc n) = 1 + c * (1 + size c n)

-- from place p of the next of n facts on
abbrev pub top : ℕ → ℕ → ℕ → ℕ
top c zero p = 1
top c (suc n) p = 1 + (c - p) * (1 + size c n)

-- after the places of the steps
abbrev pub later : ℕ → List Step → ℕ → ℕ
later c [] n = 0
later c (s ∷ ss) zero = 0
later c (s ∷ ss) (suc n) = (c - (s.place + 1)) * (1 + size c n) + (1 + later c ss n)

abbrev pub left : ℕ → List Step → ℕ → ℕ → ℕ
left c steps n p = later c steps n + top c (n - length steps) p

later_more : (c : ℕ) (ss : List Step) (s : Step) (n k : ℕ) → n ≡ length ss + suc k
    → later c (ss ++ s ∷ []) n ≡ later c ss n + ((c - (s.place + 1)) * (1 + size c k) + 1)
later_more c [] s zero k e = absurd (omega (arith, e))
later_more c [] s (suc n) k e = let d : n ≡ k = omega (arith, e) in rw d (omega arith)
later_more c (r ∷ ss) s zero k e = absurd (omega (arith, e))
later_more c (r ∷ ss) s (suc n) k e = let h = later_more c ss s n k (omega (arith, e)) in omega (arith, h)

top_none : (c n : ℕ) → top c n 0 ≡ size c n
top_none c zero = refl
top_none c (suc n) = let e : c - 0 ≡ c = omega arith in ap (λ k. 1 + k * (1 + size c n)) e

top_some : (c n p : ℕ) → 1 ≤ top c n p
top_some c zero p = omega arith
top_some c (suc n) p = omega arith

-- the measure falls
pub left_push : (c : ℕ) (ss : List Step) (s : Step) (n p : ℕ) → length ss < n → p ≤ s.place → s.place < c
    → left c (ss ++ s ∷ []) n 0 < left c ss n p
left_push c ss s n p l h k =
    let r = n - (length ss + 1) in
    let e : n ≡ length ss + suc r = omega arith in
    let long : length (ss ++ s ∷ []) ≡ length ss + 1 = simp length-append in
    let d : n - length (ss ++ s ∷ []) ≡ r = omega (arith, long, e) in
    let b : n - length ss ≡ suc r = omega (arith, e) in
    let m = later_more c ss s n r e in
    let z = top_none c r in
    let q = mul-le-mul_right (1 + size c r) (let u : (c - (s.place + 1)) + 1 ≤ c - p = omega arith in u) in
    let w = add-mul (c - (s.place + 1)) 1 (1 + size c r) in
    rw (d, b) (omega (arith, m, z, q, w))

pub left_pop : (c : ℕ) (ss : List Step) (s : Step) (n p : ℕ) → length ss < n → left c ss n (s.place + 1) < left c (ss ++ s ∷ []) n p
left_pop c ss s n p l =
    let r = n - (length ss + 1) in
    let e : n ≡ length ss + suc r = omega arith in
    let long : length (ss ++ s ∷ []) ≡ length ss + 1 = simp length-append in
    let d : n - length (ss ++ s ∷ []) ≡ r = omega (arith, long, e) in
    let b : n - length ss ≡ suc r = omega (arith, e) in
    let m = later_more c ss s n r e in
    let z = top_some c r p in
    rw (d, b) (omega (arith, m, z))
