-- What an instance gains, step by step.
use Rattle.std.proofs.Common.{◌≡◌, ℕ, ◌+◌, ◌-◌, ◌^◌, ◌<◌, ◌≤◌, List, [], ◌∷◌, ◌++◌, ◌⊎◌, inl, inr, refl, sym, ◌∙◌, ap, subst, arith, length, get_or, take, length-append, eqb}
use Rattle.std.specs.Prelude.{map}
use Rattle.std.proofs.lemmas.Bool.{cases_Bool, eqb-true, eqb-false}
use Rattle.std.proofs.lemmas.List.{length-map, length-take-le, take_more, map-append}
use Rattle.dx_model.specs.declared.values.Value.{Value}
use Rattle.dx_model.specs.declared.facts.Fact.{Fact}
use Rattle.dx_model.specs.declared.rules.Rule.{Rule}
use Rattle.dx_model.specs.Values.{Rows, Tuple}
use Rattle.dx_model.specs.Rules.{at_place, at_places, canonical}
use Rattle.dx_base.specs.Members.{◌∈◌, ◌⊆◌, here, there, Each}
use Rattle.dx_base.proofs.Members.{in_left, in_right, from_append}
use Rattle.dx_model.proofs.Widths.{in_get}
use Rattle.dx_instance.specs.Stored.{AddsRow, TableRows, facts, rows_of, widths, without_rows}
use Rattle.dx_tgd.specs.Gained.{GainsFacts, HasRoomForRows}
use Rattle.dx_tgd.specs.Placed.{FitsWidths}
use Rattle.dx_tgd.proofs.CanonicalFacts.{places_more, rules_more}
use Rattle.dx_tgd.proofs.Tables.{no_facts}
use Rattle.dx_instance.proofs.StoredFacts.{fact_from_row, row_from_fact, widths_without}

pub gains_nothing : (I : List TableRows) → GainsFacts I I []
gains_nothing I = record {
  widths_stay = refl;
  kept = (λ f m. m);
  there = (λ f m. elim m [ ]);
  only = (λ f m. inl m);
  few = (λ t. omega arith);
}

pub gains_more : {I J K : List TableRows} (A B : List Fact) → GainsFacts I J A → GainsFacts J K B → GainsFacts I K (A ++ B)
gains_more {I} {J} {K} A B g h = record {
  widths_stay = h.widths_stay ∙ g.widths_stay;
  kept = (λ f m. h.kept f (g.kept f m));
  there = (λ f m. elim (from_append A m) [ inl l ↦ h.kept f (g.there f l) | inr r ↦ h.there f r ]);
  only = (λ f m. elim (h.only f m) [
    | inl l ↦ elim (g.only f l) [ inl k ↦ inl k | inr k ↦ inr (in_left B k) ]
    | inr r ↦ inr (in_right A r)
  ]);
  few = (λ t. let a = g.few t in let b = h.few t in omega (arith, a, b, length-append A B));
}

module _ (I J : List TableRows) (t : ℕ) (row : List Value) where
  abbrev the_fact : Fact
  the_fact = record { table = t; row = row }

  rows_at : AddsRow I J t row → (u : ℕ) → ((u ≡ t) × (rows_of J u ≡ rows_of I u ++ row ∷ [])) ⊎ (rows_of J u ≡ rows_of I u)
  rows_at a u = elim (cases_Bool (eqb u t)) [
    | inl e ↦ let d : u ≡ t = eqb-true u t e in inl (d, subst (λ (z : ℕ). rows_of J z ≡ rows_of I z ++ row ∷ []) (sym d) a.here)
    | inr n ↦ inr (a.others u (eqb-false u t n))
  ]

  -- what an instance gains of a row that is added
  pub gains_added : AddsRow I J t row → GainsFacts I J (the_fact ∷ [])
  gains_added a = record {
    widths_stay = a.widths_stay;
    kept = (λ f m. elim (rows_at a f.table) [
      | inl p ↦ fact_from_row J f.table f.row (rw p.1 (in_left (row ∷ []) (row_from_fact I f m)))
      | inr e ↦ fact_from_row J f.table f.row (rw e (row_from_fact I f m))
    ]);
    there = (λ f m. new f m);
    only = (λ f m. elim (rows_at a f.table) [
      | inl p ↦ elim (from_append (rows_of I f.table) (rw p.1 at (row_from_fact J f m))) [ inl l ↦ inl (fact_from_row I f.table f.row l) | inr r ↦ inr (here (one f p.0 r)) ]
      | inr e ↦ inl (fact_from_row I f.table f.row (rw e at (row_from_fact J f m)))
    ]);
    few = (λ u. elim (rows_at a u) [
      | inl p ↦ rw p.1 (omega (arith, length-append (rows_of I u) (row ∷ [])))
      | inr e ↦ rw e (omega arith)
    ]);
  }
    where
      new : (f : Fact) → f ∈ (the_fact ∷ []) → f ∈ facts J
      new f (here e) = subst (λ (z : Fact). z ∈ facts J) e (fact_from_row J t row (rw a.here (in_right (rows_of I t) (here refl))))
      new f (there k) = elim k [ ]

      one : (f : Fact) → f.table ≡ t → f.row ∈ (row ∷ []) → the_fact ≡ f
      one f d (here e) = (λ j. record { table = sym d j; row = e j })
      one f d (there k) = elim k [ ]

-- where there is room for all, there is room for the next
pub room_for_next : {X : Type 0} {I J : List TableRows} (f : X → Fact) (xs : List X) (i t : ℕ) → i < length xs → HasRoomForRows I (length xs) → GainsFacts I J (map f (take i xs)) → length (rows_of J t) < 2 ^ 32 - 1
room_for_next f xs i t h room g =
    let few = g.few t in
    let all = room t in
    let long = length-map (take i xs) f in
    let taken = length-take-le i xs (omega (arith, h)) in
    omega (arith, few, all, long, taken, h)

-- one fact more, in order of what says them
pub gains_next : {X : Type 0} {I J K : List TableRows} (f : X → Fact) (xs : List X) (i : ℕ) (x : X) → i < length xs → x ≡ get_or xs i x
    → GainsFacts I J (map f (take i xs)) → GainsFacts J K (f x ∷ []) → GainsFacts I K (map f (take (i + 1) xs))
gains_next {X} {I} {J} {K} f xs i x h e g k =
    let s : map f (take (i + 1) xs) ≡ map f (take i xs) ++ f x ∷ [] = ap (map f) (take_more xs i x h) ∙ (map-append f (take i xs) (get_or xs i x ∷ []) ∙ ap (λ (z : X). map f (take i xs) ++ f z ∷ []) (sym e)) in
    rw s (gains_more (map f (take i xs)) (f x ∷ []) g k)

pub gains_place : {I J K : List TableRows} (i : ℕ) (d : Rule) (ts : List Tuple) (n : ℕ) (t : Tuple) → n < length ts → t ≡ get_or ts n t
    → GainsFacts I J (at_places i d 0 (take n ts)) → GainsFacts J K (at_place i d n t) → GainsFacts I K (at_places i d 0 (take (n + 1) ts))
gains_place {I} {J} {K} i d ts n t h e g k =
    let z : n ≡ 0 + n = omega arith in
    rw (places_more i 0 d ts n t h e) (gains_more (at_places i d 0 (take n ts)) (at_place i d (0 + n) t) g (subst (λ (x : ℕ). GainsFacts J K (at_place i d x t)) z k))

pub gains_rule : {I J K : List TableRows} (R : List Rule) (rows : Rows) (n : ℕ) (d : Rule) (ts : List Tuple) → n < length R → n < length rows → d ≡ get_or R n d → ts ≡ get_or rows n ts
    → GainsFacts I J (canonical 0 (take n R) (take n rows)) → GainsFacts J K (at_places n d 0 ts) → GainsFacts I K (canonical 0 (take (n + 1) R) (take (n + 1) rows))
gains_rule {I} {J} {K} R rows n d ts h l e f g k =
    let z : n ≡ 0 + n = omega arith in
    rw (rules_more 0 R rows n d ts h l e f) (gains_more (canonical 0 (take n R) (take n rows)) (at_places (0 + n) d 0 ts) g (subst (λ (x : ℕ). GainsFacts J K (at_places x d 0 ts)) z k))

-- what starts without rows has the gained facts alone
pub only_gained : (ws : List ℕ) (I J : List TableRows) (more : List Fact) → I ≡ without_rows ws → GainsFacts I J more → facts J ⊆ more
only_gained ws I J more e g f m = elim (g.only f m) [ inl l ↦ absurd (no_facts ws f (subst (λ (z : List TableRows). f ∈ facts z) e l)) | inr r ↦ r ]

pub widths_gained : (ws : List ℕ) (I J : List TableRows) (more : List Fact) → I ≡ without_rows ws → GainsFacts I J more → widths J ≡ ws
widths_gained ws I J more e g = g.widths_stay ∙ (ap widths e ∙ widths_without ws)

pub atoms_have_cells : (ws : List ℕ) (R : List Rule) → Each ws (λ w. 1 ≤ w) → Each R (FitsWidths ws) → Each R (λ d. Each d.conclusion (λ a. 1 ≤ length a.cells))
atoms_have_cells ws R s f d m a k = s (length a.cells) (in_get ws a.table (length a.cells) (f d m a k))
