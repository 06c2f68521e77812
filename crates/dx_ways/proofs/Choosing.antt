-- Choices of occurrences, and functions that choose.
use Rattle.std.proofs.Common.{◌≡◌, ℕ, true, cond, List, [], ◌∷◌, inl, inr, refl, sym, ◌∙◌, ap, subst, None}
use Rattle.std.specs.Prelude.{map}
use Rattle.std.specs.List.{list_any, filter}
use Rattle.std.proofs.lemmas.Bool.{cases_Bool, cond-true, cond-false, eqb-true, eq-eqb, or_left, or_right, false≢true}
use Rattle.dx_base.specs.Members.{◌∈◌, here, there, Each}
use Rattle.dx_base.proofs.Members.{in_map, from_map, in_flat_map, from_flat_map}
use Rattle.dx_logical.specs.declared.relation.Occurrence.{Occurrence}
use Rattle.dx_lines.specs.declared.line.Place.{Place}
use Rattle.dx_lines.specs.declared.line.Origin.{Origin}
use Rattle.dx_lines.specs.declared.line.Origin.TheVariants.{Column, Literal, Call as Converted}
use Rattle.dx_lines.specs.declared.term.Term.{Term}
use Rattle.dx_lines.specs.declared.term.Term.TheVariants.{Var, Call}
use Rattle.dx_lines.specs.Ways.{is_of, variable_in, named_columns, with_table, occurrence_choices, variable_at, term_by}
use Rattle.dx_ways.specs.Laws.{seen_at, TermBy, ChoosesOf}
use Rattle.dx_base.proofs.Tests.{from_filter, to_filter, map_same}

-- ---- the first occurrence of a table

abbrev pub first_of : List Occurrence → ℕ → Occurrence
first_of [] t = record { table = 0; variables = []; parent = None; link = 0 }
first_of (o ∷ os) t = cond (is_of t o) o (first_of os t)

pub first_is : (c : List Occurrence) (t : ℕ) → list_any (is_of t) c ≡ true → (first_of c t ∈ c) × ((first_of c t).table ≡ t)
first_is [] t h = absurd (false≢true h)
first_is (o ∷ os) t h = elim (cases_Bool (is_of t o)) [
  | inl u ↦ rw (cond-true (is_of t o) o (first_of os t) u) (here refl, eqb-true o.table t u)
  | inr f ↦ let r = first_is os t (rw f at h) in rw (cond-false (is_of t o) o (first_of os t) f) (there r.0, r.1)
]

pub variable_is : (c : List Occurrence) (a : Place) → variable_at c a ≡ seen_at (first_of c) a
variable_is [] a = refl
variable_is (o ∷ os) a = elim (cases_Bool (is_of a.table o)) [
  | inl u ↦ rw (cond-true (is_of a.table o) o (first_of os a.table) u, cond-true (is_of a.table o) (variable_in o a.column) (variable_at os a) u) refl
  | inr f ↦ rw (cond-false (is_of a.table o) o (first_of os a.table) f, cond-false (is_of a.table o) (variable_in o a.column) (variable_at os a) f) (variable_is os a)
]

-- ---- choices

-- a choice has occurrences of P
abbrev pub Inside : List Occurrence → List Occurrence → Type 0
Inside P c = Each c (λ o. o ∈ P)

-- a choice has one of each table that these columns name
abbrev pub HasTables : List Occurrence → List Place → Type 0
HasTables c places = Each places (λ a. list_any (is_of a.table) c ≡ true)

-- each occurrence of a choice is the one that f chooses
abbrev pub IsBy : (ℕ → Occurrence) → List Occurrence → Type 0
IsBy f c = Each c (λ o. o ≡ f o.table)

inside_more : (P : List Occurrence) (x : Occurrence) (c : List Occurrence) → x ∈ P → Inside P c → Inside P (x ∷ c)
inside_more P x c i h o (here e) = subst (λ (z : Occurrence). z ∈ P) e i
inside_more P x c i h o (there n) = h o n

pub has_more : (a : Place) (more : List Place) (c : List Occurrence) → list_any (is_of a.table) c ≡ true → HasTables c more → HasTables c (a ∷ more)
has_more a more c t h b (here e) = subst (λ (p : Place). list_any (is_of p.table) c ≡ true) e t
has_more a more c t h b (there m) = h b m

has_wider : (x : Occurrence) (c : List Occurrence) (places : List Place) → HasTables c places → HasTables (x ∷ c) places
has_wider x c places h b m = or_right (is_of b.table x) (list_any (is_of b.table) c) (h b m)

own : (f : ℕ → Occurrence) (t : ℕ) (c : List Occurrence) → (f t).table ≡ t → IsBy f c → IsBy f (f t ∷ c)
own f t c e h o (here d) = subst (λ (z : Occurrence). z ≡ f z.table) d (ap f (sym e))
own f t c e h o (there m) = h o m

-- what a choice becomes with a table as well
pub record IsWith (P : List Occurrence) (t : ℕ) (c0 c : List Occurrence) : Type 0 where
  pub has : list_any (is_of t) c ≡ true
  pub inside : Inside P c0 → Inside P c
  pub wider : (places : List Place) → HasTables c0 places → HasTables c places

pub from_with : (P : List Occurrence) (t : ℕ) (c0 c : List Occurrence) → c ∈ with_table P t c0 → IsWith P t c0 c
from_with P t c0 c m = elim (cases_Bool (list_any (is_of t) c0)) [
  | inl y ↦ kept y (rw (cond-true (list_any (is_of t) c0) (c0 ∷ []) (map (λ o. o ∷ c0) (filter (is_of t) P)) y) at m)
  | inr n ↦ grown (from_map (λ o. o ∷ c0) (filter (is_of t) P) (rw (cond-false (list_any (is_of t) c0) (c0 ∷ []) (map (λ o. o ∷ c0) (filter (is_of t) P)) n) at m))
]
  where
    kept : list_any (is_of t) c0 ≡ true → c ∈ (c0 ∷ []) → IsWith P t c0 c
    kept y (here e) = subst (IsWith P t c0) e (record { has = y; inside = λ i. i; wider = λ places h. h })
    kept y (there n) = elim n [ ]

    grown : (o : Occurrence) × (o ∈ filter (is_of t) P) × ((o ∷ c0) ≡ c) → IsWith P t c0 c
    grown r =
        let k = from_filter (is_of t) P r.1 in
        subst (IsWith P t c0) r.2
        (record { has = or_left (is_of t r.0) (list_any (is_of t) c0) k.1; inside = inside_more P r.0 c0 k.0; wider = has_wider r.0 c0 })

-- with the occurrence that f chooses, if it has none of the table yet
pub to_with : (P : List Occurrence) (t : ℕ) (f : ℕ → Occurrence) (c0 : List Occurrence) → f t ∈ P → (f t).table ≡ t → IsBy f c0
    → (c : List Occurrence) × (c ∈ with_table P t c0) × IsBy f c
to_with P t f c0 i e h = elim (cases_Bool (list_any (is_of t) c0)) [
  | inl y ↦ (c0, rw (cond-true (list_any (is_of t) c0) (c0 ∷ []) (map (λ o. o ∷ c0) (filter (is_of t) P)) y) (here refl), h)
  | inr n ↦
      let k = to_filter (is_of t) P i (eq-eqb (f t).table t e) in (
        f t ∷ c0,
        rw (cond-false (list_any (is_of t) c0) (c0 ∷ []) (map (λ o. o ∷ c0) (filter (is_of t) P)) n) (in_map (λ o. o ∷ c0) k),
        own f t c0 e h,
      )
]

pub from_choices : (P : List Occurrence) (places : List Place) (c : List Occurrence) → c ∈ occurrence_choices P places → Inside P c × HasTables c places
from_choices P [] c (here e) = ((λ o m. none o (rw (← e) at m)), (λ a m. elim m [ ]))
  where
    none : (o : Occurrence) → o ∈ [] → o ∈ P
    none o m = elim m [ ]
from_choices P [] c (there m) = elim m [ ]
from_choices P (a ∷ more) c m =
    let r = from_flat_map (with_table P a.table) (occurrence_choices P more) m in
    let h = from_choices P more r.0 r.1 in
    let w = from_with P a.table r.0 c r.2 in
    (w.inside h.0, has_more a more c w.has (w.wider more h.1))

-- a function that chooses gives a choice
pub to_choices : (P : List Occurrence) (places : List Place) (f : ℕ → Occurrence) → Each places (ChoosesOf P f)
    → (c : List Occurrence) × (c ∈ occurrence_choices P places) × IsBy f c
to_choices P [] f h = ([], here refl, (λ o m. elim m [ ]))
to_choices P (a ∷ more) f h =
    let r = to_choices P more f (λ b m. h b (there m)) in
    let p = h a (here refl) in
    let w = to_with P a.table f r.0 p.0 p.1 r.2 in
    (w.0, in_flat_map (with_table P a.table) r.1 w.1, w.2)

-- ---- terms

-- the term of a choice, by the function that takes the first of each table
pub from_term_by : (c : List Occurrence) (s : Origin) (t : Term) → t ∈ term_by s c → TermBy (first_of c) s t
from_term_by c (Column a) t (here e) = sym e ∙ ap Var (variable_is c a)
from_term_by c (Column a) t (there m) = elim m [ ]
from_term_by c (Literal s) t m = elim m [ ]
from_term_by c (Converted code args) t (here e) = sym e ∙ ap (λ (xs : List ℕ). Call code xs) (map_same (variable_at c) (seen_at (first_of c)) args (λ a m. variable_is c a))
from_term_by c (Converted code args) t (there m) = elim m [ ]

pub to_term_by : (c : List Occurrence) (f : ℕ → Occurrence) (s : Origin) (t : Term) → Each (named_columns s) (λ a. variable_at c a ≡ seen_at f a) → TermBy f s t → t ∈ term_by s c
to_term_by c f (Column a) t h e = here (ap Var (h a (here refl)) ∙ sym e)
to_term_by c f (Literal s) t h e = absurd e
to_term_by c f (Converted code args) t h e = here (ap (λ (xs : List ℕ). Call code xs) (map_same (variable_at c) (seen_at f) args h) ∙ sym e)

-- the first of each table is chosen among P
pub first_chosen : (P c : List Occurrence) (places : List Place) → Inside P c → HasTables c places → Each places (ChoosesOf P (first_of c))
first_chosen P c places i h a m = let f = first_is c a.table (h a m) in (i (first_of c a.table) f.0, f.1)

-- a choice by f shows what f chooses
pub seen_by : (c : List Occurrence) (f : ℕ → Occurrence) (places : List Place) → HasTables c places → IsBy f c → Each places (λ a. variable_at c a ≡ seen_at f a)
seen_by c f places h y a m =
    let k = first_is c a.table (h a m) in
    variable_is c a ∙ ap (λ (o : Occurrence). variable_in o a.column) (y (first_of c a.table) k.0 ∙ ap f k.1)
