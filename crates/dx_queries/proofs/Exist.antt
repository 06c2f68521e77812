-- Each query that fits has a list of its constant answers, and one alone.
use Rattle.std.proofs.Common.{◌≡◌, ◌⊎◌, ℕ, List, [], ◌∷◌, false, inl, inr, length, refl, sym, ◌∙◌, ap, subst, arith}
use Rattle.std.specs.Prelude.{◌*◌, cond, eqb, map, flat_map}
use Rattle.std.proofs.lemmas.Bool.{cases_Bool, cases_order, eqb-true}
use Rattle.dx_base.specs.Members.{◌∈◌, here, there, Each}
use Rattle.dx_base.proofs.Members.{from_flat_map, from_map, in_flat_map, in_map}
use Rattle.dx_base.proofs.Tests.{map_same}
use Rattle.dx_model.specs.declared.values.Value.{Value}
use Rattle.dx_model.specs.declared.values.Value.TheVariants.{Const, Null}
use Rattle.dx_model.specs.declared.facts.Fact.{Fact}
use Rattle.dx_model.specs.declared.rules.Cell.{Cell}
use Rattle.dx_model.specs.declared.rules.Cell.TheVariants.{Var, Ex, Lit}
use Rattle.dx_model.specs.declared.rules.Atom.{Atom}
use Rattle.dx_model.specs.Values.{Tuple, tuple_cmp, constants}
use Rattle.dx_model.specs.Rules.{cells_of}
use Rattle.dx_model.specs.Fitting.{cell_variable}
use Rattle.dx_model.proofs.Ascending.{ascending_distinct, from_in_order, in_in_order, in_order, in_order_ascends, one_ascending}
use Rattle.dx_model.proofs.Decided.{decide_in, same_fact}
use Rattle.dx_model.proofs.Orders.{tuple_exact, tuple_total}
use Rattle.dx_model.proofs.RowsExist.{from_variable}
use Rattle.dx_queries.specs.declared.query.Part.{Part}
use Rattle.dx_queries.specs.declared.query.Query.{Query}
use Rattle.dx_queries.specs.Queries.{IsAnswer, IsAnswerOf, assigned, fact_said}
use Rattle.dx_queries.specs.Laws.{AnswersExist, OneAnswerList, OneCertainList, WithinOrPasses}

-- ---- assignments of some variables by some values

-- the assignment that gives the value to x, and else what f gives
abbrev given_also : (ℕ → Value) → ℕ → Value → ℕ → Value
given_also f x v y = cond (eqb x y) v (f y)

-- all assignments of these variables by these values
abbrev all_assignments : List ℕ → List Value → List (ℕ → Value)
all_assignments [] vs = (λ x. Const []) ∷ []
all_assignments (x ∷ xs) vs = flat_map (λ f. map (given_also f x) vs) (all_assignments xs vs)

-- one of them is as an assignment is on these variables
abbrev IsLike : (ℕ → Value) → List ℕ → (ℕ → Value) → Type 0
IsLike values xs f = Each xs (λ x. f x ≡ values x)

like_with : (values f : ℕ → Value) (x : ℕ) (xs : List ℕ) → IsLike values xs f → IsLike values (x ∷ xs) (given_also f x (values x))
like_with values f x xs h y m = elim (cases_Bool (eqb x y)) [
  | inl t ↦ rw t (ap values (eqb-true x y t))
  | inr n ↦ rw n (later m n)
]
  where
    self : (z : ℕ) → eqb z z ≡ false → ⊥
    self z e = grind arith

    later : y ∈ (x ∷ xs) → eqb x y ≡ false → f y ≡ values y
    later (here e) n = absurd (self y (subst (λ z. eqb z y ≡ false) e n))
    later (there k) n = h y k

one_like : (values : ℕ → Value) (xs : List ℕ) (vs : List Value) → Each xs (λ x. values x ∈ vs) → (f : ℕ → Value) × (f ∈ all_assignments xs vs) × IsLike values xs f
one_like values [] vs h = ((λ x. Const []), here refl, λ x m. elim m [ ])
one_like values (x ∷ xs) vs h =
    let r = one_like values xs vs (λ y m. h y (there m)) in (
      given_also r.0 x (values x),
      in_flat_map (λ f. map (given_also f x) vs) r.1 (in_map (given_also r.0 x) (h x (here refl))),
      like_with values r.0 x xs r.2,
    )

-- ---- a part

abbrev variables_of : List Atom → List ℕ
variables_of atoms = flat_map cell_variable (cells_of atoms)

abbrev values_in : List Fact → List Value
values_in K = flat_map (λ (f : Fact). f.row) K

-- alike on the variables of cells, two assignments give the same row
same_row : (values f : ℕ → Value) (xs : List ℕ) (cells : List Cell) → IsLike values xs f → ((x : ℕ) → Var x ∈ cells → x ∈ xs) → map (assigned f) cells ≡ map (assigned values) cells
same_row values f xs cells like among = map_same (assigned f) (assigned values) cells same
  where
    same : (c : Cell) → c ∈ cells → assigned f c ≡ assigned values c
    same (Var x) m = like x (among x m)
    same (Ex v) m = refl
    same (Lit t) m = refl

variable_there : (atoms : List Atom) (x : ℕ) → Var x ∈ cells_of atoms → x ∈ variables_of atoms
variable_there atoms x m = in_flat_map cell_variable m (here refl)

-- a cell of an atom is a cell of the atoms
pub cell_there : (atoms : List Atom) (a : Atom) (c : Cell) → a ∈ atoms → c ∈ a.cells → c ∈ cells_of atoms
cell_there atoms a c m k = in_flat_map (λ (b : Atom). b.cells) m k

same_said : (values f : ℕ → Value) (atoms : List Atom) → IsLike values (variables_of atoms) f → (a : Atom) → a ∈ atoms → fact_said f a ≡ fact_said values a
same_said values f atoms like a m =
    let e = same_row values f (variables_of atoms) a.cells like (λ x k. variable_there atoms x (cell_there atoms a (Var x) m k)) in
    (λ i. record { table = a.table; row = e i })

value_there : (K : List Fact) (values : ℕ → Value) (atoms : List Atom) → Each atoms (λ a. fact_said values a ∈ K) → Each (variables_of atoms) (λ x. values x ∈ values_in K)
value_there K values atoms h x m =
    let c = from_flat_map cell_variable (cells_of atoms) m in
    let a = from_flat_map (λ (b : Atom). b.cells) atoms c.1 in
    let v : assigned values c.0 ∈ values_in K = in_flat_map (λ (f : Fact). f.row) (h a.0 a.1) (in_map (assigned values) a.2) in
    subst (λ (d : Cell). assigned values d ∈ values_in K) (from_variable x c.0 c.2) v

-- whether each atom is a fact of K
decide_each : (K : List Fact) (f : ℕ → Value) (atoms : List Atom) → Each atoms (λ a. fact_said f a ∈ K) ⊎ (¬ (Each atoms (λ a. fact_said f a ∈ K)))
decide_each K f [] = inl (λ a m. elim m [ ])
decide_each K f (a ∷ atoms) = elim (decide_in same_fact (fact_said f a) K) [
  | inr n ↦ inr (λ h. n (h a (here refl)))
  | inl h ↦ elim (decide_each K f atoms) [
    | inr n ↦ inr (λ k. n (λ b m. k b (there m)))
    | inl k ↦ inl (both h k)
  ]
]
  where
    both : fact_said f a ∈ K → Each atoms (λ b. fact_said f b ∈ K) → Each (a ∷ atoms) (λ b. fact_said f b ∈ K)
    both h k b (here e) = subst (λ (d : Atom). fact_said f d ∈ K) e h
    both h k b (there m) = k b m

module _ (K : List Fact) (p : Part) where
  abbrev Holds : (ℕ → Value) → Type 0
  Holds f = Each p.atoms (λ a. fact_said f a ∈ K)

  abbrev row_if : (f : ℕ → Value) → Holds f ⊎ (¬ (Holds f)) → List (List Value)
  row_if f (inl h) = map (assigned f) p.answer ∷ []
  row_if f (inr n) = []

  in_row_if : (f : ℕ → Value) (o : Holds f ⊎ (¬ (Holds f))) → Holds f → map (assigned f) p.answer ∈ row_if f o
  in_row_if f (inl h) k = here refl
  in_row_if f (inr n) k = absurd (n k)

  from_row_if : (f : ℕ → Value) (o : Holds f ⊎ (¬ (Holds f))) (row : List Value) → row ∈ row_if f o → IsAnswerOf K p row
  from_row_if f (inl h) row (here e) = (f, h, sym e)
  from_row_if f (inl h) row (there m) = elim m [ ]
  from_row_if f (inr n) row m = elim m [ ]

  row_of : (ℕ → Value) → List (List Value)
  row_of f = row_if f (decide_each K f p.atoms)

  -- the answers of the part
  abbrev rows_of : List (List Value)
  rows_of = flat_map row_of (all_assignments (variables_of p.atoms) (values_in K))

  from_rows : (row : List Value) → row ∈ rows_of → IsAnswerOf K p row
  unfolding row_of
  from_rows row m =
      let w = from_flat_map row_of (all_assignments (variables_of p.atoms) (values_in K)) m in
      from_row_if w.0 (decide_each K w.0 p.atoms) row w.2

  in_rows : ((x : ℕ) → Var x ∈ p.answer → Var x ∈ cells_of p.atoms) → (row : List Value) → IsAnswerOf K p row → row ∈ rows_of
  unfolding row_of
  in_rows safe row (values, h, is) =
      let w = one_like values (variables_of p.atoms) (values_in K) (value_there K values p.atoms h) in
      let f = w.0 in
      let holds : Holds f = λ a m. subst (λ (g : Fact). g ∈ K) (sym (same_said values f p.atoms w.2 a m)) (h a m) in
      let e : map (assigned f) p.answer ≡ row = same_row values f (variables_of p.atoms) p.answer w.2 (λ x m. variable_there p.atoms x (safe x m)) ∙ sym is in
      subst (λ r. r ∈ rows_of) e (in_flat_map row_of w.1 (in_row_if f (decide_each K f p.atoms) holds))

-- ---- rows of constants

-- the tuple of a row, if it has constants alone
abbrev tuples_in : List Value → List Tuple
tuples_in [] = [] ∷ []
tuples_in (Const t ∷ row) = map (λ u. t ∷ u) (tuples_in row)
tuples_in (Null n ∷ row) = []

in_tuples : (t : Tuple) → t ∈ tuples_in (constants t)
in_tuples [] = here refl
in_tuples (x ∷ t) = in_map (λ u. x ∷ u) (in_tuples t)

from_tuples : (row : List Value) (t : Tuple) → t ∈ tuples_in row → row ≡ constants t
from_tuples [] [] m = refl
from_tuples [] (x ∷ t) (here e) = absurd cc
from_tuples [] (x ∷ t) (there m) = elim m [ ]
from_tuples (Const x ∷ row) t m =
    let w = from_map (λ u. x ∷ u) (tuples_in row) m in
    ap (λ vs. Const x ∷ vs) (from_tuples row w.0 w.1) ∙ ap constants w.2
from_tuples (Null n ∷ row) t m = elim m [ ]

-- ---- a query

abbrev some_tuples : List Fact → Query → List Tuple
some_tuples K q = flat_map tuples_in (flat_map (rows_of K) q.parts)

from_some : (K : List Fact) (q : Query) (t : Tuple) → t ∈ some_tuples K q → IsAnswer K q (constants t)
from_some K q t m =
    let r = from_flat_map tuples_in (flat_map (rows_of K) q.parts) m in
    let p = from_flat_map (rows_of K) q.parts r.1 in
    (p.0, p.1, subst (IsAnswerOf K p.0) (from_tuples r.0 t r.2) (from_rows K p.0 r.0 p.2))

in_some : (K : List Fact) (q : Query) → Each q.parts (λ p. (x : ℕ) → Var x ∈ p.answer → Var x ∈ cells_of p.atoms) → (t : Tuple) → IsAnswer K q (constants t) → t ∈ some_tuples K q
in_some K q safe t (p, m, a) = in_flat_map tuples_in (in_flat_map (rows_of K) m (in_rows K p (safe p m) (constants t) a)) (in_tuples t)

pub answers_exist : AnswersExist
answers_exist widths K q fits =
    let ts = some_tuples K q in (
      in_order tuple_cmp tuple_total tuple_exact ts,
      record {
        ascend = in_order_ascends tuple_cmp tuple_total tuple_exact ts;
        exact = λ t. (
          (λ m. from_some K q t (from_in_order tuple_cmp tuple_total tuple_exact t ts m)),
          (λ a. in_in_order tuple_cmp tuple_total tuple_exact t ts (in_some K q (λ p m. (fits p m).part.safe) t a)),
        );
      },
    )

pub one_list : OneAnswerList
one_list K q rows others a b =
    one_ascending tuple_cmp tuple_total rows others a.ascend b.ascend (λ t m. (b.exact t).1 ((a.exact t).0 m)) (λ t m. (a.exact t).1 ((b.exact t).0 m))

pub one_certain_list : OneCertainList
one_certain_list convert R schema I q rows others a b =
    one_ascending tuple_cmp tuple_total rows others a.ascend b.ascend (λ t m. (b.exact t).1 ((a.exact t).0 m)) (λ t m. (a.exact t).1 ((b.exact t).0 m))

pub within_or_passes : WithinOrPasses
within_or_passes K q rows limit are = elim (cases_order limit (length rows * q.width)) [
  | inl e ↦ inl (omega (arith, e))
  | inr o ↦ elim o [
    | inl less ↦ inr (record { rows = rows; distinct = ascending_distinct tuple_cmp tuple_total rows are.ascend; each = λ t m. (are.exact t).0 m; more = less })
    | inr more ↦ inl (omega (arith, more))
  ]
]
