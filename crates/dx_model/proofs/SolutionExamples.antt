-- What is no solution, no null map and no image, what keys and orders do not ask, each on small values.
use Rattle.std.proofs.Common.{◌≡◌, ◌<◌, ℕ, zero, suc, List, [], ◌∷◌, codes, refl, sym, ◌∙◌, ap, subst, arith}
use Rattle.std.specs.declared.cmp.Ordering.TheVariants.{Less, Greater}
use Rattle.dx_base.specs.Members.{◌∈◌, here, there, Each}
use Rattle.dx_base.specs.Texts.{Text}
use Rattle.dx_model.specs.declared.values.NullId.{NullId}
use Rattle.dx_model.specs.declared.values.Value.{Value}
use Rattle.dx_model.specs.declared.values.Value.TheVariants.{Const, Null}
use Rattle.dx_model.specs.declared.facts.Fact.{Fact}
use Rattle.dx_model.specs.declared.tables.Link.{Link}
use Rattle.dx_model.specs.declared.rules.Cell.{Cell}
use Rattle.dx_model.specs.declared.rules.Cell.TheVariants.{Var, Ex}
use Rattle.dx_model.specs.declared.rules.Atom.{Atom}
use Rattle.dx_model.specs.declared.rules.Rule.{Rule}
use Rattle.dx_model.specs.Values.{Conversions, constants, fact_cmp, null_cmp, row_cmp, tuple_cmp, value_cmp}
use Rattle.dx_model.specs.Instances.{HoldsConstants, IsHomomorphism, IsNullMap, MapsInto, fact_both, fact_moved, nulls_in}
use Rattle.dx_model.specs.Tables.{DeterminationsFit, FactFits, KeysHold, LinksHold, PairObeys, Table, key_of, table_of, values_in}
use Rattle.dx_model.specs.Rules.{Increase, IsMatch, IsRows, canonical, existentials, premise_fact}
use Rattle.dx_model.specs.Solutions.{IsSolution, IsUniversal}
use Rattle.dx_model.specs.Chase.{IsForcedMap}

abbrev null : ℕ → ℕ → ℕ → NullId
null rule var row = record { rule = rule; var = var; row = row }

abbrev fact : ℕ → List Value → Fact
fact t row = record { table = t; row = row }

abbrev atom : ℕ → List Cell → Atom
atom t cells = record { table = t; cells = cells }

abbrev ann : Value
ann = Const (codes "ann")

abbrev bob : Value
bob = Const (codes "bob")

abbrev rome : Value
rome = Const (codes "rome")

abbrev unknown : Value
unknown = Null (null 0 0 0)

-- ---- orders

-- a null is told by its rule, then its variable, then its place
rule_first : null_cmp (null 0 1 1) (null 1 0 0) ≡ Less
rule_first = refl

variable_next : null_cmp (null 0 0 1) (null 0 1 0) ≡ Less
variable_next = refl

place_last : null_cmp (null 0 0 1) (null 0 0 0) ≡ Greater
place_last = refl

-- constants come before nulls, and compare as texts, byte by byte
constants_first : value_cmp (Const (codes "z")) unknown ≡ Less
constants_first = refl

texts_as_they_begin : value_cmp (Const (codes "10")) (Const (codes "9")) ≡ Less
texts_as_they_begin = refl

first_column_first : row_cmp (ann ∷ unknown ∷ []) (bob ∷ ann ∷ []) ≡ Less
first_column_first = refl

table_first : fact_cmp (fact 0 (bob ∷ [])) (fact 1 (ann ∷ [])) ≡ Less
table_first = refl

tuples_as_they_begin : tuple_cmp (codes "10" ∷ codes "b" ∷ []) (codes "9" ∷ codes "a" ∷ []) ≡ Less
tuples_as_they_begin = refl

-- ---- what becomes of values

-- of a fact of the fourth table the null alone is replaced
its_null_alone : fact_moved (λ n. bob) (fact 3 (ann ∷ unknown ∷ [])) ≡ fact 3 (ann ∷ bob ∷ [])
its_null_alone = refl

texts_and_nulls : fact_both (λ t. codes "x") (λ n. bob) (fact 3 (ann ∷ unknown ∷ [])) ≡ fact 3 (Const (codes "x") ∷ bob ∷ [])
texts_and_nulls = refl

-- a null that stands twice is found twice
each_time : nulls_in (unknown ∷ ann ∷ Null (null 1 0 0) ∷ unknown ∷ []) ≡ null 0 0 0 ∷ null 1 0 0 ∷ null 0 0 0 ∷ []
each_time = refl

-- a null map doesn't give a null the null itself, nor lists a null twice
not_the_null_itself : ¬ (IsNullMap (record { null = null 0 0 0; value = unknown } ∷ []))
not_the_null_itself h = h.0 refl

no_null_twice : ¬ (IsNullMap (record { null = null 0 0 0; value = ann } ∷ record { null = null 0 0 0; value = bob } ∷ []))
no_null_twice h = h.1 (record { null = null 0 0 0; value = bob }) (here refl) refl

a_null_is_no_constant : ¬ (HoldsConstants (fact 0 (ann ∷ unknown ∷ []) ∷ []))
a_null_is_no_constant h = let w = h unknown (there (here refl)) in absurd (cc w.1)

byte_in : List Value → ℕ
byte_in (Const (b ∷ bs) ∷ vs) = b
byte_in _ = 0

abbrev first_byte : Fact → ℕ
first_byte f = byte_in f.row

-- a homomorphism keeps constants
constants_stay : ¬ (MapsInto (fact 0 (ann ∷ []) ∷ []) (fact 0 (bob ∷ []) ∷ []))
unfolding byte_in
constants_stay w = elim (w.1.inside (fact 0 (ann ∷ [])) (here refl)) [
  | here e ↦ let b : 98 ≡ 97 = ap first_byte e in omega (arith, b)
  | there m ↦ elim m [ ]
]

-- and need not be onto
into_more : IsHomomorphism [] (fact 0 (ann ∷ []) ∷ []) (fact 0 (bob ∷ []) ∷ fact 0 (ann ∷ []) ∷ [])
into_more = record { null_map = tt; inside = λ f m. inside f m }
  where
    inside : (f : Fact) → f ∈ (fact 0 (ann ∷ []) ∷ []) → f ∈ (fact 0 (bob ∷ []) ∷ fact 0 (ann ∷ []) ∷ [])
    inside f (here e) = there (here e)
    inside f (there m) = elim m [ ]

-- ---- what rules say

-- emp(x0) -> person(x0, y0), knows(y1, x0, y0), after a rule that says nothing here: a null has the number of its rule, and of its
-- variable
abbrev couple_rule : Rule
couple_rule = record {
  premise = atom 0 (Var 0 ∷ []) ∷ [];
  derived = [];
  conclusion = atom 0 (Var 0 ∷ Ex 0 ∷ []) ∷ atom 2 (Ex 1 ∷ Var 0 ∷ Ex 0 ∷ []) ∷ [];
}

in_their_order : existentials couple_rule.conclusion ≡ 0 ∷ 1 ∷ 0 ∷ []
in_their_order = refl

both_atoms : canonical 0 (couple_rule ∷ couple_rule ∷ []) ([] ∷ ((codes "ann" ∷ []) ∷ []) ∷ [])
    ≡ fact 0 (ann ∷ Null (null 1 0 0) ∷ []) ∷ fact 2 (Null (null 1 1 0) ∷ ann ∷ Null (null 1 0 0) ∷ []) ∷ []
both_atoms = refl

row_of_constants : constants (codes "ann" ∷ codes "bob" ∷ []) ≡ ann ∷ bob ∷ []
row_of_constants = refl

-- emp(x0, x1) -> person(x0, y0): two matches that agree on what is exported are one row
abbrev first_of_two : Rule
first_of_two = record { premise = atom 0 (Var 0 ∷ Var 1 ∷ []) ∷ []; derived = []; conclusion = atom 0 (Var 0 ∷ Ex 0 ∷ []) ∷ [] }

abbrev ann_with_two : List Fact
ann_with_two = fact 0 (ann ∷ bob ∷ []) ∷ fact 0 (ann ∷ rome ∷ []) ∷ []

abbrev ann_then_bob : ℕ → Text
ann_then_bob zero = codes "ann"
ann_then_bob (suc x) = codes "bob"

one_row : (convert : Conversions) → IsRows convert first_of_two ann_with_two ((codes "ann" ∷ []) ∷ [])
one_row convert = record { ascend = ((λ x m. elim m [ ]), tt); exact = λ t. (from t, (λ w. listed t w.0 w.1 w.2)) }
  where
    premise : (a : Atom) → a ∈ first_of_two.premise → premise_fact ann_then_bob a ∈ ann_with_two
    premise a (here e) = subst (λ (b : Atom). premise_fact ann_then_bob b ∈ ann_with_two) e (here refl)
    premise a (there m) = elim m [ ]

    from : (t : List Text) → t ∈ ((codes "ann" ∷ []) ∷ []) → (texts : ℕ → Text) × IsMatch convert first_of_two ann_with_two texts × (t ≡ texts 0 ∷ [])
    from t (here e) = (ann_then_bob, record { premise = premise; derived = tt }, sym e)
    from t (there m) = elim m [ ]

    is_ann : (texts : ℕ → Text) → premise_fact texts (atom 0 (Var 0 ∷ Var 1 ∷ [])) ∈ ann_with_two → codes "ann" ≡ texts 0
    is_ann texts (here e) = let d : (ann ∷ bob ∷ []) ≡ (Const (texts 0) ∷ Const (texts 1) ∷ []) = ap (λ (f : Fact). f.row) e in cc
    is_ann texts (there (here e)) = let d : (ann ∷ rome ∷ []) ≡ (Const (texts 0) ∷ Const (texts 1) ∷ []) = ap (λ (f : Fact). f.row) e in cc
    is_ann texts (there (there m)) = elim m [ ]

    listed : (t : List Text) (texts : ℕ → Text) → IsMatch convert first_of_two ann_with_two texts → t ≡ texts 0 ∷ [] → t ∈ ((codes "ann" ∷ []) ∷ [])
    listed t texts m e = here (ap (λ (u : Text). u ∷ []) (is_ann texts (m.premise (atom 0 (Var 0 ∷ Var 1 ∷ [])) (here refl))) ∙ sym e)

-- numbers that increase are distinct
not_the_same_twice : ¬ (Increase (0 ∷ 0 ∷ []))
not_the_same_twice h = let l = h.0 0 (here refl) in omega (arith, l)

-- ---- schemas

-- persons of a name and a phone, and towns of a name and a mayor, each name once
abbrev schema : List Table
schema =
    record { width = 2; determinations = key_of 2 (0 ∷ []) ∷ []; links = []; optional = [] }
    ∷ record { width = 2; determinations = key_of 2 (0 ∷ []) ∷ []; links = []; optional = [] }
    ∷ []

not_too_narrow : ¬ (FactFits schema (fact 0 (ann ∷ [])))
not_too_narrow h = let e : 1 ≡ 2 = h.width in omega (arith, e)

not_behind_the_last : ¬ (FactFits schema (fact 2 []))
not_behind_the_last h = let l : 2 < 2 = h.table in omega (arith, l)

-- a key of one table asks nothing of a row of another one
abbrev of_two_tables : List Fact
of_two_tables = fact 0 (ann ∷ unknown ∷ []) ∷ fact 1 (ann ∷ bob ∷ []) ∷ []

their_keys_hold : KeysHold schema of_two_tables
their_keys_hold = λ a m b n. obey a m b n
  where
    apart : (a b : Fact) → a.table ≡ 0 → b.table ≡ 1 → ¬ (a.table ≡ b.table)
    apart a b p q e = let h : 0 ≡ 1 = sym p ∙ (e ∙ q) in omega (arith, h)

    with_itself : (f a b : Fact) → f ≡ a → f ≡ b → PairObeys schema a b
    with_itself f a b p q t d m e = ap (λ (g : Fact). values_in d.right g.row) (sym p ∙ q)

    table_in : (k : ℕ) (f : Fact) (row : List Value) → fact k row ≡ f → f.table ≡ k
    table_in k f row e = ap (λ (g : Fact). g.table) (sym e)

    obey : (a : Fact) → a ∈ of_two_tables → (b : Fact) → b ∈ of_two_tables → PairObeys schema a b
    obey a (here p) b (here q) = with_itself (fact 0 (ann ∷ unknown ∷ [])) a b p q
    obey a (there (here p)) b (there (here q)) = with_itself (fact 1 (ann ∷ bob ∷ [])) a b p q
    obey a (here p) b (there (here q)) = λ t. absurd (apart a b (table_in 0 a _ p) (table_in 1 b _ q) t)
    obey a (there (here p)) b (here q) = λ t. absurd (apart b a (table_in 0 b _ q) (table_in 1 a _ p) (sym t))
    obey a (here p) b (there (there n)) = elim n [ ]
    obey a (there (here p)) b (there (there n)) = elim n [ ]
    obey a (there (there m)) b n = elim m [ ]

-- a determination speaks of columns of its table on both sides
abbrev too_far : List Table
too_far = record { width = 2; determinations = record { left = 2 ∷ []; right = 0 ∷ [] } ∷ []; links = []; optional = [] } ∷ []

no_such_column : ¬ (DeterminationsFit too_far)
no_such_column h =
    let w = h (table_of too_far 0) (here refl) (record { left = 2 ∷ []; right = 0 ∷ [] }) (here refl) in
    let l : 2 < 2 = w.0 2 (here refl) in omega (arith, l)

-- what stands in the second column of the first table stands in the first of the second
abbrev to_town : Link
to_town = record { from = 1 ∷ []; table = 1; to = 0 ∷ [] }

abbrev linked : List Table
linked =
    record { width = 2; determinations = []; links = to_town ∷ []; optional = [] }
    ∷ record { width = 2; determinations = []; links = []; optional = to_town ∷ [] }
    ∷ []

abbrev in_rome : List Fact
in_rome = fact 0 (ann ∷ rome ∷ []) ∷ fact 1 (rome ∷ bob ∷ []) ∷ []

abbrev HasLinked : Fact → Type 0
HasLinked a =
    Each (table_of linked a.table).links (λ link. (b : Fact) × (b ∈ in_rome) × (b.table ≡ link.table) × (values_in link.to b.row ≡ values_in link.from a.row))

-- the optional link of the second table asks for nothing
its_link_holds : LinksHold linked in_rome
its_link_holds a (here e) = subst HasLinked e (λ l m. leads l m)
  where
    leads : HasLinked (fact 0 (ann ∷ rome ∷ []))
    leads l (here d) =
        subst (λ (link : Link). (b : Fact) × (b ∈ in_rome) × (b.table ≡ link.table) × (values_in link.to b.row ≡ values_in link.from (ann ∷ rome ∷ []))) d
        (fact 1 (rome ∷ bob ∷ []), there (here refl), refl, refl)
    leads l (there m) = elim m [ ]
its_link_holds a (there (here e)) = subst HasLinked e (λ l m. elim m [ ])
its_link_holds a (there (there m)) = elim m [ ]

-- ---- solutions

-- emp(x0) -> person(x0, y0)
abbrev person_rule : Rule
person_rule = record { premise = atom 0 (Var 0 ∷ []) ∷ []; derived = []; conclusion = atom 0 (Var 0 ∷ Ex 0 ∷ []) ∷ [] }

abbrev emp_ann : List Fact
emp_ann = fact 0 (ann ∷ []) ∷ []

matches_ann : (convert : Conversions) → IsMatch convert person_rule emp_ann (λ x. codes "ann")
matches_ann convert = record { premise = λ a m. premise a m; derived = tt }
  where
    premise : (a : Atom) → a ∈ person_rule.premise → premise_fact (λ x. codes "ann") a ∈ emp_ann
    premise a (here e) = subst (λ (b : Atom). premise_fact (λ x. codes "ann") b ∈ emp_ann) e (here refl)
    premise a (there m) = elim m [ ]

-- nothing is no solution if a rule has a match
nothing_is_no_solution : (convert : Conversions) → ¬ (IsSolution convert (person_rule ∷ []) schema emp_ann [])
nothing_is_no_solution convert s =
    let w = s.rules person_rule (here refl) (λ x. codes "ann") (matches_ann convert) in
    elim (w.1 (atom 0 (Var 0 ∷ Ex 0 ∷ [])) (here refl)) [ ]

-- and not universal, though it maps into each one
nothing_is_not_universal : (convert : Conversions) → ¬ (IsUniversal convert (person_rule ∷ []) schema emp_ann [])
nothing_is_not_universal convert u = nothing_is_no_solution convert u.solution

-- a row that is too wide is none
too_wide_is_no_solution : (convert : Conversions) → ¬ (IsSolution convert (person_rule ∷ []) schema emp_ann (fact 0 (ann ∷ unknown ∷ bob ∷ []) ∷ []))
too_wide_is_no_solution convert s =
    let e : 3 ≡ 2 = (s.fits (fact 0 (ann ∷ unknown ∷ bob ∷ [])) (here refl)).width in omega (arith, e)

-- a forced map lists nulls of the instance alone
of_no_null_of_it : ¬ (IsForcedMap schema (fact 0 (ann ∷ bob ∷ []) ∷ []) (record { null = null 0 0 0; value = bob } ∷ []))
of_no_null_of_it h = elim (h.here_alone (record { null = null 0 0 0; value = bob }) (here refl)) [
  | here e ↦ absurd (cc e)
  | there m ↦ elim m [ here e ↦ absurd (cc e) | there k ↦ elim k [ ] ]
]
