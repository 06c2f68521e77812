-- Used columns: a(x0, x1, x2), b(x2) -> p(x0) asks nothing of the second column of a, and uses all others; a(x0, x1, x2) -> p(x1)
-- uses the second alone.
use Rattle.std.proofs.Common.{◌≡◌, ℕ, true, false, List, [], ◌∷◌, refl, sym, ◌∙◌, ap, subst, arith, inl, inr}
use Rattle.dx_base.specs.Members.{here, there}
use Rattle.dx_model.specs.declared.values.Value.TheVariants.{Const}
use Rattle.dx_model.specs.declared.facts.Fact.{Fact}
use Rattle.dx_model.specs.declared.rules.Cell.TheVariants.{Var, Lit}
use Rattle.dx_model.specs.declared.rules.Atom.{Atom}
use Rattle.dx_model.specs.declared.rules.Rule.{Rule}
use Rattle.dx_lines.specs.declared.line.Condition.{Condition}
use Rattle.dx_used.specs.Used.{times, mentions, IsIdle, CellsIdle, AgreeOnUsed, AsksOfValue, IsUsedBy, IsUsed, HaveWidths, blanked, fact_blanked}
use Rattle.dx_used.specs.Named.{UsesExactly, IsNamed, ReadNamed}
use Rattle.dx_used.specs.Passing.{Passes, passing}

abbrev first : Atom
first = record { table = 0; cells = Var 0 ∷ Var 1 ∷ Var 2 ∷ [] }

abbrev second : Atom
second = record { table = 1; cells = Var 2 ∷ [] }

abbrev rule : Rule
rule = record {
  premise = first ∷ second ∷ [];
  derived = [];
  conclusion = record { table = 0; cells = Var 0 ∷ [] } ∷ [];
}

abbrev other : Rule
other = record {
  premise = first ∷ [];
  derived = [];
  conclusion = record { table = 0; cells = Var 1 ∷ [] } ∷ [];
}

exported_twice : times 0 (mentions rule) ≡ 2
exported_twice = refl

mentioned_once : times 1 (mentions rule) ≡ 1
mentioned_once = refl

joined_twice : times 2 (mentions rule) ≡ 2
joined_twice = refl

second_is_idle : CellsIdle rule (true ∷ false ∷ true ∷ []) (Var 0 ∷ Var 1 ∷ Var 2 ∷ [])
second_is_idle = ((1, refl, refl), tt)

second_is_blank : (a b c : List ℕ) → blanked (true ∷ false ∷ true ∷ []) (Const a ∷ Const b ∷ Const c ∷ []) ≡ Const a ∷ Const [] ∷ Const c ∷ []
second_is_blank a b c = refl

-- ---- instances that agree

abbrev of : List ℕ → List ℕ → Fact
of a b = record { table = 0; row = Const a ∷ Const b ∷ [] }

they_agree : (a b c : List ℕ) → AgreeOnUsed ((true ∷ false ∷ []) ∷ []) (of a b ∷ []) (of a c ∷ [])
they_agree a b c = ((λ f m. m), (λ f m. m))

they_differ : ¬ AgreeOnUsed ((true ∷ false ∷ []) ∷ []) (of [] [] ∷ []) (of (0 ∷ []) [] ∷ [])
they_differ w = elim (w.0 (fact_blanked ((true ∷ false ∷ []) ∷ []) (of [] [])) (here refl)) [
  | here e ↦ absurd (cc (ap (λ (f : Fact). f.row) e))
  | there m ↦ elim m [ ]
]

-- ---- columns that are used

-- what is mentioned another number of times is not idle
not_idle : (d : Rule) (x n : ℕ) → times x (mentions d) ≡ n → ¬ (n ≡ 1) → ¬ IsIdle d (Var x)
not_idle d x n e o i = let same : x ≡ i.0 = cc i.1 in o (sym e ∙ (ap (λ y. times y (mentions d)) same ∙ i.2))

a_literal_asks : (t : List ℕ) → AsksOfValue rule (Var 1 ∷ Lit t ∷ []) 1
a_literal_asks t i = absurd (cc (i.1))

nothing_is_asked_behind_the_last : ¬ AsksOfValue rule (Var 0 ∷ []) 1
nothing_is_asked_behind_the_last a = a

exported_is_used : IsUsedBy rule 0 0
exported_is_used = (first, here refl, refl, not_idle rule 0 2 refl (λ e. absurd (omega (arith, e))))

joined_is_used : IsUsedBy rule 1 0
joined_is_used = (second, there (here refl), refl, not_idle rule 2 2 refl (λ e. absurd (omega (arith, e))))

idle_is_not_used : ¬ IsUsedBy rule 0 1
idle_is_not_used w = elim w.1 [
  | here e ↦ subst (λ (a : Atom). AsksOfValue rule a.cells 1) (sym e) w.3 (1, refl, refl)
  | there m ↦ elim m [
    | here e ↦ absurd (omega (arith, ap (λ (a : Atom). a.table) e, w.2))
    | there n ↦ elim n [ ]
  ]
]

not_in_another_table : ¬ IsUsedBy rule 2 0
not_in_another_table w = elim w.1 [
  | here e ↦ absurd (omega (arith, ap (λ (a : Atom). a.table) e, w.2))
  | there m ↦ elim m [
    | here e ↦ absurd (omega (arith, ap (λ (a : Atom). a.table) e, w.2))
    | there n ↦ elim n [ ]
  ]
]

-- one of the rules suffices
used_by_the_last : IsUsed (rule ∷ other ∷ []) 0 1
used_by_the_last = (other, there (here refl), (first, here refl, refl, not_idle other 1 2 refl (λ e. absurd (omega (arith, e)))))

used_by_none : ¬ IsUsed (rule ∷ []) 0 1
used_by_none w = elim w.1 [
  | here e ↦ idle_is_not_used (subst (λ d. IsUsedBy d 0 1) (sym e) w.2)
  | there m ↦ elim m [ ]
]

-- ---- marks

as_many_as_columns : HaveWidths (3 ∷ 1 ∷ []) ((true ∷ false ∷ true ∷ []) ∷ (true ∷ []) ∷ [])
as_many_as_columns = refl

no_table_is_left_out : ¬ HaveWidths (3 ∷ 1 ∷ []) ((true ∷ false ∷ true ∷ []) ∷ [])
no_table_is_left_out e = absurd (cc e)

no_column_is_left_out : ¬ HaveWidths (3 ∷ 1 ∷ []) ((true ∷ false ∷ []) ∷ (true ∷ []) ∷ [])
no_column_is_left_out e = absurd (cc e)

a_mark_too_few : ¬ UsesExactly (rule ∷ other ∷ []) [] ((true ∷ false ∷ true ∷ []) ∷ (true ∷ []) ∷ [])
a_mark_too_few e = absurd (cc ((e 0 1 (omega arith)).1 (inl used_by_the_last)))

a_mark_too_many : ¬ UsesExactly (rule ∷ []) [] ((true ∷ true ∷ true ∷ []) ∷ (true ∷ []) ∷ [])
a_mark_too_many e = elim ((e 0 1 (omega arith)).0 refl) [ inl u ↦ used_by_none u | inr n ↦ elim n.1 [ ] ]

-- ---- conditions

-- the second column must be filled
abbrev filled : Condition
filled = record { place = record { table = 0; column = 1 }; code = 0 }

abbrev tests : Passes
tests code [] = false
tests code (b ∷ bs) = true

-- it is read, though no rule uses it
named_though_not_used : IsNamed (filled ∷ []) 0 1
named_though_not_used = (filled, here refl, refl, refl)

a_named_column_without_mark : ¬ ReadNamed ((true ∷ false ∷ []) ∷ []) (filled ∷ [])
a_named_column_without_mark r = absurd (cc (r filled (here refl)))

a_named_mark_too_few : ¬ UsesExactly (rule ∷ []) (filled ∷ []) ((true ∷ false ∷ true ∷ []) ∷ (true ∷ []) ∷ [])
a_named_mark_too_few e = absurd (cc ((e 0 1 (omega arith)).1 (inr named_though_not_used)))

-- the rows that are filled there pass, and rows of other tables
filled_rows_pass : (a : List ℕ) → passing tests (filled ∷ []) (of a [] ∷ of a (1 ∷ []) ∷ record { table = 1; row = Const [] ∷ Const [] ∷ [] } ∷ [])
    ≡ of a (1 ∷ []) ∷ record { table = 1; row = Const [] ∷ Const [] ∷ [] } ∷ []
filled_rows_pass a = refl

-- each of the conditions is asked for, and the first column too
both_are_asked : passing tests (filled ∷ record { place = record { table = 0; column = 0 }; code = 0 } ∷ []) (of [] (1 ∷ []) ∷ of (2 ∷ []) (1 ∷ []) ∷ of (2 ∷ []) [] ∷ [])
    ≡ of (2 ∷ []) (1 ∷ []) ∷ []
both_are_asked = refl
