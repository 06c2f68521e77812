-- The constant answers of a part: which values may stand where, and what a refusal says.
use Rattle.std.proofs.Common.{◌≡◌, ◌⊎◌, inl, inr, ℕ, false, List, [], ◌∷◌, refl, sym, arith}
use Rattle.dx_base.specs.Members.{◌∈◌, Each, here, there}
use Rattle.dx_base.specs.declared.file.Count.TheVariants.{AnswerCells}
use Rattle.dx_base.specs.declared.file.Limit.{Limit}
use Rattle.dx_base.specs.Texts.{Text}
use Rattle.dx_model.specs.declared.values.Value.{Value}
use Rattle.dx_model.specs.declared.values.Value.TheVariants.{Const, Null}
use Rattle.dx_model.specs.declared.facts.Fact.{Fact}
use Rattle.dx_model.specs.declared.rules.Cell.{Cell}
use Rattle.dx_model.specs.declared.rules.Cell.TheVariants.{Var, Ex, Lit}
use Rattle.dx_queries.specs.declared.query.Query.{Query}
use Rattle.dx_certain.specs.declared.fault.CertainFault.TheVariants as faults
use Rattle.dx_certain.specs.Finding.{MoreRows, answer_values}
use Rattle.dx_certain.specs.Naming.{cell_number, same_query_cell, variables_among}
use Rattle.dx_certain.specs.Refusal.{IsCertainRefusal}
use Rattle.dx_certain.specs.Suiting.{Suits}

-- texts, of one byte each
abbrev a_text : Text
a_text = 1 ∷ []

abbrev b_text : Text
b_text = 2 ∷ []

abbrev ann : Value
ann = Const a_text

abbrev bob : Value
bob = Const b_text

abbrev unknown : Value
unknown = Null (record { rule = 0; var = 0; row = 0 })

-- ---- cells by numbers

-- a literal, x3, y0, x3, another literal
abbrev cells : List Cell
cells = Lit a_text ∷ Var 3 ∷ Ex 0 ∷ Var 3 ∷ Lit b_text ∷ []

variables_in_order : variables_among cells ≡ Var 3 ∷ Var 3 ∷ []
variables_in_order = refl

-- the number is the place where the cell stands first; one that is not there has the number after all
where_it_is_first : cell_number cells (Var 3) ≡ 1
where_it_is_first = refl

another_literal : cell_number cells (Lit b_text) ≡ 4
another_literal = refl

not_there : cell_number cells (Var 0) ≡ 5
not_there = refl

-- a variable of the answer is no other variable, nor an existential one with its number
not_another : same_query_cell (Var 3) (Var 4) ≡ false
not_another = refl

not_existential : same_query_cell (Var 0) (Ex 0) ≡ false
not_existential = refl

by_their_texts : same_query_cell (Lit a_text) (Lit b_text) ≡ false
by_their_texts = refl

-- ---- an answer with values for its variables

in_their_places : answer_values (Var 3 ∷ Lit b_text ∷ Var 0 ∷ []) (ann ∷ bob ∷ []) ≡ ann ∷ Const b_text ∷ bob ∷ []
in_their_places = refl

-- a variable that stands twice has a value in each place
each_place_has_one : answer_values (Var 0 ∷ Var 0 ∷ []) (ann ∷ bob ∷ []) ≡ ann ∷ bob ∷ []
each_place_has_one = refl

-- ---- which values may stand where

-- a null under a variable of the answer is none of a constant answer
no_null_in_the_answer : ¬ (Suits (Var 0 ∷ []) (Var 0) unknown)
no_null_in_the_answer s = let p = s (here refl) in absurd (cc p.1)

-- elsewhere it may stand
a_null_beside_it : Suits (Var 1 ∷ []) (Var 0) unknown
a_null_beside_it (here e) = absurd (cc e)
a_null_beside_it (there m) = elim m [ ]

a_constant_in_the_answer : Suits (Var 0 ∷ []) (Var 0) ann
a_constant_in_the_answer m = (a_text, refl)

-- under a literal stands its own text
its_own_text : Suits [] (Lit a_text) ann
its_own_text = refl

no_other_text : ¬ (Suits [] (Lit a_text) bob)
no_other_text e = absurd (cc e)

no_null : ¬ (Suits [] (Lit a_text) unknown)
no_null e = absurd (cc e)

-- ---- how many rows there are

abbrev Named : List Value → Type 0
Named row = (row ≡ ann ∷ []) ⊎ (row ≡ bob ∷ [])

-- two rows are more than one
two_are_more : MoreRows 1 Named
two_are_more = record {
  rows = (ann ∷ []) ∷ (bob ∷ []) ∷ [];
  distinct = (other, (none, tt));
  each = named;
  more = omega arith;
}
  where
    other : ¬ ((ann ∷ []) ∈ ((bob ∷ []) ∷ []))
    other (here e) = absurd (cc e)
    other (there m) = elim m [ ]

    none : ¬ ((bob ∷ []) ∈ [])
    none m = elim m [ ]

    named : Each ((ann ∷ []) ∷ (bob ∷ []) ∷ []) Named
    named row (here e) = inl (sym e)
    named row (there (here e)) = inr (sym e)
    named row (there (there m)) = elim m [ ]

-- one row twice is not
one_twice_is_not : (P : List Value → Type 0) (m : MoreRows 1 P) → ¬ (m.rows ≡ (ann ∷ []) ∷ (ann ∷ []) ∷ [])
one_twice_is_not P m e = let d = rw e at m.distinct in d.0 (here refl)

-- ---- refusals

-- a refusal names the count of answers and the number of the limit
it_names_the_limit : (K : List Fact) (q : Query) (limit : ℕ) (l : Limit) → IsCertainRefusal K q limit (faults.Limit l)
    → l ≡ record { what = AnswerCells; number = limit }
it_names_the_limit K q limit l r = r.0
