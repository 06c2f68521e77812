-- The scripts of small rules, computed, and steps that don't fit.
use Rattle.std.proofs.Common.{◌≡◌, ℕ, ◌<◌, true, false, List, [], ◌∷◌, ◌++◌, length, get_or, refl, sym, ap, ◌∙◌, arith}
use Rattle.dx_model.specs.declared.rules.Cell.TheVariants.{Var, Ex, Lit}
use Rattle.dx_model.specs.declared.rules.Rule.{Rule}
use Rattle.std.specs.Prelude.{codes}
use Rattle.dx_schema.specs.Names.{TableNames}
use Rattle.dx_funcs.specs.declared.conversion.Conversion.{Conversion}
use Rattle.dx_base.specs.Texts.{Text}
use Rattle.dx_script.specs.declared.form.CellRef.{CellRef}
use Rattle.dx_script.specs.declared.form.Step.{Step}
use Rattle.dx_script.specs.declared.form.Step.TheVariants.{Create, MatchRows, KeepRows, InsertRows}
use Rattle.dx_script.specs.declared.form.Out.{Out}
use Rattle.dx_script.specs.declared.form.Select.TheVariants.{Cell as Shown, Call}
use Rattle.dx_script.specs.declared.form.Out.TheVariants.{Column, Literal, Skolem}
use Rattle.dx_script.specs.declared.form.Test.TheVariants.{Columns, Literal as Same}
use Rattle.dx_script.specs.declared.form.Unless.{Unless}
use Rattle.dx_base.specs.Members.{here, there}
use Rattle.dx_script.specs.Fits.{CellFits, FitsScript, InsertFits, KeepFits, MatchFits, ReadsKept, SelectFits, TestFits, UnlessFits}
use Rattle.dx_script.specs.Generated.{equals, plain_steps, spots}
use Rattle.dx_script.specs.Rewritten.{rewritten_steps, unless_parts}

-- tables of two columns
source : List TableNames
source = record { name = codes "A"; columns = codes "a" ∷ codes "b" ∷ [] } ∷ []

target : List TableNames
target = record { name = codes "T"; columns = codes "c" ∷ codes "d" ∷ [] } ∷ []

list : List Conversion
list = record { name = codes "f"; code = 7; arity = 1 } ∷ []

-- A(x0, x1), A(x1, x2), x3 = f(x2) gives T(x3, y0), T('z', x0)
rule : Rule
rule = record {
  premise = record { table = 0; cells = Var 0 ∷ Var 1 ∷ [] } ∷ record { table = 0; cells = Var 1 ∷ Var 2 ∷ [] } ∷ [];
  derived = record { code = 7; args = 2 ∷ [] } ∷ [];
  conclusion = record { table = 0; cells = Var 3 ∷ Ex 0 ∷ [] } ∷ record { table = 0; cells = Lit (codes "z") ∷ Var 0 ∷ [] } ∷ [];
}

steps : plain_steps source target list (rule ∷ [])
    ≡ Create (codes "T") (codes "c" ∷ codes "d" ∷ [])
    ∷ MatchRows 0
    (Shown (record { alias = 0; column = codes "a" }) ∷ Call (codes "f") (record { alias = 1; column = codes "b" } ∷ []) ∷ [])
    (codes "A" ∷ codes "A" ∷ [])
    (record { left = record { alias = 0; column = codes "b" }; right = record { alias = 1; column = codes "a" } } ∷ [])
    ∷ InsertRows (codes "T") 0 false (Column 1 ∷ Skolem 0 ∷ [])
    ∷ InsertRows (codes "T") 0 false (Literal (codes "z") ∷ Column 0 ∷ [])
    ∷ []
unfolding source target list rule
steps = refl

-- T(x0, y0) is not kept where T(x0, x1) has a tuple with the same first column
narrow : Rule
narrow = record { premise = record { table = 0; cells = Var 0 ∷ Var 1 ∷ [] } ∷ []; derived = []; conclusion = record { table = 0; cells = Var 0 ∷ Ex 0 ∷ [] } ∷ [] }

wide : Rule
wide = record { premise = record { table = 0; cells = Var 0 ∷ Var 1 ∷ [] } ∷ []; derived = []; conclusion = record { table = 0; cells = Var 0 ∷ Var 1 ∷ [] } ∷ [] }

parts : unless_parts (narrow ∷ wide ∷ []) 0 ≡ record { rule = 1; tests = Columns 0 0 ∷ [] } ∷ []
unfolding narrow wide
parts = refl

-- one for each rule before it, in order
two_parts : unless_parts (narrow ∷ wide ∷ wide ∷ []) 0
    ≡ record { rule = 1; tests = Columns 0 0 ∷ [] } ∷ record { rule = 2; tests = Columns 0 0 ∷ [] } ∷ []
unfolding narrow wide
two_parts = refl

no_parts : unless_parts (narrow ∷ wide ∷ []) 1 ≡ []
unfolding narrow wide
no_parts = refl

-- T(x0, x1) is not kept where T(x0, 'z') has a tuple with the same first column, if its own second one is z
fixed : Rule
fixed = record {
  premise = record { table = 0; cells = Var 0 ∷ Var 1 ∷ [] } ∷ [];
  derived = [];
  conclusion = record { table = 0; cells = Var 0 ∷ Lit (codes "z") ∷ [] } ∷ [];
}

of_a_literal : unless_parts (wide ∷ fixed ∷ []) 0
    ≡ record { rule = 1; tests = Columns 0 0 ∷ Same 1 (codes "z") ∷ [] } ∷ []
unfolding wide fixed
of_a_literal = refl

-- so it is if the literal comes first: the test is of the column that the tuple itself has
fixed_first : Rule
fixed_first = record {
  premise = record { table = 0; cells = Var 0 ∷ Var 1 ∷ [] } ∷ [];
  derived = [];
  conclusion = record { table = 0; cells = Lit (codes "z") ∷ Var 1 ∷ [] } ∷ [];
}

of_a_literal_first : unless_parts (wide ∷ fixed_first ∷ []) 0
    ≡ record { rule = 1; tests = Same 0 (codes "z") ∷ Columns 0 1 ∷ [] } ∷ []
unfolding wide fixed_first
of_a_literal_first = refl

-- each further cell of a variable is equal to its first one: A(x0, x0), A(x0, x1)
thrice : Rule
thrice = record {
  premise = record { table = 0; cells = Var 0 ∷ Var 0 ∷ [] } ∷ record { table = 0; cells = Var 0 ∷ Var 1 ∷ [] } ∷ [];
  derived = [];
  conclusion = record { table = 0; cells = Var 0 ∷ Var 1 ∷ [] } ∷ [];
}

to_the_first : equals (spots source 0 thrice.premise)
    ≡ record { left = record { alias = 0; column = codes "a" }; right = record { alias = 0; column = codes "b" } }
    ∷ record { left = record { alias = 0; column = codes "a" }; right = record { alias = 1; column = codes "a" } }
    ∷ []
unfolding source thrice
to_the_first = refl

-- T(y0, x1) is not kept either where T(x0, x1) has a tuple with the same second column: match steps, keep steps and insert steps
-- each come in the order of the rules
other : Rule
other = record { premise = record { table = 0; cells = Var 0 ∷ Var 1 ∷ [] } ∷ []; derived = []; conclusion = record { table = 0; cells = Ex 0 ∷ Var 1 ∷ [] } ∷ [] }

rewritten : rewritten_steps source target list (narrow ∷ other ∷ wide ∷ [])
    ≡ Create (codes "T") (codes "c" ∷ codes "d" ∷ [])
    ∷ MatchRows 0 (Shown (record { alias = 0; column = codes "a" }) ∷ []) (codes "A" ∷ []) []
    ∷ MatchRows 1 (Shown (record { alias = 0; column = codes "b" }) ∷ []) (codes "A" ∷ []) []
    ∷ MatchRows 2 (Shown (record { alias = 0; column = codes "a" }) ∷ Shown (record { alias = 0; column = codes "b" }) ∷ []) (codes "A" ∷ []) []
    ∷ KeepRows 0 (record { rule = 2; tests = Columns 0 0 ∷ [] } ∷ [])
    ∷ KeepRows 1 (record { rule = 2; tests = Columns 1 0 ∷ [] } ∷ [])
    ∷ InsertRows (codes "T") 0 true (Column 0 ∷ Skolem 0 ∷ [])
    ∷ InsertRows (codes "T") 1 true (Skolem 0 ∷ Column 0 ∷ [])
    ∷ InsertRows (codes "T") 2 false (Column 0 ∷ Column 1 ∷ [])
    ∷ []
unfolding source target list narrow other wide
rewritten = refl

-- ---- what doesn't fit

-- a script that creates no table, where the target has one
no_table_is_created : ¬ FitsScript source target list []
unfolding target
no_table_is_created h = absurd (cc h.creates)

-- one that leaves out a column, or gives the table another name
abbrev first_width : List (Text × List Text) → ℕ
first_width [] = 0
first_width (t ∷ ts) = length t.1

one_column : ¬ FitsScript source target list (Create (codes "T") (codes "c" ∷ []) ∷ [])
unfolding target
one_column h = let e : 1 ≡ 2 = ap first_width h.creates in omega (arith, e)

abbrev first_byte : List (Text × List Text) → ℕ
first_byte [] = 0
first_byte (t ∷ ts) = get_or t.0 0 0

another_name : ¬ FitsScript source target list (Create (codes "U") (codes "c" ∷ codes "d" ∷ []) ∷ [])
unfolding target
another_name h = let e : 85 ≡ 84 = ap first_byte h.creates in omega (arith, e)

-- each step of a script has to fit: none fills a table, or keeps tuples, of a match table that is not there, or matches for
-- rule 1 first
abbrev table_alone : List Step
table_alone = Create (codes "T") (codes "c" ∷ codes "d" ∷ []) ∷ []

fills_of_nothing : (cells : List Out) → ¬ FitsScript source target list (table_alone ++ InsertRows (codes "T") 0 false cells ∷ [])
fills_of_nothing cells h =
    let r = (h.each table_alone [] (InsertRows (codes "T") 0 false cells) refl).rule in omega (arith, r)

matches_for_rule_1 : ¬ FitsScript source target list (table_alone ++ MatchRows 1 [] [] [] ∷ [])
matches_for_rule_1 h = let n = (h.each table_alone [] (MatchRows 1 [] [] []) refl).number in omega (arith, n)

keeps_of_nothing : (unless : List Unless) → ¬ FitsScript source target list (table_alone ++ KeepRows 0 unless ∷ [])
keeps_of_nothing unless h = let r = (h.each table_alone [] (KeepRows 0 unless) refl).rule in omega (arith, r)

-- a cell of an alias that is not there, or of another column
no_alias : ¬ CellFits source (codes "A" ∷ []) (record { alias = 1; column = codes "a" })
no_alias h = omega (arith, h.alias)

-- even if a table has the empty name, which an alias that is not there is given
no_alias_without_name :
    ¬ CellFits (record { name = []; columns = codes "a" ∷ [] } ∷ []) [] (record { alias = 0; column = codes "a" })
no_alias_without_name h = omega (arith, h.alias)

other_name : (name : List ℕ) (first : ℕ) → name ≡ codes "c" → get_or name 0 0 ≡ first → first < 99 → ⊥
other_name name first e f less =
    let h : first ≡ 99 = sym f ∙ ap (λ (t : List ℕ). get_or t 0 0) e in
    omega (arith, h)

no_column : ¬ CellFits source (codes "A" ∷ []) (record { alias = 0; column = codes "c" })
unfolding source
no_column h = elim h.column [ here e ↦ other_name (codes "a") 97 e refl (omega arith) | there m ↦ elim m [ here e ↦ other_name (codes "b") 98 e refl (omega arith) | there n ↦ elim n [ ] ] ]

-- neither cell of an equality, nor one that a conversion takes, may be such a cell; nor may what is selected
abbrev here_a : CellRef
here_a = record { alias = 0; column = codes "a" }

abbrev nowhere : CellRef
nowhere = record { alias = 1; column = codes "a" }

no_cell_of_a_call : ¬ SelectFits source list (codes "A" ∷ []) (Call (codes "f") (nowhere ∷ []))
no_cell_of_a_call h = no_alias (h.1 nowhere (here refl))

no_left_cell : ¬ MatchFits source list [] 0 [] (codes "A" ∷ []) (record { left = nowhere; right = here_a } ∷ [])
no_left_cell h = no_alias (h.equal_cells (record { left = nowhere; right = here_a }) (here refl)).0

no_right_cell : ¬ MatchFits source list [] 0 [] (codes "A" ∷ []) (record { left = here_a; right = nowhere } ∷ [])
no_right_cell h = no_alias (h.equal_cells (record { left = here_a; right = nowhere }) (here refl)).1

no_selected_cell : ¬ MatchFits source list [] 0 (Shown nowhere ∷ []) (codes "A" ∷ []) []
no_selected_cell h = no_alias (h.selected (Shown nowhere) (here refl))

-- a match table of a set that the source hasn't
no_set : ¬ MatchFits source list [] 0 [] (codes "B" ∷ []) []
unfolding source
no_set h = elim (h.sources_named (codes "B") (here refl)) [
  | here e ↦ let b : 65 ≡ 66 = ap (λ (t : List ℕ). get_or t 0 0) e in omega (arith, b)
  | there m ↦ elim m [ ]
]

-- a conversion of no cell that takes one
too_few_cells : ¬ SelectFits source list (codes "A" ∷ []) (Call (codes "f") [])
unfolding list
too_few_cells h = omega (arith, h.0)

-- the match table of rule 0, of one column, and its target table
before : List Step
before = Create (codes "T") (codes "c" ∷ codes "d" ∷ []) ∷ MatchRows 0 (Shown (record { alias = 0; column = codes "a" }) ∷ []) (codes "A" ∷ []) [] ∷ []

-- a number of a rule that comes again, or too early
number_again : ¬ MatchFits source list before 0 [] [] []
unfolding before
number_again h = omega (arith, h.number)

number_left_out : ¬ MatchFits source list before 2 [] [] []
unfolding before
number_left_out h = omega (arith, h.number)

-- a test of a column that is not there
no_own_column : ¬ TestFits before 0 0 (Columns 0 1)
unfolding before
no_own_column h = omega (arith, h.1.1)

no_other_column : ¬ TestFits before 0 0 (Columns 1 0)
unfolding before
no_other_column h = omega (arith, h.0.1)

no_column_of_a_text : ¬ TestFits before 0 0 (Same 1 (codes "z"))
unfolding before
no_column_of_a_text h = omega (arith, h.1)

no_column_of_a_part : ¬ UnlessFits before 0 (record { rule = 0; tests = Columns 0 1 ∷ [] })
no_column_of_a_part h = no_own_column (h.tests (Columns 0 1) (here refl))

-- a partner of a table that is not there
no_partner : ¬ UnlessFits before 0 (record { rule = 1; tests = [] })
unfolding before
no_partner h = omega (arith, h.rule)

no_kept_partner : ¬ KeepFits before 0 (record { rule = 1; tests = [] } ∷ [])
no_kept_partner h = no_partner (h.parts (record { rule = 1; tests = [] }) (here refl))

-- a keep table without a match table, or a second one
kept_too_early : (unless : List Unless) → ¬ KeepFits [] 0 unless
kept_too_early unless h = omega (arith, h.rule)

kept_again : (unless : List Unless) → ¬ KeepFits (KeepRows 0 unless ∷ []) 0 unless
kept_again unless h = h.one (here refl)

-- even after its match table
kept_twice : ¬ KeepFits (MatchRows 0 [] [] [] ∷ KeepRows 0 [] ∷ []) 0 []
kept_twice h = h.one (here refl)

-- an insert into a table that is not created yet, of too few cells, of a keep table that comes later, and of the match table
-- where tuples are kept
not_created : (cells : List Out) → ¬ InsertFits target before [] (codes "T") 0 false cells
not_created cells h = elim h.made [ ]

-- even if its match table is there
not_created_yet : (cells : List Out) → ¬ InsertFits target [] (MatchRows 0 [] [] [] ∷ []) (codes "T") 0 false cells
not_created_yet cells h = elim h.made [ ]

too_few_columns : ¬ InsertFits target before before (codes "T") 0 false (Column 0 ∷ [])
unfolding target before
too_few_columns h = omega (arith, h.width)

kept_later : (later : List Step) → ¬ ReadsKept later [] 0 true
kept_later later h = elim h [ ]

all_where_some_are_kept : (unless : List Unless) → ¬ ReadsKept (KeepRows 0 unless ∷ []) [] 0 false
all_where_some_are_kept unless h = h (here refl)

not_of_its_keep_table : (unless : List Unless) (cells : List Out)
    → ¬ InsertFits target (KeepRows 0 unless ∷ []) before (codes "T") 0 false cells
not_of_its_keep_table unless cells h = all_where_some_are_kept unless h.reads

-- an insert of a match table that is not there, or of a column that it hasn't
no_match_table : (cells : List Out) → ¬ InsertFits target before before (codes "T") 1 false cells
unfolding before
no_match_table cells h = let r = h.rule in omega (arith, r)

no_match_column : ¬ InsertFits target before before (codes "T") 0 false (Column 1 ∷ Literal (codes "z") ∷ [])
unfolding before
no_match_column h = let c = (h.outs (Column 1) (here refl)).1 in omega (arith, c)
