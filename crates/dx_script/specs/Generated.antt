-- The scripts of rules.
use Rattle.std.specs.Prelude.{ℕ, suc, ◌-◌, ◌&&◌, Bool, true, false, cond, eqb, nat_lt}
use Rattle.std.specs.Prelude.{List, [], ◌∷◌, ◌++◌, map, flat_map, length, slice_index_or}
use Rattle.std.specs.List.{position_or_len}
use Rattle.dx_base.specs.Texts.{Text}
use Rattle.dx_model.specs.declared.rules.Cell.{Cell}
use Rattle.dx_model.specs.declared.rules.Cell.TheVariants.{Var, Ex, Lit}
use Rattle.dx_model.specs.declared.rules.Atom.{Atom}
use Rattle.dx_model.specs.declared.rules.Rule.{Rule}
use Rattle.dx_model.specs.Rules.{cells_of, after_cells, exported}
use Rattle.dx_model.specs.Covers.{below, rule_at}
use Rattle.dx_schema.specs.Names.{TableNames}
use Rattle.dx_funcs.specs.declared.conversion.Conversion.{Conversion}
use Rattle.dx_funcs.specs.Names.{conversion_name}
use Rattle.dx_script.specs.declared.form.CellRef.{CellRef}
use Rattle.dx_script.specs.declared.form.Select.{Select}
use Rattle.dx_script.specs.declared.form.Select.TheVariants.{Cell as Shown, Call}
use Rattle.dx_script.specs.declared.form.Equal.{Equal}
use Rattle.dx_script.specs.declared.form.Unless.{Unless}
use Rattle.dx_script.specs.declared.form.Out.{Out}
use Rattle.dx_script.specs.declared.form.Out.TheVariants.{Column, Literal, Skolem}
use Rattle.dx_script.specs.declared.form.Step.{Step}
use Rattle.dx_script.specs.declared.form.Step.TheVariants.{Create, MatchRows, KeepRows, InsertRows}
use Rattle.dx_script.specs.Names.{table_numbered, column_at}

-- ---- the cells of a premise

-- where a cell of a premise stands: the alias of its atom, its column and the column's name
pub record Spot : Type 0 where
  pub alias : ℕ
  pub column : ℕ
  pub name : Text
  pub cell : Cell

-- the cells of an atom, from a column on
abbrev pub spots_of_cells : List TableNames → ℕ → ℕ → ℕ → List Cell → List Spot
spots_of_cells source alias table column [] = []
spots_of_cells source alias table column (c ∷ cs) =
    record { alias = alias; column = column; name = column_at source table column; cell = c }
    ∷ spots_of_cells source alias table (suc column) cs

-- the cells of these atoms, in order of atoms and columns; the first atom has this alias
abbrev pub spots : List TableNames → ℕ → List Atom → List Spot
spots source alias [] = []
spots source alias (a ∷ atoms) = spots_of_cells source alias a.table 0 a.cells ++ spots source (suc alias) atoms

-- whether a cell is variable x
abbrev pub is_variable : ℕ → Cell → Bool
is_variable x (Var y) = eqb x y
is_variable x (Ex v) = false
is_variable x (Lit t) = false

-- where a variable stands first
abbrev pub first_spot : ℕ → List Spot → Spot
first_spot x [] = record { alias = 0; column = 0; name = []; cell = Var x }
first_spot x (s ∷ ss) = cond (is_variable x s.cell) s (first_spot x ss)

-- a cell as a script writes it
abbrev pub shows : Spot → CellRef
shows s = record { alias = s.alias; column = s.name }

-- a cell is equal to the first cell of its variable, if it isn't that one
abbrev pub equal_to : Spot → Spot → List Equal
equal_to first s =
    cond (eqb first.alias s.alias && eqb first.column s.column) []
    (record { left = shows first; right = shows s } ∷ [])

-- what is equal to a cell, among all cells of a premise
abbrev pub further : List Spot → Spot → Cell → List Equal
further all s (Var x) = equal_to (first_spot x all) s
further all s (Ex v) = []
further all s (Lit t) = []

-- each further cell of a variable is equal to its first one
abbrev pub equals : List Spot → List Equal
equals all = flat_map (λ (s : Spot). further all s s.cell) all

-- ---- match steps

-- a variable is selected by its first cell, or as the conversion of such cells
abbrev pub select_of : List Conversion → List Spot → Rule → ℕ → Select
select_of list all d x =
    let n = after_cells (cells_of d.premise) in
    let e = slice_index_or d.derived (x - n) (record { code = 0; args = [] }) in
    cond (nat_lt x n) (Shown (shows (first_spot x all)))
    (Call (conversion_name list e.code) (map (λ y. shows (first_spot y all)) e.args))

-- what is selected for a rule: its exported variables, ascending
abbrev pub selects_of : List TableNames → List Conversion → Rule → List Select
selects_of source list d = map (select_of list (spots source 0 d.premise) d) (exported d)

-- the names of the premise's tables
abbrev pub sources_of : List TableNames → Rule → List Text
sources_of source d = map (λ (a : Atom). (table_numbered source a.table).name) d.premise

-- the match step of rule number r
abbrev pub match_step : List TableNames → List Conversion → ℕ → Rule → Step
match_step source list r d =
    MatchRows r (selects_of source list d) (sources_of source d) (equals (spots source 0 d.premise))

-- ---- keep steps

-- the keep step of a rule with these parts; none without parts
abbrev pub keep_step : ℕ → List Unless → List Step
keep_step r [] = []
keep_step r (u ∷ unless) = KeepRows r (u ∷ unless) ∷ []

-- whether there are parts
abbrev pub has_parts : List Unless → Bool
has_parts [] = false
has_parts (u ∷ unless) = true

-- ---- insert steps

-- what a cell of a conclusion puts in: the column of its variable, a literal, or a null
abbrev pub out_of : Rule → Cell → Out
out_of d (Var x) = Column (position_or_len (eqb x) (exported d))
out_of d (Ex v) = Skolem v
out_of d (Lit t) = Literal t

-- the insert step of a conclusion atom of rule number r
abbrev pub insert_step : List TableNames → Bool → ℕ → Rule → Atom → Step
insert_step target kept r d a = InsertRows (table_numbered target a.table).name r kept (map (out_of d) a.cells)

-- the insert steps of rule number r, in order of its conclusion
abbrev pub inserts_of : List TableNames → Bool → ℕ → Rule → List Step
inserts_of target kept r d = map (insert_step target kept r d) d.conclusion

-- ---- scripts

-- a create step for each table, in order
abbrev pub create_steps : List TableNames → List Step
create_steps target = map (λ (t : TableNames). Create t.name t.columns) target

-- a match step for each rule, in order
abbrev pub match_steps : List TableNames → List Conversion → List Rule → List Step
match_steps source list R = map (λ r. match_step source list r (rule_at R r)) (below (length R))

-- a keep step for each rule that has parts, in order
abbrev pub keep_steps : (ℕ → List Unless) → List Rule → List Step
keep_steps keeps R = flat_map (λ r. keep_step r (keeps r)) (below (length R))

-- an insert step for each rule and each atom of its conclusion, in order, from the keep table if there is one
abbrev pub insert_steps : List TableNames → (ℕ → List Unless) → List Rule → List Step
insert_steps target keeps R = flat_map (λ r. inserts_of target (has_parts (keeps r)) r (rule_at R r)) (below (length R))

-- the script of rules, of which each keeps the tuples without a partner by its parts
abbrev pub script_with : List TableNames → List TableNames → List Conversion → (ℕ → List Unless) → List Rule → List Step
script_with source target list keeps R =
    create_steps target ++ (match_steps source list R ++ (keep_steps keeps R ++ insert_steps target keeps R))

-- the plain script has no keep steps
abbrev pub plain_steps : List TableNames → List TableNames → List Conversion → List Rule → List Step
plain_steps source target list R = script_with source target list (λ r. []) R
