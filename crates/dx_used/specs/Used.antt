-- Which columns of the source rules use, and instances that agree on these columns.
use Rattle.std.specs.Prelude.{◌≡◌, ℕ, zero, suc, Bool, true, false, cond, eqb, List}
use Rattle.std.specs.Prelude.{[], ◌∷◌, ◌++◌, length, map, flat_map, slice_index_or}
use Rattle.dx_base.specs.Members.{◌∈◌, ◌≈◌, Each}
use Rattle.dx_model.specs.declared.values.Value.{Value}
use Rattle.dx_model.specs.declared.values.Value.TheVariants.{Const, Null}
use Rattle.dx_model.specs.declared.facts.Fact.{Fact}
use Rattle.dx_model.specs.declared.rules.Cell.{Cell}
use Rattle.dx_model.specs.declared.rules.Cell.TheVariants.{Var, Ex, Lit}
use Rattle.dx_model.specs.declared.rules.Atom.{Atom}
use Rattle.dx_model.specs.declared.rules.Derived.{Derived}
use Rattle.dx_model.specs.declared.rules.Rule.{Rule}
use Rattle.dx_model.specs.Rules.{cells_of}

-- how often a variable stands among cells
abbrev pub times : ℕ → List Cell → ℕ
times x [] = 0
times x (Var y ∷ cs) = cond (eqb x y) (suc (times x cs)) (times x cs)
times x (Ex v ∷ cs) = times x cs
times x (Lit t ∷ cs) = times x cs

-- the arguments of a rule's conversions, as cells
abbrev pub arguments : Rule → List Cell
arguments d = flat_map (λ (e : Derived). map Var e.args) d.derived

-- the cells that a rule mentions: those of its premise, those of its conclusion, and the arguments of its conversions
abbrev pub mentions : Rule → List Cell
mentions d = cells_of d.premise ++ (cells_of d.conclusion ++ arguments d)

-- a cell asks nothing of the value there: it is a variable, which the rule mentions this once
abbrev pub IsIdle : Rule → Cell → Type 0
IsIdle d c = (x : ℕ) × (c ≡ Var x) × (times x (mentions d) ≡ 1)

-- the cells in columns that are not used are idle; a column without a mark is used
abbrev pub CellsIdle : Rule → List Bool → List Cell → Type 0
CellsIdle d [] cells = Unit {0}
CellsIdle d (u ∷ used) [] = Unit {0}
CellsIdle d (true ∷ used) (c ∷ cells) = CellsIdle d used cells
CellsIdle d (false ∷ used) (c ∷ cells) = IsIdle d c × CellsIdle d used cells

-- for each table a mark for each column: whether it is used
abbrev pub Marks : Type 0
Marks = List (List Bool)

-- the marks of a table
abbrev pub marks_at : Marks → ℕ → List Bool
marks_at used table = slice_index_or used table []

-- the rule uses no other columns than these
abbrev pub UsesOnly : Marks → Rule → Type 0
UsesOnly used d = Each d.premise (λ a. CellsIdle d (marks_at used a.table) a.cells)

-- of these cells of a rule, that in a column asks something of the value there: it is not idle
abbrev pub AsksOfValue : Rule → List Cell → ℕ → Type 0
AsksOfValue d [] column = ⊥
AsksOfValue d (c ∷ cells) zero = ¬ IsIdle d c
AsksOfValue d (c ∷ cells) (suc column) = AsksOfValue d cells column

-- a column of a table is used by a rule: an atom of its premise, over the table, has there a cell that asks something
abbrev pub IsUsedBy : Rule → ℕ → ℕ → Type 0
IsUsedBy d table column = (a : Atom) × (a ∈ d.premise) × (a.table ≡ table) × AsksOfValue d a.cells column

-- a column of a table is used by some rule
abbrev pub IsUsed : List Rule → ℕ → ℕ → Type 0
IsUsed R table column = (d : Rule) × (d ∈ R) × IsUsedBy d table column

-- for each table of these widths a mark for each column
abbrev pub HaveWidths : List ℕ → Marks → Type 0
HaveWidths widths used = map (λ (marks : List Bool). length marks) used ≡ widths

-- a value that does not count: of a constant nothing is left but that it is one
abbrev pub blank : Value → Value
blank (Const t) = Const []
blank (Null n) = Null n

-- a row, blank in the columns that are not used
abbrev pub blanked : List Bool → List Value → List Value
blanked [] row = row
blanked (u ∷ used) [] = []
blanked (true ∷ used) (v ∷ row) = v ∷ blanked used row
blanked (false ∷ used) (v ∷ row) = blank v ∷ blanked used row

-- a fact, blank in the columns of its table that are not used
abbrev pub fact_blanked : Marks → Fact → Fact
fact_blanked used f = record { table = f.table; row = blanked (marks_at used f.table) f.row }

-- two instances agree on the used columns: with the other columns blank they have the same facts
abbrev pub AgreeOnUsed : Marks → List Fact → List Fact → Type 0
AgreeOnUsed used I J = map (fact_blanked used) I ≈ map (fact_blanked used) J
