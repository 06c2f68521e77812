-- The cells of a match step as variables: cells that are to be equal have one variable.
use Rattle.std.specs.Prelude.{◌≡◌, ◌⊎◌, ℕ, ◌<◌, ◌^◌, cond, eqb, List, [], length, map, sum, slice_index, slice_index_or}
use Rattle.dx_base.specs.Members.{Each}
use Rattle.dx_base.specs.Texts.{Text}
use Rattle.dx_model.specs.Values.{Tuple}
use Rattle.dx_model.specs.Covers.{below}
use Rattle.dx_schema.specs.Names.{TableNames}
use Rattle.dx_script.specs.declared.form.CellRef.{CellRef}
use Rattle.dx_script.specs.declared.form.Equal.{Equal}
use Rattle.dx_script.specs.Names.{column_named, table_named, table_numbered}
use Rattle.dx_script.specs.Meaning.{alias_cell_text, table_of_alias}

-- the variables of an alias
abbrev pub alias_variables : List (List ℕ) → ℕ → List ℕ
alias_variables vars alias = slice_index_or vars alias []

-- the variable in a column of an alias
abbrev pub alias_variable : List (List ℕ) → ℕ → ℕ → ℕ
alias_variable vars alias column = slice_index (alias_variables vars alias) column

-- the alias has a cell in the column
pub record AliasHasCell (vars : List (List ℕ)) (alias column : ℕ) : Type 0 where
  pub row : alias < length vars
  pub cell : column < length (alias_variables vars alias)

-- a cell that has variable x
pub record HasVariable (vars : List (List ℕ)) (x : ℕ) : Type 0 where
  pub alias : ℕ
  pub column : ℕ
  pub is_cell : AliasHasCell vars alias column
  pub is : alias_variable vars alias column ≡ x

-- the variable of a cell
abbrev pub variable_of : List TableNames → List Text → List (List ℕ) → CellRef → ℕ
variable_of source sources vars c =
    alias_variable vars c.alias (column_named source (table_of_alias source sources c.alias) c.column)

-- how many columns the table of a name has
abbrev pub width_named : List TableNames → Text → ℕ
width_named source name = length (table_numbered source (table_named source name)).columns

-- how many cells there are
abbrev pub cell_count : List (List ℕ) → ℕ
cell_count vars = sum (map (λ alias. length (alias_variables vars alias)) (below (length vars)))

-- each alias has as many variables as its table has columns
pub record WideAliases (source : List TableNames) (sources : List Text) (vars : List (List ℕ)) : Type 0 where
  pub many : length vars ≡ length sources
  pub wide : (alias : ℕ) → alias < length sources
      → length (alias_variables vars alias) ≡ width_named source (slice_index_or sources alias [])

-- cells that are to be equal have one text
abbrev pub EqualCellsAgree : List TableNames → List Text → List Equal → (ℕ → Tuple) → Type 0
EqualCellsAgree source sources equal rows =
    Each equal (λ (e : Equal). alias_cell_text source sources rows e.left ≡ alias_cell_text source sources rows e.right)

-- the variables are those below n: cells have one variable exactly if they have one
-- text wherever cells that are to be equal have
pub record AreVariables (source : List TableNames) (sources : List Text) (equal : List Equal)
    (vars : List (List ℕ)) (n : ℕ) : Type 0 where
  pub shape : WideAliases source sources vars
  pub below_n : (alias column : ℕ) → AliasHasCell vars alias column → alias_variable vars alias column < n
  pub all : (x : ℕ) → x < n → HasVariable vars x
  pub joined : Each equal (λ (e : Equal). variable_of source sources vars e.left
      ≡ variable_of source sources vars e.right)
  pub apart : (rows : ℕ → Tuple) → EqualCellsAgree source sources equal rows → (a c b d : ℕ)
      → AliasHasCell vars a c → AliasHasCell vars b d
      → alias_variable vars a c ≡ alias_variable vars b d → slice_index_or (rows a) c [] ≡ slice_index_or (rows b) d []
  pub few : cell_count vars < 2 ^ 32

-- ---- words of the steps

-- each cell has a variable of its own, and n is their number
pub record SeparateVariables (source : List TableNames) (sources : List Text) (vars : List (List ℕ)) (n : ℕ) : Type 0 where
  pub shape : WideAliases source sources vars
  pub below_n : (alias column : ℕ) → AliasHasCell vars alias column → alias_variable vars alias column < n
  pub all : (x : ℕ) → x < n → HasVariable vars x
  pub own : (a c b d : ℕ) → AliasHasCell vars a c → AliasHasCell vars b d
      → alias_variable vars a c ≡ alias_variable vars b d
      → (a ≡ b) × (c ≡ d)
  pub count : cell_count vars ≡ n

-- the variable in the place of x, if one is joined to another, and the last takes its place
abbrev pub renamed : ℕ → ℕ → ℕ → ℕ → ℕ
renamed kept gone last x = cond (eqb x gone) kept (cond (eqb x last) gone x)

-- two variables are one, if they are these two
pub record Meet (f : ℕ → ℕ) (x y u v : ℕ) : Type 0 where
  pub only : (u ≡ v) ⊎ (((u ≡ x) × (v ≡ y)) ⊎ ((u ≡ y) × (v ≡ x)))

-- the new variables, of which there are m, are the old ones, with x and y as one
pub record IsUnified (x y : ℕ) (old new : List (List ℕ)) (n m : ℕ) : Type 0 where
  pub by : ℕ → ℕ
  pub is : new ≡ map (map by) old
  pub one : by x ≡ by y
  pub only : (u v : ℕ) → u < n → v < n → by u ≡ by v → Meet by x y u v
  pub within : (u : ℕ) → u < n → by u < m
  pub onto : (w : ℕ) → w < m → (u : ℕ) × (u < n) × (by u ≡ w)
