-- A search for values of existential variables.
use Rattle.std.specs.Prelude.{◌≡◌, ◌↔◌, ℕ, ◌<◌, ◌≤◌, List, Vec, Option, Some, None, drop, length, map, vec_capacity}
use Rattle.std.specs.declared.alloc.Global.{Global}
use Rattle.dx_base.specs.Members.{◌∈◌, Distinct, Each, IsPrefix}
use Rattle.dx_base.specs.Texts.{Text}
use Rattle.dx_model.specs.declared.values.Value.{Value}
use Rattle.dx_model.specs.declared.facts.Fact.{Fact}
use Rattle.dx_model.specs.declared.rules.Atom.{Atom}
use Rattle.dx_model.specs.declared.rules.Cell.{Cell}
use Rattle.dx_model.specs.declared.rules.Cell.TheVariants.{Ex}
use Rattle.dx_model.specs.Values.{Tuple}
use Rattle.dx_model.specs.Rules.{cell_value, cells_of, fact_of_atom, text_of, variables, atom_at}
use Rattle.dx_instance.specs.Stored.{TableRows, facts, rows_of, table_at}
use Rattle.dx_instance.specs.Places.{row_at, value_at}
use Rattle.dx_holds.specs.declared.matching.Found.{Found}

-- ---- what is asked

-- the text of each variable of the atoms
abbrev pub texts : List Atom → Tuple → ℕ → Text
texts A t = text_of (variables (cells_of A)) t

-- each atom has a table of the instance, and its width; there is a text for each variable
pub record AtomsFitInstance (I : List TableRows) (A : List Atom) (t : Tuple) : Type 0 where
  pub tables : Each A (λ a. (a.table < length I) × (length a.cells ≡ (table_at I a.table).width))
  pub tuple : length t ≡ length (variables (cells_of A))

-- ---- what was found

-- the variables that were found
abbrev pub found_variables : List Found → List ℕ
found_variables found = map (λ (b : Found). b.variable) found

-- the value in the cell
abbrev pub variable_value : List TableRows → Found → Value
variable_value I b = value_at I b.table b.place b.column

-- the instance has a cell there: in this column of the row at this place of this table
pub record HasCellAt (I : List TableRows) (t p c : ℕ) : Type 0 where
  pub table : t < length I
  pub place : p < length (rows_of I t)
  pub column : c < (table_at I t).width

-- the variable has a cell of the instance
abbrev pub IsVariableCell : List TableRows → Found → Type 0
IsVariableCell I b = HasCellAt I b.table b.place b.column

-- each variable once, with a cell of the instance; all are below n
pub record FoundCells (I : List TableRows) (n : ℕ) (found : List Found) : Type 0 where
  pub once : Distinct (found_variables found)
  pub cells : Each found (IsVariableCell I)
  pub below : Each found (λ b. b.variable < n)

-- what was found has cells of the instance, and there is room for each existential variable of these cells
pub record HasRoomForCells (I : List TableRows) (cells : List Cell) (found : Vec Found Global) : Type 0 where
  pub good : FoundCells I (vec_capacity found) found.items
  pub room : (v : ℕ) → Ex v ∈ cells → v < vec_capacity found

-- there is room for each existential variable of the atoms, and for each atom
pub record HasRoomForAtoms (A : List Atom) (found : Vec Found Global) (done : Vec ℕ Global) : Type 0 where
  pub variables : (v : ℕ) → Ex v ∈ cells_of A → v < vec_capacity found
  pub atoms : length A ≤ vec_capacity done

-- each variable that was found has the value of its cell
abbrev pub ExtendsFound : List TableRows → List Found → (ℕ → Value) → Type 0
ExtendsFound I found values = Each found (λ b. values b.variable ≡ variable_value I b)

-- new says exactly P beside what old says
pub record AddsExactly (I : List TableRows) (n : ℕ) (old : List Found) (P : (ℕ → Value) → Type 0)
    (new : List Found) : Type 0 where
  pub begins : IsPrefix old new
  pub good : FoundCells I n new
  pub exact : (values : ℕ → Value) → ExtendsFound I new values ↔ (ExtendsFound I old values × P values)

-- nothing of which old is true has P
pub record Misses (I : List TableRows) (old : List Found) (P : (ℕ → Value) → Type 0) (new : List Found) : Type 0 where
  pub begins : IsPrefix old new
  pub none : (values : ℕ → Value) → ExtendsFound I old values → ¬ (P values)

-- ---- places

-- the atom says the row at a place
abbrev pub AtomSaysRow : (ℕ → Text) → List TableRows → Atom → ℕ → (ℕ → Value) → Type 0
AtomSaysRow T I a p values = map (cell_value T values) a.cells ≡ row_at I a.table p

-- with what was found the atom says no row at a place from x up to y
abbrev pub HasNoMatchBetween : (ℕ → Text) → List TableRows → List Found → Atom → ℕ → ℕ → Type 0
HasNoMatchBetween T I found a x y =
    (p : ℕ) (values : ℕ → Value) → x ≤ p → p < y → ExtendsFound I found values → ¬ (AtomSaysRow T I a p values)

-- ---- atoms

-- the atoms that are not done are facts
abbrev pub Rest : (ℕ → Text) → List Atom → List Fact → List ℕ → (ℕ → Value) → Type 0
Rest T A K done values = (i : ℕ) → i < length A → ¬ (i ∈ done) → fact_of_atom T values (atom_at A i) ∈ K

-- with what was found they can't all be facts
abbrev pub HaveNoMatch : (ℕ → Text) → List Atom → List TableRows → List Found → List ℕ → Type 0
HaveNoMatch T A I found done = (values : ℕ → Value) → ExtendsFound I found values → ¬ (Rest T A (facts I) done values)

-- what was found makes the atoms that are done facts
pub record IsState (T : ℕ → Text) (A : List Atom) (I : List TableRows) (n : ℕ) (found : List Found)
    (done : List ℕ) : Type 0 where
  pub good : FoundCells I n found
  pub once : Distinct done
  pub within : Each done (λ i. i < length A)
  pub says : (values : ℕ → Value) → ExtendsFound I found values
      → Each done (λ i. fact_of_atom T values (atom_at A i) ∈ facts I)

-- an atom is wanted: each is, or those that have a variable that was found since
abbrev pub IsAtomWanted : List Found → Option ℕ → Atom → Type 0
IsAtomWanted found None a = Unit {0}
IsAtomWanted found (Some mark) a = (v : ℕ) × (Ex v ∈ a.cells) × (v ∈ found_variables (drop mark found))

-- no atom that is not done is wanted
abbrev pub NoneLeft : List Atom → List Found → List ℕ → Option ℕ → Type 0
NoneLeft A found done since = (i : ℕ) → i < length A → ¬ (i ∈ done) → ¬ (IsAtomWanted found since (atom_at A i))
