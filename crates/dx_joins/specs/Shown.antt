-- What the matches of a premise give to variables, as texts and as rows of numbers that stand for texts.
use Rattle.std.specs.Prelude.{◌≡◌, ◌↔◌, ◌<◌, ◌+◌, ◌^◌, ℕ, Bool, true, false, List, [], ◌∷◌, length, map, flat_map}
use Rattle.dx_base.specs.Members.{◌∈◌, Distinct, Each}
use Rattle.dx_base.specs.Texts.{Text}
use Rattle.dx_model.specs.declared.values.Value.{Value}
use Rattle.dx_model.specs.declared.values.Value.TheVariants.{Const, Null}
use Rattle.dx_model.specs.declared.facts.Fact.{Fact}
use Rattle.dx_model.specs.declared.rules.Cell.TheVariants.{Var}
use Rattle.dx_model.specs.declared.rules.Atom.{Atom}
use Rattle.dx_model.specs.declared.rules.Derived.{Derived}
use Rattle.dx_model.specs.Values.{Conversions, Tuple}
use Rattle.dx_model.specs.Tables.{AllInside}
use Rattle.dx_model.specs.Rules.{Derive, after_cells, cells_of, premise_fact}
use Rattle.dx_model.specs.Fitting.{AtomsFitWidths, IsVariable, cell_variable}
use Rattle.dx_instance.specs.Numbers.{value_of}
use Rattle.dx_instance.specs.Cells.{NumberTable, NumbersAscend}
use Rattle.dx_instance.specs.Shown.{NumberedInstance, shown_tables}
use Rattle.dx_instance.specs.Stored.{facts}
use Rattle.dx_instance.specs.Ranks.{text_of_value}
use Rattle.dx_joins.specs.declared.pattern.Pattern.{Pattern}

-- whether a value is a text
abbrev pub is_text : Value → Bool
is_text (Const t) = true
is_text (Null n) = false

-- the tuple for which a row of numbers stands
abbrev pub texts_of : List Value → List ℕ → Tuple
texts_of symbols row = map (λ n. text_of_value (value_of symbols n)) row

-- each number stands for a text
abbrev pub AllTexts : List Value → List ℕ → Type 0
AllTexts symbols row = Each row (λ n. (n < length symbols) × (is_text (value_of symbols n) ≡ true))

-- the texts make a match of a premise with derived variables, as in a rule
pub record IsFound (convert : Conversions) (premise : List Atom) (derived : List Derived)
    (I : List Fact) (texts : ℕ → Text) : Type 0 where
  pub atoms : (a : Atom) → a ∈ premise → premise_fact texts a ∈ I
  pub derives : Derive convert texts (after_cells (cells_of premise)) derived

-- a match gives t to these variables
abbrev pub IsMatchTuple : Conversions → List Atom → List Derived → List Fact → List ℕ → Tuple → Type 0
IsMatchTuple convert premise derived I shown t =
    (texts : ℕ → Text) × IsFound convert premise derived I texts × (t ≡ map texts shown)

-- rows of one width stand for the tuples that have P, each once, in order of their numbers
pub record StandFor (columns : ℕ) (P : Tuple → Type 0) (symbols : List Value) (table : NumberTable) : Type 0 where
  pub width : table.width ≡ columns
  pub ascend : NumbersAscend table.rows
  pub texts : Each table.rows (AllTexts symbols)
  pub exact : (t : Tuple) → (t ∈ map (texts_of symbols) table.rows) ↔ P t

-- more than so many different tuples have P
pub record MoreTuples (most : ℕ) (P : Tuple → Type 0) : Type 0 where
  pub tuples : List Tuple
  pub distinct : Distinct tuples
  pub each : Each tuples P
  pub more : most < length tuples
  pub few : length tuples < 2 ^ 32

-- the facts that tables of numbers show
abbrev pub shown_facts : NumberedInstance → List Fact
shown_facts source = facts (shown_tables source.symbols source.tables)

-- what is asked of a premise, derived variables and the variables to be shown: the premise has variables alone, of
-- which each one below their number stands there; conversions take variables of the premise;
-- and no other variables are shown
pub record FitsMatching (widths : List ℕ) (premise : List Atom) (derived : List Derived) (shown : List ℕ) : Type 0 where
  pub some : 0 < length premise
  pub plain : Each premise (λ a. Each a.cells IsVariable)
  pub wide : AtomsFitWidths widths premise
  pub numbered : (x : ℕ) → x < after_cells (cells_of premise) → Var x ∈ cells_of premise
  pub args : Each derived (λ e. AllInside e.args (after_cells (cells_of premise)))
  pub known : Each shown (λ x. x < after_cells (cells_of premise) + length derived)
  pub numbers : after_cells (cells_of premise) + length derived < 2 ^ 32
  pub few : length (cells_of premise) < 2 ^ 32
  pub short : length shown < 2 ^ 32

-- the pattern has the table of the atom, and its variables
pub record IsPattern (a : Atom) (p : Pattern) : Type 0 where
  pub table : p.table ≡ a.table
  pub variables : p.variables.items ≡ flat_map cell_variable a.cells

-- the patterns are those of the atoms
abbrev pub ArePatterns : List Atom → List Pattern → Type 0
ArePatterns [] [] = Unit {0}
ArePatterns [] (p ∷ ps) = ⊥
ArePatterns (a ∷ atoms) [] = ⊥
ArePatterns (a ∷ atoms) (p ∷ ps) = IsPattern a p × ArePatterns atoms ps
