-- How many canonical cells rules can make at most.
use Rattle.std.specs.Prelude.{◌≤◌, ◌*◌, ℕ, List, length}
use Rattle.std.specs.List.{filter}
use Rattle.dx_base.specs.Members.{◌∈◌, Each}
use Rattle.dx_base.specs.Texts.{Text}
use Rattle.dx_model.specs.declared.rules.Atom.{Atom}
use Rattle.dx_model.specs.declared.rules.Rule.{Rule}
use Rattle.dx_model.specs.Values.{Tuple, Rows, Conversions}
use Rattle.dx_model.specs.Rules.{AreRows, IsRows, cells_of, premise_fact}
use Rattle.dx_instance.specs.Stored.{TableRows, facts}
use Rattle.dx_tgd.specs.Counting.{canonical_cells}
use Rattle.dx_implies.specs.Near.{is_near}

-- with these texts each of the atoms is a fact of the instance
abbrev pub AtomsThere : List TableRows → List Atom → (ℕ → Text) → Type 0
AtomsThere I atoms texts = Each atoms (λ a. premise_fact texts a ∈ facts I)

-- whenever the atoms are facts of the instance, the variable has one of n texts at most
pub record HasFewTexts (I : List TableRows) (atoms : List Atom) (x n : ℕ) : Type 0 where
  pub texts : List Text
  pub few : length texts ≤ n
  pub among : (f : ℕ → Text) → AtomsThere I atoms f → f x ∈ texts

-- the rule makes n canonical cells at most on the instance
abbrev pub MakesFewCells : List TableRows → Rule → ℕ → Type 0
MakesFewCells I d n =
    (convert : Conversions) (rows : List Tuple) → IsRows convert d (facts I) rows → length rows * length (cells_of d.conclusion) ≤ n

-- those of the rules that can have a match make n canonical cells at most on the instance
abbrev pub MakeFewCells : List TableRows → List Rule → ℕ → Type 0
MakeFewCells I R n =
    (convert : Conversions) (rows : Rows) → AreRows convert (filter (is_near I) R) (facts I) rows
    → canonical_cells (filter (is_near I) R) rows ≤ n
