-- Rules that fit: by themselves, two schemas, or the widths of tables.
use Rattle.std.specs.Prelude.{◌≡◌, ℕ, suc, ◌+◌, ◌-◌, ◌^◌, ◌<◌, ◌≤◌, ◌⊎◌, Some}
use Rattle.std.specs.Prelude.{List, [], ◌∷◌, flat_map, length, slice_get}
use Rattle.dx_base.specs.Members.{◌∈◌, Each}
use Rattle.dx_model.specs.declared.rules.Cell.{Cell}
use Rattle.dx_model.specs.declared.rules.Cell.TheVariants.{Var, Ex, Lit}
use Rattle.dx_model.specs.declared.rules.Atom.{Atom}
use Rattle.dx_model.specs.declared.rules.Rule.{Rule}
use Rattle.dx_model.specs.Tables.{Table, AllInside}
use Rattle.dx_model.specs.Rules.{after_cells, cells_of, existentials}
use Rattle.dx_model.specs.Solutions.{AtomFits}

-- ---- numbering

-- numbers by first appearance: each is below n, or is n, and then the others are so below the next; at the end all are
-- below m
abbrev pub ByFirstAppearance : ℕ → List ℕ → ℕ → Type 0
ByFirstAppearance n [] m = n ≡ m
ByFirstAppearance n (x ∷ xs) m = ((x < n) × ByFirstAppearance n xs m) ⊎ ((x ≡ n) × ByFirstAppearance (suc n) xs m)

-- the existential variables of a conclusion are numbered by first appearance
abbrev pub AreNumbered : List Atom → Type 0
AreNumbered atoms = (m : ℕ) × ByFirstAppearance 0 (existentials atoms) m

-- a cell is a variable
abbrev pub IsVariable : Cell → Type 0
IsVariable (Var x) = Unit {0}
IsVariable (Ex v) = ⊥
IsVariable (Lit t) = ⊥

-- the variable of a cell, if it is one
abbrev pub cell_variable : Cell → List ℕ
cell_variable (Var x) = x ∷ []
cell_variable (Ex v) = []
cell_variable (Lit t) = []

-- the number of a rule's premise variables
abbrev pub premise_variables : Rule → ℕ
premise_variables d = after_cells (cells_of d.premise)

-- ---- rules by themselves

-- a rule by itself: variables are numbered by first appearance, premises have variables alone, conversions take
-- variables of the premise, and each variable of the conclusion is one of the premise or a derived one
pub record IsRule (d : Rule) : Type 0 where
  pub some_premise : 0 < length d.premise
  pub plain : Each d.premise (λ a. Each a.cells IsVariable)
  pub numbered : ByFirstAppearance 0 (flat_map cell_variable (cells_of d.premise)) (premise_variables d)
  pub derived : Each d.derived (λ e. AllInside e.args (premise_variables d))
  pub some_conclusion : 0 < length d.conclusion
  pub known : (x : ℕ) → Var x ∈ cells_of d.conclusion → x < premise_variables d + length d.derived
  pub existentials : AreNumbered d.conclusion
  pub few_variables : length (cells_of d.premise) + length d.derived < 2 ^ 32 - 1
  pub few_cells : length (cells_of d.conclusion) < 2 ^ 32 - 1

-- ---- sides that have a schema

-- a rule fits a source and a target: its atoms have their tables, and the widths of these
pub record RuleFits (source target : List Table) (d : Rule) : Type 0 where
  pub rule : IsRule d
  pub premise : Each d.premise (AtomFits source)
  pub conclusion : Each d.conclusion (AtomFits target)

-- ---- sides that have the widths of their tables alone

-- an atom is of a table with as many columns as it has cells
abbrev pub AtomFitsWidths : List ℕ → Atom → Type 0
AtomFitsWidths widths a = slice_get widths a.table ≡ Some (length a.cells)

-- each of the atoms is
abbrev pub AtomsFitWidths : List ℕ → List Atom → Type 0
AtomsFitWidths widths atoms = Each atoms (AtomFitsWidths widths)

-- ---- sides that are given by rules alone

-- the atoms of one table have one width, at least 1
pub record AgreeInWidths (atoms : List Atom) : Type 0 where
  pub some : Each atoms (λ a. 1 ≤ length a.cells)
  pub one : Each atoms (λ a. Each atoms (λ b. a.table ≡ b.table → length a.cells ≡ length b.cells))

-- the premises of rules
abbrev pub premises_of : List Rule → List Atom
premises_of R = flat_map (λ (d : Rule). d.premise) R

-- the conclusions of rules
abbrev pub conclusions_of : List Rule → List Atom
conclusions_of R = flat_map (λ (d : Rule). d.conclusion) R
