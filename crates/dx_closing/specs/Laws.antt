-- What holds of closings.
use Rattle.std.specs.Prelude.{◌≡◌, ◌<◌, ◌≤◌, ◌*◌, ◌++◌, List, length}
use Rattle.dx_base.specs.declared.limits.TheConstants.{OCCURRENCES, COLUMNS}
use Rattle.dx_base.specs.Members.{Each}
use Rattle.dx_model.specs.declared.rules.Atom.{Atom}
use Rattle.dx_model.specs.declared.rules.Rule.{Rule}
use Rattle.dx_model.specs.Solutions.{AtomFits, IsClosed}
use Rattle.dx_model.specs.Tables.{Table}
use Rattle.dx_schema.specs.Links.{IsAcyclic, LinksFit}
use Rattle.dx_closing.specs.declared.growing.Growing.{Growing}
use Rattle.dx_closing.specs.Closing.{IsClosing, IsClosingOf}

-- the atoms fit and are not too many, with at most as many existential variables for each as a table may have columns
pub record IsRoomy (schema : List Table) (C : Growing) : Type 0 where
  pub fit : Each C.atoms (AtomFits schema)
  pub few : length C.atoms ≤ OCCURRENCES
  pub next : C.next ≤ COLUMNS * length C.atoms

-- more atoms than a closing may have
abbrev pub IsWideClosing : Growing → Type 0
IsWideClosing C = OCCURRENCES < length C.atoms

-- ---- laws

-- if links fit and have no cycle, each conclusion that fits has a closing
abbrev pub ClosingEnds : Type 0
ClosingEnds =
    (schema : List Table) (C : List Atom) → LinksFit schema → IsAcyclic schema
    → Each C (AtomFits schema) → (E : List Atom) × IsClosing schema C E

-- no conclusion has two closings
abbrev pub OneClosing : Type 0
OneClosing = (schema : List Table) (C E F : List Atom) → IsClosing schema C E → IsClosing schema C F → E ≡ F

-- a closing has the conclusion in front
abbrev pub ClosingKeeps : Type 0
ClosingKeeps = (schema : List Table) (C E : List Atom) → IsClosing schema C E → (more : List Atom) × (E ≡ C ++ more)

-- in the closing of a rule whose conclusion fits, all atoms fit, and each link of each of them is served
abbrev pub ClosingServes : Type 0
ClosingServes =
    (schema : List Table) (d e : Rule) → LinksFit schema → Each d.conclusion (AtomFits schema)
    → IsClosingOf schema d e → IsClosed schema e

-- a rule in whose conclusion each link of each atom is served is its own closing
abbrev pub ServedIsClosing : Type 0
ServedIsClosing = (schema : List Table) (d : Rule) → IsClosed schema d → IsClosingOf schema d d
