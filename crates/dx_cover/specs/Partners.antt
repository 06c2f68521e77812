-- Atoms that a search can no longer choose.
use Rattle.std.specs.Prelude.{◌≡◌, false, List, ◌++◌}
use Rattle.dx_base.specs.Members.{◌∈◌, ◌⊆◌, Each}
use Rattle.dx_model.specs.declared.rules.Cell.{Cell}
use Rattle.dx_model.specs.declared.rules.Atom.{Atom}
use Rattle.dx_model.specs.declared.covers.Meeting.{Meeting}
use Rattle.dx_model.specs.Covers.{is_cell_map, meet}

-- in no cell map that begins with these meetings does the cell meet this one
abbrev pub NeverMeet : List Meeting → Cell → Cell → Type 0
NeverMeet bound cell met =
    (more : List Meeting) (m : Meeting) → m ∈ more → m.cell ≡ cell → m.met ≡ met
    → is_cell_map (bound ++ more) ≡ false

-- no cell map that begins with these meetings has those of the atom a with b
abbrev pub IsExcluded : List Meeting → Atom → Atom → Type 0
IsExcluded bound a b = (more : List Meeting) → meet a.cells b.cells ⊆ more → is_cell_map (bound ++ more) ≡ false

-- none of the others can be chosen for the atom a
abbrev pub HasNoChoice : List Meeting → List Atom → Atom → Type 0
HasNoChoice bound others a = Each others (λ b. a.table ≡ b.table → IsExcluded bound a b)
