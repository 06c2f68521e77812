-- Choices for the atoms of the rest, looked at two by two.
use Rattle.std.specs.Prelude.{◌≡◌, ◌<◌, ◌⊎◌, ⊤, false, List, [], length, slice_index_or, ◌++◌}
use Rattle.dx_base.specs.Members.{◌∈◌, ◌⊆◌, Each, behind}
use Rattle.dx_model.specs.declared.rules.Cell.TheVariants.{Ex}
use Rattle.dx_model.specs.declared.rules.Atom.{Atom}
use Rattle.dx_model.specs.declared.rules.Rule.{Rule}
use Rattle.dx_model.specs.declared.covers.Meeting.{Meeting}
use Rattle.dx_model.specs.Covers.{choices, is_cell_map, meet, meetings}
use Rattle.dx_cover.specs.declared.pairs.Choice.{Choice}
use Rattle.dx_cover.specs.declared.pairs.Part.{Part}
use Rattle.dx_cover.specs.declared.pairs.Place.{Place}
use Rattle.dx_cover.specs.declared.pairs.Round.{Round}
use Rattle.dx_cover.specs.declared.pairs.Round.TheVariants.{NoneLeft, Same, Fewer}
use Rattle.dx_cover.specs.Search.{maps_under}

-- the places are within the two atoms
abbrev pub IsWithin : Atom → Atom → Place → Type 0
IsWithin a c p = (p.own < length a.cells) × (p.its < length c.cells)

-- the two atoms have the same cell in the places
abbrev pub IsSameAt : Atom → Atom → Place → Type 0
IsSameAt a c p = slice_index_or a.cells p.own (Ex 0) ≡ slice_index_or c.cells p.its (Ex 0)

-- the two atoms share a cell, which is in these places
abbrev pub IsShared : Atom → Atom → Place → Type 0
IsShared a c p = IsWithin a c p × IsSameAt a c p

-- the two atoms have different cells in some of the places
abbrev pub Disagree : List Place → Atom → Atom → Type 0
Disagree places b d = (p : Place) × (p ∈ places) × ¬ (IsSameAt b d p)

-- no cell map has the meetings of a with b and those of c with d
abbrev pub ExcludeEachOther : Atom → Atom → Atom → Atom → Type 0
ExcludeEachOther a b c d =
    (more : List Meeting) → meet a.cells b.cells ⊆ more → meet c.cells d.cells ⊆ more → is_cell_map more ≡ false

-- in no cell map that begins with these meetings and chooses for each of the rest one of the others is b chosen for a
abbrev pub IsNeverChosen : List Meeting → List Atom → List Atom → Atom → Atom → Type 0
IsNeverChosen bound rest others a b =
    (bs : List Atom) → bs ∈ choices rest others → meet a.cells b.cells ⊆ meetings rest bs
    → is_cell_map (bound ++ meetings rest bs) ≡ false

-- an atom of the rest, and others as wide as it; those of its table that are not left are never chosen for it
pub record HasLeft (bound : List Meeting) (rest others : List Atom) (a : Atom) (left : List Atom) : Type 0 where
  pub own : a ∈ rest
  pub wide : Each left (λ b. length a.cells ≡ length b.cells)
  pub all : Each others (λ b. a.table ≡ b.table → (b ∈ left) ⊎ IsNeverChosen bound rest others a b)

-- a choice of a part of a search
abbrev pub IsChoice : Part → Choice → Type 0
IsChoice part c = HasLeft part.bound.now part.rest.now part.others.now c.atom.now (behind c.left.items)

-- what has become of all choices of a part of a search
abbrev pub IsNarrowing : Part → Round → Type 0
IsNarrowing part NoneLeft = (i : Rule) → maps_under i part.bound.now part.rest.now part.others.now ≡ []
IsNarrowing part Same = ⊤
IsNarrowing part (Fewer all) = Each all.items (IsChoice part)
