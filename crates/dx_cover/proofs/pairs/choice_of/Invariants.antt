use Rattle.std.proofs.Common.{◌≡◌, length, take}
use Rattle.std.specs.Prelude.{◌⊎◌}
use Rattle.dx_base.specs.Members.{◌∈◌, Each, behind}
use Rattle.dx_cover.specs.Pairs.{IsNeverChosen}
use Rattle.dx_cover.proofs.pairs.choice_of.Given as goal

abbrev pub invariant-loop-other : goal.invariant-loop-other
invariant-loop-other l =
    Each (behind l.left.items) (λ b. length l.atom.cells ≡ length b.cells)
    × Each (take l.other-index l.part.others.now) (λ b. l.atom.table ≡ b.table
    → (b ∈ behind l.left.items) ⊎ IsNeverChosen l.part.bound.now l.part.rest.now l.part.others.now l.atom b)
