use Rattle.std.proofs.Common.{◌≡◌, length, take}
use Rattle.std.specs.Prelude.{◌⊎◌, ⊤}
use Rattle.dx_base.specs.Members.{◌∈◌, Each, behind}
use Rattle.dx_cover.specs.Pairs.{IsNeverChosen}
use Rattle.dx_cover.proofs.pairs.narrow.Given as goal

abbrev pub invariant-loop-chosen : goal.invariant-loop-chosen
invariant-loop-chosen l =
    Each (behind l.left.items) (λ b. length l.fn.choice.atom.now.cells ≡ length b.cells)
    × Each (take l.chosen-index l.chosen-items) (λ b. ⊤
    → (b.now ∈ behind l.left.items) ⊎ IsNeverChosen l.part.bound.now l.part.rest.now l.part.others.now l.fn.choice.atom.now b.now)
