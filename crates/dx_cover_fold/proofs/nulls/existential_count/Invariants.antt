use Rattle.std.proofs.Common.{◌≡◌, ◌≤◌, ◌^◌, drop, max}
use Rattle.dx_model.specs.Rules.{cells_of}
use Rattle.dx_model.specs.Covers.{after_existential}
use Rattle.dx_cover_fold.proofs.nulls.existential_count.Given as goal

abbrev pub invariant-loop-atom : goal.invariant-loop-atom
invariant-loop-atom l = (max l.next (after_existential (cells_of (drop l.atom-index l.atoms))) ≡ after_existential (cells_of l.atoms)) × (l.next ≤ 2 ^ 32)
