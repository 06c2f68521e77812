use Rattle.std.proofs.Common.{take}
use Rattle.dx_eval.specs.Keeping.{LacksPartners, KeepsPlaces}
use Rattle.dx_eval.proofs.keeping.left_by_parts.Given as goal

abbrev pub invariant-loop-part : goal.invariant-loop-part
invariant-loop-part l = KeepsPlaces (LacksPartners l.of.symbols.now l.of.tables.now l.of.rule (take l.part-index l.unless)) l.fn.places.items l.left.items
