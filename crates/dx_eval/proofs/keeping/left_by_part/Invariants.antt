use Rattle.std.proofs.Common.{take}
use Rattle.dx_instance.specs.Shown.{numbers_of_table}
use Rattle.dx_eval.specs.Keeping.{LacksPartner, KeepsPlaces}
use Rattle.dx_eval.proofs.keeping.left_by_part.Given as goal

abbrev pub invariant-loop-place : goal.invariant-loop-place
invariant-loop-place l =
    KeepsPlaces (LacksPartner l.of.symbols.now (numbers_of_table l.of.tables.now l.of.rule).rows (numbers_of_table l.of.tables.now l.part.rule).rows l.part.tests) (take l.place-index l.places) l.left.items
