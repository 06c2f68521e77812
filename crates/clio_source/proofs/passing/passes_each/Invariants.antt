use Rattle.std.proofs.Common.{◌≡◌, drop}
use Rattle.std.specs.List.{list_all}
use Rattle.dx_instance.specs.Shown.{shown_row}
use Rattle.dx_used.specs.Passing.{fact_passes}
use Rattle.clio_source.proofs.passing.passes_each.Given as goal

abbrev pub invariant-loop-condition : goal.invariant-loop-condition
invariant-loop-condition g l =
    list_all (fact_passes g.M.Meaning.passes (record { table = l.table; row = shown_row l.numbers.symbols l.row })) (drop l.condition-index l.conditions)
    ≡ list_all (fact_passes g.M.Meaning.passes (record { table = l.table; row = shown_row l.numbers.symbols l.row })) l.conditions
