use Rattle.std.proofs.Common.{◌≡◌, take, map}
use Rattle.dx_model.specs.Rules.{exported}
use Rattle.clio_files.proofs.sheets.all_exported.Given as goal

abbrev pub invariant-loop-rule : goal.invariant-loop-rule
invariant-loop-rule l = l.lists ≡ map exported (take l.rule-index l.rules)
