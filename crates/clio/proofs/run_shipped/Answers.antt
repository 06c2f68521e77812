use Rattle.std.proofs.Common.{◌∙◌}
use Rattle.clio.proofs.Exits.{exits, without_memory}
use Rattle.clio.proofs.run_shipped.Goals as goal

pub returns : goal.returns
returns g c =
    exits _ _ _ _ _ _ _ _ _ _ (c.build-host.ensures.offered ∙ c.in-Ok.ensures.list) (c.build-tests.ensures.tested ∙ c.in-Ok-shipped_tests.ensures.list) (c.run-ending.result, c.ended.ensures, c.run-ending.ensures)

pub returns-in-Err : goal.returns-in-Err
returns-in-Err g c = without_memory _ _ _ _ _ c.no_memory.ensures

pub returns-in-Err-shipped_tests : goal.returns-in-Err-shipped_tests
returns-in-Err-shipped_tests g c = without_memory _ _ _ _ _ c.no_memory-in-Err-shipped_tests.ensures
