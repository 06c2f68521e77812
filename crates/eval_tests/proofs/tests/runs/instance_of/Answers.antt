use Rattle.std.proofs.Common.{ap, ◌∙◌}
use Rattle.dx_instance.specs.Stored.{widths}
use Rattle.dx_instance.proofs.StoredFacts.{widths_without}
use Rattle.eval_tests.proofs.tests.runs.instance_of.Goals as goal

pub loop-line-init : goal.loop-line-init
loop-line-init c = ap widths c.in_ok-instance.ensures ∙ widths_without _ ∙ c.in_ok-widths.ensures.all
