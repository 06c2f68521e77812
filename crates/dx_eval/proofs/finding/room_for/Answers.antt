use Rattle.dx_eval.proofs.Limits.{room_is, room_without}
use Rattle.dx_eval.proofs.finding.room_for.Goals as goal

pub returns-then-cells-eq0 : goal.returns-then-cells-eq0
returns-then-cells-eq0 c = λ n h. room_without c.args.left c.args.cells n c.if-cells-eq0.true h

pub returns : goal.returns
returns c = λ n h. room_is c.args.left c.args.cells n c.if-cells-eq0.false
