use Rattle.dx_joins.proofs.Collections.{pushed_is}
use Rattle.dx_joins.proofs.collected.Collected.push.Goals as goal

pub returns : goal.returns
returns c =
    pushed_is c.self.inside.most c.in_ok-self-inside.field-0 c.args.self.now c.self.inside.rows c.push.new.self c.settle.new.rows c.args.row.now c.self.view_is c.in_ok-push.ensures.ok
    c.in_ok-self-inside.ensures.same c.in_ok-self-inside.ensures.width c.in_ok-self-inside.ensures.first c.in_ok-self-inside.ensures.few
