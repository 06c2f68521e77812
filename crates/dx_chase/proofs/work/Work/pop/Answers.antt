use Rattle.std.proofs.Common.{◌≡◌, ◌∙◌, length, sym, arith}
use Rattle.dx_chase.proofs.WorkFacts.{take_fresh}
use Rattle.dx_chase.proofs.work.Work.pop.Goals as goal

pub returns-clause-some : goal.returns-clause-some
returns-clause-some c =
    let l : length c.self.inside.woken.items ≡ 0 = omega (arith, c.in_default.ensures.cases.0) in
    sym c.self.view_is
    ∙ take_fresh c.self.inside.fresh c.self.inside.woken.items c.pop.new.self.items (omega (arith, c.if-self-eq0.false)) c.in_default.ensures.items l
