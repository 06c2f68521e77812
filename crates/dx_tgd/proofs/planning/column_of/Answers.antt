use Rattle.std.proofs.Common.{◌∙◌, sym}
use Rattle.dx_base.proofs.Lists.{skip_listed, nothing_left}
use Rattle.dx_tgd.proofs.Saying.{skip_same}
use Rattle.dx_tgd.proofs.Plans.{text_found}
use Rattle.dx_tgd.proofs.planning.column_of.Goals as goal

pub loop-i-preserved : goal.loop-i-preserved
loop-i-preserved c = record {
  listed = skip_listed c.args.variables.now c.loop-i.i c.args.x c.loop-i-test.true c.if-variables-i.false c.loop-i.invariant.listed;
  same = λ t l. skip_same c.args.variables.now t c.loop-i.i c.args.x c.loop-i-test.true l c.if-variables-i.false ∙ c.loop-i.invariant.same t l;
}

pub unreachable-requires : goal.unreachable-requires
unreachable-requires c = nothing_left c.args.variables.now c.loop-i.i c.args.x c.loop-i-test.false c.loop-i.invariant.listed

pub returns-then-variables-i : goal.returns-then-variables-i
returns-then-variables-i c = record {
  within = c.loop-i-test.true;
  text = λ t l. sym (c.loop-i.invariant.same t l) ∙ text_found c.args.variables.now t c.loop-i.i c.args.x c.loop-i-test.true l c.if-variables-i.true;
}
