use Rattle.std.proofs.Common.{arith}
use Rattle.dx_base.proofs.Lists.{skip_listed, nothing_left}
use Rattle.dx_joins.proofs.Places.{is_here, skip_same}
use Rattle.dx_joins.proofs.plan.place.Goals as goal

pub returns-then-names-i-clause-place : goal.returns-then-names-i-clause-place
returns-then-names-i-clause-place c =
    let h = is_here c.args.names.now c.loop-i.i c.args.x c.loop-i-test.true c.if-names-i.true in
    omega (arith, h, c.loop-i.invariant.is)

pub loop-i-preserved : goal.loop-i-preserved
loop-i-preserved c = record {
  listed = skip_listed c.args.names.now c.loop-i.i c.args.x c.loop-i-test.true c.if-names-i.false c.loop-i.invariant.listed;
  is = let s = skip_same c.args.names.now c.loop-i.i c.args.x c.loop-i-test.true c.if-names-i.false in omega (arith, s, c.loop-i.invariant.is);
}

pub unreachable-requires : goal.unreachable-requires
unreachable-requires c = nothing_left c.args.names.now c.loop-i.i c.args.x c.loop-i-test.false c.loop-i.invariant.listed
