use Rattle.std.proofs.Common.{sym, ap, length, arith}
use Rattle.dx_schema.specs.Tables.{model_tables}
use Rattle.dx_candidates.proofs.Opens.{sub_short, tip_above, last_tip}
use Rattle.dx_candidates.proofs.parts.is_tip.Goals as goal

pub is_open-requires-in-loop-inner-clause-parents : goal.is_open-requires-in-loop-inner-clause-parents
is_open-requires-in-loop-inner-clause-parents c p e =
    let s = ap length c.subtree.ensures in
    let b = sub_short c.args.occurrences.now c.args.place c.requires.place in
    c.requires.parents c.loop-inner.inner p (omega (arith, s, b, c.loop-inner-test.true)) e

pub returns-then-is_open : goal.returns-then-is_open
returns-then-is_open c =
    let s = ap length c.subtree.ensures in
    let b = sub_short c.args.occurrences.now c.args.place c.requires.place in
    tip_above (model_tables c.args.schema.now) c.args.occurrences.now c.args.place c.loop-inner.inner (omega arith) (omega (arith, s, c.loop-inner-test.true)) (omega (arith, s, b, c.loop-inner-test.true)) (sym c.if-is_open.ensures)

pub returns : goal.returns
returns c =
    let s = ap length c.subtree.ensures in
    last_tip (model_tables c.args.schema.now) c.args.occurrences.now c.args.place c.loop-inner.inner (sym c.if-not-is_open.ensures) (omega (arith, s, c.loop-inner-test.false)) c.loop-inner.invariant
