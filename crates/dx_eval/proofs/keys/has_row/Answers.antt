use Rattle.std.proofs.Common.{◌<◌, ◌+◌, ◌-◌, ◌/◌, length, sym, arith, refl}
use Rattle.std.proofs.lemmas.Bool.{false≢true}
use Rattle.dx_instance.proofs.TableFacts.{above_step, below_step, numbers_exact, stands}
use Rattle.dx_eval.proofs.Searching.{ascend_all, nowhere}
use Rattle.dx_eval.proofs.keys.has_row.Goals as goal

pub loop-low-preserved-in-Less : goal.loop-low-preserved-in-Less
loop-low-preserved-in-Less c =
    let m = c.loop-low.low + (c.loop-low.high - c.loop-low.low) / 2 in
    let b : m < c.loop-low.high = omega arith in
    let n = length c.args.rows.now.rows in
    let s : m < n = omega (arith, b, c.loop-low.invariant.within) in
    record {
      order = omega arith;
      within = c.loop-low.invariant.within;
      below = below_step c.args.rows.now.rows n m c.args.row.now (omega arith) (ascend_all c.args.rows.now.rows c.requires) s (rw c.row.ensures.row at (sym c.in-Less.ensures));
      above = c.loop-low.invariant.above;
    }

pub loop-low-preserved : goal.loop-low-preserved
loop-low-preserved c =
    let m = c.loop-low.low + (c.loop-low.high - c.loop-low.low) / 2 in
    let b : m < c.loop-low.high = omega arith in
    let n = length c.args.rows.now.rows in
    record {
      order = omega arith;
      within = omega (arith, b, c.loop-low.invariant.within);
      below = c.loop-low.invariant.below;
      above = above_step c.args.rows.now.rows n m c.args.row.now (omega arith) (ascend_all c.args.rows.now.rows c.requires) (rw c.row.ensures.row at (sym c.in-Greater.ensures));
    }

pub returns-in-Equal : goal.returns-in-Equal
returns-in-Equal c =
    let m = c.loop-low.low + (c.loop-low.high - c.loop-low.low) / 2 in
    let b : m < c.loop-low.high = omega arith in
    let s : m < length c.args.rows.now.rows = omega (arith, b, c.loop-low.invariant.within) in
    ((λ t. stands c.args.rows.now.rows m c.args.row.now s (numbers_exact _ _ (rw c.row.ensures.row at (sym c.in-Equal.ensures)))), (λ q. refl))

pub returns : goal.returns
returns c =
    ((λ t. absurd (false≢true t)), (λ q. absurd (nowhere c.args.rows.now.rows c.loop-low.low c.loop-low.high c.args.row.now c.loop-low-test.false c.loop-low.invariant.below c.loop-low.invariant.above q)))
