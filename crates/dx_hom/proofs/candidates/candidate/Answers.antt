use Rattle.std.proofs.Common.{arith}
use Rattle.std.specs.FinMap as finite
use Rattle.dx_instance.specs.NullMaps.{ByNull}
use Rattle.dx_hom.proofs.Columns.{not_from_on}
use Rattle.dx_hom.proofs.candidates.candidate.Goals as goal

pub returns-then-later-place : goal.returns-then-later-place
returns-then-later-place c fixed =
    let later = c.in-Some.ensures fixed in
    (c.loop-later.invariant.after, omega (arith, later.1, c.if-later-place.true), c.loop-later.invariant.none fixed)

pub loop-later-smaller : goal.loop-later-smaller
loop-later-smaller c =
    let any : ByNull = finite.empty in
    let later = c.in-Some.ensures any in
    omega (arith, later.0, later.1, c.if-later-place.false)

pub loop-later-preserved : goal.loop-later-preserved
loop-later-preserved c =
    let any : ByNull = finite.empty in
    let later = c.in-Some.ensures any in
    record {
      after = omega (arith, later.0, c.loop-later.invariant.after);
      none = λ fixed. not_from_on c.args.into.now fixed c.args.found.now.cells c.args.fact.now c.args.next c.loop-later.place
          c.in-Some.later (c.loop-later.invariant.none fixed) (c.in-Some.ensures fixed).2;
    }
