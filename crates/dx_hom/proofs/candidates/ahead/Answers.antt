use Rattle.std.proofs.Common.{arith}
use Rattle.std.specs.FinMap as finite
use Rattle.dx_instance.specs.NullMaps.{ByNull}
use Rattle.dx_hom.proofs.Columns.{not_from_on}
use Rattle.dx_hom.proofs.candidates.ahead.Goals as goal

pub loop-column-preserved : goal.loop-column-preserved
loop-column-preserved c =
    let any : ByNull = finite.empty in
    let later = c.in-Some.ensures any in
    record {
      after = omega (arith, later.0, c.loop-column.invariant.after);
      none = λ fixed. not_from_on c.args.into.now fixed c.args.found.now.cells c.args.fact.now c.args.next c.loop-column.place
          c.in-Some.later (c.loop-column.invariant.none fixed) (c.in-Some.ensures fixed).2;
    }
