use Rattle.std.proofs.Common.{arith, []}
use Rattle.std.specs.FinMap as finite
use Rattle.dx_base.proofs.Members.{in_at}
use Rattle.dx_instance.specs.NullMaps.{ByNull}
use Rattle.dx_instance.specs.Stored.{table_at}
use Rattle.dx_hom.proofs.candidates.count_to.Goals as goal

pub overflow_add-next : goal.overflow_add-next
overflow_add-next c =
    let any : ByNull = finite.empty in
    let place = c.in-Some.ensures any in
    let table = in_at c.args.into.now c.args.fact.now.table (record { width = 0; rows = [] }) c.requires.fits.table in
    let few = c.tables.ensures.few (table_at c.args.into.now c.args.fact.now.table) table in
    omega (arith, place.1, few)
