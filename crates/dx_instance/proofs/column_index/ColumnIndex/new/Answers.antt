use Rattle.std.proofs.Common.{◌≡◌, arith, length}
use Rattle.dx_instance.proofs.IndexFacts.{index_is}
use Rattle.dx_instance.proofs.column_index.ColumnIndex.new.Goals as goal

pub returns-clause-index : goal.returns-clause-index
returns-clause-index c =
    let all : c.loop-place.place ≡ length c.args.rows.now.rows = omega (arith, c.count-place-end.ensures.count, c.loop-place-test.false, c.loop-place.auto.place-end) in
    index_is c.args.rows.now.rows c.loop-place.entries.items (record { column = c.args.column; entries = c.sort_unstable.new.self }) (rw all at c.loop-place.invariant) c.sort_unstable.ensures.permutation c.sort_unstable.ensures.sorted
