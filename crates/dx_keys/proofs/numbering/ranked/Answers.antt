use Rattle.std.proofs.Common.{◌<◌, [], sym, subst, length, arith}
use Rattle.dx_base.proofs.Members.{in_at}
use Rattle.dx_instance.specs.Cells.{NumberTable}
use Rattle.dx_instance.specs.Shown.{NumbersFit}
use Rattle.dx_keys.proofs.numbering.ranked.Goals as goal

pub renumbered-requires : goal.renumbered-requires
renumbered-requires c =
    let h : c.loop-table.table < length c.args.numbers.now.tables = omega (arith, c.loop-table-test.true, c.tables-table-end.ensures) in
    let f = c.requires.fit.each _ (in_at c.args.numbers.now.tables c.loop-table.table (record { width = 0; rows = [] }) h) in
    let g = subst (λ (t : NumberTable). NumbersFit (length c.args.numbers.now.symbols) t) (sym c.in_ok-rows.ensures) f in
    rw c.requires.ranks g.within
