use Rattle.dx_tgd.proofs.Founds.{is_reordered}
use Rattle.dx_tgd.proofs.found.one_in_order.Goals as goal

pub returns-clause-same : goal.returns-clause-same
returns-clause-same c = is_reordered c.args.symbols c.in_ok-symbols.field-0.symbols c.in_ok-symbols.field-0.ranks.items c.args.rows c.in_ok-rows.rows c.in_ok-symbols.ensures c.requires.texts (rw c.deref.ensures.value at c.in_ok-rows.ensures)
