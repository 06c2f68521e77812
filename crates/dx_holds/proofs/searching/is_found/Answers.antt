use Rattle.std.proofs.Common.{ℕ}
use Rattle.dx_holds.proofs.Finding.{ex_found}
use Rattle.dx_holds.proofs.searching.is_found.Goals as goal

pub returns-in-Ex : goal.returns-in-Ex
returns-in-Ex c = rw (c.is_some.ensures, c.in-Ex.is) (ex_found c.args.found.now c.in-Ex.variable c.found_at.result c.found_at.ensures)
