use Rattle.dx_holds.proofs.Agreeing.{row_leads}
use Rattle.dx_holds.proofs.links.has_target.Goals as goal

pub returns : goal.returns
returns c =
    rw c.is_some.ensures (row_leads c.args.instance.now c.args.table c.args.place c.args.link.now c.next_like.result (rw (c.items.ensures, c.items-2.ensures) at c.next_like.ensures))
