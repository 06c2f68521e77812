use Rattle.std.proofs.lemmas.Result.{err_from_is_err_and}
use Rattle.dx_query_text.proofs.Over.{names_read, parts_refused, read_narrow}
use Rattle.dx_query_text.proofs.read.read.Goals as goal

pub named_query-requires : goal.named_query-requires
named_query-requires c = rw c.items.ensures (read_narrow c.args.text.now c.in_ok-parts.parts c.requires.few c.in_ok-parts.ensures)

pub returns-in_err-parts : goal.returns-in_err-parts
returns-in_err-parts c =
    let p = err_from_is_err_and c.from_residual.result c.from_residual.ensures.1 in
    rw (p.1, p.2) (parts_refused c.args.target.now c.args.text.now c.in_err-parts.field-0.0 c.in_err-parts.ensures)

pub returns : goal.returns
returns c = names_read c.args.target.now c.args.text.now c.in_ok-parts.parts c.named_query.result c.in_ok-parts.ensures (rw c.items.ensures at c.named_query.ensures)
