use Rattle.std.proofs.lemmas.Result.{err_from_is_err_and}
use Rattle.clio_steps.specs.Steps.{wanted}
use Rattle.clio_steps.proofs.SameExchange.{none_read}
use Rattle.clio_steps.proofs.source.read_used_rows.Goals as goal

pub returns-in_err-widths : goal.returns-in_err-widths
returns-in_err-widths g c =
    let p = err_from_is_err_and c.from_residual.result c.from_residual.ensures.1 in
    rw (p.1, p.2) (none_read g.M.Meaning.passes c.args.mapping.now.rules (wanted c.args.mapping.now) _)

pub returns-in_err-used : goal.returns-in_err-used
returns-in_err-used g c =
    let p = err_from_is_err_and c.from_residual-in_err-used.result c.from_residual-in_err-used.ensures.1 in
    rw (p.1, p.2) (none_read g.M.Meaning.passes c.args.mapping.now.rules (wanted c.args.mapping.now) _)

pub returns : goal.returns
returns g c = (c.in_ok-used.used.items, rw c.items.ensures at c.in_ok-used.ensures.only, rw c.deref-2.ensures.value at c.read_rows.ensures)

pub read_rows-requires-clause-named : goal.read_rows-requires-clause-named
read_rows-requires-clause-named g c = rw c.deref-2.ensures.value (rw c.items-conditions.ensures at c.in_ok-used.ensures.named)
