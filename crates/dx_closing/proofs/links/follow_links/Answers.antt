use Rattle.std.proofs.Common.{refl}
use Rattle.std.proofs.lemmas.Result.{err_from_is_err_and}
use Rattle.dx_schema.specs.Tables.{model_tables}
use Rattle.dx_closing.proofs.Steps.{in_item, links_wide}
use Rattle.dx_closing.proofs.links.follow_links.Goals as goal

pub follow_link-requires-clause-link : goal.follow_link-requires-clause-link
follow_link-requires-clause-link c = c.requires.links c.link-item.result (in_item c.args.links.now c.loop-link.link-index c.link-item.result _ c.loop-link-test.true c.link-item.is refl)

pub returns-in_err-follow_link-clause-wide : goal.returns-in_err-follow_link-clause-wide
returns-in_err-follow_link-clause-wide c =
    let p = err_from_is_err_and c.from_residual.result c.from_residual.ensures.1 in
    rw (p.1, p.2)
    (λ e. links_wide (model_tables c.args.target.now) c.args.row.now c.loop-link.growing _ c.args.links.now c.loop-link.link-index c.link-item.result c.loop-link-test.true c.link-item.is c.loop-link.invariant.0 (c.in_err-follow_link.ensures.wide e))
