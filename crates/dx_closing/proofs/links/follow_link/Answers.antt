use Rattle.std.proofs.Common.{sym, ◌∙◌}
use Rattle.std.proofs.lemmas.Result.{MatchResult-weaker}
use Rattle.dx_schema.specs.Tables.{model_tables}
use Rattle.dx_closing.proofs.Steps.{not_served_wide}
use Rattle.dx_closing.proofs.links.follow_link.Goals as goal

pub returns-clause-wide : goal.returns-clause-wide
returns-clause-wide c =
    let s = sym c.is_served.ensures ∙ c.if-is_served.false in
    let t = rw (c.as_slice.ensures.value, c.in_ok-cells.ensures, c.items.ensures, c.items-2.ensures) at s in
    MatchResult-weaker c.supply.result c.supply.ensures.wide (λ x p. p) (λ e k i. not_served_wide (model_tables c.args.target.now) c.args.row.now c.args.growing.now c.args.link.now t (k i))
