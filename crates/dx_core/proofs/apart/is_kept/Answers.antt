use Rattle.std.proofs.Common.{◌∙◌, sym}
use Rattle.std.specs.Prelude.{None}
use Rattle.dx_core.proofs.NeverMoved.{kept_null}
use Rattle.dx_core.proofs.Spared.{is_at}
use Rattle.dx_core.proofs.apart.is_kept.Goals as goal

pub returns-in-Some-Some : goal.returns-in-Some-Some
returns-in-Some-Some c = λ e T k.
    let place = c.in-Ok.place in
    kept_null c.args.numbers.now T c.args.nulls.now c.args.known.now c.args.number place c.in-Some-Some.field-0-0 c.in-Null.field-0
    (sym c.value.ensures ∙ c.in-Null.is) (is_at c.args.nulls.now c.args.number place c.in-Ok.ensures.ok)
    (sym (c.in-Some-Some.ensures.lookup.3.1 None) ∙ c.in-Some-Some.field-0-is) k
