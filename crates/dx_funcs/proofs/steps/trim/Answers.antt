use Rattle.std.proofs.Common.{◌≡◌, ◌∙◌, ap}
use Rattle.dx_funcs.specs.Shipped.{trimmed, without_spaces_at_the_end}
use Rattle.dx_funcs.proofs.Trims.{front_trimmed, end_trimmed}
use Rattle.dx_funcs.proofs.steps.trim.Goals as goal

pub returns : goal.returns
returns c =
    let front = front_trimmed c.as_str.result.now c.trim_start_matches-rest.result.now c.trim_start_matches-rest.ensures.matches in
    let e : c.trim_end_matches.result.now ≡ trimmed c.args.text.now =
    end_trimmed c.trim_start_matches-rest.result.now c.trim_end_matches.result.now c.trim_end_matches.ensures.matches
    ∙ ap without_spaces_at_the_end front
    ∙ ap trimmed c.as_str.ensures in
    rw e at c.from_str.ensures
