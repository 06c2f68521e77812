use Rattle.std.proofs.Common.{[], ◌∷◌}
use Rattle.dx_instance.specs.ValueText.{const_text}
use Rattle.dx_rule_text.specs.Printed.{variable_text}
use Rattle.clio_files.proofs.sheets.push_term.Goals as goal

pub returns : goal.returns
returns c = λ rs h.
    let null = c.args.null.now in
    let name = variable_text c.args.variable in
    let a = c.in_ok-plain_field.ensures rs [] h in
    let b = c.in_ok-numbered.ensures rs (null ∷ []) a in
    let d = c.in_ok-constant.ensures rs (null ∷ name ∷ []) b in
    c.end.ensures rs (null ∷ name ∷ const_text c.args.text.now ∷ []) d
