use Rattle.std.proofs.Common.{[], ◌∷◌}
use Rattle.dx_instance.specs.ValueText.{null_text, value_text_of}
use Rattle.clio_files.proofs.sheets.push_pair.Goals as goal

pub returns : goal.returns
returns c = λ rs h.
    let null = null_text c.args.pair.now.null in
    let a = c.in_ok-value.ensures rs [] h in
    let b = c.in_ok-value-2.ensures rs (null ∷ []) a in
    c.end.ensures rs (null ∷ value_text_of c.args.pair.now.value ∷ []) b
