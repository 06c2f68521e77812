use Rattle.std.proofs.Common.{[], ◌∷◌}
use Rattle.std.specs.Prelude.{codes}
use Rattle.clio_files.proofs.sheets.push_nulls_header.Goals as goal

pub returns : goal.returns
returns c = λ h.
    let a = c.in_ok-field.ensures [] [] h in
    let b = c.in_ok-field-2.ensures [] (codes "null" ∷ []) a in
    let d = c.in_ok-field-3.ensures [] (codes "null" ∷ codes "variable" ∷ []) b in
    c.end.ensures [] (codes "null" ∷ codes "variable" ∷ codes "value" ∷ []) d
