use Rattle.std.proofs.Common.{◌≤◌, List, ℕ, length, subst}
use Rattle.dx_csv.proofs.OneField.{JoinFrom, plain-field}
use Rattle.dx_csv.proofs.plain.push_field.Goals as goal

pub returns : goal.returns
returns c =
    let v = c.as_bytes-bytes.ensures.value in
    let start = c.args.start in
    let end = c.end_of_field-end.result in (
      c.in-Some.field.now,
      plain-field c.args.text.now start end c.in-Some.field.now c.end_of_field-end.ensures.from (subst (λ (t : List ℕ). end ≤ length t) v c.end_of_field-end.ensures.within)
          (subst (λ (t : List ℕ). JoinFrom t start end) v c.end_of_field-end.ensures.joins) c.in-Some.ensures.cases.0,
      c.in_ok-push.ensures,
    )
