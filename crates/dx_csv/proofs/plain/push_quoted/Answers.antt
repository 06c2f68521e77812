use Rattle.std.proofs.Common.{◌≡◌, ◌+◌, ◌∙◌, ℕ, List, true, subst, sym}
use Rattle.dx_csv.specs.Plain.{FirstQuote, is_quote}
use Rattle.dx_csv.proofs.OneField.{quoted-answer, quoted-more, quoted-start}
use Rattle.dx_csv.proofs.plain.push_quoted.Goals as goal

pub loop-part-init : goal.loop-part-init
loop-part-init c = quoted-start c.args.text.now c.args.start c.args.fields.now c.requires

pub returns-then-not-is_quote : goal.returns-then-not-is_quote
returns-then-not-is_quote c =
    let from = c.loop-part.from in
    let quote = c.in-Some.quote in
    let first = subst (λ (t : List ℕ). FirstQuote t from quote) c.as_bytes-bytes.ensures.value c.in-Some.ensures in
    quoted-answer c.end_quoted.result c.args.text.now c.args.start from quote c.args.fields.now c.loop-part.fields c.end_quoted.new.fields c.loop-part.invariant first
    c.end_quoted.ensures.after c.end_quoted.ensures.field

pub loop-part-preserved : goal.loop-part-preserved
loop-part-preserved c =
    let v = c.as_bytes-bytes.ensures.value in
    let from = c.loop-part.from in
    let quote = c.in-Some.quote in
    let first = subst (λ (t : List ℕ). FirstQuote t from quote) v c.in-Some.ensures in
    let doubled = subst (λ (t : List ℕ). is_quote t (quote + 1) ≡ true) v (sym c.is_quote.ensures ∙ c.if-not-is_quote.false) in
    quoted-more c.args.text.now c.args.start from quote c.args.fields.now c.loop-part.fields c.add.new.self c.in-Some-get.part.now c.loop-part.invariant first doubled
    c.in-Some-get.ensures.cases.0 c.in_ok-add.ensures
