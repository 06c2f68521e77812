use Rattle.std.proofs.Common.{◌≡◌, ◌∙◌, sym, ap}
use Rattle.std.proofs.lemmas.Result.{IfOk-weaker}
use Rattle.dx_funcs.specs.Shipped.{digits_of}
use Rattle.std.specs.String.{string_bytes}
use Rattle.dx_funcs.proofs.Digits.{digit_kept, other_left_out, digits_seen}
use Rattle.dx_funcs.proofs.steps.digits.Goals as goal
use Rattle.dx_funcs.proofs.steps.digits.Goals.{then-is_ascii_digit+in_ok-push, else-is_ascii_digit}

pub loop-byte-preserved : goal.loop-byte-preserved
loop-byte-preserved c = elim c.if-is_ascii_digit.branch [
  | then-is_ascii_digit+in_ok-push w ↦ ap string_bytes w.kept-is ∙ digit_kept c.bytes-byte-items.result.now (string_bytes c.loop-byte.kept) (string_bytes w.push.new.self) c.loop-byte.byte-index w.from.result c.loop-byte-test.true c.loop-byte.invariant (sym c.is_ascii_digit.ensures.value ∙ w.if-is_ascii_digit.true) w.if-is_ascii_digit.ensures.cases w.from.ensures w.in_ok-push.ensures.bytes
  | else-is_ascii_digit w ↦ ap string_bytes w.kept-is ∙ other_left_out c.bytes-byte-items.result.now (string_bytes c.loop-byte.kept) c.loop-byte.byte-index c.loop-byte-test.true c.loop-byte.invariant (sym c.is_ascii_digit.ensures.value ∙ w.if-is_ascii_digit.false)
]

pub returns : goal.returns
returns c = IfOk-weaker c.from_string.result (λ t. t ≡ string_bytes c.loop-byte.kept) (λ t. t ≡ digits_of c.args.text.now) (λ t e. e ∙ digits_seen c.args.text.now c.bytes-byte-items.result.now (string_bytes c.loop-byte.kept) c.loop-byte.byte-index c.bytes-byte-items.ensures.value c.loop-byte-test.false c.loop-byte.invariant) c.from_string.ensures
