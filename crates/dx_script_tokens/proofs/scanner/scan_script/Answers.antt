use Rattle.std.proofs.Common.{◌≡◌, ℕ, ◌+◌, List, [], ◌∷◌, ◌++◌, length, take, arith, sym, ap, ◌∙◌, subst}
use Rattle.dx_script_tokens.specs.Scan.{SaysUtf8, token_of}
use Rattle.std.specs.Prelude.{IfOk}
use Rattle.dx_script_tokens.specs.declared.scanner.ScriptToken.{ScriptToken}
use Rattle.dx_script_tokens.specs.declared.scanner.ScriptScan.{ScriptScan}
use Rattle.dx_script_tokens.proofs.Passing.{scan_reads, scan_blank, scan_token, scan_end}
use Rattle.dx_script_tokens.proofs.Utf8.{piece_utf8}
use Rattle.dx_script_tokens.proofs.scanner.scan_script.Goals as goal

pub bytes-preserved-in-Blank : goal.bytes-preserved-in-Blank
bytes-preserved-in-Blank c = record {
  reads = scan_blank c.bytes.place c.in-Some.b.now c.in-Some.others.now c.bytes.rest.now c.bytes.tokens _ c.in-Some.ensures.cases.0 c.in-Blank.ensures.value c.bytes.invariant.reads;
  adds_up = omega (arith, c.in-Some.ensures.cases.1, c.bytes.invariant.adds_up);
}

pub token-requires : goal.token-requires
token-requires c =
    let P : List ℕ → Type 0 = λ bs. SaysUtf8 c.in-Token.shape bs in
    subst P (ap (take c.in-Token.len) (sym c.in-Some.ensures.cases.0) ∙ sym c.split_at.ensures.front)
    (piece_utf8 c.in-Some.b.now c.in-Some.others.now c.in-Token.shape c.in-Token.len (sym c.in-Token.ensures.value))

pub bytes-preserved : goal.bytes-preserved
bytes-preserved c =
    let pushed : c.push.new.self ≡ c.bytes.tokens ++ token_of c.bytes.place c.in-Token.shape (take c.in-Token.len c.bytes.rest.now) ∷ [] =
    c.in_ok-push-in-Token.ensures.ok ∙ ap (λ (t : ScriptToken). c.bytes.tokens ++ t ∷ []) (c.in_ok-token-in-Token.ensures ∙ ap (token_of c.bytes.place c.in-Token.shape) c.split_at.ensures.front) in
    record {
      reads = scan_token c.bytes.place c.in-Some.b.now c.in-Token.len c.in-Token.shape c.in-Some.others.now c.bytes.rest.now c.split_at.result.1.now c.bytes.tokens c.push.new.self _ c.in-Some.ensures.cases.0 c.in-Token.ensures.value c.in-Token.ensures.within.0 c.in-Token.ensures.within.1 c.split_at.ensures.back pushed c.bytes.invariant.reads;
      adds_up = omega (arith, c.split_at.ensures.back_len, c.bytes.invariant.adds_up);
    }

pub returns-in-Fault : goal.returns-in-Fault
returns-in-Fault c =
    let reads = scan_reads c.bytes.place c.in-Some.b.now c.in-Some.others.now c.bytes.rest.now _ c.bytes.tokens _ c.in-Some.ensures.cases.0 c.in-Fault.ensures.value c.bytes.invariant.reads in
    subst (λ (w : ScriptScan). IfOk c.stopped_at.result (λ s. s ≡ w)) reads c.stopped_at.ensures

pub returns-in-Cut : goal.returns-in-Cut
returns-in-Cut c =
    let end : c.bytes.place + 1 + length c.in-Some.others.now ≡ length c.args.text.now = omega (arith, c.in-Some.ensures.cases.1, c.bytes.invariant.adds_up) in
    let reads = scan_reads c.bytes.place c.in-Some.b.now c.in-Some.others.now c.bytes.rest.now _ c.bytes.tokens _ c.in-Some.ensures.cases.0 c.in-Cut.ensures.value c.bytes.invariant.reads in
    subst (λ (w : ScriptScan). IfOk c.stopped_at-in-Cut.result (λ s. s ≡ w)) (rw (← end) reads) c.stopped_at-in-Cut.ensures

pub returns : goal.returns
returns c = sym (scan_end c.bytes.place c.bytes.rest.now c.bytes.tokens _ c.in_default.ensures.cases c.bytes.invariant.reads)
