-- What the answer of the reader says of tokens.
use Rattle.std.proofs.Common.{◌≡◌, ℕ, zero, suc, ◌-◌, ◌<◌, ◌≤◌, List, length, Result, Ok, Err, Option, Some, None, refl, subst, arith}
use Rattle.dx_tokens.specs.declared.faults.TextFault.{TextFault}
use Rattle.dx_tokens.specs.declared.faults.TextFault.TheVariants.{At}
use Rattle.dx_tokens.specs.declared.faults.TextKind.{TextKind}
use Rattle.dx_tokens.specs.declared.faults.TextKind.TheVariants.{Expected}
use Rattle.dx_script_tokens.specs.declared.scanner.ScriptToken.{ScriptToken}
use Rattle.dx_script_tokens.specs.Numbers.{greatest_number}
use Rattle.dx_tokens.specs.Judged.{stop_fault, Reads}
use Rattle.dx_tokens.proofs.Judged.{reads_fault}
use Rattle.dx_grammar.specs.Readers.{whole, TellsOfTokens}
use Rattle.dx_grammar.proofs.Told.{answers}
use Rattle.dx_grammar.proofs.Combined.{stops_end}
use Rattle.dx_grammar.proofs.Verdicts.{Stops}
use Rattle.dx_grammar.proofs.Spelled.{NotNext, whole_again}
use Rattle.dx_script.specs.declared.form.Step.{Step}
use Rattle.dx_script_text.specs.Reading.{begins_step, script_reader}
use Rattle.dx_script_text.specs.Spelling.{SpellsScript}
use Rattle.dx_script_text.specs.Texts.{script_form, script_token_place, script_of_tokens}
use Rattle.dx_script_text.proofs.Follows.{script_reads}
use Rattle.dx_script_text.proofs.Again.{script_again}

-- what the reader answers
abbrev pub given : List ScriptToken → Result (List Step) ℕ
given xs = whole (script_reader greatest_number) xs

pub script_tells : (xs : List ScriptToken) → TellsOfTokens script_form xs (given xs)
script_tells xs = answers (Stops begins_step) script_form (script_reader greatest_number) (script_reads greatest_number) (stops_end begins_step) xs

pub tells_as : (xs : List ScriptToken) (r : Result (List Step) ℕ) → given xs ≡ r → TellsOfTokens script_form xs r
tells_as xs r e = subst (TellsOfTokens script_form xs) e (script_tells xs)

pub spelled_given : (xs : List ScriptToken) (s : List Step) → SpellsScript greatest_number s xs → given xs ≡ Ok s
spelled_given xs s h = whole_again (script_reader greatest_number) (SpellsScript greatest_number) (NotNext begins_step) (script_again greatest_number) refl s xs h

pub left_inside : (xs : List ScriptToken) (left : ℕ) → 0 < left → given xs ≡ Err left → left ≤ length xs
left_inside xs zero some e = absurd (omega arith)
left_inside xs (suc left) some e = (tells_as xs (Err (suc left)) e).0

pub told_read : (end : ℕ) (stop : Option (ℕ × TextKind)) (xs : List ScriptToken) (s : List Step) → stop ≡ None → given xs ≡ Ok s → script_of_tokens end stop xs ≡ Ok (record { steps = s })
unfolding script_of_tokens
told_read end stop xs s is e = rw (is, e) refl

pub told_stopped : (end : ℕ) (stop : Option (ℕ × TextKind)) (place : ℕ) (kind : TextKind) (xs : List ScriptToken) (s : List Step) → stop ≡ Some (place, kind) → given xs ≡ Ok s → script_of_tokens end stop xs ≡ Err (At place kind)
unfolding script_of_tokens
told_stopped end stop place kind xs s is e = rw (is, e) refl

pub told_open : (end : ℕ) (stop : Option (ℕ × TextKind)) (xs : List ScriptToken) (f : TextFault) → given xs ≡ Err 0 → f ≡ stop_fault end stop → Reads (Err f) (script_of_tokens end stop xs)
unfolding script_of_tokens
told_open end stop xs f e is = reads_fault f (script_of_tokens end stop xs) (rw (e, is) refl)

pub told_left : (end : ℕ) (stop : Option (ℕ × TextKind)) (xs : List ScriptToken) (left : ℕ) (f : TextFault) → 0 < left → given xs ≡ Err left → f ≡ At (script_token_place xs (length xs - left)) Expected → Reads (Err f) (script_of_tokens end stop xs)
unfolding script_of_tokens
told_left end stop xs zero f some e is = absurd (omega arith)
told_left end stop xs (suc left) f some e is = reads_fault f (script_of_tokens end stop xs) (rw (e, is) refl)
