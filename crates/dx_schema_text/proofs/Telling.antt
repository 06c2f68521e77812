-- What is told of tokens.
use Rattle.std.proofs.Common.{◌≡◌, ◌⊎◌, ℕ, zero, suc, ◌<◌, ◌≤◌, List, length, Result, Ok, Err, Option, Some, None, true, refl, sym, ap, ◌∙◌, subst, arith, inl, inr}
use Rattle.dx_tokens.specs.declared.scanner.Lexeme.{Lexeme}
use Rattle.dx_tokens.specs.declared.faults.TextFault.{TextFault}
use Rattle.dx_tokens.specs.declared.faults.TextFault.TheVariants.{At, Memory}
use Rattle.dx_tokens.specs.declared.faults.TextKind.{TextKind}
use Rattle.dx_tokens.specs.Judged.{stop_fault, Reads}
use Rattle.dx_tokens.proofs.Judged.{reads_fault}
use Rattle.dx_grammar.specs.Readers.{whole, TellsOfTokens}
use Rattle.dx_grammar.proofs.Told.{answers}
use Rattle.dx_grammar.proofs.Combined.{stops_end}
use Rattle.dx_schema_text.specs.declared.texts.MappingText.{MappingText}
use Rattle.dx_schema_text.specs.Grammar.{mapping}
use Rattle.dx_schema_text.specs.Reading.{begins_item, mapping_reader}
use Rattle.dx_schema_text.specs.Texts.{deepest, stops_by, unexpected, mapping_of_tokens}
use Rattle.dx_schema_text.proofs.Follows.{NoItem, mapping_reads}

-- what the answer of the reader says of tokens
pub mapping_tells : (levels : ℕ) (xs : List Lexeme) → TellsOfTokens (mapping levels) xs (whole (mapping_reader levels) xs)
mapping_tells levels xs = answers NoItem (mapping levels) (mapping_reader levels) (mapping_reads levels) (stops_end (begins_item true)) xs

tells_err : (levels : ℕ) (xs : List Lexeme) (r : Result MappingText ℕ) → whole (mapping_reader levels) xs ≡ r → TellsOfTokens (mapping levels) xs r
tells_err levels xs r e = subst (TellsOfTokens (mapping levels) xs) e (mapping_tells levels xs)

pub left_inside : (levels : ℕ) (xs : List Lexeme) (left : ℕ) → 0 < left → whole (mapping_reader levels) xs ≡ Err left → left ≤ length xs
left_inside levels xs zero some e = absurd (omega arith)
left_inside levels xs (suc left) some e = (tells_err levels xs (Err (suc left)) e).0

pub told_read : (end : ℕ) (stop : Option (ℕ × TextKind)) (xs : List Lexeme) (m : MappingText) → stop ≡ None → whole (mapping_reader deepest) xs ≡ Ok m → mapping_of_tokens end stop xs ≡ Ok m
unfolding mapping_of_tokens
told_read end stop xs m is e = rw (is, e) refl

pub told_stopped : (end : ℕ) (stop : Option (ℕ × TextKind)) (place : ℕ) (kind : TextKind) (xs : List Lexeme) (m : MappingText) → stop ≡ Some (place, kind) → whole (mapping_reader deepest) xs ≡ Ok m → mapping_of_tokens end stop xs ≡ Err (At place kind)
unfolding mapping_of_tokens
told_stopped end stop place kind xs m is e = rw (is, e) refl

pub told_open : (end : ℕ) (stop : Option (ℕ × TextKind)) (xs : List Lexeme) (f : TextFault) → whole (mapping_reader deepest) xs ≡ Err 0 → f ≡ stop_fault end stop → Reads (Err f) (mapping_of_tokens end stop xs)
unfolding mapping_of_tokens
told_open end stop xs f e is = reads_fault f (mapping_of_tokens end stop xs) (rw (e, is) refl)

told_left : (end : ℕ) (stop : Option (ℕ × TextKind)) (xs : List Lexeme) (left : ℕ) → 0 < left → whole (mapping_reader deepest) xs ≡ Err left → mapping_of_tokens end stop xs ≡ Err (unexpected xs left (stops_by left (whole (mapping_reader 16) xs)))
unfolding mapping_of_tokens
told_left end stop xs zero some e = absurd (omega arith)
told_left end stop xs (suc left) some e = rw e refl

pub told_unexpected : (end : ℕ) (stop : Option (ℕ × TextKind)) (xs : List Lexeme) (left : ℕ) (f : TextFault) → 0 < left → whole (mapping_reader deepest) xs ≡ Err left
    → (f ≡ Memory) ⊎ (f ≡ unexpected xs left (stops_by left (whole (mapping_reader 16) xs))) → Reads (Err f) (mapping_of_tokens end stop xs)
told_unexpected end stop xs left f some e (inl m) = rw m tt
told_unexpected end stop xs left f some e (inr is) = reads_fault f (mapping_of_tokens end stop xs) (told_left end stop xs left some e ∙ ap (λ g. Err g) (sym is))
