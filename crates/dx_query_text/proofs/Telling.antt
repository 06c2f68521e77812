-- What the answer of the reader says of tokens.
use Rattle.std.proofs.Common.{◌≡◌, ℕ, zero, suc, ◌-◌, ◌<◌, ◌≤◌, List, length, Result, Ok, Err, Option, Some, None, refl, subst, arith}
use Rattle.dx_tokens.specs.declared.faults.TextFault.{TextFault}
use Rattle.dx_tokens.specs.declared.faults.TextFault.TheVariants.{At}
use Rattle.dx_tokens.specs.declared.faults.TextKind.{TextKind}
use Rattle.dx_tokens.specs.declared.faults.TextKind.TheVariants.{Expected}
use Rattle.dx_tokens.specs.declared.scanner.Lexeme.{Lexeme}
use Rattle.dx_tokens.specs.Judged.{stop_fault, Reads}
use Rattle.dx_tokens.proofs.Judged.{reads_fault}
use Rattle.dx_grammar.specs.Readers.{whole, TellsOfTokens}
use Rattle.dx_grammar.proofs.Spelled.{NotNext, whole_again}
use Rattle.dx_schema_text.specs.Texts.{token_place}
use Rattle.dx_query_text.specs.declared.texts.PartText.{PartText}
use Rattle.dx_query_text.specs.Grammar.{query}
use Rattle.dx_query_text.specs.Reading.{query_reader}
use Rattle.dx_query_text.specs.Spelling.{SpellsQuery}
use Rattle.dx_query_text.specs.Texts.{query_of_tokens}
use Rattle.dx_query_text.proofs.Follows.{begins_part, query_tells}
use Rattle.dx_query_text.proofs.Spelled.{query_again}

-- what the reader answers
abbrev pub given : List Lexeme → Result (List PartText) ℕ
given xs = whole query_reader xs

tells_as : (xs : List Lexeme) (r : Result (List PartText) ℕ) → given xs ≡ r → TellsOfTokens query xs r
tells_as xs r e = subst (TellsOfTokens query xs) e (query_tells xs)

pub spelled_given : (xs : List Lexeme) (parts : List PartText) → SpellsQuery parts xs → given xs ≡ Ok parts
spelled_given xs parts h = whole_again query_reader SpellsQuery (NotNext begins_part) query_again refl parts xs h

pub left_inside : (xs : List Lexeme) (left : ℕ) → 0 < left → given xs ≡ Err left → left ≤ length xs
left_inside xs zero some e = absurd (omega arith)
left_inside xs (suc left) some e = (tells_as xs (Err (suc left)) e).0

pub told_read : (end : ℕ) (stop : Option (ℕ × TextKind)) (xs : List Lexeme) (parts : List PartText) → stop ≡ None → given xs ≡ Ok parts → query_of_tokens end stop xs ≡ Ok parts
unfolding query_of_tokens
told_read end stop xs parts is e = rw (is, e) refl

pub told_stopped : (end : ℕ) (stop : Option (ℕ × TextKind)) (place : ℕ) (kind : TextKind) (xs : List Lexeme) (parts : List PartText) → stop ≡ Some (place, kind) → given xs ≡ Ok parts → query_of_tokens end stop xs ≡ Err (At place kind)
unfolding query_of_tokens
told_stopped end stop place kind xs parts is e = rw (is, e) refl

pub told_open : (end : ℕ) (stop : Option (ℕ × TextKind)) (xs : List Lexeme) (f : TextFault) → given xs ≡ Err 0 → f ≡ stop_fault end stop → Reads (Err f) (query_of_tokens end stop xs)
unfolding query_of_tokens
told_open end stop xs f e is = reads_fault f (query_of_tokens end stop xs) (rw (e, is) refl)

pub told_left : (end : ℕ) (stop : Option (ℕ × TextKind)) (xs : List Lexeme) (left : ℕ) (f : TextFault) → 0 < left → given xs ≡ Err left → f ≡ At (token_place xs (length xs - left)) Expected → Reads (Err f) (query_of_tokens end stop xs)
unfolding query_of_tokens
told_left end stop xs zero f some e is = absurd (omega arith)
told_left end stop xs (suc left) f some e is = reads_fault f (query_of_tokens end stop xs) (rw (e, is) refl)
