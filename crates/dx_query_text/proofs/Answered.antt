-- What is answered of a text is what it says, or its first fault, and the other way round.
use Rattle.std.proofs.Common.{◌≡◌, ◌⊎◌, ℕ, zero, suc, ◌-◌, ◌≤◌, List, [], length, Result, Ok, Err, Option, Some, None, refl, sym, ap, ◌∙◌, subst, inl, inr}
use Rattle.std.proofs.lemmas.Option.{none-some}
use Rattle.dx_tokens.specs.declared.tokenizer.TokenKind.TheVariants.{Word}
use Rattle.dx_tokens.specs.declared.scanner.Lexeme.{Lexeme}
use Rattle.dx_tokens.specs.declared.faults.TextFault.{TextFault}
use Rattle.dx_tokens.specs.declared.faults.TextFault.TheVariants.{At}
use Rattle.dx_tokens.specs.declared.faults.TextKind.{TextKind}
use Rattle.dx_tokens.proofs.Judged.{KeptApart, fault_answered, one_fault_by, never_faulty, stop_is_fault, said_or_faulty}
use Rattle.dx_tokens.specs.Scan.{scan_of}
use Rattle.dx_tokens.proofs.StopKinds.{stop_kind}
use Rattle.dx_grammar.specs.Forms.{Derives, IsFirstUnexpected}
use Rattle.dx_grammar.specs.Readers.{TellsOfTokens}
use Rattle.dx_grammar.proofs.Exact.{whole_start}
use Rattle.dx_grammar.proofs.Spelled.{whole_finds}
use Rattle.dx_grammar.proofs.Faults.{same_ok, same_err, unexpected_at, never_both, one_unexpected, one_told, never_stopped}
use Rattle.dx_schema_text.specs.Texts.{fault_in, judged_tokens, token_place}
use Rattle.dx_schema_text.proofs.Answered.{fault_kind, none_begun, no_fault}
use Rattle.dx_query_text.specs.declared.texts.PartText.{PartText}
use Rattle.dx_query_text.specs.Grammar.{query}
use Rattle.dx_query_text.specs.Reading.{query_reader}
use Rattle.dx_query_text.specs.Spelling.{SpellsQuery}
use Rattle.dx_query_text.specs.Texts.{IsQueryText, IsUnexpectedInQuery, QueryStops, IsQueryTextFault, query_outcome, query_of_tokens, query_of_text}
use Rattle.dx_query_text.proofs.Telling.{given, spelled_given, told_read}
use Rattle.dx_query_text.proofs.Follows.{query_tells}
use Rattle.dx_query_text.proofs.Spelled.{query_finds}

-- ---- a query

pub query_read : (text : List ℕ) (q : List PartText) → IsQueryText text q → query_of_text text ≡ Ok q
query_read text q says =
    let xs = (scan_of text).lexemes in
    let all : judged_tokens text ≡ xs = none_begun (scan_of text).stop xs says.no_stop in
    told_read (length text) (fault_in (scan_of text).stop) (judged_tokens text) q (ap fault_in says.no_stop) (ap given all ∙ spelled_given xs q says.spelled)

ok_told : (end : ℕ) (stop : Option (ℕ × TextKind)) (xs : List Lexeme) (r : Result (List PartText) ℕ) (q : List PartText) → query_outcome end stop xs r ≡ Ok q → (stop ≡ None) × (r ≡ Ok q)
ok_told end stop xs (Err zero) q e = absurd cc
ok_told end stop xs (Err (suc left)) q e = absurd cc
ok_told end None xs (Ok p) q e = (refl, ap (λ (v : List PartText). Ok v) (same_ok p q e))
ok_told end (Some p) xs (Ok r) q e = absurd cc

ok_read : (text : List ℕ) (q : List PartText) → query_of_text text ≡ Ok q → ((scan_of text).stop ≡ None) × (given (judged_tokens text) ≡ Ok q)
unfolding query_of_tokens
ok_read text q e =
    let t = ok_told (length text) (fault_in (scan_of text).stop) (judged_tokens text) (given (judged_tokens text)) q e in
    (no_fault (scan_of text).stop t.0, t.1)

pub text_query : (text : List ℕ) (q : List PartText) → query_of_text text ≡ Ok q → IsQueryText text q
text_query text q e =
    let t = ok_read text q e in
    let all : judged_tokens text ≡ (scan_of text).lexemes = none_begun (scan_of text).stop (scan_of text).lexemes t.0 in
    record { no_stop = t.0; spelled = subst (SpellsQuery q) all (whole_finds query_reader SpellsQuery query_finds (judged_tokens text) q t.1) }

-- ---- a fault

abbrev blank_token : Lexeme
blank_token = record { place = 0; kind = Word; text = [] }

first_unexpected : (text : List ℕ) (left : ℕ) → suc left ≤ length (judged_tokens text) → IsFirstUnexpected query (judged_tokens text) (length (judged_tokens text) - suc left) → IsUnexpectedInQuery text (token_place (judged_tokens text) (length (judged_tokens text) - suc left))
first_unexpected text left le first = unexpected_at query (λ (x : Lexeme). x.place) (judged_tokens text) (length (judged_tokens text) - suc left) blank_token first

err_told : (text : List ℕ) (stop : Option (ℕ × TextKind)) (r : Result (List PartText) ℕ) (e : TextFault) → fault_in (scan_of text).stop ≡ stop → TellsOfTokens query (judged_tokens text) r
    → query_outcome (length text) stop (judged_tokens text) r ≡ Err e → IsQueryTextFault text e
err_told text stop (Err zero) e is h told = subst (IsQueryTextFault text) (same_err _ e told) (stop_is_fault (IsUnexpectedInQuery text) (λ place. ⊥) (QueryStops text) (length text) stop
    (λ p n. (fault_kind (scan_of text).stop p (stop_kind text) (is ∙ n), record { all_stand = h.0; why = inl (is ∙ n) }))
    (λ n. record { all_stand = h.0; why = inr (is ∙ n, refl, refl, h.1) }))
err_told text stop (Err (suc left)) e is h told = subst (IsQueryTextFault text) (same_err _ e told) (first_unexpected text left h.0 h.1)
err_told text (Some p) (Ok q) e is h told = subst (IsQueryTextFault text) (same_err _ e told) (stop_is_fault (IsUnexpectedInQuery text) (λ place. ⊥) (QueryStops text) (length text) (Some p)
    (λ q n. (fault_kind (scan_of text).stop q (stop_kind text) (is ∙ n), record { all_stand = whole_start query (judged_tokens text) h; why = inl (is ∙ n) }))
    (λ n. absurd (none-some p (sym n))))
err_told text None (Ok q) e is h told = absurd cc

pub text_fault : (text : List ℕ) (e : TextFault) → query_of_text text ≡ Err e → IsQueryTextFault text e
unfolding query_of_tokens
text_fault text e told = err_told text (fault_in (scan_of text).stop) (given (judged_tokens text)) e refl (query_tells (judged_tokens text)) told

-- ---- there is one fault, and none where a query is said

at_token : (text : List ℕ) (place : ℕ) → IsUnexpectedInQuery text place ⊎ ⊥ → IsUnexpectedInQuery text place
at_token text place (inl x) = x
at_token text place (inr x) = absurd x

are_apart : (text : List ℕ) → KeptApart (IsUnexpectedInQuery text) (λ place. ⊥) (QueryStops text)
are_apart text = record {
  unexpected = λ p q x y. (one_unexpected x y).1;
  deeper = λ p q x y. absurd x;
  stopped = λ p q k l x y. one_told (λ place kind. At place kind) x refl y refl;
  not_both = λ p q x y. y;
  not_stopped = λ p q k x y. never_both (at_token text p x) y.all_stand;
}

-- a text that says a query has no fault
no_fault_said : (text : List ℕ) (q : List PartText) (e : TextFault) → query_of_text text ≡ Ok q → ¬ (IsQueryTextFault text e)
no_fault_said text q e r h =
    let all : Derives query (judged_tokens text) = subst (TellsOfTokens query (judged_tokens text)) (ok_read text q r).1 (query_tells (judged_tokens text)) in
    never_faulty (IsUnexpectedInQuery text) (λ place. ⊥) (QueryStops text) (λ p x. never_both (at_token text p x) (whole_start query (judged_tokens text) all))
    (λ p k x. never_stopped (ap fault_in (ok_read text q r).0) all x) e h

-- ---- a text says one thing

pub one_query : (text : List ℕ) (p q : List PartText) → IsQueryText text p → IsQueryText text q → p ≡ q
one_query text p q a b = same_ok p q (sym (query_read text p a) ∙ query_read text q b)

pub one_fault : (text : List ℕ) (e f : TextFault) → IsQueryTextFault text e → IsQueryTextFault text f → e ≡ f
one_fault text e f a b = one_fault_by (IsUnexpectedInQuery text) (λ place. ⊥) (QueryStops text) (are_apart text) e f a b

pub query_or_fault : (text : List ℕ) → ((q : List PartText) × IsQueryText text q) ⊎ ((e : TextFault) × IsQueryTextFault text e)
query_or_fault text = said_or_faulty (IsQueryText text) (IsQueryTextFault text) (query_of_text text) (text_query text) (text_fault text)

pub never_said_and_faulty : (text : List ℕ) (q : List PartText) (e : TextFault) → IsQueryText text q → ¬ (IsQueryTextFault text e)
never_said_and_faulty text q e says = no_fault_said text q e (query_read text q says)

-- the first fault is answered
pub fault_read : (text : List ℕ) (e : TextFault) → IsQueryTextFault text e → query_of_text text ≡ Err e
fault_read text e fault = fault_answered (IsQueryTextFault text) (query_of_text text) (one_fault text) (text_fault text) (λ q is f. no_fault_said text q f is) e fault
