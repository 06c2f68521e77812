-- What is answered of a text is what it says, or its first fault, and the other way round.
use Rattle.std.proofs.Common.{◌≡◌, ◌⊎◌, ℕ, zero, suc, ◌-◌, ◌<◌, ◌≤◌, Bool, true, false, List, [], ◌++◌, length, take, Result, Ok, Err, Option, Some, None, refl, sym, ap, ◌∙◌, subst, arith, inl, inr}
use Rattle.std.specs.Prelude.{IfOk, IfErr}
use Rattle.std.proofs.lemmas.List.{append-nil}
use Rattle.std.proofs.lemmas.Option.{none-some, same_Some}
use Rattle.dx_tokens.specs.declared.tokenizer.TokenKind.TheVariants.{Word}
use Rattle.dx_tokens.specs.declared.scanner.Lexeme.{Lexeme}
use Rattle.dx_tokens.specs.declared.scanner.Stop.{Stop}
use Rattle.dx_tokens.specs.declared.faults.TextFault.{TextFault}
use Rattle.dx_tokens.specs.declared.faults.TextFault.TheVariants.{At}
use Rattle.dx_tokens.specs.declared.faults.TextKind.{TextKind}
use Rattle.dx_tokens.specs.declared.faults.TextKind.TheVariants.{Character, Ended}
use Rattle.dx_tokens.specs.Judged.{Reads}
use Rattle.dx_tokens.proofs.Judged.{KeptApart, one_fault_by, never_faulty, stop_is_fault, said_or_faulty, fault_answered, reads_ok, reads_err}
use Rattle.dx_tokens.specs.Scan.{scan_of}
use Rattle.dx_tokens.proofs.StopKinds.{stop_kind}
use Rattle.dx_grammar.specs.Forms.{Derives, Starts, IsFirstUnexpected}
use Rattle.dx_grammar.specs.Readers.{whole, TellsOfTokens}
use Rattle.dx_grammar.proofs.Told.{start_take}
use Rattle.dx_grammar.proofs.Exact.{whole_start}
use Rattle.dx_grammar.proofs.Spelled.{whole_again, whole_finds}
use Rattle.dx_grammar.proofs.Counted.{not_le_test, le_test}
use Rattle.dx_grammar.proofs.Faults.{same_ok, same_err, stands, unexpected_at, never_both, one_unexpected, one_told, never_stopped}
use Rattle.dx_schema_text.specs.declared.texts.MappingText.{MappingText}
use Rattle.dx_schema_text.specs.Reading.{mapping_reader}
use Rattle.dx_schema_text.specs.Spelling.{SpellsMapping}
use Rattle.dx_schema_text.specs.Texts.{deepest, mapping_form, deeper_form, begun_in, judged_tokens, IsMappingText, IsUnexpectedInMapping, StandsDeeper, StandsNowhere, StandsTooDeep, MappingStops, IsMappingTextFault, fault_in, stops_by, token_place, unexpected, mapping_outcome, mapping_of_tokens, mapping_of_text, IsMappingFaultOrMemory}
use Rattle.dx_schema_text.proofs.Found.{mapping_finds}
use Rattle.dx_schema_text.proofs.Again.{NoItemNext, mapping_again}
use Rattle.dx_schema_text.proofs.Telling.{mapping_tells, told_read}

-- ---- a mapping

pub no_fault : (o : Option Stop) → fault_in o ≡ None → o ≡ None
no_fault None e = refl
no_fault (Some s) e = absurd cc

pub none_begun : (o : Option Stop) (xs : List Lexeme) → o ≡ None → xs ++ begun_in o ≡ xs
none_begun o xs e = rw e (append-nil xs)

pub mapping_read : (text : List ℕ) (m : MappingText) → IsMappingText text m → mapping_of_text text ≡ Ok m
mapping_read text m says =
    let xs = (scan_of text).lexemes in
    let all : judged_tokens text ≡ xs = none_begun (scan_of text).stop xs says.no_stop in
    let read : whole (mapping_reader deepest) xs ≡ Ok m = whole_again (mapping_reader deepest) (SpellsMapping deepest) NoItemNext (mapping_again deepest) refl m xs says.spelled in
    told_read (length text) (fault_in (scan_of text).stop) (judged_tokens text) m (ap fault_in says.no_stop) (ap (whole (mapping_reader deepest)) all ∙ read)

ok_told : (end : ℕ) (stop : Option (ℕ × TextKind)) (xs : List Lexeme) (r d : Result MappingText ℕ) (m : MappingText) → mapping_outcome end stop xs r d ≡ Ok m → (stop ≡ None) × (r ≡ Ok m)
ok_told end stop xs (Err zero) d m e = absurd cc
ok_told end stop xs (Err (suc left)) d m e = absurd cc
ok_told end None xs (Ok n) d m e = (refl, ap (λ v. Ok v) (same_ok n m e))
ok_told end (Some p) xs (Ok n) d m e = absurd cc

ok_read : (text : List ℕ) (m : MappingText) → mapping_of_text text ≡ Ok m → ((scan_of text).stop ≡ None) × (whole (mapping_reader deepest) (judged_tokens text) ≡ Ok m)
unfolding mapping_of_tokens
ok_read text m e =
    let t = ok_told (length text) (fault_in (scan_of text).stop) (judged_tokens text) (whole (mapping_reader deepest) (judged_tokens text)) (whole (mapping_reader 16) (judged_tokens text)) m e in
    (no_fault (scan_of text).stop t.0, t.1)

pub text_mapping : (text : List ℕ) (m : MappingText) → mapping_of_text text ≡ Ok m → IsMappingText text m
text_mapping text m e =
    let t = ok_read text m e in
    let all : judged_tokens text ≡ (scan_of text).lexemes = none_begun (scan_of text).stop (scan_of text).lexemes t.0 in
    record { no_stop = t.0; spelled = subst (SpellsMapping deepest m) all (whole_finds (mapping_reader deepest) (SpellsMapping deepest) (mapping_finds deepest) (judged_tokens text) m t.1) }

-- ---- a fault

-- whether the tokens up to the first that can't stand, with so many left, could stand one level deeper
deeper : (xs : List Lexeme) (left : ℕ) (d : Result MappingText ℕ) → suc left ≤ length xs → TellsOfTokens deeper_form xs d → stops_by (suc left) d ≡ false → Starts deeper_form (take (suc (length xs - suc left)) xs)
deeper xs left (Ok m) le h e = stands deeper_form xs (suc (length xs - suc left)) (omega arith) (whole_start deeper_form xs h)
deeper xs left (Err zero) le h e = stands deeper_form xs (suc (length xs - suc left)) (omega arith) h.0
deeper xs left (Err (suc n)) le h e =
    let lt : suc n < suc left = not_le_test (suc left) (suc n) e in
    start_take deeper_form (suc (length xs - suc left)) (length xs - suc n) xs (omega arith) h.1.before

not_deeper : (xs : List Lexeme) (left : ℕ) (d : Result MappingText ℕ) → suc left ≤ length xs → TellsOfTokens deeper_form xs d → stops_by (suc left) d ≡ true → ¬ (Starts deeper_form (take (suc (length xs - suc left)) xs))
not_deeper xs left (Ok m) le h e s = absurd cc
not_deeper xs left (Err zero) le h e s = absurd (omega (arith, le_test (suc left) zero e))
not_deeper xs left (Err (suc n)) le h e s =
    let more : suc left ≤ suc n = le_test (suc left) (suc n) e in
    h.1.here (start_take deeper_form (suc (length xs - suc n)) (suc (length xs - suc left)) xs (omega arith) s)

abbrev blank_token : Lexeme
blank_token = record { place = 0; kind = Word; text = [] }

abbrev first_unexpected : (text : List ℕ) (left : ℕ) → suc left ≤ length (judged_tokens text) → IsFirstUnexpected mapping_form (judged_tokens text) (length (judged_tokens text) - suc left) → IsUnexpectedInMapping text (token_place (judged_tokens text) (length (judged_tokens text) - suc left))
first_unexpected text left le first =
    unexpected_at mapping_form (λ (x : Lexeme). x.place) (judged_tokens text) (length (judged_tokens text) - suc left) blank_token first

unexpected_fault : (text : List ℕ) (left : ℕ) (b : Bool) (d : Result MappingText ℕ) → stops_by (suc left) d ≡ b → suc left ≤ length (judged_tokens text) → IsFirstUnexpected mapping_form (judged_tokens text) (length (judged_tokens text) - suc left) → TellsOfTokens deeper_form (judged_tokens text) d
    → IsMappingTextFault text (unexpected (judged_tokens text) (suc left) b)
unexpected_fault text left true d is le first h = (first_unexpected text left le first, not_deeper (judged_tokens text) left d le h is)
unexpected_fault text left false d is le first h = (first_unexpected text left le first, deeper (judged_tokens text) left d le h is)

pub fault_kind : (o : Option Stop) (p : ℕ × TextKind) → ((s : Stop) → o ≡ Some s → (s.kind ≡ Character) ⊎ (s.kind ≡ Ended)) → fault_in o ≡ Some p → (p.1 ≡ Character) ⊎ (p.1 ≡ Ended)
fault_kind None p h e = absurd (none-some p e)
fault_kind (Some s) p h e = subst (λ (q : ℕ × TextKind). (q.1 ≡ Character) ⊎ (q.1 ≡ Ended)) (same_Some (s.place, s.kind) p e) (h s refl)

err_told : (text : List ℕ) (stop : Option (ℕ × TextKind)) (r d : Result MappingText ℕ) (e : TextFault) → fault_in (scan_of text).stop ≡ stop → TellsOfTokens mapping_form (judged_tokens text) r → TellsOfTokens deeper_form (judged_tokens text) d
    → mapping_outcome (length text) stop (judged_tokens text) r d ≡ Err e → IsMappingTextFault text e
err_told text stop (Err zero) d e is h k told = subst (IsMappingTextFault text) (same_err _ e told) (stop_is_fault (StandsNowhere text) (StandsTooDeep text) (MappingStops text) (length text) stop
    (λ p n. (fault_kind (scan_of text).stop p (stop_kind text) (is ∙ n), record { all_stand = h.0; why = inl (is ∙ n) }))
    (λ n. record { all_stand = h.0; why = inr (is ∙ n, refl, refl, h.1) }))
err_told text stop (Err (suc left)) d e is h k told = subst (IsMappingTextFault text) (same_err _ e told) (unexpected_fault text left (stops_by (suc left) d) d refl h.0 h.1 k)
err_told text (Some p) (Ok m) d e is h k told = subst (IsMappingTextFault text) (same_err _ e told) (stop_is_fault (StandsNowhere text) (StandsTooDeep text) (MappingStops text) (length text) (Some p)
    (λ q n. (fault_kind (scan_of text).stop q (stop_kind text) (is ∙ n), record { all_stand = whole_start mapping_form (judged_tokens text) h; why = inl (is ∙ n) }))
    (λ n. absurd (none-some p (sym n))))
err_told text None (Ok m) d e is h k told = absurd cc

pub text_fault : (text : List ℕ) (e : TextFault) → mapping_of_text text ≡ Err e → IsMappingTextFault text e
unfolding mapping_of_tokens
text_fault text e told = err_told text (fault_in (scan_of text).stop) (whole (mapping_reader deepest) (judged_tokens text)) (whole (mapping_reader 16) (judged_tokens text)) e refl (mapping_tells deepest (judged_tokens text)) (mapping_tells 16 (judged_tokens text)) told

-- ---- there is one fault, and none where a mapping is said

at_token : (text : List ℕ) (place : ℕ) → StandsNowhere text place ⊎ StandsTooDeep text place → IsUnexpectedInMapping text place
at_token text place (inl x) = x.0
at_token text place (inr x) = x.0

are_apart : (text : List ℕ) → KeptApart (StandsNowhere text) (StandsTooDeep text) (MappingStops text)
are_apart text = record {
  unexpected = λ p q x y. (one_unexpected x.0 y.0).1;
  deeper = λ p q x y. (one_unexpected x.0 y.0).1;
  stopped = λ p q k l x y. one_told (λ place kind. At place kind) x refl y refl;
  not_both = λ p q x y. x.1 (subst (StandsDeeper text) (sym (one_unexpected x.0 y.0).0) y.1);
  not_stopped = λ p q k x y. never_both (at_token text p x) y.all_stand;
}

pub one_fault : (text : List ℕ) (e f : TextFault) → IsMappingTextFault text e → IsMappingTextFault text f → e ≡ f
one_fault text e f a b = one_fault_by (StandsNowhere text) (StandsTooDeep text) (MappingStops text) (are_apart text) e f a b

-- a text that says a mapping has no fault
no_fault_said : (text : List ℕ) (m : MappingText) (e : TextFault) → mapping_of_text text ≡ Ok m → ¬ (IsMappingTextFault text e)
no_fault_said text m e r h =
    let all : Derives mapping_form (judged_tokens text) = subst (TellsOfTokens mapping_form (judged_tokens text)) (ok_read text m r).1 (mapping_tells deepest (judged_tokens text)) in
    never_faulty (StandsNowhere text) (StandsTooDeep text) (MappingStops text) (λ p x. never_both (at_token text p x) (whole_start mapping_form (judged_tokens text) all))
    (λ p k x. never_stopped (ap fault_in (ok_read text m r).0) all x) e h

-- ---- a text says one thing

pub one_mapping : (text : List ℕ) (m n : MappingText) → IsMappingText text m → IsMappingText text n → m ≡ n
one_mapping text m n p q = same_ok m n (sym (mapping_read text m p) ∙ mapping_read text n q)

pub never_said_and_faulty : (text : List ℕ) (m : MappingText) (e : TextFault) → IsMappingText text m → ¬ (IsMappingTextFault text e)
never_said_and_faulty text m e says = no_fault_said text m e (mapping_read text m says)

pub mapping_or_fault : (text : List ℕ) → ((m : MappingText) × IsMappingText text m) ⊎ ((e : TextFault) × IsMappingTextFault text e)
mapping_or_fault text = said_or_faulty (IsMappingText text) (IsMappingTextFault text) (mapping_of_text text) (text_mapping text) (text_fault text)

-- ---- the clauses of the call

pub reads_mapping : (text : List ℕ) (r : Result MappingText TextFault) → Reads r (mapping_of_text text) → IfOk r (IsMappingText text)
reads_mapping text r h = reads_ok (IsMappingText text) r (mapping_of_text text) h (text_mapping text)

pub reads_mapping_only : (text : List ℕ) (r : Result MappingText TextFault) → Reads r (mapping_of_text text) → (m : MappingText) → IsMappingText text m → Reads r (Ok m)
reads_mapping_only text r h m says = subst (Reads r) (mapping_read text m says) h

pub reads_told : (text : List ℕ) (r : Result MappingText TextFault) → Reads r (mapping_of_text text) → IfErr r (IsMappingFaultOrMemory text)
reads_told text r h = reads_err (IsMappingTextFault text) r (mapping_of_text text) h (text_fault text)

pub reads_fault_only : (text : List ℕ) (r : Result MappingText TextFault) → Reads r (mapping_of_text text) → (e : TextFault) → IsMappingTextFault text e → Reads r (Err e)
reads_fault_only text r h e fault = subst (Reads r) (fault_answered (IsMappingTextFault text) (mapping_of_text text) (one_fault text) (text_fault text) (λ m is f. no_fault_said text m f is) e fault) h
