-- What is answered of a text is what it says, or its first fault, and the other way round.
use Rattle.std.proofs.Common.{◌≡◌, ◌⊎◌, ℕ, zero, suc, ◌-◌, ◌≤◌, List, ◌++◌, length, Result, Ok, Err, Option, Some, None, refl, sym, ap, ◌∙◌, subst, inl, inr}
use Rattle.std.specs.Prelude.{IfOk, IfErr}
use Rattle.std.proofs.lemmas.List.{append-nil}
use Rattle.std.proofs.lemmas.Option.{none-some, same_Some}
use Rattle.dx_tokens.specs.declared.faults.TextFault.{TextFault}
use Rattle.dx_tokens.specs.declared.faults.TextFault.TheVariants.{At}
use Rattle.dx_tokens.specs.declared.faults.TextKind.{TextKind}
use Rattle.dx_tokens.specs.declared.faults.TextKind.TheVariants.{Character, Ended}
use Rattle.dx_tokens.specs.Judged.{Reads}
use Rattle.dx_tokens.proofs.Judged.{KeptApart, one_fault_by, never_faulty, stop_is_fault, said_or_faulty, fault_answered, reads_ok, reads_err}
use Rattle.dx_script_tokens.specs.declared.scanner.ScriptToken.{ScriptToken}
use Rattle.dx_script_tokens.specs.declared.scanner.ScriptStop.{ScriptStop}
use Rattle.dx_script_tokens.specs.declared.kinds.ScriptKind.TheVariants as kinds
use Rattle.dx_script_tokens.specs.Numbers.{greatest_number}
use Rattle.dx_script_tokens.specs.Scan.{script_scan_of, plain_token}
use Rattle.dx_script_tokens.proofs.StopKinds.{stop_kind}
use Rattle.dx_grammar.specs.Forms.{Derives, IsFirstUnexpected}
use Rattle.dx_grammar.specs.Readers.{TellsOfTokens}
use Rattle.dx_grammar.proofs.Exact.{whole_start}
use Rattle.dx_grammar.proofs.Spelled.{whole_finds}
use Rattle.dx_grammar.proofs.Faults.{same_ok, same_err, unexpected_at, never_both, one_unexpected, one_told, never_stopped}
use Rattle.dx_script.specs.declared.form.Step.{Step}
use Rattle.dx_script.specs.declared.form.Script.{Script}
use Rattle.dx_script_text.specs.Reading.{script_reader}
use Rattle.dx_script_text.specs.Spelling.{SpellsScript}
use Rattle.dx_script_text.specs.Texts.{script_form, script_begun_in, judged_script_tokens, IsScriptText, IsUnexpectedInScript, ScriptStops, IsScriptTextFault, script_fault_in, script_token_place, script_outcome, script_of_tokens, script_of_text, IsScriptFaultOrMemory}
use Rattle.dx_script_text.proofs.Found.{script_finds}
use Rattle.dx_script_text.proofs.Telling.{given, script_tells, spelled_given, told_read}

-- ---- a script

no_fault : (o : Option ScriptStop) → script_fault_in o ≡ None → o ≡ None
no_fault None e = refl
no_fault (Some s) e = absurd cc

none_begun : (o : Option ScriptStop) (xs : List ScriptToken) → o ≡ None → xs ++ script_begun_in o ≡ xs
none_begun o xs e = rw e (append-nil xs)

pub script_read : (text : List ℕ) (s : Script) → IsScriptText text s → script_of_text text ≡ Ok s
script_read text s says =
    let xs = (script_scan_of text).tokens in
    let all : judged_script_tokens text ≡ xs = none_begun (script_scan_of text).stop xs says.no_stop in
    told_read (length text) (script_fault_in (script_scan_of text).stop) (judged_script_tokens text) s.steps (ap script_fault_in says.no_stop) (ap given all ∙ spelled_given xs s.steps says.spelled)

abbrev script_of : List Step → Script
script_of steps = record { steps = steps }

ok_told : (end : ℕ) (stop : Option (ℕ × TextKind)) (xs : List ScriptToken) (r : Result (List Step) ℕ) (s : Script) → script_outcome end stop xs r ≡ Ok s → (stop ≡ None) × (r ≡ Ok s.steps)
ok_told end stop xs (Err zero) s e = absurd cc
ok_told end stop xs (Err (suc left)) s e = absurd cc
ok_told end None xs (Ok t) s e = (refl, ap (λ (v : List Step). Ok v) (ap (λ (v : Script). v.steps) (same_ok (script_of t) s e)))
ok_told end (Some p) xs (Ok t) s e = absurd cc

ok_read : (text : List ℕ) (s : Script) → script_of_text text ≡ Ok s → ((script_scan_of text).stop ≡ None) × (given (judged_script_tokens text) ≡ Ok s.steps)
unfolding script_of_tokens
ok_read text s e =
    let t = ok_told (length text) (script_fault_in (script_scan_of text).stop) (judged_script_tokens text) (given (judged_script_tokens text)) s e in
    (no_fault (script_scan_of text).stop t.0, t.1)

pub text_script : (text : List ℕ) (s : Script) → script_of_text text ≡ Ok s → IsScriptText text s
text_script text s e =
    let t = ok_read text s e in
    let all : judged_script_tokens text ≡ (script_scan_of text).tokens = none_begun (script_scan_of text).stop (script_scan_of text).tokens t.0 in
    record { no_stop = t.0; spelled = subst (SpellsScript greatest_number s.steps) all (whole_finds (script_reader greatest_number) (SpellsScript greatest_number) (script_finds greatest_number) (judged_script_tokens text) s.steps t.1) }

-- ---- a fault

abbrev blank_token : ScriptToken
blank_token = plain_token 0 kinds.Word 0

first_unexpected : (text : List ℕ) (left : ℕ) → suc left ≤ length (judged_script_tokens text) → IsFirstUnexpected script_form (judged_script_tokens text) (length (judged_script_tokens text) - suc left) → IsUnexpectedInScript text (script_token_place (judged_script_tokens text) (length (judged_script_tokens text) - suc left))
first_unexpected text left le first =
    unexpected_at script_form (λ (x : ScriptToken). x.place) (judged_script_tokens text) (length (judged_script_tokens text) - suc left) blank_token first

fault_kind : (o : Option ScriptStop) (p : ℕ × TextKind) → ((s : ScriptStop) → o ≡ Some s → (s.kind ≡ Character) ⊎ (s.kind ≡ Ended)) → script_fault_in o ≡ Some p → (p.1 ≡ Character) ⊎ (p.1 ≡ Ended)
fault_kind None p h e = absurd (none-some p e)
fault_kind (Some s) p h e = subst (λ (q : ℕ × TextKind). (q.1 ≡ Character) ⊎ (q.1 ≡ Ended)) (same_Some (s.place, s.kind) p e) (h s refl)

err_told : (text : List ℕ) (stop : Option (ℕ × TextKind)) (r : Result (List Step) ℕ) (e : TextFault) → script_fault_in (script_scan_of text).stop ≡ stop → TellsOfTokens script_form (judged_script_tokens text) r
    → script_outcome (length text) stop (judged_script_tokens text) r ≡ Err e → IsScriptTextFault text e
err_told text stop (Err zero) e is h told = subst (IsScriptTextFault text) (same_err _ e told) (stop_is_fault (IsUnexpectedInScript text) (λ place. ⊥) (ScriptStops text) (length text) stop
    (λ p n. (fault_kind (script_scan_of text).stop p (stop_kind text) (is ∙ n), record { all_stand = h.0; why = inl (is ∙ n) }))
    (λ n. record { all_stand = h.0; why = inr (is ∙ n, refl, refl, h.1) }))
err_told text stop (Err (suc left)) e is h told = subst (IsScriptTextFault text) (same_err _ e told) (first_unexpected text left h.0 h.1)
err_told text (Some p) (Ok s) e is h told = subst (IsScriptTextFault text) (same_err _ e told) (stop_is_fault (IsUnexpectedInScript text) (λ place. ⊥) (ScriptStops text) (length text) (Some p)
    (λ q n. (fault_kind (script_scan_of text).stop q (stop_kind text) (is ∙ n), record { all_stand = whole_start script_form (judged_script_tokens text) h; why = inl (is ∙ n) }))
    (λ n. absurd (none-some p (sym n))))
err_told text None (Ok s) e is h told = absurd cc

pub text_fault : (text : List ℕ) (e : TextFault) → script_of_text text ≡ Err e → IsScriptTextFault text e
unfolding script_of_tokens
text_fault text e told = err_told text (script_fault_in (script_scan_of text).stop) (given (judged_script_tokens text)) e refl (script_tells (judged_script_tokens text)) told

-- ---- there is one fault, and none where a script is said

at_token : (text : List ℕ) (place : ℕ) → IsUnexpectedInScript text place ⊎ ⊥ → IsUnexpectedInScript text place
at_token text place (inl x) = x
at_token text place (inr x) = absurd x

pub are_apart : (text : List ℕ) → KeptApart (IsUnexpectedInScript text) (λ place. ⊥) (ScriptStops text)
are_apart text = record {
  unexpected = λ p q x y. (one_unexpected x y).1;
  deeper = λ p q x y. absurd x;
  stopped = λ p q k l x y. one_told (λ place kind. At place kind) x refl y refl;
  not_both = λ p q x y. y;
  not_stopped = λ p q k x y. never_both (at_token text p x) y.all_stand;
}

-- a text that says a script has no fault
no_fault_said : (text : List ℕ) (m : Script) (e : TextFault) → script_of_text text ≡ Ok m → ¬ (IsScriptTextFault text e)
no_fault_said text m e r h =
    let all : Derives script_form (judged_script_tokens text) = subst (TellsOfTokens script_form (judged_script_tokens text)) (ok_read text m r).1 (script_tells (judged_script_tokens text)) in
    never_faulty (IsUnexpectedInScript text) (λ place. ⊥) (ScriptStops text) (λ p x. never_both (at_token text p x) (whole_start script_form (judged_script_tokens text) all))
    (λ p k x. never_stopped (ap script_fault_in (ok_read text m r).0) all x) e h

-- ---- a text says one thing

pub one_script : (text : List ℕ) (m n : Script) → IsScriptText text m → IsScriptText text n → m ≡ n
one_script text m n p q = same_ok m n (sym (script_read text m p) ∙ script_read text n q)

pub never_said_and_faulty : (text : List ℕ) (m : Script) (e : TextFault) → IsScriptText text m → ¬ (IsScriptTextFault text e)
never_said_and_faulty text m e says = no_fault_said text m e (script_read text m says)

pub script_or_fault : (text : List ℕ) → ((m : Script) × IsScriptText text m) ⊎ ((e : TextFault) × IsScriptTextFault text e)
script_or_fault text = said_or_faulty (IsScriptText text) (IsScriptTextFault text) (script_of_text text) (text_script text) (text_fault text)

-- ---- the clauses of the call

pub reads_script : (text : List ℕ) (r : Result Script TextFault) → Reads r (script_of_text text) → IfOk r (IsScriptText text)
reads_script text r h = reads_ok (IsScriptText text) r (script_of_text text) h (text_script text)

pub reads_script_only : (text : List ℕ) (r : Result Script TextFault) → Reads r (script_of_text text) → (m : Script) → IsScriptText text m → Reads r (Ok m)
reads_script_only text r h m says = subst (Reads r) (script_read text m says) h

pub reads_told : (text : List ℕ) (r : Result Script TextFault) → Reads r (script_of_text text) → IfErr r (IsScriptFaultOrMemory text)
reads_told text r h = reads_err (IsScriptTextFault text) r (script_of_text text) h (text_fault text)

pub reads_fault_only : (text : List ℕ) (r : Result Script TextFault) → Reads r (script_of_text text) → (e : TextFault) → IsScriptTextFault text e → Reads r (Err e)
reads_fault_only text r h e fault = subst (Reads r)
    (fault_answered (IsScriptTextFault text) (script_of_text text) (one_fault_by (IsUnexpectedInScript text) (λ place. ⊥) (ScriptStops text) (are_apart text)) (text_fault text) (λ s is f. no_fault_said text s f is) e fault) h
