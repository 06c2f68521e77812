-- What a text says, and its first fault.
use Rattle.std.specs.Prelude.{◌≡◌, ◌⊎◌, ℕ, zero, suc, ◌-◌, List, [], ◌∷◌, ◌++◌, length}
use Rattle.std.specs.Prelude.{Option, Some, None, Result, Ok, Err, slice_index_or}
use Rattle.dx_grammar.specs.Forms.{Form}
use Rattle.dx_grammar.specs.Faults.{IsUnexpectedAt, IsStoppedAt}
use Rattle.dx_grammar.specs.Readers.{whole}
use Rattle.dx_tokens.specs.declared.faults.TextFault.{TextFault}
use Rattle.dx_tokens.specs.declared.faults.TextFault.TheVariants.{At, Memory}
use Rattle.dx_tokens.specs.declared.faults.TextKind.{TextKind}
use Rattle.dx_tokens.specs.declared.faults.TextKind.TheVariants.{Expected, Ended}
use Rattle.dx_tokens.specs.Judged.{IsFaultBy, stop_fault, Reads}
use Rattle.dx_script.specs.declared.form.Step.{Step}
use Rattle.dx_script.specs.declared.form.Script.{Script}
use Rattle.dx_script_tokens.specs.declared.scanner.ScriptToken.{ScriptToken}
use Rattle.dx_script_tokens.specs.declared.scanner.ScriptStop.{ScriptStop}
use Rattle.dx_script_tokens.specs.declared.kinds.ScriptKind.TheVariants as kinds
use Rattle.dx_script_tokens.specs.Numbers.{greatest_number}
use Rattle.dx_script_tokens.specs.Scan.{script_scan_of, plain_token}
use Rattle.dx_script_text.specs.Grammar.{script}
use Rattle.dx_script_text.specs.Reading.{script_reader}
use Rattle.dx_script_text.specs.Spelling.{SpellsScript}

-- the form of a script, with rules, aliases and columns up to the greatest number
abbrev pub script_form : Form ScriptToken
script_form = script greatest_number

-- what was begun where the tokens stop
abbrev pub script_begun_in : Option ScriptStop → List ScriptToken
script_begun_in None = []
script_begun_in (Some s) = begun_token s.begun where
  begun_token : Option ScriptToken → List ScriptToken
  begun_token None = []
  begun_token (Some x) = x ∷ []

-- the tokens that are judged one after the other: those up to the first token fault,
-- and the name or text that was begun there
abbrev pub judged_script_tokens : List ℕ → List ScriptToken
judged_script_tokens text = (script_scan_of text).tokens ++ script_begun_in (script_scan_of text).stop

-- The text says this script: all of it is tokens, which spell the script.
pub record IsScriptText (text : List ℕ) (s : Script) : Type 0 where
  pub no_stop : (script_scan_of text).stop ≡ None
  pub spelled : SpellsScript greatest_number s.steps (script_scan_of text).tokens

-- the place and the kind of a token fault
abbrev pub script_fault_in : Option ScriptStop → Option (ℕ × TextKind)
script_fault_in None = None
script_fault_in (Some s) = Some (s.place, s.kind)

-- The token that stands at this place is the first that can't stand.
abbrev pub IsUnexpectedInScript : List ℕ → ℕ → Type 0
IsUnexpectedInScript text place =
    IsUnexpectedAt script_form (λ (x : ScriptToken). x.place) (judged_script_tokens text) place

-- All tokens can stand, and the text stops at a token fault or ends too early.
abbrev pub ScriptStops : List ℕ → ℕ → TextKind → Type 0
ScriptStops text place kind =
    IsStoppedAt script_form (judged_script_tokens text) (script_fault_in (script_scan_of text).stop)
    (length text) Ended place kind

-- The first fault of a text.
abbrev pub IsScriptTextFault : List ℕ → TextFault → Type 0
IsScriptTextFault text e = IsFaultBy (IsUnexpectedInScript text) (λ place. ⊥) (ScriptStops text) e

-- ---- the answer, as it is computed

-- the place of a token
abbrev pub script_token_place : List ScriptToken → ℕ → ℕ
script_token_place xs k = (slice_index_or xs k (plain_token 0 kinds.Word 0)).place

-- what is answered of tokens, if the text has so many bytes and its tokens stop so
abbrev pub script_outcome : ℕ → Option (ℕ × TextKind) → List ScriptToken → Result (List Step) ℕ
    → Result Script TextFault
script_outcome end stop xs (Err zero) = Err (stop_fault end stop)
script_outcome end stop xs (Err (suc left)) = Err (At (script_token_place xs (length xs - suc left)) Expected)
script_outcome end (Some p) xs (Ok s) = Err (At p.0 p.1)
script_outcome end None xs (Ok s) = Ok (record { steps = s })

-- the same of tokens that are read
unfoldable pub script_of_tokens : ℕ → Option (ℕ × TextKind) → List ScriptToken → Result Script TextFault
script_of_tokens end stop xs = script_outcome end stop xs (whole (script_reader greatest_number) xs)

-- what is answered of a text
abbrev pub script_of_text : List ℕ → Result Script TextFault
script_of_text text =
    script_of_tokens (length text) (script_fault_in (script_scan_of text).stop) (judged_script_tokens text)

-- a fault that is told is the text's first, unless memory ran out
abbrev pub IsScriptFaultOrMemory : List ℕ → TextFault → Type 0
IsScriptFaultOrMemory text e = (e ≡ Memory) ⊎ IsScriptTextFault text e

-- whatever script the text says is answered, and whatever first fault it has
abbrev pub AnswersScript : List ℕ → Result Script TextFault → Type 0
AnswersScript text r = (s : Script) → IsScriptText text s → Reads r (Ok s)

abbrev pub AnswersScriptFault : List ℕ → Result Script TextFault → Type 0
AnswersScriptFault text r = (e : TextFault) → IsScriptTextFault text e → Reads r (Err e)
