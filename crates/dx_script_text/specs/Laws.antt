-- What holds of every text, and of all lists of tokens.
use Rattle.std.specs.Prelude.{◌≡◌, ◌↔◌, ◌⊎◌, ℕ, List, ◌++◌}
use Rattle.dx_grammar.specs.Forms.{Derives, Starts}
use Rattle.dx_tokens.specs.declared.faults.TextFault.{TextFault}
use Rattle.dx_script.specs.declared.form.Step.{Step}
use Rattle.dx_script.specs.declared.form.Script.{Script}
use Rattle.dx_script_tokens.specs.declared.scanner.ScriptToken.{ScriptToken}
use Rattle.dx_script_tokens.specs.Numbers.{greatest_number}
use Rattle.dx_script_text.specs.Spelling.{SpellsScript}
use Rattle.dx_script_text.specs.Texts.{script_form, IsScriptText, IsScriptTextFault}

-- the texts of the form are just the token lists that spell a script
abbrev pub TextsAreSpelled : Type 0
TextsAreSpelled =
    (xs : List ScriptToken) → Derives script_form xs ↔ ((s : List Step) × SpellsScript greatest_number s xs)

-- the starts of the form are just the fronts of the token lists that spell a script
abbrev pub StartsAreSpelled : Type 0
StartsAreSpelled =
    (xs : List ScriptToken) → Starts script_form xs
    ↔ ((ys : List ScriptToken) × (s : List Step) × SpellsScript greatest_number s (xs ++ ys))

-- a text says at most one script, and it has at most one first fault
abbrev pub OneScript : Type 0
OneScript = (text : List ℕ) (s t : Script) → IsScriptText text s → IsScriptText text t → s ≡ t

abbrev pub OneScriptFault : Type 0
OneScriptFault = (text : List ℕ) (e f : TextFault) → IsScriptTextFault text e → IsScriptTextFault text f → e ≡ f

-- it has one of the two, and never both
abbrev pub ScriptOrFault : Type 0
ScriptOrFault = (text : List ℕ) → ((s : Script) × IsScriptText text s) ⊎ ((e : TextFault) × IsScriptTextFault text e)

abbrev pub NeverScriptAndFault : Type 0
NeverScriptAndFault = (text : List ℕ) (s : Script) (e : TextFault) → IsScriptText text s → ¬ (IsScriptTextFault text e)
