-- Scripts whose text is read again.
use Rattle.std.specs.Prelude.{◌≡◌, ◌≢◌, ℕ, ◌≤◌, true, ◌||◌, ◌==◌, List, [], ◌∷◌, length, IsUtf8}
use Rattle.dx_base.specs.Members.{Each}
use Rattle.dx_tokens.specs.Tokens.{is_word_byte}
use Rattle.dx_script.specs.declared.form.CellRef.{CellRef}
use Rattle.dx_script.specs.declared.form.Select.{Select}
use Rattle.dx_script.specs.declared.form.Select.TheVariants as selected
use Rattle.dx_script.specs.declared.form.Equal.{Equal}
use Rattle.dx_script.specs.declared.form.Test.{Test}
use Rattle.dx_script.specs.declared.form.Test.TheVariants as tested
use Rattle.dx_script.specs.declared.form.Unless.{Unless}
use Rattle.dx_script.specs.declared.form.Out.{Out}
use Rattle.dx_script.specs.declared.form.Out.TheVariants as outs
use Rattle.dx_script.specs.declared.form.Step.{Step}
use Rattle.dx_script.specs.declared.form.Step.TheVariants as steps
use Rattle.dx_script.specs.declared.form.Script.{Script}
use Rattle.dx_script_tokens.specs.Numbers.{greatest_number}

-- a name has letters, digits and _, of which there is one at least, and the first may be #
abbrev pub IsScriptName : List ℕ → Type 0
IsScriptName [] = ⊥
IsScriptName (c ∷ rest) = ((c == 35 || is_word_byte c) ≡ true) × Each rest (λ b. is_word_byte b ≡ true)

-- a number of a script
abbrev pub NumberFits : ℕ → Type 0
NumberFits n = n ≤ greatest_number

-- items that all can be printed, one at least
abbrev pub OneOrMore : {A : Type 0} → (A → Type 0) → List A → Type 0
OneOrMore P xs = (xs ≢ []) × Each xs P

-- there are no more columns or aliases than numbers
abbrev pub FitsCount : {A : Type 0} → List A → Type 0
FitsCount xs = length xs ≤ 4294967296

abbrev pub IsCellRef : CellRef → Type 0
IsCellRef c = NumberFits c.alias × IsScriptName c.column

abbrev pub IsSelect : Select → Type 0
IsSelect (selected.Cell c) = IsCellRef c
IsSelect (selected.Call name args) = IsScriptName name × OneOrMore IsCellRef args

abbrev pub IsEqual : Equal → Type 0
IsEqual e = IsCellRef e.left × IsCellRef e.right

abbrev pub IsTest : Test → Type 0
IsTest (tested.Columns other own) = NumberFits other × NumberFits own
IsTest (tested.Literal own text) = NumberFits own × IsUtf8 text

abbrev pub IsUnless : Unless → Type 0
IsUnless u = NumberFits u.rule × Each u.tests IsTest

abbrev pub IsOut : Out → Type 0
IsOut (outs.Column n) = NumberFits n
IsOut (outs.Literal text) = IsUtf8 text
IsOut (outs.Skolem v) = NumberFits v

abbrev pub IsStep : Step → Type 0
IsStep (steps.Create table columns) = IsScriptName table × OneOrMore IsScriptName columns
IsStep (steps.MatchRows rule select sources equal) =
    NumberFits rule × (Each select IsSelect × FitsCount select)
    × (OneOrMore IsScriptName sources × FitsCount sources) × Each equal IsEqual
IsStep (steps.KeepRows rule unless) = NumberFits rule × OneOrMore IsUnless unless
IsStep (steps.InsertRows table rule kept cells) = IsScriptName table × NumberFits rule × OneOrMore IsOut cells

-- every name is one, every number fits, every text is UTF-8, no list that the grammar wants is empty,
-- and there are enough numbers for columns and aliases
abbrev pub IsPrintableScript : Script → Type 0
IsPrintableScript s = Each s.steps IsStep
