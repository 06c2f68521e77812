-- What holds of every text.
use Rattle.std.specs.Prelude.{◌≡◌, ◌⊎◌, ◌↔◌, ℕ, false, List, [], length}
use Rattle.dx_schema.specs.Bounds.{RulesBelow}
use Rattle.dx_grammar.specs.Forms.{Derives}
use Rattle.dx_grammar.specs.Laws.{StartsAreFronts}
use Rattle.dx_tokens.specs.declared.faults.TextFault.{TextFault}
use Rattle.dx_tokens.specs.declared.faults.TextFault.TheVariants.{TooDeep}
use Rattle.dx_tokens.specs.declared.scanner.Lexeme.{Lexeme}
use Rattle.dx_schema_text.specs.declared.texts.MappingText.{MappingText}
use Rattle.dx_schema_text.specs.Spelling.{SpellsMapping}
use Rattle.dx_schema_text.specs.Texts.{deepest, mapping_form, deeper_form, IsMappingText}
use Rattle.dx_schema_text.specs.Texts.{IsUnexpectedInMapping, IsSetTooDeep, IsMappingTextFault}
use Rattle.dx_schema_text.specs.Grammar.{since_two}
use Rattle.dx_schema_text.specs.Print.{AreWritable, IsKnownVersion}

-- a text says at most one mapping, and it has at most one first fault
abbrev pub OneMapping : Type 0
OneMapping = (text : List ℕ) (m n : MappingText) → IsMappingText text m → IsMappingText text n → m ≡ n

abbrev pub OneMappingFault : Type 0
OneMappingFault = (text : List ℕ) (e f : TextFault) → IsMappingTextFault text e → IsMappingTextFault text f → e ≡ f

-- it has one of the two, and never both
abbrev pub MappingOrFault : Type 0
MappingOrFault =
    (text : List ℕ) → ((m : MappingText) × IsMappingText text m) ⊎ ((e : TextFault) × IsMappingTextFault text e)

abbrev pub NeverMappingAndFault : Type 0
NeverMappingAndFault =
    (text : List ℕ) (m : MappingText) (e : TextFault) → IsMappingText text m → ¬ (IsMappingTextFault text e)

-- tokens spell a mapping exactly if they are a text of the form
abbrev pub SpelledAreTexts : Type 0
SpelledAreTexts = (xs : List Lexeme) → ((m : MappingText) × SpellsMapping deepest m xs) ↔ Derives mapping_form xs

-- tokens can stand exactly if they go on to a text, with as many levels of sets as are accepted and with one more
abbrev pub StandingGoesOn : Type 0
StandingGoesOn = StartsAreFronts mapping_form × StartsAreFronts deeper_form

-- a text is too deep exactly if the first token that can't stand is the word `set` of a set at depth 17
abbrev pub TooDeepAreSets : Type 0
TooDeepAreSets =
    (text : List ℕ) (place : ℕ) → IsMappingTextFault text (TooDeep place)
    ↔ ((u : IsUnexpectedInMapping text place) × IsSetTooDeep text u.number)

-- the sets that a text says are written again as they are, in a text of its version
abbrev pub SaidIsWritable : Type 0
SaidIsWritable =
    (text : List ℕ) (m : MappingText) → IsMappingText text m
    → AreWritable m.version m.source × AreWritable m.version m.target

-- a text is of version 1, 2 or 3, and before version 2 it says no conditions
abbrev pub SaidIsOfVersion : Type 0
SaidIsOfVersion =
    (text : List ℕ) (m : MappingText) → IsMappingText text m
    → IsKnownVersion m.version × (since_two m.version ≡ false → m.conditions ≡ [])

-- each set that a text says has fewer keys and dependencies together, and fewer refs, than the text has bytes
abbrev pub TextsHaveFewRules : Type 0
TextsHaveFewRules =
    (text : List ℕ) (m : MappingText) → IsMappingText text m
    → RulesBelow (length text) m.source × RulesBelow (length text) m.target
