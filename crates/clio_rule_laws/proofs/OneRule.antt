-- A text says one rule at most.
use Rattle.std.proofs.Common.{◌≡◌, ℕ, List, [], ◌∷◌, ◌++◌, Result, Ok, refl, sym, ap, ◌∙◌, subst, arith}
use Rattle.dx_tokens.specs.declared.scanner.Lexeme.{Lexeme}
use Rattle.dx_tokens.specs.Scan.{scan_of}
use Rattle.dx_grammar.specs.Readers.{no_more, one_more, whole}
use Rattle.dx_grammar.proofs.Spelled.{whole_again}
use Rattle.dx_schema.specs.Forest.{none}
use Rattle.dx_schema_text.specs.declared.texts.RuleText.{RuleText}
use Rattle.dx_schema_text.specs.declared.texts.MappingText.{MappingText}
use Rattle.dx_schema_text.specs.Reading.{mapping_reader}
use Rattle.dx_schema_text.specs.Spelling.{SpellsRule, SpellsMapping}
use Rattle.dx_schema_text.specs.Texts.{deepest, IsMappingText}
use Rattle.dx_schema_text.specs.Print.{AreWritable, the_first, printed, sides_text, sides}
use Rattle.dx_schema_text.proofs.Again.{NoItemNext, mapping_again}
use Rattle.dx_schema_text.proofs.PrintReads.{mapping_of_sides}
use Rattle.dx_rule_text.specs.Printed.{rule_text}
use Rattle.dx_tgd_text.specs.Reading.{rule_of_text}
use Rattle.clio_rule_laws.specs.ReadBack.{IsReadAs, with_more_rules}
use Rattle.clio_rule_laws.specs.Laws.{OneRuleText, OneRule, PrintedRulesDiffer}
use Rattle.clio_rule_laws.proofs.CanBeWritten.{printed_rules_are_read}
use Rattle.clio_rule_laws.proofs.Lines.{mapping_more}

no_sets : AreWritable 1 none
no_sets = record { named = tt; sayable = tt; levels = omega arith }

-- a mapping without sets, lines, conditions and rules
abbrev bare : MappingText
bare = sides 1 none none

bare_text : IsMappingText (sides_text 1 (printed [] none) (printed [] none)) bare
bare_text = mapping_of_sides 1 none none the_first no_sets no_sets

abbrev bare_tokens : List Lexeme
bare_tokens = (scan_of (sides_text 1 (printed [] none) (printed [] none))).lexemes

-- the tokens of a rule after those of that mapping
behind_bare : (r : RuleText) (xs : List Lexeme) → SpellsRule r xs → whole (mapping_reader deepest) (bare_tokens ++ (xs ++ [])) ≡ Ok (with_more_rules bare (r ∷ []))
behind_bare r xs spells =
    whole_again (mapping_reader deepest) (SpellsMapping deepest) NoItemNext (mapping_again deepest) refl (with_more_rules bare (r ∷ [])) (bare_tokens ++ (xs ++ []))
    (mapping_more deepest bare bare_tokens bare_text.spelled (r ∷ []) (xs ++ []) (one_more spells no_more))

same_mapping : (m n : MappingText) → ◌≡◌ {A = Result MappingText ℕ} (Ok m) (Ok n) → m ≡ n
same_mapping m n e = cc e

same_first : (r s : RuleText) → r ∷ [] ≡ s ∷ [] → r ≡ s
same_first r s e = cc e

same_rule : (r s : RuleText) → ◌≡◌ {A = Result MappingText ℕ} (Ok (with_more_rules bare (r ∷ []))) (Ok (with_more_rules bare (s ∷ []))) → r ≡ s
same_rule r s e = same_first r s (ap (λ (m : MappingText). m.rules) (same_mapping (with_more_rules bare (r ∷ [])) (with_more_rules bare (s ∷ [])) e))

pub one_rule_text : OneRuleText
one_rule_text text r s p q = same_rule r s (sym (behind_bare r (scan_of text).lexemes p.spelled) ∙ behind_bare s (scan_of text).lexemes q.spelled)

pub one_rule : OneRule
one_rule source target list d e text p q = sym p.same ∙ ap (rule_of_text source target list) (one_rule_text text p.said q.said p.is_text q.is_text) ∙ q.same

pub printed_rules_differ : PrintedRulesDiffer
printed_rules_differ source target list d e from to offer p q same =
    let read = printed_rules_are_read source target list d from to offer p in
    let other = printed_rules_are_read source target list e from to offer q in
    one_rule source target list d e (rule_text source target list e) (subst (IsReadAs source target list d) same read) other
