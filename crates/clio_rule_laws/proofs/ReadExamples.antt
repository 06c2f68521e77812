-- A text that is read as a rule, and texts that are read as none: a fault of its tokens, or of the names in it.
use Rattle.std.proofs.Common.{◌≡◌, ℕ, List, [], ◌∷◌, Option, Some, None, codes, refl, sym, ap, subst}
use Rattle.dx_model.specs.declared.rules.Cell.TheVariants.{Var, Ex}
use Rattle.dx_model.specs.declared.rules.Rule.{Rule}
use Rattle.dx_schema.specs.Forest.{Forest, none, set, bare_set}
use Rattle.dx_tokens.specs.declared.tokenizer.TokenKind.TheVariants.{Word, Mark}
use Rattle.dx_tokens.specs.declared.faults.TextFault.TheVariants.{At}
use Rattle.dx_tokens.specs.declared.faults.TextKind.TheVariants.{Character, UnknownName}
use Rattle.dx_tokens.specs.declared.scanner.Lexeme.{Lexeme}
use Rattle.dx_tokens.specs.declared.scanner.Scanned.{Scanned}
use Rattle.dx_tokens.specs.Tokens.{wide_at, item_at, string_from, piece_at}
use Rattle.dx_tokens.specs.Scan.{scan_from, scan_of}
use Rattle.dx_grammar.specs.Readers.{no_more, one_more}
use Rattle.dx_schema_text.specs.declared.texts.RuleText.{RuleText}
use Rattle.dx_schema_text.specs.declared.texts.CellText.TheVariants.{Name}
use Rattle.dx_schema_text.specs.Spelling.{SpellsRule, comma_then, parted, a_name, atom_of, no_where}
use Rattle.dx_schema_text.specs.Spelling as spelling
use Rattle.dx_base.specs.Texts.{Text}
use Rattle.dx_tgd_text.specs.Reading.{rule_fault}
use Rattle.clio_rule_laws.specs.ReadBack.{IsRuleText, IsReadAs}
use Rattle.clio_rule_laws.proofs.OneRule.{one_rule_text}

-- employees with a name and a place, persons with a name and a telephone
abbrev employees : Forest
employees = set (bare_set (codes "emp") (codes "name" ∷ codes "place" ∷ [])) none none

abbrev persons : Forest
persons = set (bare_set (codes "person") (codes "name" ∷ codes "phone" ∷ [])) none none

abbrev word : ℕ → Text → Lexeme
word place text = record { place = place; kind = Word; text = text }

abbrev mark : ℕ → Text → Lexeme
mark place text = record { place = place; kind = Mark; text = text }

abbrev text : Text
text = codes "rule emp(a, b) -> person(b, c);"

abbrev tokens : List Lexeme
tokens =
    word 0 (codes "rule") ∷ word 5 (codes "emp") ∷ mark 8 (codes "(") ∷ word 9 (codes "a") ∷ mark 10 (codes ",") ∷ word 12 (codes "b") ∷ mark 13 (codes ")")
    ∷ mark 15 (codes "->")
    ∷ word 18 (codes "person") ∷ mark 24 (codes "(") ∷ word 25 (codes "b") ∷ mark 26 (codes ",") ∷ word 28 (codes "c") ∷ mark 29 (codes ")") ∷ mark 30 (codes ";") ∷ []

abbrev said : RuleText
said = record {
  premise = record { set = codes "emp"; place = 5; cells = Name (codes "a") 9 ∷ Name (codes "b") 12 ∷ [] } ∷ [];
  derived = [];
  conclusion = record { set = codes "person"; place = 18; cells = Name (codes "b") 25 ∷ Name (codes "c") 28 ∷ [] } ∷ [];
}

scanned : scan_of text ≡ record { lexemes = tokens; stop = None }
unfolding scan_from piece_at string_from item_at wide_at
scanned = refl

spelled : SpellsRule said tokens
spelled =
    spelling.rule_of (word 0 (codes "rule")) (mark 15 (codes "->")) (mark 30 (codes ";")) refl
    (parted (atom_of (word 5 (codes "emp")) (mark 8 (codes "(")) (mark 13 (codes ")")) refl refl
    (parted (a_name (word 9 (codes "a")) refl) (one_more (comma_then (mark 10 (codes ",")) refl (a_name (word 12 (codes "b")) refl)) no_more)) refl) no_more)
    no_where refl
    (parted (atom_of (word 18 (codes "person")) (mark 24 (codes "(")) (mark 29 (codes ")")) refl refl
    (parted (a_name (word 25 (codes "b")) refl) (one_more (comma_then (mark 26 (codes ",")) refl (a_name (word 28 (codes "c")) refl)) no_more)) refl) no_more)
    refl

is_text : IsRuleText text said
is_text = record {
  no_stop = ap (λ (s : Scanned). s.stop) scanned;
  spelled = subst (SpellsRule said) (sym (ap (λ (s : Scanned). s.lexemes) scanned)) spelled;
}

-- the variables by first appearance, and the other name existential
read : IsReadAs employees persons [] (record {
  premise = record { table = 0; cells = Var 0 ∷ Var 1 ∷ [] } ∷ [];
  derived = [];
  conclusion = record { table = 0; cells = Var 1 ∷ Ex 0 ∷ [] } ∷ [];
}) text
read = record { said = said; is_text = is_text; no_fault = refl; same = refl }

no_such_set : rule_fault persons persons [] said ≡ Some (At 5 UnknownName)
no_such_set = refl

none_is_some : {A : Type 0} (o : Option A) (a : A) → o ≡ Some a → ¬ (o ≡ None)
none_is_some o a is isnt = cc (is, isnt)

-- where its first set is none of the source, the text is read as no rule
unknown_set : (d : Rule) → ¬ IsReadAs persons persons [] d text
unknown_set d h = none_is_some _ _ no_such_set (subst (λ (r : RuleText). rule_fault persons persons [] r ≡ None) (one_rule_text text h.said said h.is_text is_text) h.no_fault)

-- a text that is a rule up to a byte that begins no token
abbrev begun : Text
begun = codes "rule emp(a, b) -> person(b, c);#"

begun_scanned : (scan_of begun).stop ≡ Some (record { place = 31; kind = Character; begun = None })
unfolding scan_from piece_at string_from item_at wide_at
begun_scanned = refl

-- is no text of a rule
no_rule_text : (r : RuleText) → ¬ IsRuleText begun r
no_rule_text r h = none_is_some _ _ begun_scanned h.no_stop
