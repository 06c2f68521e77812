-- The rules of an accepted mapping are read again.
use Rattle.std.proofs.Common.{◌≡◌, List, None, inl, inr, refl, sym, subst}
use Rattle.dx_base.specs.Members.{◌∈◌, Each}
use Rattle.dx_base.proofs.Members.{from_append, from_map}
use Rattle.dx_base.proofs.Firsts.{each_none}
use Rattle.dx_model.specs.declared.rules.Rule.{Rule}
use Rattle.dx_schema.specs.Tables.{AreTables, model_tables, tables_of}
use Rattle.dx_schema.specs.Links.{IsFaultless}
use Rattle.dx_schema.proofs.Valid.{are_tables}
use Rattle.dx_schema_text.specs.declared.texts.MappingText.{MappingText}
use Rattle.dx_schema_text.specs.Texts.{IsMappingText}
use Rattle.dx_schema_text.specs.Print.{sides}
use Rattle.dx_schema_text.proofs.SpelledWords.{said_is_writable}
use Rattle.dx_funcs.specs.declared.conversion.Conversion.{Conversion}
use Rattle.dx_funcs.specs.declared.row_test.RowTest.{RowTest}
use Rattle.dx_funcs.specs.Offers.{IsOffer}
use Rattle.dx_base.specs.Texts.{Text}
use Rattle.dx_tgd_text.specs.Reading.{rule_fault, rules_fault, rule_of_text}
use Rattle.clio_rule_laws.specs.ReadBack.{IsWritable}
use Rattle.clio_rule_laws.proofs.Lines.{printed_lines_are_read}
use Rattle.clio_rule_laws.proofs.Said.{said_rules_are_writable}
use Rattle.clio_rule_laws.proofs.LineRules.{line_rules_are_writable}
use Rattle.clio_rule_laws.proofs.Closings.{closings_are_writable}
use Rattle.dx_stages.specs.Worlds.{World}
use Rattle.dx_stages.specs.Stages.{next}
use Rattle.dx_implies.proofs.Pruned.{left_implies}
use Rattle.clio_accept.specs.declared.mapping.Mapping.{Mapping}
use Rattle.clio_accept.specs.Mapping.{SourceRefused, TargetRefused, NameRefused}
use Rattle.clio_accept.specs.Mapping.{NoneReserved, IsNarrowClosing, rules_of_lines, written_of}
use Rattle.clio_accept.specs.Accepting.{closing}
use Rattle.clio_accept.specs.Accepting.{accepting, between_of, said_rules, target_names, target_sets, with_rules}
use Rattle.clio_accept.specs.Laws.{MappingFits}
use Rattle.clio_accept.proofs.Accepted.{IsTaken, accepted_fits, is_taken, checked}
use Rattle.clio_accept.proofs.Closed.{closed_of}
use Rattle.clio_rule_laws.specs.Shown.{ShowsAgain}
use Rattle.clio_rule_laws.specs.Laws.{ShownRulesAreReadAgain}

-- ---- the rules

written_writable : (text : Text) (list : List Conversion) (m : MappingText) → IsMappingText text m → IsOffer list → rules_fault m.source m.target list m.rules ≡ None → Each (written_of list m.source m.target m.rules) (IsWritable list)
written_writable text list m says offer none d i =
    let r = from_map (rule_of_text m.source m.target list) m.rules i in
    subst (IsWritable list) r.2 (said_rules_are_writable text m list r.0 says offer r.1 (each_none (rule_fault m.source m.target list) m.rules none r.0 r.1))

taken_writable : (text : Text) (list : List Conversion) (tests : List RowTest) (m : MappingText) (P : List Rule) → IsMappingText text m → IsOffer list → IsTaken list tests m P → Each P (IsWritable list)
taken_writable text list tests m P says offer t d i =
    elim (from_append (rules_of_lines list m.source m.target m.lines) (subst (λ rs. d ∈ rs) t.are.are ((left_implies t.all P t.left).0 d i))) [
      | inl k ↦ line_rules_are_writable text m list says offer t.named d k
      | inr k ↦ closed_writable (closed_of (model_tables m.target) (written_of list m.source m.target m.rules) t.are.closed t.are.closings d k)
    ]
  where
    closed_writable : ((e : Rule) × (e ∈ written_of list m.source m.target m.rules) × IsNarrowClosing (model_tables m.target) e d) → IsWritable list d
    closed_writable (e, k, closing) = closings_are_writable (model_tables m.target) list e d closing.closing (written_writable text list m says offer t.written e k)

-- what was accepted, part by part
pub record IsAccepted (list : List Conversion) (tests : List RowTest) (text : Text) (M : Mapping) : Type 0 where
  pub said : MappingText
  pub is_text : IsMappingText text said
  pub source : IsFaultless said.source
  pub target : IsFaultless said.target
  pub names : NoneReserved said.target
  pub rules : List Rule
  pub taken : IsTaken list tests said rules
  pub is : M ≡ with_rules tests (between_of said) rules

pub is_accepted : (list : List Conversion) (tests : List RowTest) (c : World) (text : Text) (M : Mapping) → (accepting list tests).passes c text M → IsAccepted list tests text M
is_accepted list tests c text M (m, says, p) =
    let one = checked (λ m. SourceRefused m.source) (λ m. IsFaultless m.source) (next target_sets (next target_names (said_rules list tests))) c m M p in
    let two = checked (λ m. TargetRefused m.target) (λ m. IsFaultless m.target) (next target_names (said_rules list tests)) c m M one.1 in
    let three = checked (λ m. NameRefused m.target) (λ m. NoneReserved m.target) (said_rules list tests) c m M two.1 in
    record { said = m; is_text = says; source = one.0; target = two.0; names = three.0; rules = three.1.0; taken = is_taken list tests c m three.1.0 three.1.1; is = three.1.2 }

pub shown_rules_are_read_again : ShownRulesAreReadAgain
shown_rules_are_read_again list tests c text M offer small p =
    let a = is_accepted list tests c text M p in
    let m = a.said in
    let P = a.rules in
    let words = said_is_writable text m a.is_text in
    let from : AreTables (tables_of m.source) = are_tables m.source a.source.form in
    let to : AreTables (tables_of m.target) = are_tables m.target a.target.form in
    let fit : MappingFits list tests (with_rules tests (between_of m) P) = subst (MappingFits list tests) a.is (accepted_fits list tests c text M small p) in
    let writable = taken_writable text list tests m P a.is_text offer a.taken in
    subst (ShowsAgain list text) (sym a.is) (record {
      said = m;
      is_text = a.is_text;
      source = refl;
      target = refl;
      behind = printed_lines_are_read text m list P a.is_text from to offer fit.fit fit.listed writable;
      alone = λ version sets b. printed_lines_are_read sets (sides version m.source m.target) list P b from to offer fit.fit fit.listed writable;
    })
