-- What is read after a mapping is one list of rules, what is read has listed conversions, and rules that are said can be printed.
use Rattle.std.proofs.Common.{◌≡◌, refl, sym, ap, ◌∙◌, subst}
use Rattle.std.proofs.lemmas.List.{append_cancel_left}
use Rattle.dx_base.proofs.Firsts.{each_none}
use Rattle.dx_base.proofs.Members.{from_map}
use Rattle.dx_model.specs.Fitting.{RuleFits}
use Rattle.dx_schema.specs.Tables.{model_tables}
use Rattle.dx_schema_text.specs.declared.texts.MappingText.{MappingText}
use Rattle.dx_schema_text.proofs.Answered.{one_mapping}
use Rattle.dx_schema_text.proofs.SpelledWords.{said_is_writable}
use Rattle.dx_tgd_text.specs.Laws.{AllOffered}
use Rattle.dx_tgd_text.specs.Reading.{rule_fault, rule_of_text, rules_of_texts}
use Rattle.dx_tgd_text.proofs.Fits.{all_fit, all_offered, read_rules_are_offered}
use Rattle.dx_tgd_text.proofs.Written.{texts_have_whole_rules}
use Rattle.clio_rule_laws.specs.ReadBack.{IsWritable, with_more_rules}
use Rattle.clio_rule_laws.specs.Laws.{OneListBehind, ReadIsOffered, ReadBehindIsOffered, SaidRulesArePrintable}
use Rattle.clio_rule_laws.proofs.Lines.{tables_named}
use Rattle.clio_rule_laws.proofs.Said.{said_rules_are_writable}

pub one_list_behind : OneListBehind
one_list_behind m list ds es text p q =
    let one : with_more_rules m p.said ≡ with_more_rules m q.said = one_mapping text (with_more_rules m p.said) (with_more_rules m q.said) p.is_text q.is_text in
    let said : p.said ≡ q.said = append_cancel_left m.rules p.said q.said (ap (λ (n : MappingText). n.rules) one) in
    sym p.same ∙ ap (rules_of_texts m.source m.target list) said ∙ q.same

pub read_is_offered : ReadIsOffered
read_is_offered source target list d text p = subst (AllOffered list) p.same (read_rules_are_offered source target list p.said p.no_fault)

pub read_behind_is_offered : ReadBehindIsOffered
read_behind_is_offered m list ds text p = all_offered m.source m.target list p.said ds (sym p.same) p.no_fault

pub said_rules_are_printable : SaidRulesArePrintable
said_rules_are_printable text m list says from to offer narrow no_fault d k =
    let ds = rules_of_texts m.source m.target list m.rules in
    let r = from_map (rule_of_text m.source m.target list) m.rules k in
    let named = said_is_writable text m says in
    let fits : RuleFits (model_tables m.source) (model_tables m.target) d = all_fit m.source m.target list m.rules ds narrow refl no_fault (λ s i. (texts_have_whole_rules text m says s i).0) d k in
    record {
      fits = fits;
      offered = all_offered m.source m.target list m.rules ds refl no_fault d k;
      named = tables_named m.source m.target d named.0.named named.1.named fits;
      writable = subst (IsWritable list) r.2 (said_rules_are_writable text m list r.0 says offer r.1 (each_none (rule_fault m.source m.target list) m.rules no_fault r.0 r.1));
    }
