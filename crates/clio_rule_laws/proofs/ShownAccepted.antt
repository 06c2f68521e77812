-- The sets of an accepted mapping, with its rules after them, are accepted with the same mapping.
use Rattle.std.proofs.Common.{◌≡◌, ℕ, ◌<◌, ◌≤◌, ◌-◌, ◌^◌, Bool, false, List, [], ◌∷◌, ◌++◌, Option, Some, None, length, map, flat_map, inl, inr, refl, sym, ◌∙◌, ap, subst, arith}
use Rattle.std.specs.List.{filter, list_any}
use Rattle.std.proofs.lemmas.List.{length-map}
use Rattle.dx_base.specs.declared.file.Limit.{Limit}
use Rattle.dx_base.specs.Members.{◌∈◌, here, there, Each}
use Rattle.dx_base.proofs.Members.{from_append}
use Rattle.dx_model.specs.declared.rules.Rule.{Rule}
use Rattle.dx_model.specs.Fitting.{IsRule}
use Rattle.dx_model.specs.Solutions.{IsClosed}
use Rattle.dx_model.specs.Tables.{Table}
use Rattle.dx_schema.specs.Tables.{model_tables}
use Rattle.dx_schema_text.specs.declared.texts.MappingText.{MappingText}
use Rattle.dx_schema_text.specs.declared.texts.RuleText.{RuleText}
use Rattle.dx_schema_text.specs.Print.{sides}
use Rattle.dx_schema_text.specs.Texts.{IsMappingText}
use Rattle.dx_schema.specs.Links.{IsFaultless}
use Rattle.dx_logical.specs.Unfolding.{variant_of}
use Rattle.dx_closing.proofs.Own.{served_is_closing}
use Rattle.dx_funcs.specs.declared.conversion.Conversion.{Conversion}
use Rattle.dx_funcs.specs.declared.row_test.RowTest.{RowTest}
use Rattle.dx_lines.specs.Candidates.{all_variants, pair_candidates, candidates_of}
use Rattle.dx_lines.specs.Kept.{is_kept}
use Rattle.dx_lines.specs.Limits.{first_or, has_many_ways, passed_by, passed_limit}
use Rattle.dx_lines.specs.Rules.{kept_rules, candidate_rule}
use Rattle.dx_lines.specs.declared.line.Line.{Line}
use Rattle.dx_lines.proofs.Sources.{from_kept}
use Rattle.dx_line_text.specs.Naming.{lines_of}
use Rattle.dx_base.specs.Texts.{Text}
use Rattle.dx_tgd_text.specs.Reading.{RuleHasFewCells, rules_of_texts as said_rules_of}
use Rattle.dx_tgd_text.proofs.Written.{texts_have_whole_rules}
use Rattle.clio_rule_laws.specs.ReadBack.{ReadsBehind}
use Rattle.clio_rule_laws.specs.ReadBack as read_back
use Rattle.dx_stages.specs.Worlds.{World}
use Rattle.dx_stages.specs.Stages.{next}
use Rattle.dx_implies.proofs.Pruned.{left_implies}
use Rattle.clio_accept.specs.declared.mapping.Mapping.{Mapping}
use Rattle.clio_accept.specs.Mapping.{AreClosings, RulesOfLines, IsNarrowClosing, NoneReserved, frozen_cells, limit_of, rules_of_lines, written_of}
use Rattle.clio_accept.specs.Accepting.{accepting, between_of, closing, leaving, taking, with_rules}
use Rattle.clio_accept.specs.Laws.{MappingFits}
use Rattle.clio_accept.proofs.Accepted.{IsRead, accepted_fits, all_rules_fit}
use Rattle.clio_accept.proofs.Closed.{closed_of}
use Rattle.clio_accept.proofs.Few.{narrow_sides}
use Rattle.clio_rule_laws.specs.Shown.{ShowsAgain, rule_lines, unconditional}
use Rattle.clio_rule_laws.specs.Laws.{ShownIsAccepted}
use Rattle.clio_accept.proofs.Accepted.{IsTaken}
use Rattle.clio_rule_laws.proofs.Shown.{is_accepted, shown_rules_are_read_again}
use Rattle.clio_rule_laws.proofs.Pruned.{no_test_passes, pruned_again}

-- ---- no lines pass no limit

any_none : {X : Type 0} (p : X → Bool) (xs : List X) → ((x : X) → p x ≡ false) → list_any p xs ≡ false
any_none p [] h = refl
any_none p (x ∷ xs) h = rw (h x) (any_none p xs h)

flat_none : {X Y : Type 0} (f : X → List Y) (xs : List X) → ((x : X) → f x ≡ []) → flat_map f xs ≡ []
flat_none f [] h = refl
flat_none f (x ∷ xs) h = rw (h x) (flat_none f xs h)

no_candidates : (A B : List Table) → candidates_of [] A B ≡ []
no_candidates A B = flat_none _ (all_variants A) (λ s. flat_none (pair_candidates [] s) (all_variants B) (λ t. refl))

no_many_ways : (A B : List Table) → has_many_ways [] A B ≡ false
no_many_ways A B = any_none _ (all_variants A) (λ s. any_none _ (all_variants B) (λ t. refl))

-- where none of these is passed, what comes after them is the first
rest_first : (xs : List (Option Limit)) (rest other : Option Limit) → first_or xs rest ≡ None → first_or xs other ≡ other
rest_first [] rest other e = refl
rest_first (None ∷ xs) rest other e = rest_first xs rest other e
rest_first (Some l ∷ xs) rest other e = absurd (cc)

none_passed : (lines : List Line) (A B : List Table) → passed_limit lines A B ≡ None → passed_limit [] A B ≡ None
none_passed lines A B e = rest_first (passed_by A ++ passed_by B) _ _ e ∙ (rw (no_many_ways A B, no_candidates A B) refl)

-- ---- the rules are their own closings

-- neither side of a rule has more than 64 atoms
record HasFewAtoms (d : Rule) : Type 0 where
  premise : length d.premise ≤ 64
  conclusion : length d.conclusion ≤ 64

kept_few : (lines : List Line) (A B : List Table) → passed_limit lines A B ≡ None → Each (kept_rules lines A B) HasFewAtoms
kept_few lines A B e d m =
    let n = narrow_sides lines A B e in
    let k = from_kept lines A B d m in
    let from = n.0 k.0.source k.1.source_table (variant_of A k.0.source k.0.source_variant) k.1.source_variant in
    let to = n.1 k.0.target k.1.target_table (variant_of B k.0.target k.0.target_variant) k.1.target_variant in
    subst HasFewAtoms k.2 (record {
      premise = rw (length-map (variant_of A k.0.source k.0.source_variant).occurrences _) from;
      conclusion = rw (length-map (variant_of B k.0.target k.0.target_variant).occurrences _) to;
    })

closed_few : (schema : List Table) (ds es : List Rule) → AreClosings schema ds es → Each es HasFewAtoms
closed_few schema ds es closings e m =
    let k = closed_of schema ds es closings e m in
    record { premise = rw k.2.closing.premise k.2.premise; conclusion = k.2.conclusion }

all_few : (list : List Conversion) (tests : List RowTest) (m : MappingText) (P : List Rule) (t : IsTaken list tests m P) → Each t.all HasFewAtoms
all_few list tests m P t d i =
    elim (from_append (rules_of_lines list m.source m.target m.lines) (subst (λ rs. d ∈ rs) t.are.are i)) [
      | inl k ↦ kept_few (lines_of m.source m.target list m.lines) (model_tables m.source) (model_tables m.target) t.limits d k
      | inr k ↦ closed_few (model_tables m.target) (written_of list m.source m.target m.rules) t.are.closed t.are.closings d k
    ]

own_closings : (schema : List Table) (ds : List Rule) → Each ds (λ d. IsNarrowClosing schema d d) → AreClosings schema ds ds
own_closings schema [] h = tt
own_closings schema (d ∷ ds) h = (h d (here refl), own_closings schema ds (λ e m. h e (there m)))

-- ---- the rules after the sets

no_kept : (A B : List Table) → kept_rules [] A B ≡ []
no_kept A B = ap (λ cs. map (candidate_rule [] A B) (filter (is_kept [] A B) cs)) (no_candidates A B)

-- what is left of the rules of a mapping is taken again, where a text says it between the same sides
taken_again : (list : List Conversion) (tests : List RowTest) (m : MappingText) (P : List Rule) (said : List RuleText) → IsTaken list tests m P → Each P (λ d. IsClosed (model_tables m.target) d) → Each P HasFewAtoms
    → said_rules_of m.source m.target list said ≡ P → RulesOfLines list m.source m.target [] said P
taken_again list tests m P said t closed few same =
    let T = model_tables m.target in
    let own : AreClosings T P P = own_closings T P (λ d i. record { closing = served_is_closing T d (closed d i); premise = (few d i).premise; conclusion = (few d i).conclusion }) in
    record {
      closed = P;
      closings = subst (λ ds. AreClosings T ds P) (sym same) own;
      are = ap (λ (ks : List Rule). ks ++ P) (sym (no_kept (model_tables m.source) T));
    }

-- the mapping of a text with these rules
abbrev said_with : List RowTest → MappingText → List Rule → Mapping
said_with tests m P = with_rules tests (between_of m) P

accepted_again : (list : List Conversion) (tests : List RowTest) (c : World) (text sets : Text) (m : MappingText) (P : List Rule) (version : ℕ) → length text < 2 ^ 32 - 1 → IsMappingText text m → IsFaultless m.source → IsFaultless m.target → NoneReserved m.target → IsTaken list tests m P
    → MappingFits list tests (said_with tests m P) → ReadsBehind (sides version m.source m.target) list P (sets ++ rule_lines list (said_with tests m P)) → (accepting list tests).passes c (sets ++ rule_lines list (said_with tests m P)) (unconditional (said_with tests m P))
accepted_again list tests c text sets m P version small says source target names t fit shown =
    let whole = texts_have_whole_rules text m says in
    let read : IsRead list m = record { source = source; target = target; named = t.named; limits = t.limits; written = t.written; whole = λ r i. (whole r i).0 } in
    let narrow : Each m.rules RuleHasFewCells = λ r i. (let few = (whole r i).1 in omega (arith, few, small)) in
    let rules : Each t.all IsRule = λ d i. (all_rules_fit list m t.all read narrow t.are d i).rule in
    let part = (left_implies t.all P t.left).0 in
    let few : Each P HasFewAtoms = λ d i. all_few list tests m P t d (part d i) in
    let said = read_back.with_more_rules (sides version m.source m.target) shown.said in
    let b = between_of said in
    let limit : limit_of list m.source m.target [] ≡ None = none_passed (lines_of m.source m.target list m.lines) (model_tables m.source) (model_tables m.target) t.limits in
    let left : leaving.passes c P P = (P, (fit.few, refl), (P, (no_test_passes frozen_cells t.all P rules t.left t.within, refl), pruned_again t.all P t.left)) in
    let closed : (next (closing list) leaving).passes c b P = (P, taken_again list tests m P shown.said t fit.closed few shown.same, left) in
    let again : (taking list tests).passes c b P = (b, (omega arith, refl), (b, (refl, refl), (b, (refl, refl), (b, (shown.no_fault, refl), (b, (limit, refl), closed))))) in
    (said, shown.is_text, (said, (source, refl), (said, (target, refl), (said, (names, refl), (P, again, refl)))))

pub shown_is_accepted : ShownIsAccepted
shown_is_accepted list tests c text sets M version offer small p says =
    let a = is_accepted list tests c text M p in
    let fit : MappingFits list tests (said_with tests a.said a.rules) = subst (MappingFits list tests) a.is (accepted_fits list tests c text M small p) in
    let shown = subst (ShowsAgain list text) a.is (shown_rules_are_read_again list tests c text M offer small p) in
    let sets_say : IsMappingText sets (sides version a.said.source a.said.target) = subst (λ (N : Mapping). IsMappingText sets (sides version N.source N.target)) a.is says in
    subst (λ (N : Mapping). (accepting list tests).passes c (sets ++ rule_lines list N) (unconditional N)) (sym a.is)
    (accepted_again list tests c text sets a.said a.rules version small a.is_text a.source a.target a.names a.taken fit (shown.alone version sets sets_say))
