-- A printed rule is read as the same rule.
use Rattle.std.proofs.Common.{◌≡◌, ℕ, ◌+◌, ◌<◌, ◌^◌, false, List, [], ◌∷◌, ◌++◌, None, map, flat_map, length, refl, ap, ◌∙◌, arith}
use Rattle.dx_base.specs.Members.{◌∈◌, here, Each}
use Rattle.dx_base.specs.Firsts.{first_of}
use Rattle.dx_base.proofs.Members.{in_flat_map, from_flat_map}
use Rattle.dx_model.specs.declared.rules.Cell.TheVariants.{Var, Ex}
use Rattle.dx_model.specs.declared.rules.Atom.{Atom}
use Rattle.dx_model.specs.declared.rules.Derived.{Derived}
use Rattle.dx_model.specs.declared.rules.Rule.{Rule}
use Rattle.dx_model.specs.Rules.{cells_of, existential_in, existentials}
use Rattle.dx_model.specs.Fitting.{IsVariable, cell_variable, premise_variables, IsRule, RuleFits}
use Rattle.dx_model.proofs.Frozen.{few_numbered, few_in_cells}
use Rattle.dx_model.proofs.Cells.{few_existentials}
use Rattle.dx_schema.specs.Forest.{Forest}
use Rattle.dx_schema.specs.Tables.{AreTables, model_tables, tables_of}
use Rattle.dx_base.specs.Texts.{Text}
use Rattle.dx_schema.specs.Faults.{is_among}
use Rattle.dx_schema_text.specs.declared.texts.RuleText.{RuleText}
use Rattle.dx_funcs.specs.declared.conversion.Conversion.{Conversion}
use Rattle.dx_funcs.specs.Offers.{IsOffer}
use Rattle.dx_rule_text.specs.Printed.{variable_text, table_name}
use Rattle.dx_tgd_text.specs.Numbering.{appeared, new_names, text_cells}
use Rattle.dx_tgd_text.specs.Reading.{names_of_premise, known_of, fresh_of, derived_faults, derived_of_text, atoms_of_texts, rule_fault, rule_of_text}
use Rattle.dx_tgd_text.specs.Laws.{AllOffered}
use Rattle.clio_rule_laws.proofs.Says.{Paired, existential_text, SaysCell, SaysRule}
use Rattle.clio_rule_laws.proofs.VariableTexts.{one_variable, one_existential, variable_no_existential}
use Rattle.clio_rule_laws.proofs.Runs.{numbered_below, run, DifferBelow, among_run, absent_run, number_run, appeared_run}
use Rattle.clio_rule_laws.proofs.Cells.{paired_cells, premise_names, conclusion_names, HaveNumbers}
use Rattle.clio_rule_laws.proofs.Atoms.{AreAtomsBack, atoms_back}
use Rattle.clio_rule_laws.proofs.Derivings.{AreDerivedBack, derivings_back}

-- ---- how many variables there are

pub variables_below : (d : Rule) → IsRule d → premise_variables d + length d.derived < 2 ^ 32
variables_below d rule =
    let few = few_numbered 0 (premise_variables d) (flat_map cell_variable (cells_of d.premise)) rule.numbered in
    let short = few_in_cells (cells_of d.premise) in
    let bound = rule.few_variables in
    omega (arith, few, short, bound)

pub existentials_below : (d : Rule) (rule : IsRule d) → rule.existentials.0 < 2 ^ 32
existentials_below d rule =
    let few = few_numbered 0 rule.existentials.0 (existentials d.conclusion) rule.existentials.1 in
    let short = few_existentials (cells_of d.conclusion) in
    let bound = rule.few_cells in
    omega (arith, few, short, bound)

-- ---- the names of a printed rule

differ : DifferBelow (2 ^ 32) variable_text
differ m n h k e = one_variable m n (omega arith) (omega arith) e

existentials_differ : DifferBelow (2 ^ 32) existential_text
existentials_differ m n h k e = one_existential m n (omega arith) (omega arith) e

-- the variables of the premise, which are numbered by first appearance
variables_are : (source target : Forest) (list : List Conversion) (d : Rule) (t : RuleText) → IsRule d → SaysRule source target list d t → names_of_premise t ≡ run variable_text 0 (premise_variables d)
variables_are source target list d t rule says =
    let few = variables_below d rule in
    ap (appeared []) (premise_names (cells_of d.premise) (text_cells t.premise) (paired_cells (table_name source) d.premise t.premise says.premise) plain)
    ∙ appeared_run variable_text (2 ^ 32) 0 (flat_map cell_variable (cells_of d.premise)) (premise_variables d) differ (omega arith) rule.numbered
  where
    plain : Each (cells_of d.premise) IsVariable
    plain c m = let f = from_flat_map (λ (a : Atom). a.cells) d.premise m in rule.plain f.0 f.1 c f.2

-- the cells of a premise have their numbers
premise_numbers : (d : Rule) → IsRule d → HaveNumbers (run variable_text 0 (premise_variables d)) [] (cells_of d.premise)
premise_numbers d rule = record {
  variable_known = λ n m. let lt = below n m in among_run variable_text 0 (premise_variables d) n (omega arith) (omega arith);
  variable_number = λ n m.
      (let lt = below n m in
      let few = variables_below d rule in
      let number = number_run variable_text (2 ^ 32) 0 (premise_variables d) n differ (omega arith) (omega arith) (omega arith) in
      omega (arith, number));
  existential_new = λ v m. absurd (plain (Ex v) m);
  existential_number = λ v m. absurd (plain (Ex v) m);
}
  where
    plain : Each (cells_of d.premise) IsVariable
    plain c m = let f = from_flat_map (λ (a : Atom). a.cells) d.premise m in rule.plain f.0 f.1 c f.2

    below : (n : ℕ) → Var n ∈ cells_of d.premise → n < premise_variables d
    below n m = numbered_below 0 (flat_map cell_variable (cells_of d.premise)) (premise_variables d) rule.numbered n (in_flat_map cell_variable m (here refl))

-- no existential variable has the name of a variable
no_variable : (k v : ℕ) → is_among (existential_text v) (run variable_text 0 k) ≡ false
no_variable k v = absent_run variable_text 0 k (existential_text v) (λ n lt e. variable_no_existential n v e)

-- the cells of a conclusion have their numbers
conclusion_numbers : (d : Rule) (rule : IsRule d) → HaveNumbers (run variable_text 0 (premise_variables d + length d.derived)) (run existential_text 0 rule.existentials.0) (cells_of d.conclusion)
conclusion_numbers d rule = record {
  variable_known = λ n m. let lt = rule.known n m in among_run variable_text 0 (premise_variables d + length d.derived) n (omega arith) (omega arith);
  variable_number = λ n m.
      (let lt = rule.known n m in
      let few = variables_below d rule in
      let number = number_run variable_text (2 ^ 32) 0 (premise_variables d + length d.derived) n differ (omega arith) (omega arith) (omega arith) in
      omega (arith, number));
  existential_new = λ v m. no_variable (premise_variables d + length d.derived) v;
  existential_number = λ v m.
      (let lt = below v m in
      let few = existentials_below d rule in
      let number = number_run existential_text (2 ^ 32) 0 rule.existentials.0 v existentials_differ (omega arith) (omega arith) (omega arith) in
      omega (arith, number));
}
  where
    below : (v : ℕ) → Ex v ∈ cells_of d.conclusion → v < rule.existentials.0
    below v m = numbered_below 0 (existentials d.conclusion) rule.existentials.0 rule.existentials.1 v (in_flat_map existential_in m (here refl))

-- the existential variables of the conclusion, which are numbered by first appearance
existentials_are : (source target : Forest) (list : List Conversion) (d : Rule) (t : RuleText) (rule : IsRule d) → SaysRule source target list d t → known_of t ≡ run variable_text 0 (premise_variables d + length d.derived)
    → fresh_of t ≡ run existential_text 0 rule.existentials.0
existentials_are source target list d t rule says known_is =
    let k = premise_variables d + length d.derived in
    let few = existentials_below d rule in
    let cells : Paired SaysCell (cells_of d.conclusion) (text_cells t.conclusion) = paired_cells (table_name target) d.conclusion t.conclusion says.conclusion in
    ap (λ (known : List Text). appeared [] (new_names known (text_cells t.conclusion))) known_is
    ∙ ap (appeared []) (conclusion_names (run variable_text 0 k) (cells_of d.conclusion) (text_cells t.conclusion) cells (conclusion_numbers d rule).variable_known (no_variable k))
    ∙ appeared_run existential_text (2 ^ 32) 0 (existentials d.conclusion) rule.existentials.0 existentials_differ (omega arith) rule.existentials.1

-- ---- the rule of a text with the words of a printed rule

pub record IsRuleBack (source target : Forest) (list : List Conversion) (d : Rule) (t : RuleText) : Type 0 where
  pub no_fault : rule_fault source target list t ≡ None
  pub same : rule_of_text source target list t ≡ d

pub rule_back : (source target : Forest) (list : List Conversion) (d : Rule) (t : RuleText) → AreTables (tables_of source) → AreTables (tables_of target) → IsOffer list → RuleFits (model_tables source) (model_tables target) d → AllOffered list d
    → SaysRule source target list d t → IsRuleBack source target list d t
rule_back source target list d t from to offer fits offered says =
    let rule = fits.rule in
    let m = premise_variables d in
    let few = variables_below d rule in
    let variables = run variable_text 0 m in
    let variables_is : names_of_premise t ≡ variables = variables_are source target list d t rule says in
    let derived : AreDerivedBack list m m d.derived t.derived = derivings_back list (2 ^ 32) m m d.derived t.derived offer differ (omega arith) (omega arith) offered rule.derived says.derived in
    let known = run variable_text 0 (m + length d.derived) in
    let known_is : known_of t ≡ known = ap (λ (names : List Text). names ++ map (λ e. e.name) t.derived) variables_is ∙ derived.names in
    let fresh = run existential_text 0 rule.existentials.0 in
    let fresh_is : fresh_of t ≡ fresh = existentials_are source target list d t rule says known_is in
    let premise : AreAtomsBack source variables [] d.premise t.premise = atoms_back source variables [] d.premise t.premise from fits.premise says.premise (premise_numbers d rule) in
    let conclusion : AreAtomsBack target known fresh d.conclusion t.conclusion = atoms_back target known fresh d.conclusion t.conclusion to fits.conclusion says.conclusion (conclusion_numbers d rule) in
    record {
      no_fault = rw (premise.no_fault, conclusion.no_fault) (ap (λ (names : List Text). first_of (derived_faults list names names t.derived ∷ None ∷ [])) variables_is ∙ rw derived.no_fault refl);
      same =
          ap (λ (names : List Text). record { premise = atoms_of_texts source names [] t.premise; derived = map (derived_of_text list names) t.derived; conclusion = atoms_of_texts target (known_of t) (fresh_of t) t.conclusion }) variables_is
          ∙ ap (λ (names : List Text). record { premise = atoms_of_texts source variables [] t.premise; derived = map (derived_of_text list variables) t.derived; conclusion = atoms_of_texts target names (fresh_of t) t.conclusion }) known_is
          ∙ ap (λ (names : List Text). record { premise = atoms_of_texts source variables [] t.premise; derived = map (derived_of_text list variables) t.derived; conclusion = atoms_of_texts target known names t.conclusion }) fresh_is
          ∙ ap (λ (atoms : List Atom). record { premise = atoms; derived = map (derived_of_text list variables) t.derived; conclusion = atoms_of_texts target known fresh t.conclusion }) premise.same
          ∙ ap (λ (ds : List Derived). record { premise = d.premise; derived = ds; conclusion = atoms_of_texts target known fresh t.conclusion }) derived.same
          ∙ ap (λ (atoms : List Atom). record { premise = d.premise; derived = d.derived; conclusion = atoms }) conclusion.same;
    }
