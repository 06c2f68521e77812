-- A rule that fits its schemas can be written, and is read again.
use Rattle.std.proofs.Common.{ℕ, suc, ◌+◌, ◌<◌, true, false, List, [], ◌∷◌, length, refl, subst, arith}
use Rattle.std.proofs.lemmas.List.{append-nil}
use Rattle.dx_base.specs.Members.{◌∈◌, here, there, Each}
use Rattle.dx_base.proofs.Members.{in_at, in_flat_map}
use Rattle.dx_model.specs.declared.rules.Cell.{Cell}
use Rattle.dx_model.specs.declared.rules.Cell.TheVariants.{Var, Ex, Lit}
use Rattle.dx_model.specs.declared.rules.Atom.{Atom}
use Rattle.dx_model.specs.declared.rules.Derived.{Derived}
use Rattle.dx_model.specs.declared.rules.Rule.{Rule}
use Rattle.dx_model.specs.Rules.{existential_in, existentials}
use Rattle.dx_model.specs.Solutions.{AtomFits}
use Rattle.dx_model.specs.Fitting.{IsVariable, cell_variable, premise_variables, IsRule, RuleFits}
use Rattle.dx_schema.specs.Forest.{Forest}
use Rattle.dx_schema.specs.Tables.{AreTables, model_tables, tables_of, schema_table}
use Rattle.dx_schema.proofs.Facts.{atom_table, atom_width}
use Rattle.dx_schema_text.specs.Spelling.{SpellsRule}
use Rattle.dx_schema_text.proofs.PrintScans.{Reads, ReadsAll, reads_all}
use Rattle.dx_funcs.specs.declared.conversion.Conversion.{Conversion}
use Rattle.dx_funcs.specs.Names.{conversion_name}
use Rattle.dx_funcs.specs.Offers.{IsOffer}
use Rattle.dx_rule_text.specs.Printed.{rule_text, table_name}
use Rattle.dx_tgd_text.specs.Laws.{AllOffered}
use Rattle.clio_rule_laws.specs.ReadBack.{HasNamedTables, IsPrintableRule, IsWritable}
use Rattle.clio_rule_laws.specs.Laws.{PrintedRulesAreRead}
use Rattle.clio_rule_laws.proofs.Says.{Counted, counted, SaysRule}
use Rattle.clio_rule_laws.proofs.Spelled.{Spelled, CanStand, CanBeAtom, CanBeDerived, CanBeRule, rule_read}
use Rattle.clio_rule_laws.proofs.Runs.{numbered_below}
use Rattle.clio_rule_laws.proofs.ReadBack.{variables_below, existentials_below, rule_back}

-- the atom has a cell, since its table has a column
some_cell : (f : Forest) (a : Atom) → AreTables (tables_of f) → AtomFits (model_tables f) a → 0 < length a.cells
some_cell f a tables fits =
    let column = (tables.each_table (schema_table f a.table) (in_at (tables_of f) a.table _ (atom_table f a fits))).some_column in
    let width = atom_width f a fits in
    omega (arith, column, width)

premise_can : (source target : Forest) (list : List Conversion) (d : Rule) → AreTables (tables_of source) → RuleFits (model_tables source) (model_tables target) d → HasNamedTables source target d → Each d.premise (CanBeAtom false (table_name source))
premise_can source target list d tables fits named a m = record {
  word = named.premise a m;
  some_cell = some_cell source a tables (fits.premise a m);
  cells = λ c within. can c within (fits.rule.plain a m c within);
}
  where
    can : (c : Cell) → c ∈ a.cells → IsVariable c → CanStand false c
    can (Var n) within plain =
        let below = numbered_below 0 _ (premise_variables d) fits.rule.numbered n (in_flat_map cell_variable (in_flat_map (λ (b : Atom). b.cells) m within) (here refl)) in
        let few = variables_below d fits.rule in
        omega (arith, below, few)
    can (Ex v) within plain = absurd plain
    can (Lit t) within plain = absurd plain

conclusion_can : (source target : Forest) (list : List Conversion) (d : Rule) → AreTables (tables_of target) → RuleFits (model_tables source) (model_tables target) d → HasNamedTables source target d → IsWritable list d → Each d.conclusion (CanBeAtom true (table_name target))
conclusion_can source target list d tables fits named w a m = record {
  word = named.conclusion a m;
  some_cell = some_cell target a tables (fits.conclusion a m);
  cells = can;
}
  where
    can : (c : Cell) → c ∈ a.cells → CanStand true c
    can (Var n) within =
        let below = fits.rule.known n (in_flat_map (λ (b : Atom). b.cells) m within) in
        let few = variables_below d fits.rule in
        omega (arith, below, few)
    can (Ex v) within =
        let below = numbered_below 0 (existentials d.conclusion) fits.rule.existentials.0 fits.rule.existentials.1 v (in_flat_map existential_in (in_flat_map (λ (b : Atom). b.cells) m within) (here refl)) in
        let few = existentials_below d fits.rule in
        omega (arith, below, few)
    can (Lit t) within = (refl, w.literals a m t within)

record IsCountedFrom (n : ℕ) (ds : List Derived) (c : Counted) : Type 0 where
  member : c.derived ∈ ds
  high : c.number < n + length ds

counted_from : (n : ℕ) (ds : List Derived) (c : Counted) → c ∈ counted n ds → IsCountedFrom n ds c
counted_from n [] c m = elim m [ ]
counted_from n (d ∷ ds) c (here e) = subst (IsCountedFrom n (d ∷ ds)) e (record { member = here refl; high = omega arith })
counted_from n (d ∷ ds) c (there m) = let k = counted_from (suc n) ds c m in let high = k.high in record { member = there k.member; high = omega (arith, high) }

derived_can : (source target : Forest) (list : List Conversion) (d : Rule) → IsOffer list → IsRule d → AllOffered list d → IsWritable list d → Each (counted (premise_variables d) d.derived) (CanBeDerived (conversion_name list))
derived_can source target list d offer rule offered w c m =
    let k = counted_from (premise_variables d) d.derived c m in
    let high = k.high in
    let few = variables_below d rule in
    let listed = offered c.derived k.member in
    let takes = listed.3 in
    let some = (offer.arities listed.0 listed.1).0 in
    record {
      number = omega (arith, high, few);
      word = w.conversions c.derived k.member;
      some_argument = omega (arith, takes, some);
      args = λ n within. let below = rule.derived c.derived k.member n within in omega (arith, below, few);
    }

-- a rule that can be printed can be written
pub can_be_written : (source target : Forest) (list : List Conversion) (d : Rule) → AreTables (tables_of source) → AreTables (tables_of target) → IsOffer list → IsPrintableRule source target list d → CanBeRule source target list d
can_be_written source target list d from to offer p = record {
  some_premise = p.fits.rule.some_premise;
  premise = premise_can source target list d from p.fits p.named;
  derived = derived_can source target list d offer p.fits.rule p.offered p.writable;
  some_conclusion = p.fits.rule.some_conclusion;
  conclusion = conclusion_can source target list d to p.fits p.named p.writable;
}

-- and is read as the same rule
pub printed_rules_are_read : PrintedRulesAreRead
printed_rules_are_read source target list d from to offer p =
    let can = can_be_written source target list d from to offer p in
    let text = rule_text source target list d in
    let reads = subst (λ (bytes : List ℕ). Reads (Spelled (SaysRule source target list) SpellsRule d) 0 bytes []) (append-nil text) (rule_read source target list d 0 [] can) in
    let all : ReadsAll (Spelled (SaysRule source target list) SpellsRule d) text = reads_all (Spelled (SaysRule source target list) SpellsRule d) text reads in
    let back = rule_back source target list d all.has.text from to offer p.fits p.offered all.has.says in
    record {
      said = all.has.text;
      is_text = record { no_stop = all.no_stop; spelled = all.has.spells };
      no_fault = back.no_fault;
      same = back.same;
    }
