use Rattle.std.proofs.Common.{◌∙◌, ◌≤◌, List, ap, arith, subst, sym}
use Rattle.std.proofs.lemmas.Slice.Zip.{AllZip-long}
use Rattle.dx_base.specs.Members.{◌≈◌, Each}
use Rattle.dx_model.specs.declared.values.Value.{Value}
use Rattle.dx_funcs.specs.Serving.{offered}
use Rattle.dx_model.specs.Rules.{AreRows, canonical}
use Rattle.dx_model.specs.Values.{Rows}
use Rattle.dx_instance.specs.Shown.{shown_tables}
use Rattle.dx_instance.specs.Stored.{TableRows, facts, widths}
use Rattle.dx_instance.proofs.RankFacts.{ascend_apart}
use Rattle.dx_schema.specs.Tables.{schema_widths}
use Rattle.dx_tgd.specs.Asked.{IsMatchable}
use Rattle.dx_tgd.specs.Counting.{canonical_cells}
use Rattle.dx_tgd.specs.Found.{IsFoundRule, IsRenumbering}
use Rattle.dx_tgd.specs.Texts.{tuples_in}
use Rattle.dx_tgd.proofs.Founds.{all_rule_rows, found_ascend, found_fit, found_reordered, found_texts, have_cells, reordered_cells}
use Rattle.dx_tgd.proofs.plain.canonical_plain.Goals as goal

pub found_rules-requires-clause-matchable : goal.found_rules-requires-clause-matchable
found_rules-requires-clause-matchable g c =
    subst (λ (I : List TableRows). Each c.args.rules.now (IsMatchable (offered c.args.host.now) (widths I))) (sym c.numbers-numbers.ensures.shown) c.requires.rules.matchable

pub found_rules-requires-clause-cells : goal.found_rules-requires-clause-cells
found_rules-requires-clause-cells g c =
    have_cells (schema_widths c.args.target.now) c.args.rules.now (λ w m. (c.widths.ensures.within w m).0) (λ d m. (c.requires.rules.matchable d m).rule) c.requires.rules.conclusions

pub in_order-requires-clause-ascend : goal.in_order-requires-clause-ascend
in_order-requires-clause-ascend g c =
    found_ascend g.M.Meaning.apply (facts (shown_tables c.numbers-numbers.result.symbols c.numbers-numbers.result.tables)) c.in_ok-found.found.symbols c.args.rules.now c.in_ok-found.found.tables.items c.in_ok-found.ensures.found

pub in_order-requires-clause-texts : goal.in_order-requires-clause-texts
in_order-requires-clause-texts g c =
    found_texts g.M.Meaning.apply (facts (shown_tables c.numbers-numbers.result.symbols c.numbers-numbers.result.tables)) c.in_ok-found.found.symbols c.args.rules.now c.in_ok-found.found.tables.items c.in_ok-found.ensures.found

pub new-requires-clause-few : goal.new-requires-clause-few
new-requires-clause-few g c =
    let I = facts (shown_tables c.numbers-numbers.result.symbols c.numbers-numbers.result.tables) in
    let found = AllZip-long (IsFoundRule g.M.Meaning.apply I c.in_ok-found.found.symbols) c.args.rules.now c.in_ok-found.found.tables.items c.in_ok-found.ensures.found in
    let same = AllZip-long (IsRenumbering c.in_ok-found.found.symbols c.in_ok-ordered.ordered.symbols) c.in_ok-found.found.tables.items c.in_ok-ordered.ordered.tables.items c.in_ok-ordered.ensures.same in
    let few = c.requires.rules.few in
    omega (arith, found, same, few)

pub new-requires-clause-texts : goal.new-requires-clause-texts
new-requires-clause-texts g c =
    let I = facts (shown_tables c.numbers-numbers.result.symbols c.numbers-numbers.result.tables) in
    let S = c.in_ok-ordered.ordered.symbols in
    let ts = c.in_ok-ordered.ordered.tables.items in
    let found = found_reordered g.M.Meaning.apply I c.in_ok-found.found.symbols S c.args.rules.now c.in_ok-found.found.tables.items ts c.in_ok-ordered.ensures.same c.in_ok-found.ensures.found in
    found_texts g.M.Meaning.apply I S c.args.rules.now ts found

pub canonical_of_rows-requires : goal.canonical_of_rows-requires
canonical_of_rows-requires g c =
    let I = facts (shown_tables c.numbers-numbers.result.symbols c.numbers-numbers.result.tables) in
    let S = c.in_ok-ordered.ordered.symbols in
    let ts = c.in_ok-ordered.ordered.tables.items in
    let found = found_reordered g.M.Meaning.apply I c.in_ok-found.found.symbols S c.args.rules.now c.in_ok-found.found.tables.items ts c.in_ok-ordered.ensures.same c.in_ok-found.ensures.found in
    let few = reordered_cells c.in_ok-found.found.symbols S c.args.rules.now c.in_ok-found.found.tables.items c.in_ok-ordered.ordered.tables.items (ascend_apart S c.in_ok-ordered.ensures.ascend) c.in_ok-ordered.ensures.same in
    let within = c.in_ok-found.ensures.within in
    let limit = c.requires.limit in
    let columns = c.deref-2.ensures.value ∙ c.in_ok-columns.ensures.all in record {
      some = rw columns (λ w m. (c.widths.ensures.within w m).0);
      few = rw columns (omega (arith, c.widths.ensures.few));
      rules = c.requires.rules.few;
      fits = rw columns c.requires.rules.conclusions;
      tuples = rw (c.in_ok-symbols.ensures, c.deref.ensures.value) (found_fit g.M.Meaning.apply I S c.args.rules.now ts found);
      limit = rw (c.in_ok-symbols.ensures, c.deref.ensures.value) (omega (arith, few, within, limit));
    }

pub returns-clause-matches : goal.returns-clause-matches
returns-clause-matches g c =
    let I = facts (shown_tables c.numbers-numbers.result.symbols c.numbers-numbers.result.tables) in
    let S = c.in_ok-ordered.ordered.symbols in
    let ts = c.in_ok-ordered.ordered.tables.items in
    let found = found_reordered g.M.Meaning.apply I c.in_ok-found.found.symbols S c.args.rules.now c.in_ok-found.found.tables.items ts c.in_ok-ordered.ensures.same c.in_ok-found.ensures.found in
    let rows = all_rule_rows g.M.Meaning.apply I S c.args.rules.now ts c.in_ok-ordered.ensures.ascend found in
    let here = subst (λ (J : List TableRows). AreRows g.M.Meaning.apply c.args.rules.now (facts J) (tuples_in S ts)) c.numbers-numbers.ensures.shown rows in
    subst (λ (rs : Rows). AreRows g.M.Meaning.apply c.args.rules.now (facts c.args.source.now) rs) (sym c.new.ensures) here

pub returns-clause-within : goal.returns-clause-within
returns-clause-within g c =
    let S = c.in_ok-ordered.ordered.symbols in
    let ts = c.in_ok-ordered.ordered.tables.items in
    let few = reordered_cells c.in_ok-found.found.symbols S c.args.rules.now c.in_ok-found.found.tables.items ts (ascend_apart S c.in_ok-ordered.ensures.ascend) c.in_ok-ordered.ensures.same in
    let within = c.in_ok-found.ensures.within in
    let all : canonical_cells c.args.rules.now (tuples_in S ts) ≤ c.args.limit = omega (arith, few, within) in
    subst (λ (rs : Rows). canonical_cells c.args.rules.now rs ≤ c.args.limit) (sym c.new.ensures) all

pub returns-clause-facts : goal.returns-clause-facts
returns-clause-facts g c =
    let S = c.in_ok-ordered.ordered.symbols in
    let same = ap (λ (z : List Value). tuples_in z c.deref.result.now) c.in_ok-symbols.ensures ∙ (ap (tuples_in S) c.deref.ensures.value ∙ sym c.new.ensures) in
    subst (λ (rs : Rows). facts c.in_ok-instance.instance ≈ canonical 0 c.args.rules.now rs) same c.in_ok-instance.ensures.facts
