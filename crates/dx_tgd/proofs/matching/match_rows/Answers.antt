use Rattle.std.proofs.Common.{ap, subst, sym, List}
use Rattle.dx_model.specs.declared.values.Value.{Value}
use Rattle.dx_funcs.specs.Serving.{offered}
use Rattle.dx_instance.specs.Numbers.{Extends}
use Rattle.dx_instance.specs.Stored.{TableRows, facts, widths}
use Rattle.dx_instance.proofs.NumberFacts.{stays}
use Rattle.dx_instance.specs.Shown.{shown_tables}
use Rattle.dx_joins.proofs.Whole.{none_found}
use Rattle.dx_joins.proofs.Carrying.{found}
use Rattle.dx_tgd.specs.Asked.{IsMatchable}
use Rattle.dx_tgd.specs.Found.{IsFoundRule}
use Rattle.dx_tgd.proofs.Founds.{ordered_places}
use Rattle.dx_tgd.proofs.matching.match_rows.Goals as goal

pub rule_rows-requires-clause-rule : goal.rule_rows-requires-clause-rule
rule_rows-requires-clause-rule g c = subst (λ (I : List TableRows). IsMatchable (offered c.args.host.now) (widths I) c.args.rule.now) (sym c.numbers-numbers.ensures.shown) c.requires.rule

pub rule_rows-requires-clause-symbols : goal.rule_rows-requires-clause-symbols
rule_rows-requires-clause-symbols g c = subst (λ (s : List Value). Extends c.numbers-numbers.result.symbols s) (sym c.in_ok-symbols.ensures) (stays c.numbers-numbers.result.symbols)

pub one_in_order-requires-clause-ascend : goal.one_in_order-requires-clause-ascend
one_in_order-requires-clause-ascend g c = (found c.in_ok-found.found c.in-Some.rows _ _ c.in-Some.is c.in_ok-found.ensures.rows).ascend

pub one_in_order-requires-clause-texts : goal.one_in_order-requires-clause-texts
one_in_order-requires-clause-texts g c = (found c.in_ok-found.found c.in-Some.rows _ _ c.in-Some.is c.in_ok-found.ensures.rows).texts

pub unreachable-requires : goal.unreachable-requires
unreachable-requires g c = none_found c.in_ok-found.found _ _ c.in-None.is c.in_ok-found.ensures.rows

pub returns : goal.returns
returns g c =
    let J = facts (shown_tables c.numbers-numbers.result.symbols c.numbers-numbers.result.tables) in
    let s = found c.in_ok-found.found c.in-Some.rows _ (IsFoundRule g.M.Meaning.apply J c.rule_rows.new.symbols c.args.rule.now) c.in-Some.is c.in_ok-found.ensures.rows in
    ordered_places g.M.Meaning.apply J (facts c.args.source.now) c.rule_rows.new.symbols c.in_ok-symbols-in-Some.symbols c.args.rule.now c.in-Some.rows c.in_ok-symbols-in-Some.rows c.places_of_rows.result
    (ap facts c.numbers-numbers.ensures.shown) s c.in_ok-symbols-in-Some.ensures.ascend c.in_ok-symbols-in-Some.ensures.same c.places_of_rows.ensures.exact
