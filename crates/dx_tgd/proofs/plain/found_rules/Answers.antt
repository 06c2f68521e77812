use Rattle.std.proofs.Common.{◌≡◌, ◌<◌, ◌≤◌, ◌/◌, ◌*◌, ℕ, List, arith, length, refl, subst}
use Rattle.std.specs.Prelude.{map}
use Rattle.std.proofs.lemmas.List.{length-map, take_all}
use Rattle.dx_base.proofs.Loops.{each_item}
use Rattle.dx_funcs.specs.Serving.{offered}
use Rattle.dx_model.specs.declared.rules.Rule.{Rule}
use Rattle.dx_instance.specs.Shown.{shown_tables}
use Rattle.dx_instance.specs.Stored.{facts, widths}
use Rattle.dx_instance.proofs.ShownFacts.{extends_both}
use Rattle.dx_joins.specs.Shown.{texts_of}
use Rattle.dx_joins.proofs.Carrying.{found}
use Rattle.dx_tgd.specs.Asked.{IsMatchable}
use Rattle.dx_tgd.specs.Counting.{canonical_cells}
use Rattle.dx_tgd.specs.Found.{AllRulesFound, IsFoundRule}
use Rattle.dx_tgd.specs.Placed.{HasCell}
use Rattle.dx_tgd.specs.Texts.{tuples_in}
use Rattle.dx_tgd.proofs.Founds.{found_start, none_found, none_passes, passes, product_fits, so_far_more, tuples_distinct, tuples_shown}
use Rattle.dx_tgd.proofs.plain.found_rules.Goals as goal

pub conclusion_cells-cells-requires : goal.conclusion_cells-cells-requires
conclusion_cells-cells-requires g c =
    let d = each_item (IsMatchable (offered c.args.source.now.host.now) (widths (shown_tables c.args.source.now.rows.now.symbols c.args.source.now.rows.now.tables))) c.args.rules.now c.loop-rule.rule-index c.rule-item.result c.loop-rule-test.true c.rule-item.is c.requires.matchable in
    let k = d.rule.few_cells in
    omega (arith, k)

pub rule_rows-requires-clause-rule : goal.rule_rows-requires-clause-rule
rule_rows-requires-clause-rule g c =
    each_item (IsMatchable (offered c.args.source.now.host.now) (widths (shown_tables c.args.source.now.rows.now.symbols c.args.source.now.rows.now.tables))) c.args.rules.now c.loop-rule.rule-index c.rule-item.result c.loop-rule-test.true c.rule-item.is c.requires.matchable

pub rule_rows-requires-clause-symbols : goal.rule_rows-requires-clause-symbols
rule_rows-requires-clause-symbols g c = extends_both c.args.source.now.rows.now.symbols c.loop-rule.symbols c.intern_literals.new.symbols c.loop-rule.invariant.grows c.in_ok-intern_literals.ensures.grows

pub returns-clause-found : goal.returns-clause-found
returns-clause-found g c =
    let I = facts (shown_tables c.args.source.now.rows.now.symbols c.args.source.now.rows.now.tables) in
    subst (λ (R : List Rule). AllRulesFound g.M.Meaning.apply I c.loop-rule.symbols R c.loop-rule.tables.items) (take_all c.loop-rule.rule-index c.args.rules.now (omega (arith, c.loop-rule-test.false))) c.loop-rule.invariant.found

pub returns-clause-within : goal.returns-clause-within
returns-clause-within g c =
    let cells = c.loop-rule.invariant.cells in
    subst (λ (R : List Rule). canonical_cells R (tuples_in c.loop-rule.symbols c.loop-rule.tables.items) ≤ c.args.limit) (take_all c.loop-rule.rule-index c.args.rules.now (omega (arith, c.loop-rule-test.false))) (omega (arith, cells))

pub loop-rule-init : goal.loop-rule-init
loop-rule-init g c =
    found_start g.M.Meaning.apply (facts (shown_tables c.args.source.now.rows.now.symbols c.args.source.now.rows.now.tables)) c.args.source.now.rows.now.symbols c.in_ok-symbols.symbols c.new-tables.result.items c.args.limit c.in_ok-symbols.ensures c.new-tables.ensures.items c.len.ensures.fit.apart

pub nonzero_div-left : goal.nonzero_div-left
nonzero_div-left g c =
    let k = each_item HasCell c.args.rules.now c.loop-rule.rule-index c.rule-item.result c.loop-rule-test.true c.rule-item.is c.requires.cells in
    omega (arith, k, c.conclusion_cells-cells.ensures)

pub returns-in_default-clause-refused : goal.returns-in_default-clause-refused
returns-in_default-clause-refused g c =
    let I = facts (shown_tables c.args.source.now.rows.now.symbols c.args.source.now.rows.now.tables) in
    let k = each_item HasCell c.args.rules.now c.loop-rule.rule-index c.rule-item.result c.loop-rule-test.true c.rule-item.is c.requires.cells in
    let m = none_found c.in_ok-found.found _ _ c.in_default.is c.in_ok-found.ensures.rows in
    let many = none_passes (c.loop-rule.left / c.conclusion_cells-cells.result) c.conclusion_cells-cells.result c.loop-rule.left (length m.tuples) (omega (arith, k, c.conclusion_cells-cells.ensures)) refl m.more in
    rw c.passed.ensures (
      refl,
      passes g.M.Meaning.apply I c.args.source.now.rows.now.symbols c.loop-rule.symbols c.args.rules.now c.loop-rule.tables.items c.args.limit c.loop-rule.left c.loop-rule.rule-index c.rule-item.result m.tuples
          c.loop-rule.invariant (λ d k. (c.requires.matchable d k).rule) c.loop-rule-test.true c.rule-item.is m.distinct m.each (subst (λ (n : ℕ). c.loop-rule.left < length m.tuples * n) c.conclusion_cells-cells.ensures many),
    )

pub overflow_mul-used : goal.overflow_mul-used
overflow_mul-used g c =
    let d = each_item (IsMatchable (offered c.args.source.now.host.now) (widths (shown_tables c.args.source.now.rows.now.symbols c.args.source.now.rows.now.tables))) c.args.rules.now c.loop-rule.rule-index c.rule-item.result c.loop-rule-test.true c.rule-item.is c.requires.matchable in
    let k = d.rule.few_cells in
    let p = product_fits c.count.result c.conclusion_cells-cells.result (omega (arith, c.count.ensures.count, c.count.ensures.few)) (omega (arith, k, c.conclusion_cells-cells.ensures)) in
    omega (arith, p)

pub returns-then-used-left-clause-refused : goal.returns-then-used-left-clause-refused
returns-then-used-left-clause-refused g c =
    let I = facts (shown_tables c.args.source.now.rows.now.symbols c.args.source.now.rows.now.tables) in
    let s = found c.in_ok-found.found c.in-Some.rows _ (IsFoundRule g.M.Meaning.apply I c.rule_rows.new.symbols c.rule-item.result) c.in-Some.is c.in_ok-found.ensures.rows in
    let long = length-map c.in-Some.rows.rows (texts_of c.rule_rows.new.symbols) in
    let n : c.count.result ≡ length (map (texts_of c.rule_rows.new.symbols) c.in-Some.rows.rows) = omega (arith, c.count.ensures.count, long) in
    rw c.passed-then-used-left.ensures (
      refl,
      passes g.M.Meaning.apply I c.args.source.now.rows.now.symbols c.loop-rule.symbols c.args.rules.now c.loop-rule.tables.items c.args.limit c.loop-rule.left c.loop-rule.rule-index c.rule-item.result
          (map (texts_of c.rule_rows.new.symbols) c.in-Some.rows.rows) c.loop-rule.invariant (λ d k. (c.requires.matchable d k).rule) c.loop-rule-test.true c.rule-item.is
          (tuples_distinct g.M.Meaning.apply I c.rule_rows.new.symbols c.rule-item.result c.in-Some.rows c.in_ok-found.ensures.apart s) (tuples_shown g.M.Meaning.apply I c.rule_rows.new.symbols c.rule-item.result c.in-Some.rows s)
          (rw (n, c.conclusion_cells-cells.ensures) at c.if-used-left.true),
    )

pub loop-rule-preserved : goal.loop-rule-preserved
loop-rule-preserved g c =
    let I = facts (shown_tables c.args.source.now.rows.now.symbols c.args.source.now.rows.now.tables) in
    let s = found c.in_ok-found.found c.in-Some.rows _ (IsFoundRule g.M.Meaning.apply I c.rule_rows.new.symbols c.rule-item.result) c.in-Some.is c.in_ok-found.ensures.rows in
    let few = rw (c.count.ensures.count, c.conclusion_cells-cells.ensures) at c.if-used-left.false in
    rw (c.count.ensures.count, c.conclusion_cells-cells.ensures) (
    so_far_more g.M.Meaning.apply I c.args.source.now.rows.now.symbols c.loop-rule.symbols c.intern_literals.new.symbols c.rule_rows.new.symbols c.args.rules.now c.loop-rule.tables.items c.push.new.self.items c.args.limit c.loop-rule.left
    c.loop-rule.rule-index c.rule-item.result c.in-Some.rows c.loop-rule.invariant c.loop-rule-test.true c.rule-item.is c.in_ok-intern_literals.ensures.grows c.in_ok-found.ensures.grows c.in_ok-found.ensures.apart s c.in_ok-push.ensures.items few
    )
