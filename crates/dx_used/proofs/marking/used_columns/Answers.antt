use Rattle.std.proofs.Common.{◌∙◌, ap, arith, ◌++◌, ◌∷◌, [], length}
use Rattle.std.proofs.lemmas.Grind.{common_steps}
use Rattle.dx_base.specs.Members.{Each}
use Rattle.dx_used.specs.Counting.{MarksRead, ReadsNamed, UsesOnlyOf}
use Rattle.dx_used.proofs.MarkFacts.{all_tables, all_widths, none_wide, tables_more, tables_read, width_more}
use Rattle.dx_used.proofs.NamedFacts.{all_named, exact_marks, none_read}
use Rattle.dx_used.proofs.marking.used_columns.Goals as goal

pub loop-table-init : goal.loop-table-init
loop-table-init c =
    let e = c.in_ok-used.ensures.items in
    record {
      many = ap length e;
      widths = none_wide c.args.widths.now c.in_ok-used.used.items e;
      only = λ t h. absurd (omega (arith, h));
      named = λ t h. absurd (omega (arith, h));
      read = λ r t. none_read c.args.rules.now c.args.conditions.now c.in_ok-used.used.items t e;
    }

pub loop-table-preserved : goal.loop-table-preserved
loop-table-preserved c =
    let e = c.in_ok-push.ensures.items ∙ ap (λ ms. c.loop-table.used.items ++ ms ∷ []) c.from_vec.ensures in
    record {
      many = grind (arith, common_steps);
      widths = width_more c.args.widths.now c.loop-table.used.items c.loop-table.table c.in_ok-marks.marks.items c.push.new.self.items (omega (arith, c.loop-table-test.true, c.in-Ok.ensures.1)) e
          c.in_ok-marks.ensures.width c.loop-table.invariant.widths;
      only = tables_more (λ t ms. Each c.args.rules.now (UsesOnlyOf t ms)) c.loop-table.used.items c.loop-table.table _ c.in_ok-marks.marks.items c.push.new.self.items c.loop-table.invariant.many e
          c.loop-table.invariant.only c.in_ok-marks.ensures.only (grind (arith, common_steps));
      named = tables_more (λ t ms. Each c.args.conditions.now (ReadsNamed t ms)) c.loop-table.used.items c.loop-table.table _ c.in_ok-marks.marks.items c.push.new.self.items c.loop-table.invariant.many e
          c.loop-table.invariant.named c.in_ok-marks.ensures.named (grind (arith, common_steps));
      read = λ r. tables_read (MarksRead c.args.rules.now c.args.conditions.now) c.loop-table.used.items c.loop-table.table c.in_ok-marks.marks.items c.push.new.self.items c.loop-table.invariant.many e
          (c.loop-table.invariant.read r) (c.in_ok-marks.ensures.read r);
    }

pub returns-clause-widths : goal.returns-clause-widths
returns-clause-widths c = all_widths c.args.widths.now c.loop-table.table c.loop-table.used.items (omega (arith, c.loop-table-test.false, c.in-Ok.ensures.1)) c.loop-table.invariant.widths

pub returns-clause-named : goal.returns-clause-named
returns-clause-named c = all_named c.args.conditions.now c.loop-table.used.items (λ t b. c.loop-table.invariant.named t (omega (arith, b, c.loop-table.invariant.many)))

pub returns-clause-exact : goal.returns-clause-exact
returns-clause-exact c = λ r.
    exact_marks c.args.rules.now c.args.conditions.now c.loop-table.used.items
    (all_tables c.args.rules.now c.loop-table.used.items (λ t b. c.loop-table.invariant.only t (omega (arith, b, c.loop-table.invariant.many))))
    (all_named c.args.conditions.now c.loop-table.used.items (λ t b. c.loop-table.invariant.named t (omega (arith, b, c.loop-table.invariant.many))))
    (c.loop-table.invariant.read r)
