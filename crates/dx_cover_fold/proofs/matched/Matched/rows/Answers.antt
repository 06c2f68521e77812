use Rattle.std.proofs.Common.{◌<◌, List, length, ap, subst, arith}
use Rattle.dx_base.specs.Members.{Each}
use Rattle.dx_base.proofs.Loops.{each_item}
use Rattle.dx_model.specs.declared.values.Value.{Value}
use Rattle.dx_instance.specs.Cells.{NumberTable}
use Rattle.dx_instance.specs.Shown.{NumberedInstance}
use Rattle.dx_joins.specs.Shown.{AllTexts}
use Rattle.dx_cover_fold.proofs.matched.Matched.rows.Goals as goal

pub returns-clause-texts : goal.returns-clause-texts
returns-clause-texts c =
    let long = ap (λ (m : NumberedInstance). length m.tables) c.self.view_is in
    let there : c.args.rule < length c.self.inside.tables.now = omega (arith, c.requires, long) in
    let each = each_item (λ (t : NumberTable). Each t.rows (AllTexts c.self.inside.symbols.now)) c.self.inside.tables.now c.args.rule c.index-tables-rule.result there c.index-tables-rule.is c.self.invariant.texts in
    subst (λ (S : List Value). Each c.index-tables-rule.result.rows (AllTexts S)) (ap (λ (m : NumberedInstance). m.symbols) c.self.view_is) each
