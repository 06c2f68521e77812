use Rattle.dx_instance.specs.Stored.{widths}
use Rattle.dx_instance.specs.Shown.{shown_tables}
use Rattle.dx_tgd.proofs.RuleRows.{rule_fits}
use Rattle.dx_tgd.proofs.matching.rule_rows.Goals as goal

pub shown_rows-requires-clause-fits : goal.shown_rows-requires-clause-fits
shown_rows-requires-clause-fits g c =
    let f = rule_fits (widths (shown_tables c.args.source.now.rows.now.symbols c.args.source.now.rows.now.tables)) c.args.rule.now c.requires.rule.rule c.requires.rule.premise in
    rw (c.items-premise.ensures, c.items-derived.ensures, c.deref.ensures.value, c.in_ok-columns.ensures) f
