use Rattle.std.proofs.Common.{take}
use Rattle.dx_instance.specs.Shown.{shown_tables}
use Rattle.dx_instance.specs.Stored.{facts}
use Rattle.dx_tgd.proofs.Founds.{FoundSoFar}
use Rattle.dx_tgd.proofs.plain.found_rules.Given as goal

-- what is found of the rules so far
abbrev pub invariant-loop-rule : goal.invariant-loop-rule
invariant-loop-rule g l = FoundSoFar g.M.Meaning.apply (facts (shown_tables l.source.rows.now.symbols l.source.rows.now.tables)) l.source.rows.now.symbols l.symbols (take l.rule-index l.rules) l.tables.items l.limit l.left
