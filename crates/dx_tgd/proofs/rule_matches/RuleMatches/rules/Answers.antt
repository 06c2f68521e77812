use Rattle.std.proofs.Common.{arith}
use Rattle.dx_tgd.proofs.Lending.{rules_counted}
use Rattle.dx_tgd.proofs.rule_matches.RuleMatches.rules.Goals as goal

pub overflow_cast-result : goal.overflow_cast-result
overflow_cast-result c =
    let few = c.self.invariant.0 in
    let n = c.len.ensures in
    let is = c.self.inside.tables.ok.0 in
    omega (arith, few, n, is)

pub returns : goal.returns
returns c =
    let n = c.len.ensures in
    let is = c.self.inside.tables.ok.0 in
    let counted = rules_counted c.self.inside.symbols c.self.inside.tables.items c.args.self.now c.self.view_is in
    omega (arith, n, is, counted)
