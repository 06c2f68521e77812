use Rattle.std.proofs.Common.{◌∙◌}
use Rattle.dx_tgd.proofs.Lending.{places_counted, rule_within}
use Rattle.dx_tgd.proofs.rule_matches.RuleMatches.places.Goals as goal

pub returns : goal.returns
returns c =
    let S = c.self.inside.symbols in
    let ts = c.self.inside.tables.items in
    let rule = rule_within S ts c.args.self.now c.args.rule c.self.view_is c.requires in
    c.count.ensures.count ∙ places_counted S ts c.args.self.now c.args.rule c.index.result.now c.self.view_is rule c.index.ensures
