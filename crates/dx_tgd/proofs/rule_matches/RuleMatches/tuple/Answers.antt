use Rattle.std.proofs.Common.{◌∙◌}
use Rattle.dx_base.specs.Members.{Each}
use Rattle.dx_base.proofs.Loops.{each_item}
use Rattle.dx_instance.specs.Cells.{NumberTable}
use Rattle.dx_joins.specs.Shown.{AllTexts}
use Rattle.dx_tgd.proofs.Ascending.{row_there}
use Rattle.dx_tgd.proofs.Lending.{place_within, rule_within, tuple_read}
use Rattle.dx_tgd.proofs.rule_matches.RuleMatches.tuple.Goals as goal

pub new-requires : goal.new-requires
new-requires c =
    let S = c.self.inside.symbols in
    let ts = c.self.inside.tables.items in
    let t = c.index.result.now in
    let rule = rule_within S ts c.args.self.now c.args.rule c.self.view_is c.requires.rule in
    let place = place_within S ts c.args.self.now c.args.rule c.args.place t c.self.view_is rule c.index.ensures c.requires.place in
    let each = each_item (λ (u : NumberTable). Each u.rows (AllTexts S)) ts c.args.rule t rule c.index.ensures c.self.invariant.1 in
    row_there S t.rows c.args.place c.row.result.now each place c.row.ensures.row

pub returns : goal.returns
returns c =
    let S = c.self.inside.symbols in
    let ts = c.self.inside.tables.items in
    let t = c.index.result.now in
    let rule = rule_within S ts c.args.self.now c.args.rule c.self.view_is c.requires.rule in
    let place = place_within S ts c.args.self.now c.args.rule c.args.place t c.self.view_is rule c.index.ensures c.requires.place in
    c.new.ensures ∙ tuple_read S ts c.args.self.now c.args.rule c.args.place t c.row.result.now c.self.view_is rule c.index.ensures place c.row.ensures.row
