use Rattle.dx_json.proofs.LineFacts.{fact_there, line_there}
use Rattle.dx_json.proofs.facts.Facts.fact.Goals as goal

pub row_of-requires-clause-order : goal.row_of-requires-clause-order
row_of-requires-clause-order c = (line_there c.self.inside.texts c.self.inside.lines.items c.args.self.now c.args.place c.index-line.result.now c.self.view_is c.requires c.self.invariant c.index-line.ensures).order

pub row_of-requires-clause-within : goal.row_of-requires-clause-within
row_of-requires-clause-within c = (line_there c.self.inside.texts c.self.inside.lines.items c.args.self.now c.args.place c.index-line.result.now c.self.view_is c.requires c.self.invariant c.index-line.ensures).within

pub returns : goal.returns
returns c = fact_there c.self.inside.texts c.self.inside.lines.items c.args.self.now c.args.place c.index-line.result.now c.in_ok-row.row c.self.view_is c.requires c.index-line.ensures c.in_ok-row.ensures
