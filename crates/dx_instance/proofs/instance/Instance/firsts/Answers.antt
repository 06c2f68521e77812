use Rattle.std.proofs.Common.{arith}
use Rattle.dx_instance.proofs.PartsFacts.{are_firsts}
use Rattle.dx_instance.proofs.PlaceFacts.{few_read, width_read}
use Rattle.dx_instance.proofs.instance.Instance.firsts.Goals as goal

pub first_places-requires-clause-columns : goal.first_places-requires-clause-columns
first_places-requires-clause-columns c = λ x m.
    omega (arith, c.requires.columns x m, width_read c.self.inside.symbols c.self.inside.tables.items c.args.self.now c.args.table c.index-rows.result.now c.self.view_is c.requires.table c.index-rows.ensures)

pub first_places-requires-clause-rows : goal.first_places-requires-clause-rows
first_places-requires-clause-rows c =
    few_read c.self.inside.symbols c.self.inside.tables.items c.args.self.now c.args.table c.index-rows.result.now c.self.invariant c.self.view_is c.requires.table c.index-rows.ensures

pub returns : goal.returns
returns c =
    are_firsts c.self.inside.symbols c.self.inside.tables.items c.args.self.now c.args.table c.index-rows.result.now c.args.columns.now c.self.invariant c.self.view_is c.requires.table c.index-rows.ensures
    c.requires.columns c.in_ok-places.places.items c.in_ok-places.ensures.many c.in_ok-places.ensures.first
