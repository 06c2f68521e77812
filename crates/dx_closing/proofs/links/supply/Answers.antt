use Rattle.std.proofs.Common.{◌<◌, ◌∙◌, length, arith}
use Rattle.std.proofs.lemmas.List.{length-map}
use Rattle.dx_schema.specs.Tables.{model_tables}
use Rattle.dx_logical.proofs.Continued.{width_at}
use Rattle.dx_closing.proofs.Steps.{supplied_is, supplied_roomy}
use Rattle.dx_closing.proofs.links.supply.Goals as goal

pub filled_cells-requires-clause-room : goal.filled_cells-requires-clause-room
filled_cells-requires-clause-room c = omega (arith, c.width-width.ensures.few, c.requires.roomy.next, c.requires.roomy.few)

pub returns-clause-exact : goal.returns-clause-exact
returns-clause-exact c =
    let w = width_at c.args.target.now c.args.link.now.table c.width-width.result c.requires.table c.width-width.ensures.number in
    supplied_is (model_tables c.args.target.now) c.args.growing.now c.args.link.now c.args.cells.now c.width-width.result _ c.filled_cells.new.next _ w c.in_ok-push.ensures.ok
    (c.from_vec.ensures ∙ rw c.items.ensures at c.in_ok-row.ensures.row) (rw c.items.ensures at c.in_ok-row.ensures.next)

pub returns-clause-roomy : goal.returns-clause-roomy
returns-clause-roomy c =
    let w = width_at c.args.target.now c.args.link.now.table c.width-width.result c.requires.table c.width-width.ensures.number in
    let e = supplied_is (model_tables c.args.target.now) c.args.growing.now c.args.link.now c.args.cells.now c.width-width.result _ c.filled_cells.new.next _ w c.in_ok-push.ensures.ok
    (c.from_vec.ensures ∙ rw c.items.ensures at c.in_ok-row.ensures.row) (rw c.items.ensures at c.in_ok-row.ensures.next) in
    let within : c.args.link.now.table < length (model_tables c.args.target.now) = rw length-map c.requires.table in
    let room : length c.args.growing.now.atoms < 64 = omega arith in
    rw e
    (supplied_roomy (model_tables c.args.target.now) c.args.growing.now c.args.link.now c.args.cells.now (rw w at c.width-width.ensures.few) within c.requires.roomy room)
