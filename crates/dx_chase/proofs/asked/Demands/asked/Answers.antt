use Rattle.std.proofs.Common.{sym, ap, arith}
use Rattle.dx_chase.specs.Demands.{Demand}
use Rattle.dx_chase.proofs.PartFacts.{asked_here}
use Rattle.dx_chase.proofs.asked.Demands.asked.Goals as goal

pub columns_of-columns-requires-clause-table : goal.columns_of-columns-requires-clause-table
columns_of-columns-requires-clause-table c =
    let S =
    asked_here c.self.inside.tables.now c.self.inside.parts.items c.as_slice-parts.result.now c.self.inside.count c.args.i c.part_of.result c.args.self.now
    c.as_slice-parts.ensures.value c.self.invariant c.self.view_is c.requires c.part_of.ensures.inside c.part_of.ensures.from c.part_of.ensures.to in
    S.inside.table

pub columns_of-columns-requires-clause-determination : goal.columns_of-columns-requires-clause-determination
columns_of-columns-requires-clause-determination c =
    let S =
    asked_here c.self.inside.tables.now c.self.inside.parts.items c.as_slice-parts.result.now c.self.inside.count c.args.i c.part_of.result c.args.self.now
    c.as_slice-parts.ensures.value c.self.invariant c.self.view_is c.requires c.part_of.ensures.inside c.part_of.ensures.from c.part_of.ensures.to in
    S.inside.determination

pub row_total-few-requires : goal.row_total-few-requires
row_total-few-requires c =
    let S =
    asked_here c.self.inside.tables.now c.self.inside.parts.items c.as_slice-parts.result.now c.self.inside.count c.args.i c.part_of.result c.args.self.now
    c.as_slice-parts.ensures.value c.self.invariant c.self.view_is c.requires c.part_of.ensures.inside c.part_of.ensures.from c.part_of.ensures.to in
    S.inside.table

pub overflow_cast-row : goal.overflow_cast-row
overflow_cast-row c =
    let S =
    asked_here c.self.inside.tables.now c.self.inside.parts.items c.as_slice-parts.result.now c.self.inside.count c.args.i c.part_of.result c.args.self.now
    c.as_slice-parts.ensures.value c.self.invariant c.self.view_is c.requires c.part_of.ensures.inside c.part_of.ensures.from c.part_of.ensures.to in
    let r = S.inside.row in
    let e = c.row_total-few.ensures in
    omega (arith, r, e)

pub row_of-requires-clause-table : goal.row_of-requires-clause-table
row_of-requires-clause-table c =
    let S =
    asked_here c.self.inside.tables.now c.self.inside.parts.items c.as_slice-parts.result.now c.self.inside.count c.args.i c.part_of.result c.args.self.now
    c.as_slice-parts.ensures.value c.self.invariant c.self.view_is c.requires c.part_of.ensures.inside c.part_of.ensures.from c.part_of.ensures.to in
    S.inside.table

pub row_of-requires-clause-row : goal.row_of-requires-clause-row
row_of-requires-clause-row c =
    let S =
    asked_here c.self.inside.tables.now c.self.inside.parts.items c.as_slice-parts.result.now c.self.inside.count c.args.i c.part_of.result c.args.self.now
    c.as_slice-parts.ensures.value c.self.invariant c.self.view_is c.requires c.part_of.ensures.inside c.part_of.ensures.from c.part_of.ensures.to in
    S.inside.row

pub returns-clause-table : goal.returns-clause-table
returns-clause-table c =
    let S =
    asked_here c.self.inside.tables.now c.self.inside.parts.items c.as_slice-parts.result.now c.self.inside.count c.args.i c.part_of.result c.args.self.now
    c.as_slice-parts.ensures.value c.self.invariant c.self.view_is c.requires c.part_of.ensures.inside c.part_of.ensures.from c.part_of.ensures.to in
    sym (ap (λ (d : Demand). d.table) S.is)

pub returns-clause-determination : goal.returns-clause-determination
returns-clause-determination c =
    let S =
    asked_here c.self.inside.tables.now c.self.inside.parts.items c.as_slice-parts.result.now c.self.inside.count c.args.i c.part_of.result c.args.self.now
    c.as_slice-parts.ensures.value c.self.invariant c.self.view_is c.requires c.part_of.ensures.inside c.part_of.ensures.from c.part_of.ensures.to in
    sym (ap (λ (d : Demand). d.determination) S.is)

pub returns-clause-row : goal.returns-clause-row
returns-clause-row c =
    let S =
    asked_here c.self.inside.tables.now c.self.inside.parts.items c.as_slice-parts.result.now c.self.inside.count c.args.i c.part_of.result c.args.self.now
    c.as_slice-parts.ensures.value c.self.invariant c.self.view_is c.requires c.part_of.ensures.inside c.part_of.ensures.from c.part_of.ensures.to in
    sym (ap (λ (d : Demand). d.row) S.is)

pub returns-clause-left : goal.returns-clause-left
returns-clause-left c =
    let S =
    asked_here c.self.inside.tables.now c.self.inside.parts.items c.as_slice-parts.result.now c.self.inside.count c.args.i c.part_of.result c.args.self.now
    c.as_slice-parts.ensures.value c.self.invariant c.self.view_is c.requires c.part_of.ensures.inside c.part_of.ensures.from c.part_of.ensures.to in
    rw (c.items.ensures, c.columns_of-columns.ensures, c.row_of.ensures) (sym (ap (λ (d : Demand). d.left) S.is))

pub returns-clause-right : goal.returns-clause-right
returns-clause-right c =
    let S =
    asked_here c.self.inside.tables.now c.self.inside.parts.items c.as_slice-parts.result.now c.self.inside.count c.args.i c.part_of.result c.args.self.now
    c.as_slice-parts.ensures.value c.self.invariant c.self.view_is c.requires c.part_of.ensures.inside c.part_of.ensures.from c.part_of.ensures.to in
    rw (c.items-2.ensures, c.columns_of-columns.ensures, c.row_of.ensures) (sym (ap (λ (d : Demand). d.right) S.is))

pub returns-clause-left_in : goal.returns-clause-left_in
returns-clause-left_in c =
    let S =
    asked_here c.self.inside.tables.now c.self.inside.parts.items c.as_slice-parts.result.now c.self.inside.count c.args.i c.part_of.result c.args.self.now
    c.as_slice-parts.ensures.value c.self.invariant c.self.view_is c.requires c.part_of.ensures.inside c.part_of.ensures.from c.part_of.ensures.to in
    rw (c.items.ensures, c.columns_of-columns.ensures, c.row_of.ensures) (c.self.invariant.fit.left _ _ _ S.inside)

pub returns-clause-right_in : goal.returns-clause-right_in
returns-clause-right_in c =
    let S =
    asked_here c.self.inside.tables.now c.self.inside.parts.items c.as_slice-parts.result.now c.self.inside.count c.args.i c.part_of.result c.args.self.now
    c.as_slice-parts.ensures.value c.self.invariant c.self.view_is c.requires c.part_of.ensures.inside c.part_of.ensures.from c.part_of.ensures.to in
    rw (c.items-2.ensures, c.columns_of-columns.ensures, c.row_of.ensures) (c.self.invariant.fit.right _ _ _ S.inside)
