use Rattle.dx_keys.specs.Numbers.{IsNumberedInstance}
use Rattle.dx_keys.proofs.NumberTables.{many_tables}
use Rattle.dx_keys.proofs.chasing.chase_by.Goals as goal

pub number_tables-requires : goal.number_tables-requires
number_tables-requires c = rw c.deref.ensures.value (many_tables c.args.schema.now c.requires.0 c.args.numbering.now c.requires.1)

pub chase_numbered-requires : goal.chase_numbered-requires
chase_numbered-requires c =
    let M = c.requires.1 in
    let N : IsNumberedInstance c.args.schema.now c.requires.0 c.args.numbering.now c.in_ok-rows.rows.items = record { widths_are = M.widths_are; wide = M.wide; determined = M.determined; numbering = M.numbering; listed = rw c.deref.ensures.value at c.in_ok-rows.ensures } in
    rw c.deref-2.ensures.value (c.args.schema.now, c.requires.0, N)

pub returns-clause-ok : goal.returns-clause-ok
returns-clause-ok c = λ I M.
    let N : IsNumberedInstance c.args.schema.now I c.args.numbering.now c.in_ok-rows.rows.items = record { widths_are = M.widths_are; wide = M.wide; determined = M.determined; numbering = M.numbering; listed = rw c.deref.ensures.value at c.in_ok-rows.ensures } in
    c.chase_numbered.ensures.ok c.args.schema.now I (rw c.deref-2.ensures.value N)

pub returns-clause-fault : goal.returns-clause-fault
returns-clause-fault c = λ I M.
    let N : IsNumberedInstance c.args.schema.now I c.args.numbering.now c.in_ok-rows.rows.items = record { widths_are = M.widths_are; wide = M.wide; determined = M.determined; numbering = M.numbering; listed = rw c.deref.ensures.value at c.in_ok-rows.ensures } in
    c.chase_numbered.ensures.fault c.args.schema.now I (rw c.deref-2.ensures.value N)
