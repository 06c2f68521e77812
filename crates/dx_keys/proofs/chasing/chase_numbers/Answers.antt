use Rattle.std.proofs.Common.{◌∙◌, ap}
use Rattle.dx_keys.specs.Numbers.{IsNumbered, null_map_of}
use Rattle.dx_keys.proofs.InOrder.{values_ascend}
use Rattle.dx_keys.proofs.chasing.chase_numbers.Goals as goal

pub chase_by-requires : goal.chase_by-requires
chase_by-requires c =
    let M : IsNumbered c.args.schema.now c.args.instance c.in_ok-numbering.numbering = record { widths_are = c.requires; wide = c.tables.ensures.rows; determined = c.tables-2.ensures.fits; numbering = c.in_ok-numbering.ensures } in
    (c.args.instance, M)

pub read_chased-requires-clause-ascend : goal.read_chased-requires-clause-ascend
read_chased-requires-clause-ascend c = values_ascend c.in_ok-numbering.numbering.symbols c.in_ok-numbering.numbering.constants c.in_ok-numbering.ensures.ordered

pub returns-clause-ok : goal.returns-clause-ok
returns-clause-ok c =
    let M : IsNumbered c.args.schema.now c.args.instance c.in_ok-numbering.numbering = record { widths_are = c.requires; wide = c.tables.ensures.rows; determined = c.tables-2.ensures.fits; numbering = c.in_ok-numbering.ensures } in
    c.in_ok-roots.ensures.ok c.args.instance M c.in_ok-read_chased.field-0.map c.in_ok-read_chased.field-0.instance
    (c.in_ok-read_chased.ensures.map ∙ ap (null_map_of c.in_ok-numbering.numbering.symbols) c.items.ensures) (rw c.items.ensures at c.in_ok-read_chased.ensures.image)
