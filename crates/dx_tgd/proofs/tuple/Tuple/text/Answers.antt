use Rattle.std.proofs.Common.{◌∙◌, ap, get_or, refl, sym}
use Rattle.dx_instance.specs.Ranks.{text_of_value}
use Rattle.dx_tgd.proofs.Lending.{no_null, text_number, text_read, text_within}
use Rattle.dx_tgd.proofs.tuple.Tuple.text.Goals as goal

pub value-requires : goal.value-requires
value-requires c =
    let S = c.self.inside.symbols.now in
    let row = c.self.inside.row.now in
    let in_row = text_within S row c.args.self.now c.args.column c.self.view_is c.requires in
    (text_number S row c.args.column (get_or row c.args.column 0) c.self.invariant in_row refl).0

pub unreachable-requires : goal.unreachable-requires
unreachable-requires c =
    let S = c.self.inside.symbols.now in
    let row = c.self.inside.row.now in
    let in_row = text_within S row c.args.self.now c.args.column c.self.view_is c.requires in
    let known = text_number S row c.args.column (get_or row c.args.column 0) c.self.invariant in_row refl in
    no_null c.value.result.now _ _ c.value.ensures c.in-Null.is known.1

pub returns : goal.returns
returns c =
    let S = c.self.inside.symbols.now in
    let row = c.self.inside.row.now in
    let in_row = text_within S row c.args.self.now c.args.column c.self.view_is c.requires in
    ap text_of_value (sym c.in-Const.is ∙ c.value.ensures)
    ∙ text_read S row c.args.self.now c.args.column (get_or row c.args.column 0) c.self.view_is in_row refl
