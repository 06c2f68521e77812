use Rattle.std.proofs.Common.{◌<◌, length, arith, sym, ◌∙◌, ap}
use Rattle.std.proofs.lemmas.Slice.Eq.{bytes_eq-Decides, slice_eq-Decides}
use Rattle.dx_schema.specs.Names.{TableNames, table_names_of}
use Rattle.dx_schema.specs.Tables.{tables_of}
use Rattle.dx_script.proofs.Made.{named_at, named_count}
use Rattle.dx_script.proofs.fitting.is_table_at.Goals as goal

pub returns : goal.returns
returns c =
    let t : c.args.number < length (tables_of c.args.target.now) = omega (arith, c.tables.ensures.count, c.if-number-tables.false) in
    let l : c.args.number < length (table_names_of c.args.target.now) = rw (named_count c.args.target.now) t in
    let at = named_at c.args.target.now c.args.number t in
    let d = slice_eq-Decides bytes_eq-Decides c.columns.result.now c.args.columns.now c.eq.result c.eq.ensures in
    let n = c.is.ensures.0 c.if-not-is.false in (
      (λ b. (l, at ∙ cc (n, d.0 b, c.name.ensures, c.columns.ensures.names))),
      (λ w. d.1 (c.columns.ensures.names ∙ ap (λ (z : TableNames). z.columns) (sym at ∙ w.1))),
    )
