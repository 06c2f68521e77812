use Rattle.std.proofs.Common.{◌++◌, ◌∙◌, sym, ap}
use Rattle.csv.specs.Writing.{default_writer, field_text}
use Rattle.dx_csv.specs.Lines.{before_field}
use Rattle.dx_csv.proofs.LinesFacts.{field-printed, pushed-after, plain-stays}
use Rattle.dx_csv.proofs.lines.Lines.plain_field.Goals as goal

pub returns : goal.returns
returns c =
    let old = c.args.self.now in
    let value = c.args.field.now in
    let begun = c.in_ok-begin_field.ensures in
    let as_text = c.in_ok-extend_from_slice.ensures.items ∙ ap (λ t. c.begin_field.new.self.bytes.items ++ t) (sym (plain-stays value c.requires)) in
    field-printed old _ value (pushed-after old.bytes.items (before_field old.line) (field_text default_writer value) _ _ begun.bytes as_text) (begun.line value c.is_empty.ensures)
