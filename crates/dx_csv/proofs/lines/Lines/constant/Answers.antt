use Rattle.std.proofs.Common.{◌∙◌}
use Rattle.std.proofs.lemmas.Result.{on_ok_weaker}
use Rattle.csv.specs.Writing.{default_writer, field_text}
use Rattle.dx_instance.specs.ValueText.{const_text}
use Rattle.dx_csv.specs.Lines.{before_field}
use Rattle.dx_csv.proofs.LinesFacts.{field-printed, pushed-after, const-byte}
use Rattle.dx_csv.proofs.lines.Lines.constant.Goals as goal

pub returns : goal.returns
returns c records fields h =
    let old = c.args.self.now in
    let value = const_text c.args.text.now in
    let line = c.in_ok-begin_field.ensures.line value (c.is_empty.ensures ∙ const-byte c.args.text.now) in
    on_ok_weaker c.push_constant.result (λ e. field-printed old _ value (pushed-after old.bytes.items (before_field old.line) (field_text default_writer value) _ _ c.in_ok-begin_field.ensures.bytes e) line records fields h) c.push_constant.ensures
