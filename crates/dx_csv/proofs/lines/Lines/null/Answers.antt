use Rattle.std.proofs.Common.{◌++◌, ◌∙◌, sym, ap}
use Rattle.std.proofs.lemmas.Result.{on_ok_weaker}
use Rattle.csv.specs.Writing.{default_writer, field_text}
use Rattle.dx_instance.specs.ValueText.{NullFits, null_text}
use Rattle.dx_csv.specs.Lines.{before_field}
use Rattle.dx_csv.proofs.LinesFacts.{field-printed, pushed-after, null-byte, null-plain}
use Rattle.dx_csv.proofs.TextFacts.{on-ok}
use Rattle.dx_csv.proofs.lines.Lines.null.Goals as goal

pub returns-clause-fits : goal.returns-clause-fits
returns-clause-fits c = on-ok c.push_null.result (NullFits c.args.null.now) c.push_null.ensures.fits

pub returns-clause-printed : goal.returns-clause-printed
returns-clause-printed c records fields h =
    let old = c.args.self.now in
    let value = null_text c.args.null.now in
    let line = c.in_ok-begin_field.ensures.line value (null-byte c.args.null.now) in
    on_ok_weaker c.push_null.result (λ e. field-printed old _ value (pushed-after old.bytes.items (before_field old.line) (field_text default_writer value) _ _ c.in_ok-begin_field.ensures.bytes (e ∙ ap (λ t. c.begin_field.new.self.bytes.items ++ t) (sym (null-plain c.args.null.now c.push_null.ensures.fits)))) line records fields h) c.push_null.ensures.text
