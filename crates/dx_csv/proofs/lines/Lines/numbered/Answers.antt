use Rattle.std.proofs.Common.{◌++◌, ◌∷◌, ◌∙◌, sym, ap}
use Rattle.std.specs.Fmt.{decimal}
use Rattle.std.proofs.lemmas.Result.{on_ok_weaker}
use Rattle.csv.specs.Writing.{default_writer, field_text}
use Rattle.dx_csv.specs.Lines.{before_field}
use Rattle.dx_csv.proofs.LinesFacts.{field-printed, pushed-after, numbered-byte, numbered-plain}
use Rattle.dx_csv.proofs.lines.Lines.numbered.Goals as goal

pub returns : goal.returns
returns c records fields h =
    let old = c.args.self.now in
    let value = c.args.letter ∷ decimal c.args.number in
    let begun = c.in_ok-begin_field.ensures in
    let stays = ap (λ t. c.begin_field.new.self.bytes.items ++ t)
    (sym (numbered-plain c.args.letter c.args.number c.requires c.push_numbered.ensures.fits)) in
    let line = begun.line value (numbered-byte c.args.letter c.args.number) in
    on_ok_weaker c.push_numbered.result
    (λ e. field-printed old _ value
    (pushed-after old.bytes.items (before_field old.line) (field_text default_writer value) _ _ begun.bytes (e ∙ stays))
    line records fields h)
    c.push_numbered.ensures.text
