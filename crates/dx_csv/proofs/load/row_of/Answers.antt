use Rattle.std.proofs.Common.{◌∙◌, ◌<◌, length, arith, refl, sym, subst}
use Rattle.std.specs.Prelude.{IsUtf8}
use Rattle.csv.specs.Records.{fields_of, AllText}
use Rattle.csv.proofs.RecordFacts.{text-at, text-step}
use Rattle.dx_csv.proofs.TableFacts.{constants-more}
use Rattle.dx_csv.proofs.load.row_of.Goals as goal

pub loop-i-init : goal.loop-i-init
unfolding AllText
loop-i-init c = record { text = tt; made = c.new-row.ensures }

pub returns-in-Err-NotUtf8-clause-text : goal.returns-in-Err-NotUtf8-clause-text
returns-in-Err-NotUtf8-clause-text c all =
    let h = rw c.in-Err-NotUtf8.field-0-is at c.in-Err-NotUtf8.ensures.not_utf8.0 in
    let fields = fields_of c.args.given.now in
    let n : c.loop-i.i < length fields = omega arith in
    h refl (subst IsUtf8 (sym c.field_at.ensures) (text-at fields c.loop-i.i n all))

pub loop-i-preserved : goal.loop-i-preserved
loop-i-preserved c =
    let fields = fields_of c.args.given.now in
    let h = c.in_ok-push-in-Ok.ensures.ok in
    let at = sym c.field_at.ensures in
    let n : c.loop-i.i < length fields = omega arith in
    record {
      text = text-step fields c.loop-i.i n c.loop-i.invariant.text (subst IsUtf8 c.field_at.ensures c.in-Ok.ensures.text);
      made = h ∙ constants-more fields c.loop-i.i c.field_at.result.now c.loop-i.row c.in-Ok.text n at c.in-Ok.ensures.ok c.loop-i.invariant.made;
    }
