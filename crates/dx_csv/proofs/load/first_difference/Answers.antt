use Rattle.std.proofs.Common.{◌≡◌, ◌∙◌, length, arith, sym}
use Rattle.csv.specs.Records.{fields_of}
use Rattle.dx_csv.proofs.TableFacts.{differ-ended, differ-here, differ-after, agree-next, read-at}
use Rattle.dx_csv.proofs.load.first_difference.Goals as goal

pub returns-in_default : goal.returns-in_default
returns-in_default c = differ-ended (fields_of c.args.given.now) c.args.columns.now c.loop-i.i c.loop-i-test.true c.loop-i.invariant c.in_default.ensures.value

pub returns-then-not-same_bytes : goal.returns-then-not-same_bytes
returns-then-not-same_bytes c = differ-here (fields_of c.args.given.now) c.args.columns.now c.loop-i.i c.in-Some.field.now c.loop-i-test.true c.loop-i.invariant c.in-Some.ensures.value
    (λ e. cc (c.if-not-same_bytes.true, c.same_bytes.ensures.1 (e ∙ sym (read-at c.args.columns.now c.loop-i.i c.index-columns-i.result c.bytes.result.now c.loop-i-test.true c.bytes.ensures.value c.index-columns-i.is))))

pub loop-i-preserved : goal.loop-i-preserved
loop-i-preserved c = agree-next (fields_of c.args.given.now) c.args.columns.now c.loop-i.i c.in-Some.field.now c.loop-i-test.true c.loop-i.invariant c.in-Some.ensures.value
    (c.same_bytes.ensures.0 c.if-not-same_bytes.false ∙ read-at c.args.columns.now c.loop-i.i c.index-columns-i.result c.bytes.result.now c.loop-i-test.true c.bytes.ensures.value c.index-columns-i.is)

pub returns-else-len-columns : goal.returns-else-len-columns
returns-else-len-columns c =
    let at_end : c.loop-i.i ≡ length c.args.columns.now = omega arith in
    differ-after (fields_of c.args.given.now) c.args.columns.now (λ e. c.if-len-columns.false (c.len.ensures ∙ e)) (rw at_end at c.loop-i.invariant)
