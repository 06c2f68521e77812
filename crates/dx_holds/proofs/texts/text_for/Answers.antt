use Rattle.dx_holds.proofs.Walking.{is_next, step_more, step_start, text_is, walked}
use Rattle.dx_holds.proofs.texts.text_for.Goals as goal

pub loop-i-init : goal.loop-i-init
loop-i-init c = step_start c.args.atoms.now c.args.tuple.now c.args.variable c.requires.tuple c.requires.known

pub returns-then-next-variable : goal.returns-then-next-variable
returns-then-next-variable c =
    text_is c.args.atoms.now c.args.tuple.now c.args.variable c.requires.tuple c.loop-i.from c.loop-i.i c.loop-i.invariant c.in-Some.next c.index-tuple-i.result c.loop-i-test.true
    (is_next c.args.atoms.now c.args.tuple.now c.args.variable c.requires.tuple c.loop-i.from c.loop-i.i c.loop-i.invariant c.in-Some.next c.loop-i-test.true c.in-Some.ensures) c.if-next-variable.true c.index-tuple-i.is

pub loop-i-preserved : goal.loop-i-preserved
loop-i-preserved c =
    step_more c.args.atoms.now c.args.tuple.now c.args.variable c.requires.tuple c.loop-i.from c.loop-i.i c.loop-i.invariant c.in-Some.next c.loop-i-test.true
    (is_next c.args.atoms.now c.args.tuple.now c.args.variable c.requires.tuple c.loop-i.from c.loop-i.i c.loop-i.invariant c.in-Some.next c.loop-i-test.true c.in-Some.ensures) c.if-next-variable.false

pub unreachable-requires-2 : goal.unreachable-requires-2
unreachable-requires-2 c = walked c.args.atoms.now c.args.tuple.now c.args.variable c.requires.tuple c.loop-i.from c.loop-i.i c.loop-i.invariant c.loop-i-test.false
