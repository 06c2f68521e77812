use Rattle.std.proofs.Common.{◌∙◌, ◌++◌, ap}
use Rattle.dx_scriptgen.proofs.Keeping.{all_kept, keep_more, keep_none, kept_one}
use Rattle.dx_scriptgen.proofs.generate.push_keeps.Goals as goal

pub loop-number-preserved-in-Continue-1 : goal.loop-number-preserved-in-Continue-1
loop-number-preserved-in-Continue-1 c =
    let i = c.loop-number.invariant in
    let s = c.in-Some.ensures.steps in
    kept_one c.args.parts.items c.loop-number.number-iterator.count c.next.new.self.count c.in-Some.number c.loop-number.number-iterator.iter.rest.items c.next.new.self.iter.rest.items
    c.loop-number.number-iterator.iter.rest.len c.next.new.self.iter.rest.len c.in-Some.unless c.args.steps.now c.loop-number.steps c.push.new.self
    i.0 i.1 i.3 s.0.0 s.0.1 s.1 s.2
    (c.in_ok-push.ensures.ok ∙ ap (λ z. c.loop-number.steps ++ z) (keep_more c.in-Some.number c.in-Some.unless (rw c.len.ensures at c.if-len-gt0.true)))

pub loop-number-preserved : goal.loop-number-preserved
loop-number-preserved c =
    let i = c.loop-number.invariant in
    let s = c.in-Some.ensures.steps in
    kept_one c.args.parts.items c.loop-number.number-iterator.count c.next.new.self.count c.in-Some.number c.loop-number.number-iterator.iter.rest.items c.next.new.self.iter.rest.items
    c.loop-number.number-iterator.iter.rest.len c.next.new.self.iter.rest.len c.in-Some.unless c.args.steps.now c.loop-number.steps c.loop-number.steps
    i.0 i.1 i.3 s.0.0 s.0.1 s.1 s.2
    (keep_none c.in-Some.number c.in-Some.unless c.loop-number.steps (rw c.len.ensures at c.if-len-gt0.false))

pub returns : goal.returns
returns c =
    let i = c.loop-number.invariant in
    let s = c.in-None.ensures.steps in
    all_kept c.args.parts.items c.loop-number.number-iterator.count c.loop-number.number-iterator.iter.rest.items c.loop-number.number-iterator.iter.rest.len c.args.steps.now c.loop-number.steps
    i.0 i.1 i.2 i.3 s.0.0
