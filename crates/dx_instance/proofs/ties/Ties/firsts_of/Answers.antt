use Rattle.std.proofs.Common.{arith}
use Rattle.dx_instance.proofs.FirstFacts.{all_firsts, first_more, repeat_more}
use Rattle.dx_instance.proofs.RankFacts.{key_in}
use Rattle.dx_instance.proofs.ties.Ties.firsts_of.Goals.{then-is_first+in_ok-push, else-is_first}
use Rattle.dx_instance.proofs.ties.Ties.firsts_of.Goals as goal

pub index_mut-requires : goal.index_mut-requires
index_mut-requires c =
    let k = key_in c.args.self.now.values.now c.args.keys.now c.loop-i.i c.requires.sorted c.requires.keyed c.loop-i-test.true in
    omega (arith, k.below, c.loop-i.invariant.many, c.loop-i.ranks.ok.0)

pub loop-i-preserved : goal.loop-i-preserved
loop-i-preserved c =
    let S = c.args.self.now.values.now in
    let keys = c.args.keys.now in
    let i = c.loop-i.i in
    let k = key_in S keys i c.requires.sorted c.requires.keyed c.loop-i-test.true in
    let l = c.len.ensures in
    elim c.if-is_first.branch [
      | then-is_first+in_ok-push w ↦
          let rise = rw w.if-is_first.true at c.is_first.ensures in
          let more = first_more S keys c.loop-i.firsts.items w.push.new.self.items c.loop-i.ranks.items i c.loop-i-test.true w.in_ok-push.ensures.items rise k c.loop-i.invariant in
          rw (l, w.firsts-is, w.push.new.self.ok.0) more
      | else-is_first w ↦
          let again = rw w.if-is_first.false at c.is_first.ensures in
          rw (l, w.firsts-is, c.loop-i.firsts.ok.0) (repeat_more S keys c.loop-i.firsts.items c.loop-i.ranks.items i c.loop-i-test.true again k c.loop-i.invariant)
    ]

pub returns : goal.returns
returns c = all_firsts c.args.self.now.values.now c.args.keys.now c.loop-i.firsts.items c.loop-i.ranks.items c.loop-i.i (omega (arith, c.loop-i-test.false, c.loop-i.auto.i-end)) c.requires.sorted c.loop-i.invariant
