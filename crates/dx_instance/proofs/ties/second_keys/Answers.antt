use Rattle.std.proofs.Common.{◌≡◌, arith, length}
use Rattle.dx_instance.proofs.TieFacts.{seconds_more}
use Rattle.dx_instance.proofs.ties.second_keys.Goals as goal

pub loop-number-preserved : goal.loop-number-preserved
loop-number-preserved c =
    let e = c.value.ensures in
    seconds_more c.args.symbols.now c.loop-number.seconds.items c.push.new.self.items c.loop-number.number c.second_key_of.result c.in_ok-push.ensures.items (record { key_is = rw (← e) c.second_key_of.ensures.key; small = rw (← e) c.second_key_of.ensures.small }) c.loop-number.invariant

pub returns : goal.returns
returns c =
    let all : c.loop-number.number ≡ length c.args.symbols.now = omega (arith, c.len-count.ensures.len, c.loop-number-test.false, c.loop-number.auto.number-end) in
    rw all at c.loop-number.invariant
