use Rattle.std.proofs.Common.{◌∙◌, ◌-◌, ◌*◌, ◌/◌, ◌^◌, ℕ, ap, arith, bit_and}
use Rattle.std.proofs.lemmas.Nat.{and_mask, one_shl}
use Rattle.dx_instance.proofs.RowKeyFacts.{unpacked_more}
use Rattle.dx_instance.proofs.packing.RowPacking.push_row.Goals as goal

pub loop-i-preserved : goal.loop-i-preserved
loop-i-preserved c =
    let short = c.requires.short in
    let high = c.args.key / 2 ^ (c.args.self.bits * (c.args.self.width - 1 - c.loop-i.i)) in
    let digit = ap (λ (m : ℕ). bit_and high (m - 1)) (one_shl c.args.self.bits 64 (omega (arith, short))) ∙ and_mask high c.args.self.bits in
    unpacked_more c.args.self.bits c.args.self.width c.loop-i.i c.args.key _ c.args.cells.now.items c.loop-i.cells.items c.push.new.self.items c.loop-i-test.true digit c.in_ok-push.ensures.items c.loop-i.invariant
