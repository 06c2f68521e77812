use Rattle.std.proofs.Common.{◌≡◌, ◌∙◌, ◌*◌, ℕ, refl, sym, ap, length, arith}
use Rattle.dx_instance.specs.Cells.{NumberTable}
use Rattle.dx_instance.proofs.RowKeyFacts.{AreUnpacked, all_unpacked, are_unpacked_more}
use Rattle.dx_instance.proofs.cells.Rows.unpacked_rows.Goals as goal

pub loop-key-preserved : goal.loop-key-preserved
loop-key-preserved c =
    let before : AreUnpacked c.args.packing.bits c.args.packing.width c.args.keys.now c.loop-key.cells.items c.loop-key.key-index = record { many = c.loop-key.invariant.many; rows = c.loop-key.invariant.rows } in
    let more = are_unpacked_more c.args.packing.bits c.args.packing.width c.args.keys.now c.loop-key.cells.items c.push_row.new.cells.items c.loop-key.key-index _ c.loop-key-test.true refl c.in_ok-push_row.ensures before in
    record { many = more.many; rows = more.rows }

pub of_cells-requires : goal.of_cells-requires
of_cells-requires c =
    let i : c.loop-key.key-index ≡ length c.args.keys.now = omega (arith, c.loop-key-test.false, c.loop-key.auto.key-index-end) in
    let w : c.args.packing.width ≡ c.self.inside.width = c.requires.width ∙ sym (ap (λ (t : NumberTable). t.width) c.self.view_is) in
    c.loop-key.invariant.many ∙ ap (λ (n : ℕ). n * c.args.packing.width) i ∙ ap (λ (n : ℕ). length c.args.keys.now * n) w

pub returns : goal.returns
returns c =
    let i : c.loop-key.key-index ≡ length c.args.keys.now = omega (arith, c.loop-key-test.false, c.loop-key.auto.key-index-end) in
    let v : c.self.inside.width ≡ c.args.self.now.width = ap (λ (t : NumberTable). t.width) c.self.view_is in
    all_unpacked c.args.packing.bits c.args.packing.width c.self.inside.width c.args.self.now.width c.loop-key.key-index c.args.keys.now c.loop-key.cells.items c.of_cells.result i (c.requires.width ∙ sym v) v c.loop-key.invariant.rows c.of_cells.ensures
