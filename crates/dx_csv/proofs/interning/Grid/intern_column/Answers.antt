use Rattle.std.proofs.Common.{◌∙◌, ◌<◌, ◌+◌, ◌*◌, ap, arith, length, refl}
use Rattle.std.proofs.lemmas.List.{length-set}
use Rattle.std.proofs.lemmas.Nat.{mul-add-lt}
use Rattle.dx_model.specs.declared.values.Value.TheVariants.{Const}
use Rattle.dx_instance.proofs.NumberFacts.{stays}
use Rattle.dx_instance.proofs.ShownFacts.{extends_both}
use Rattle.dx_csv.proofs.ColumnFacts.{column_more, others_more}
use Rattle.dx_csv.proofs.interning.Grid.intern_column.Goals as goal

pub loop-row-init : goal.loop-row-init
loop-row-init c = record { size = refl; numbered = λ r h. absurd (omega (arith, h)); others = λ r d h n. refl; grows = stays c.args.symbols.now }

pub loop-row-preserved : goal.loop-row-preserved
loop-row-preserved c =
    let texts = c.args.self.now.texts.now in
    let w = c.args.self.now.width in
    let k = c.args.column in
    let i = c.loop-row.row in
    let t = mul-add-lt i w k c.args.self.now.count c.loop-row-test.true c.requires.column in
    let b : i * w + k < length c.loop-row.cells.items = omega (arith, t, c.loop-row.invariant.size, c.requires.cells) in
    let g = c.in_ok-number.ensures.grows in
    record {
      size = length-set c.loop-row.cells.items (i * w + k) c.in_ok-number.number ∙ c.loop-row.invariant.size;
      numbered = column_more c.loop-row.symbols c.number_for.new.symbols texts w k i c.in_ok-number.number c.loop-row.cells.items _ c.requires.column b refl g
          (c.in_ok-number.ensures.within, c.in_ok-number.ensures.number ∙ ap Const c.in_ok-text.ensures) c.loop-row.invariant.numbered;
      others = others_more w k i c.in_ok-number.number c.args.cells.now.items c.loop-row.cells.items _ c.requires.column refl c.loop-row.invariant.others;
      grows = extends_both _ _ _ c.loop-row.invariant.grows g;
    }
