use Rattle.std.proofs.Common.{◌≡◌, ◌-◌, ◌+◌, ◌∙◌, ap, arith, length, subst}
use Rattle.std.proofs.lemmas.List.{length-replicate}
use Rattle.dx_instance.proofs.NumberFacts.{stays}
use Rattle.dx_instance.proofs.ShownFacts.{extends_both}
use Rattle.dx_csv.specs.Blanks.{ColumnsSettled}
use Rattle.dx_csv.proofs.ColumnFacts.{all_settled, rows_below, rows_shown, settled_none}
use Rattle.dx_csv.proofs.interning.Grid.rows.Goals as goal

pub loop-settled-init : goal.loop-settled-init
loop-settled-init c =
    let blank = c.in_ok-cells.ensures.items_if_clones_equal (λ y e. e) in
    let all : c.args.self.now.width ≡ c.args.self.now.width - 0 = omega arith in
    record {
      size = ap length blank ∙ length-replicate c.len.result c.in_ok-blank.blank ∙ c.len.ensures;
      settled = subst (ColumnsSettled c.args.used.now c.intern_blank.new.symbols c.args.self.now.texts.now c.args.self.now.width c.args.self.now.count c.in_ok-cells.cells.items) all
          (settled_none c.args.used.now c.intern_blank.new.symbols c.args.self.now.texts.now c.args.self.now.width c.args.self.now.count c.len.result c.in_ok-blank.blank c.in_ok-cells.cells.items blank (c.len.ensures ∙ c.args.self.now.whole) c.in_ok-blank.ensures.blank);
      grows = stays c.intern_blank.new.symbols;
    }

pub settle_column-requires-clause-settled : goal.settle_column-requires-clause-settled
settle_column-requires-clause-settled c =
    let first : c.args.self.now.width - c.loop-settled.settled ≡ c.args.self.now.width - 1 - c.loop-settled.settled + 1 = omega (arith, c.loop-settled-test.true) in
    subst (ColumnsSettled c.args.used.now c.loop-settled.symbols c.args.self.now.texts.now c.args.self.now.width c.args.self.now.count c.loop-settled.cells.items) first c.loop-settled.invariant.settled

pub settle_column-requires-clause-cells : goal.settle_column-requires-clause-cells
settle_column-requires-clause-cells c = c.loop-settled.invariant.size ∙ c.args.self.now.whole

pub loop-settled-preserved : goal.loop-settled-preserved
loop-settled-preserved c =
    let next : c.args.self.now.width - 1 - c.loop-settled.settled ≡ c.args.self.now.width - (c.loop-settled.settled + 1) = omega arith in
    record {
      size = c.in_ok-settle_column.ensures.size ∙ c.loop-settled.invariant.size;
      settled = subst (ColumnsSettled c.args.used.now c.settle_column.new.symbols c.args.self.now.texts.now c.args.self.now.width c.args.self.now.count c.settle_column.new.cells.items) next c.in_ok-settle_column.ensures.settled;
      grows = extends_both _ _ _ c.loop-settled.invariant.grows c.in_ok-settle_column.ensures.grows;
    }

pub returns-clause-shown : goal.returns-clause-shown
returns-clause-shown c =
    let used = c.args.used.now in
    let S = c.loop-settled.symbols in
    let texts = c.args.self.now.texts.now in
    let w = c.args.self.now.width in
    let cells = c.loop-settled.cells.items in
    let none : w - c.loop-settled.settled ≡ 0 = omega (arith, c.loop-settled-test.false) in
    let all = all_settled used S texts w c.args.self.now.count (w - c.loop-settled.settled) cells none c.loop-settled.invariant.settled in
    rw c.of_cells.ensures (rows_shown used S w c.args.self.now.count texts cells c.args.self.now.whole (c.loop-settled.invariant.size ∙ c.args.self.now.whole) all)

pub returns-clause-below : goal.returns-clause-below
returns-clause-below c =
    let used = c.args.used.now in
    let S = c.loop-settled.symbols in
    let texts = c.args.self.now.texts.now in
    let w = c.args.self.now.width in
    let cells = c.loop-settled.cells.items in
    let none : w - c.loop-settled.settled ≡ 0 = omega (arith, c.loop-settled-test.false) in
    let all = all_settled used S texts w c.args.self.now.count (w - c.loop-settled.settled) cells none c.loop-settled.invariant.settled in
    rw c.of_cells.ensures (rows_below used S w c.args.self.now.count texts cells (c.loop-settled.invariant.size ∙ c.args.self.now.whole) all)
