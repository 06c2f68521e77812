use Rattle.std.proofs.Common.{refl}
use Rattle.dx_blocks.specs.NullRows.{row_numbers}
use Rattle.dx_core.proofs.Atoms.{term_more, terms_end, terms_start}
use Rattle.dx_core.proofs.asking.atom_of.Goals as goal

pub loop-number-init : goal.loop-number-init
loop-number-init c = terms_start c.args.nulls.now (row_numbers c.args.numbers.now c.args.at) c.new-terms.result c.new-terms.ensures

pub loop-number-preserved : goal.loop-number-preserved
loop-number-preserved c =
    term_more c.args.nulls.now (row_numbers c.args.numbers.now c.args.at) c.loop-number.terms c.push.new.self c.loop-number.number-index
    c.term_of.result (rw c.row-number-items.ensures.row at c.loop-number-test.true) (rw c.row-number-items.ensures.row at c.term_of.ensures)
    c.in_ok-push.ensures.ok c.loop-number.invariant

pub returns : goal.returns
returns c =
    record {
      table = refl;
      terms = terms_end c.args.nulls.now (row_numbers c.args.numbers.now c.args.at) c.loop-number.terms c.loop-number.number-index
          (rw c.row-number-items.ensures.row at c.loop-number-test.false) c.loop-number.invariant;
    }
