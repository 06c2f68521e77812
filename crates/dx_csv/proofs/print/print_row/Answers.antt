use Rattle.std.proofs.Common.{get_or, map, sym, subst, take, take_all, arith}
use Rattle.csv.specs.Records.{AllText}
use Rattle.csv.proofs.RecordFacts.{text-more}
use Rattle.dx_base.proofs.Members.{in_at}
use Rattle.dx_instance.specs.Shown.{shown_row}
use Rattle.dx_instance.specs.ValueText.{value_text_of}
use Rattle.dx_csv.specs.Lines.{HavePrinted}
use Rattle.dx_csv.proofs.TableTextFacts.{shown-more}
use Rattle.dx_csv.proofs.TextFacts.{on-ok}
use Rattle.dx_csv.proofs.print.print_row.Goals as goal

pub loop-number-init : goal.loop-number-init
unfolding AllText
loop-number-init c = record { printed = λ records h. h; texts = tt }

pub value-requires : goal.value-requires
value-requires c =
    c.requires (get_or c.args.row.now c.loop-number.number-index 0)
    (in_at c.args.row.now c.loop-number.number-index 0 c.loop-number-test.true)

pub loop-number-preserved : goal.loop-number-preserved
loop-number-preserved c =
    let symbols = c.args.numbers.now.symbols in
    let row = c.args.row.now in
    let i = c.loop-number.number-index in
    let fields = map value_text_of (shown_row symbols (take i row)) in
    let more = sym (shown-more symbols row i c.loop-number-test.true) in
    record {
      printed = λ records h.
          subst (HavePrinted c.value-in-loop-number.new.self records) more (rw c.value.ensures at (c.in_ok-value.ensures.printed records fields (c.loop-number.invariant.printed records h)));
      texts = subst AllText more (text-more fields _ c.loop-number.invariant.texts (rw c.value.ensures at c.in_ok-value.ensures.utf8));
    }

pub returns-clause-texts : goal.returns-clause-texts
returns-clause-texts c =
    on-ok c.end.result _
    (rw (← take_all c.loop-number.number-index c.args.row.now (omega (arith, c.loop-number-test.false))) c.loop-number.invariant.texts)
