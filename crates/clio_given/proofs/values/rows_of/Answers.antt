use Rattle.std.proofs.Common.{◌∙◌, ◌+◌, ◌<◌, ℕ, ap, arith, length, sym, Some, List}
use Rattle.std.proofs.lemmas.Option.{slice_get-get_or}
use Rattle.dx_base.proofs.Members.{item_in}
use Rattle.dx_model.specs.declared.values.Value.{Value}
use Rattle.dx_instance.proofs.NumberFacts.{stays}
use Rattle.dx_instance.proofs.ShownFacts.{extends_both}
use Rattle.clio_given.proofs.Parsed.{all_made, first_no_row, made_more, none_made, numbers_wide}
use Rattle.clio_given.proofs.values.rows_of.Goals as goal

pub loop-place-init : goal.loop-place-init
loop-place-init c = record {
  made = none_made c.args.records.now c.args.symbols.now c.args.width c.new-rows.result c.new-rows.ensures;
  grows = stays c.args.symbols.now;
}

pub returns-then-not-branch-clause-fault : goal.returns-then-not-branch-clause-fault
returns-then-not-branch-clause-fault c =
    let h : c.loop-place.place < length c.args.records.now = omega (arith, c.loop-place-test.true, c.in-Ok.ensures) in
    first_no_row c.args.records.now c.loop-place.symbols c.args.width c.loop-place.place (c.from-then-not-branch.result + 1) c.loop-place.rows c.index-records-place.result
    (slice_get-get_or c.args.records.now c.loop-place.place c.index-records-place.result h ∙ ap (λ (r : List Value). Some r) (sym c.index-records-place.is)) (ap (λ (n : ℕ). n + 1) c.from-then-not-branch.ensures)
    (rw (c.if-not-branch.true, c.items.ensures) at c.in_ok-number_row.ensures.values) c.loop-place.invariant.made

pub push-requires-clause-width : goal.push-requires-clause-width
push-requires-clause-width c =
    let h : c.loop-place.place < length c.args.records.now = omega (arith, c.loop-place-test.true, c.in-Ok.ensures) in
    ap length c.deref.ensures.value
    ∙ (numbers_wide c.index-records-place.result c.number_row.new.symbols c.number_row.new.numbers.items
    (rw (c.if-not-branch.false, c.items.ensures) at c.in_ok-number_row.ensures.values)
    ∙ (c.requires.wide c.index-records-place.result (item_in c.args.records.now c.loop-place.place c.index-records-place.result h c.index-records-place.is)
    ∙ sym c.loop-place.invariant.made.wide))

pub push-requires-clause-room : goal.push-requires-clause-room
push-requires-clause-room c =
    let many = c.loop-place.invariant.made.many in
    omega (arith, many, c.loop-place-test.true, c.in-Ok.ensures)

pub loop-place-preserved : goal.loop-place-preserved
loop-place-preserved c =
    let h : c.loop-place.place < length c.args.records.now = omega (arith, c.loop-place-test.true, c.in-Ok.ensures) in record {
      made = made_more c.args.records.now c.loop-place.symbols c.number_row.new.symbols c.args.width c.loop-place.place c.loop-place.rows c.push.new.self
          c.index-records-place.result c.number_row.new.numbers.items h c.index-records-place.is
          (rw (c.if-not-branch.false, c.items.ensures) at c.in_ok-number_row.ensures.values) c.in_ok-number_row.ensures.grows
          (rw c.deref.ensures.value at c.in_ok-push.ensures.ok) c.loop-place.invariant.made;
      grows = extends_both c.args.symbols.now c.loop-place.symbols c.number_row.new.symbols c.loop-place.invariant.grows c.in_ok-number_row.ensures.grows;
    }

pub returns-clause-rows : goal.returns-clause-rows
returns-clause-rows c =
    all_made c.args.records.now c.loop-place.symbols c.args.width c.loop-place.rows c.loop-place.place (omega (arith, c.loop-place-test.false, c.in-Ok.ensures)) c.loop-place.invariant.made
