use Rattle.std.proofs.Common.{◌≡◌, ◌∙◌, [], ap, arith}
use Rattle.std.specs.Option.{option_copied}
use Rattle.std.proofs.lemmas.Bool.{false≢true}
use Rattle.dx_base.proofs.Members.{in_at}
use Rattle.dx_instance.specs.Stored.{table_at}
use Rattle.dx_hom.specs.Bound.{BindingState}
use Rattle.dx_hom.proofs.Placing.{row_wide}
use Rattle.dx_hom.proofs.Steps.{cut, row_excluded, row_met, skips_more, skips_on}
use Rattle.dx_hom.proofs.searching.place_from.Goals as goal
use Rattle.dx_hom.proofs.searching.place_from.Goals.{then-is_open+else-meet_row, else-is_open}

pub is_open-requires-clause-place : goal.is_open-requires-clause-place
is_open-requires-clause-place c = (c.in-Some.ensures c.args.goal.now.fixed.now).1

pub meet_row-requires-clause-row : goal.meet_row-requires-clause-row
meet_row-requires-clause-row c =
    let fits = c.requires.fits in
    let place = (c.in-Some.ensures c.args.goal.now.fixed.now).1 in
    record {
      table = fits.table;
      place = place;
      width = rw c.items.ensures fits.width;
      wide = row_wide c.args.goal.now.into.now c.args.fact.now.table c.in-Some.place fits.table place c.tables.ensures.rows;
    }

pub overflow_add-next : goal.overflow_add-next
overflow_add-next c =
    let place = c.in-Some.ensures c.args.goal.now.fixed.now in
    let table = in_at c.args.goal.now.into.now c.args.fact.now.table (record { width = 0; rows = [] }) c.requires.fits.table in
    let few = c.tables.ensures.few (table_at c.args.goal.now.into.now c.args.fact.now.table) table in
    omega (arith, place.1, few)

pub loop-place-smaller : goal.loop-place-smaller
loop-place-smaller c =
    let place = c.in-Some.ensures c.args.goal.now.fixed.now in
    omega (arith, place.0, place.1, c.count-count.ensures)

pub returns-then-meet_row-clause-cases : goal.returns-then-meet_row-clause-cases
returns-then-meet_row-clause-cases c =
    let T = c.args.goal.now.into.now in
    let old = c.args.found.now.cells in
    let fact = c.args.fact.now in
    let avoid = option_copied c.args.goal.now.avoid in
    let p = c.in-Some.place in
    let place = rw c.loop-place.invariant.same at (c.in-Some.ensures c.args.goal.now.fixed.now) in
    let skips = skips_on T c.args.goal.now.gone.now c.args.goal.now.fixed.now avoid old fact c.args.next c.loop-place.next p c.loop-place.invariant.skips
    place.2 in (
      omega (arith, place.0, c.loop-place.invariant.from),
      c.is_open.ensures.0 c.if-is_open.true,
      skips,
      row_met T c.args.goal.now.gone.now c.args.goal.now.fixed.now avoid c.loop-place.found.cells c.meet_row.new.found.cells old fact c.items.result.now p
          c.items.ensures c.loop-place.invariant.same c.if-meet_row.ensures.cases,
    )

pub loop-place-preserved : goal.loop-place-preserved
loop-place-preserved c =
    let T = c.args.goal.now.into.now in
    let gone = c.args.goal.now.gone.now in
    let fixed = c.args.goal.now.fixed.now in
    let old = c.args.found.now.cells in
    let fact = c.args.fact.now in
    let avoid = option_copied c.args.goal.now.avoid in
    let p = c.in-Some.place in
    let same = c.loop-place.invariant.same in
    let place = rw same at (c.in-Some.ensures fixed) in
    let skips = skips_on T gone fixed avoid old fact c.args.next c.loop-place.next p c.loop-place.invariant.skips place.2 in
    elim c.if-is_open.branch [
      | then-is_open+else-meet_row w ↦
          let fails = w.if-meet_row.ensures.cases in
          let more = rw same at fails.begins in
          let cells : c.if-is_open.found.cells ≡ old =
          ap (λ (b : BindingState). b.cells) (w.found-is ∙ w.truncate.ensures)
          ∙ cut old w.meet_row.new.found.cells c.len-bound.result c.len-bound.ensures more in
          let excluded = row_excluded T gone fixed avoid c.loop-place.found.cells w.meet_row.new.found.cells old fact w.items.result.now p
          w.items.ensures same fails in
          record {
            room = ap (λ (b : BindingState). b.room) (w.found-is ∙ w.truncate.ensures) ∙ (w.meet_row.ensures.room ∙ c.loop-place.invariant.room);
            same = cells;
            from = omega (arith, place.0, c.loop-place.invariant.from);
            skips = skips_more T gone fixed avoid old fact c.args.next p skips (λ o. excluded);
          }
      | else-is_open w ↦ record {
        room = ap (λ (b : BindingState). b.room) w.found-is ∙ c.loop-place.invariant.room;
        same = ap (λ (b : BindingState). b.cells) w.found-is ∙ same;
        from = omega (arith, place.0, c.loop-place.invariant.from);
        skips = skips_more T gone fixed avoid old fact c.args.next p skips (λ o. absurd (false≢true (w.if-is_open.ensures.1 o)));
      }
    ]
