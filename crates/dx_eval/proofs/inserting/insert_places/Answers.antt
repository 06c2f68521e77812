use Rattle.std.proofs.Common.{◌≡◌, ◌∙◌, ◌<◌, ◌∷◌, [], ℕ, length, get_or, subst, ap, arith, List, map}
use Rattle.std.proofs.lemmas.List.{get_or_default}
use Rattle.dx_base.proofs.Members.{in_at}
use Rattle.dx_instance.proofs.ShownFacts.{extends_both}
use Rattle.dx_instance.specs.Shown.{shown_row}
use Rattle.dx_instance.specs.Stored.{TableRows, widths}
use Rattle.dx_joins.specs.Shown.{texts_of}
use Rattle.dx_joins.proofs.Growing.{texts_grow}
use Rattle.dx_script.specs.Meaning.{inserted}
use Rattle.dx_tgd.proofs.Ascending.{row_there}
use Rattle.dx_tgd.specs.Gained.{GainsFacts}
use Rattle.dx_tgd.specs.Planned.{built}
use Rattle.dx_eval.specs.Inserting.{placed_fact}
use Rattle.dx_eval.proofs.Inserts.{all_placed, gains_at, long_shown, long_tables, wide_as}
use Rattle.dx_eval.proofs.inserting.insert_places.Goals as goal

pub row-requires : goal.row-requires
row-requires c = c.args.at.now.within _ (in_at c.args.at.now.places.now c.loop-place.place-index 0 c.loop-place-test.true)

pub fill-requires-clause-stand : goal.fill-requires-clause-stand
fill-requires-clause-stand c = rw c.row.ensures.width c.requires.cells.outs

pub fill-requires-clause-texts : goal.fill-requires-clause-texts
fill-requires-clause-texts c =
    texts_grow c.args.target.now.symbols c.loop-place.target.symbols c.row.result.now c.loop-place.invariant.grows
    (row_there c.args.target.now.symbols c.args.at.now.rows.now.rows (get_or c.args.at.now.places.now c.loop-place.place-index 0) c.row.result.now c.requires.texts
    (c.args.at.now.within _ (in_at c.args.at.now.places.now c.loop-place.place-index 0 c.loop-place-test.true)) c.row.ensures.row)

pub count-count-requires : goal.count-count-requires
count-count-requires c =
    let e = long_tables (built c.args.target.now) (built c.fill.new.target) (ap (λ (I : List TableRows). widths I) c.in_ok-fill.ensures.same ∙ c.loop-place.invariant.gains.widths_stay) in
    omega (arith, e, c.requires.cells.table_there)

pub add-requires : goal.add-requires
add-requires c =
    let w = ap (λ (I : List TableRows). widths I) c.in_ok-fill.ensures.same ∙ c.loop-place.invariant.gains.widths_stay in
    let e = long_tables (built c.args.target.now) (built c.fill.new.target) w in
    let there : c.args.table < length (built c.fill.new.target) = omega (arith, e, c.requires.cells.table_there) in
    record {
      table_there = there;
      width = ap length c.deref.ensures.value
          ∙ (long_shown c.fill.new.target.symbols c.fill.new.buffer.items (inserted c.args.at.now.rule (get_or c.args.at.now.places.now c.loop-place.place-index 0) (texts_of c.loop-place.target.symbols c.row.result.now)) c.args.cells.now c.in_ok-fill.ensures.shown
          ∙ (c.requires.cells.many ∙ wide_as (built c.args.target.now) (built c.fill.new.target) c.args.table w (omega (arith, e, c.requires.cells.table_there))));
      below = rw c.deref.ensures.value c.in_ok-fill.ensures.below;
      room = omega (arith, c.count-count.ensures, c.if-count.false);
    }

pub loop-place-preserved : goal.loop-place-preserved
loop-place-preserved c =
    let S = c.args.target.now.symbols in
    let T = c.loop-place.target.symbols in
    let U = c.fill.new.target.symbols in
    let k = get_or c.args.at.now.places.now c.loop-place.place-index 0 in
    let low = c.args.at.now.within _ (in_at c.args.at.now.places.now c.loop-place.place-index 0 c.loop-place-test.true) in
    let shown : shown_row U c.deref.result.now ≡ map (inserted c.args.at.now.rule k (texts_of T c.row.result.now)) c.args.cells.now = ap (λ (ns : List ℕ). shown_row U ns) c.deref.ensures.value ∙ c.in_ok-fill.ensures.shown in
    record {
      grows = rw c.in_ok-add.ensures.symbols (extends_both S T U c.loop-place.invariant.grows c.in_ok-fill.ensures.grows);
      gains = gains_at S T U c.args.at.now.rows.now.rows c.row.result.now c.deref.result.now c.args.table c.args.at.now.rule k c.loop-place.place-index c.args.at.now.places.now c.args.cells.now
          c.loop-place-test.true (get_or_default c.args.at.now.places.now c.loop-place.place-index 0 k c.loop-place-test.true) low c.row.ensures.row c.loop-place.invariant.grows c.requires.texts shown c.loop-place.invariant.gains
          (subst (λ (I : List TableRows). GainsFacts I (built c.add.new.self) (record { table = c.args.table; row = shown_row U c.deref.result.now } ∷ [])) c.in_ok-fill.ensures.same c.in_ok-add.ensures.added);
    }

pub returns-clause-gained : goal.returns-clause-gained
returns-clause-gained c =
    all_placed (placed_fact c.args.table c.args.at.now.rule (map (texts_of c.args.target.now.symbols) c.args.at.now.rows.now.rows) c.args.cells.now) c.args.at.now.places.now c.loop-place.place-index c.loop-place-test.false c.loop-place.invariant.gains
