use Rattle.std.proofs.Common.{◌≡◌, ◌+◌, ◌<◌, ◌^◌, ◌∷◌, [], suc, refl, sym, subst, ap, ◌∙◌, arith, length, get_or, true, ◌++◌, string_bytes, rules, OnOk}
use Rattle.std.proofs.lemmas.Result.{on_ok_weaker}
use Rattle.json.specs.Token.{begin_array, begin_object, end_array, end_object, key}
use Rattle.serde_json.specs.Data.{array}
use Rattle.dx_base.proofs.Members.{in_at}
use Rattle.dx_model.specs.Tables.{cell}
use Rattle.dx_schema.specs.Forest.{forest_size}
use Rattle.dx_schema.proofs.Preorder.{forest_size-inner}
use Rattle.dx_instance.specs.Places.{row_at}
use Rattle.dx_instance.specs.Stored.{rows_of, table_at}
use Rattle.dx_json.specs.Nesting.{object_of, objects, objects_below, up_column, with_sets}
use Rattle.dx_json.specs.Orders.{Fit, TreeIsReady, SourceFits, all_slots, level_length, members_with_values, order_of, slots_of, source_data, tree_in}
use Rattle.dx_json.specs.Wrote.{WroteValue}
use Rattle.dx_json.proofs.Nested.{next_row, no_row_left, rows_left}
use Rattle.dx_json.proofs.Ordered.{filled-order, level_long, order_fits, order_there, tree_there}
use Rattle.dx_json.proofs.Tokens.{begun, ended, item_tokens, item_written, member_tokens, member_written}
use Rattle.dx_json.proofs.nesting.Nesting.+nest.Goals as goal

pub write_objects-loop-place-init : goal.write_objects-loop-place-init
write_objects-loop-place-init t c = record {
  way = begun c.args.out.now c.begin_array.new.self begin_array _ c.begin_array.ensures.room.0 c.in_ok-begin_array.ensures.ok;
  within = omega arith;
}

pub write_objects-overflow_add-next : goal.write_objects-overflow_add-next
write_objects-overflow_add-next t c =
    let I = c.args.self.now.instance.now in
    let ready = c.requires.ready in
    let few : length (rows_of I c.args.table) < 2 ^ 32 = c.tables.ensures.few (table_at I c.args.table) (in_at I c.args.table _ ready.0) in
    let next = next_row I c.args.table (up_column c.args.tree.now.inner) c.loop-place.next c.in-Some.place c.args.id.now _ _ (ap (λ n. n ∷ []) c.column_up-column.ensures) refl c.in-Some.ensures in
    omega (arith, few, next.0)

pub write_objects-loop-place-preserved : goal.write_objects-loop-place-preserved
write_objects-loop-place-preserved t c =
    let I = c.args.self.now.instance.now in
    let tree = c.args.tree.now in
    let table = c.args.table in
    let up = up_column tree.inner in
    let id = c.args.id.now in
    let place = c.in-Some.place in
    let next = next_row I table up c.loop-place.next place id _ _ (ap (λ n. n ∷ []) c.column_up-column.ensures) refl c.in-Some.ensures in
    let object_at = object_of tree.label tree.inner (with_sets I tree.inner (suc table)) true in
    let wide : length (row_at I table place) ≡ (table_at I table).width = c.tables.ensures.rows (table_at I table) (in_at I table _ c.requires.ready.0) (row_at I table place) (in_at (rows_of I table) place _ next.0) in
    let inner : c.tree.inside.inner ≡ tree.inner = ap (λ v. v.inner) c.tree.view_is in
    let order = order_there c.args.self.now.orders.now table c.index-self-table.result (order_of tree.label tree.inner true table) c.requires.ready.2 c.requires.ready.3 in
    let same : members_with_values (source_data I c.tree.inside.inner (row_at I table place)) (slots_of (get_or c.args.self.now.orders.now table c.index-self-table.result).entries) ≡ object_at (row_at I table place) =
    ap (λ f. members_with_values (source_data I f (row_at I table place)) (slots_of (get_or c.args.self.now.orders.now table c.index-self-table.result).entries)) inner ∙ ap (members_with_values (source_data I tree.inner (row_at I table place))) order ∙ filled-order I tree.label tree.inner true table (row_at I table place) (omega (arith, wide, c.requires.ready.1)) in
    record {
      way = item_written c.args.out.now c.loop-place.out c.write_object.new.out object_at (rows_left I table up id c.loop-place.next) (rows_left I table up id (place + 1)) (row_at I table place) _ _ next.1 same c.loop-place.invariant.way c.in_ok-write_object.ensures;
      within = omega (arith, next.0);
    }

pub write_objects-returns : goal.write_objects-returns
write_objects-returns t c =
    let I = c.args.self.now.instance.now in
    let tree = c.args.tree.now in
    let up = up_column tree.inner in
    let object_at = object_of tree.label tree.inner (with_sets I tree.inner (suc c.args.table)) true in
    let none : rows_left I c.args.table up c.args.id.now c.loop-place.next ≡ [] =
    no_row_left I c.args.table up c.loop-place.next c.args.id.now _ _ (ap (λ n. n ∷ []) c.column_up-column.ensures) refl c.loop-place.invariant.within c.in_default.ensures in
    on_ok_weaker c.end_array.result (λ e. ended c.args.out.now c.loop-place.out c.end_array.new.self _ _ end_array (ap (λ rows. item_tokens (objects object_at rows)) none) c.loop-place.invariant.way c.end_array.ensures.room.0 e) c.end_array.ensures.ok

pub write_object-loop-name-init : goal.write_object-loop-name-init
write_object-loop-name-init t c =
    let I = c.args.self.now.instance.now in
    let value = source_data I c.args.sets.now (row_at I c.args.row.table c.args.row.place) in
    let all : c.into_iter-name-iterator.result ≡ c.args.order.now.entries = search rules in
    record {
      way = rw all (begun c.args.out.now c.begin_object.new.self begin_object (member_tokens (members_with_values value (slots_of c.args.order.now.entries))) c.begin_object.ensures.room.0 c.in_ok-begin_object.ensures.ok);
      fit = rw all c.requires.fit;
    }

pub write_object-loop-name-preserved : goal.write_object-loop-name-preserved
write_object-loop-name-preserved t c =
    let I = c.args.self.now.instance.now in
    let l = c.loop-name in
    let value = source_data I c.args.sets.now (row_at I c.args.row.table c.args.row.place) in
    let left = c.next.new.self in
    let next : slots_of l.name-iterator ≡ (string_bytes c.in-Some.name.now, c.in-Some.source.now) ∷ slots_of left = ap slots_of c.in-Some.ensures.steps in
    let fit : Fit I (all_slots c.args.self.now.orders.now) (table_at I c.args.row.table).width c.args.sets.now ((string_bytes c.in-Some.name.now, c.in-Some.source.now) ∷ slots_of left) =
    subst (Fit I (all_slots c.args.self.now.orders.now) (table_at I c.args.row.table).width c.args.sets.now) next l.invariant.fit in
    let named : c.key.new.self.tokens ≡ l.out.tokens ++ key (string_bytes c.in-Some.name.now) ∷ [] = c.in_ok-key.ensures.ok ∙ ap (λ s. l.out.tokens ++ key s ∷ []) c.as_str.ensures.value in
    record {
      way = member_written c.args.out.now l.out c.key.new.self c.write_source.new.out value (slots_of l.name-iterator) (slots_of left) (string_bytes c.in-Some.name.now) c.in-Some.source.now _ next l.invariant.way c.key.ensures.room.0 named c.in_ok-write_source.ensures;
      fit = fit.1;
    }

pub write_object-returns : goal.write_object-returns
write_object-returns t c =
    let I = c.args.self.now.instance.now in
    let value = source_data I c.args.sets.now (row_at I c.args.row.table c.args.row.place) in
    on_ok_weaker c.end_object.result (λ e. ended c.args.out.now c.loop-name.out c.end_object.new.self _ _ end_object (ap (λ es. member_tokens (members_with_values value (slots_of es))) c.in-None.ensures.steps.0) c.loop-name.invariant.way c.end_object.ensures.room.0 e) c.end_object.ensures.ok

pub write_objects-write_object-requires : goal.write_objects-write_object-requires
write_objects-write_object-requires t c =
    let I = c.args.self.now.instance.now in
    let tree = c.args.tree.now in
    let table = c.args.table in
    let ready = c.requires.ready in
    let inner : c.tree.inside.inner ≡ tree.inner = ap (λ v. v.inner) c.tree.view_is in
    let order = order_there c.args.self.now.orders.now table c.index-self-table.result (order_of tree.label tree.inner true table) ready.2 ready.3 in
    let next = next_row I table (up_column tree.inner) c.loop-place.next c.in-Some.place c.args.id.now _ _ (ap (λ n. n ∷ []) c.column_up-column.ensures) refl c.in-Some.ensures in
    let fit = order_fits I (all_slots c.args.self.now.orders.now) (table_at I table).width tree.label tree.inner true table ready.1 ready.4 in (
      omega (arith, ap forest_size inner, c.decreases),
      (
        ready.0,
        (
          next.0,
          subst (λ f. Fit I (all_slots c.args.self.now.orders.now) (table_at I table).width f (slots_of (get_or c.args.self.now.orders.now table c.index-self-table.result).entries)) (sym inner)
              (subst (Fit I (all_slots c.args.self.now.orders.now) (table_at I table).width tree.inner) (sym order) fit),
        ),
      ),
    )

pub write_object-write_source-requires : goal.write_object-write_source-requires
write_object-write_source-requires t c =
    let l = c.loop-name in
    let width = (table_at c.args.self.now.instance.now c.args.row.table).width in
    let fit = subst (Fit c.args.self.now.instance.now (all_slots c.args.self.now.orders.now) width c.args.sets.now) (ap slots_of c.in-Some.ensures.steps) l.invariant.fit in
    (omega (arith, c.decreases), (c.requires.table, (c.requires.place, fit.0)))

pub write_source-bounds-items-at : goal.write_source-bounds-items-at
write_source-bounds-items-at t c =
    let fits = subst (SourceFits c.args.self.now.instance.now (all_slots c.args.self.now.orders.now) (table_at c.args.self.now.instance.now c.args.row.table).width c.args.sets.now) c.in-Inner.is c.requires.fits in
    omega (arith, fits.0, level_long c.items.result.now, ap level_length c.items.ensures)

pub write_source-cell-id-requires-clause-column : goal.write_source-cell-id-requires-clause-column
write_source-cell-id-requires-clause-column t c =
    let I = c.args.self.now.instance.now in
    let some = c.tables.ensures.widths (table_at I c.args.row.table) (in_at I c.args.row.table _ c.requires.table) in
    omega (arith, some)

pub write_source-write_objects-requires : goal.write_source-write_objects-requires
write_source-write_objects-requires t c =
    let fits = subst (SourceFits c.args.self.now.instance.now (all_slots c.args.self.now.orders.now) (table_at c.args.self.now.instance.now c.args.row.table).width c.args.sets.now) c.in-Inner.is c.requires.fits in
    let ts = c.items.result.now in
    let at = c.in-Inner.at in
    let s = c.index-items-at.result in
    let within : at < length ts = omega (arith, fits.0, level_long ts, ap level_length c.items.ensures) in
    let there : tree_in c.args.sets.now at ≡ s = ap (λ f. tree_in f at) (sym c.items.ensures) ∙ tree_there ts at s within ∙ sym c.index-items-at.is in
    let smaller = forest_size-inner ts at s within c.index-items-at.is in
    (omega (arith, smaller, ap forest_size c.items.ensures, c.decreases), subst (TreeIsReady c.args.self.now.instance.now (all_slots c.args.self.now.orders.now) c.in-Inner.below) there fits.1)

pub write_source-offset_bounds-items-at : goal.write_source-offset_bounds-items-at
write_source-offset_bounds-items-at t c =
    let fits = subst (SourceFits c.args.self.now.instance.now (all_slots c.args.self.now.orders.now) (table_at c.args.self.now.instance.now c.args.row.table).width c.args.sets.now) c.in-Inner.is c.requires.fits in
    let within : c.in-Inner.at < length c.items.result.now = omega (arith, fits.0, level_long c.items.result.now, ap level_length c.items.ensures) in
    search rules

pub write_source-returns-in-Inner : goal.write_source-returns-in-Inner
write_source-returns-in-Inner t c =
    let I = c.args.self.now.instance.now in
    let sets = c.args.sets.now in
    let row = row_at I c.args.row.table c.args.row.place in
    let fits = subst (SourceFits I (all_slots c.args.self.now.orders.now) (table_at I c.args.row.table).width sets) c.in-Inner.is c.requires.fits in
    let ts = c.items.result.now in
    let at = c.in-Inner.at in
    let s = c.index-items-at.result in
    let within : at < length ts = omega (arith, fits.0, level_long ts, ap level_length c.items.ensures) in
    let there : tree_in sets at ≡ s = ap (λ f. tree_in f at) (sym c.items.ensures) ∙ tree_there ts at s within ∙ sym c.index-items-at.is in
    let same : array (objects_below I s c.in-Inner.below c.cell-id.result.now) ≡ source_data I sets row c.args.source.now =
    ap (λ id. array (objects_below I s c.in-Inner.below id)) c.cell-id.ensures ∙ ap (λ t. array (objects_below I t c.in-Inner.below (cell row 0))) (sym there) ∙ sym (ap (source_data I sets row) c.in-Inner.is) in
    subst (λ d. OnOk c.write_objects.result (WroteValue c.args.out.now c.write_objects.new.out d)) same c.write_objects.ensures
