use Rattle.std.proofs.Common.{◌≡◌, ◌<◌, ◌+◌, [], suc, false, sym, subst, ap, ◌∙◌, arith, length, get_or, drop}
use Rattle.std.proofs.lemmas.List.{drop_all, drop_more}
use Rattle.std.proofs.lemmas.Result.{on_ok_weaker}
use Rattle.json.specs.Token.{begin_array, end_array}
use Rattle.dx_base.proofs.Members.{in_at}
use Rattle.dx_instance.specs.Places.{row_at}
use Rattle.dx_instance.specs.Stored.{rows_of, table_at}
use Rattle.dx_json.specs.Nesting.{object_of, objects, with_sets}
use Rattle.dx_json.specs.Orders.{Fit, all_slots, members_with_values, order_of, slots_of, source_data}
use Rattle.dx_json.proofs.Ordered.{filled-order, order_fits, order_there}
use Rattle.dx_json.proofs.Tokens.{begun, ended, item_tokens, item_written}
use Rattle.dx_json.proofs.nesting.Nesting.write_root.Goals as goal

pub loop-place-init : goal.loop-place-init
loop-place-init c = begun c.args.out.now c.begin_array.new.self begin_array _ c.begin_array.ensures.room.0 c.in_ok-begin_array.ensures.ok

pub write_object-requires-clause-fit : goal.write_object-requires-clause-fit
write_object-requires-clause-fit c =
    let I = c.args.self.now.instance.now in
    let tree = c.args.tree.now in
    let root = c.args.root in
    let width = (table_at I root).width in
    let ready = c.requires.ready in
    let inner : c.tree.inside.inner ≡ tree.inner = ap (λ v. v.inner) c.tree.view_is in
    let order = order_there c.args.self.now.orders.now root c.index-self-root.result (order_of tree.label tree.inner false root) ready.within ready.order in
    let fit = order_fits I (all_slots c.args.self.now.orders.now) width tree.label tree.inner false root c.requires.columns ready.inner in
    subst (λ f. Fit I (all_slots c.args.self.now.orders.now) width f (slots_of (get_or c.args.self.now.orders.now root c.index-self-root.result).entries)) (sym inner) (subst (Fit I (all_slots c.args.self.now.orders.now) width tree.inner) (sym order) fit)

pub loop-place-preserved : goal.loop-place-preserved
loop-place-preserved c =
    let I = c.args.self.now.instance.now in
    let tree = c.args.tree.now in
    let root = c.args.root in
    let place = c.loop-place.place in
    let row = row_at I root place in
    let rows = rows_of I root in
    let ready = c.requires.ready in
    let object_at = object_of tree.label tree.inner (with_sets I tree.inner (suc root)) false in
    let below : place < length rows = omega (arith, c.loop-place-test.true, c.count-place-end.ensures) in
    let wide : length row ≡ (table_at I root).width = c.tables.ensures.rows (table_at I root) (in_at I root _ c.requires.table) row (in_at rows place _ below) in
    let inner : c.tree.inside.inner ≡ tree.inner = ap (λ v. v.inner) c.tree.view_is in
    let order = order_there c.args.self.now.orders.now root c.index-self-root.result (order_of tree.label tree.inner false root) ready.within ready.order in
    let same : members_with_values (source_data I c.tree.inside.inner row) (slots_of (get_or c.args.self.now.orders.now root c.index-self-root.result).entries) ≡ object_at row =
    ap (λ f. members_with_values (source_data I f row) (slots_of (get_or c.args.self.now.orders.now root c.index-self-root.result).entries)) inner ∙ ap (members_with_values (source_data I tree.inner row)) order ∙ filled-order I tree.label tree.inner false root row (omega (arith, wide, c.requires.columns)) in
    item_written c.args.out.now c.loop-place.out c.write_object.new.out object_at (drop place rows) (drop (place + 1) rows) row _ _ (drop_more rows place [] below) same c.loop-place.invariant c.in_ok-write_object.ensures

pub returns : goal.returns
returns c =
    let I = c.args.self.now.instance.now in
    let tree = c.args.tree.now in
    let rows = rows_of I c.args.root in
    let object_at = object_of tree.label tree.inner (with_sets I tree.inner (suc c.args.root)) false in
    let none : drop c.loop-place.place rows ≡ [] = drop_all c.loop-place.place rows (omega (arith, c.loop-place-test.false, c.count-place-end.ensures)) in
    on_ok_weaker c.end_array.result (λ e. ended c.args.out.now c.loop-place.out c.end_array.new.self _ _ end_array (ap (λ rs. item_tokens (objects object_at rs)) none) c.loop-place.invariant c.end_array.ensures.room.0 e) c.end_array.ensures.ok
