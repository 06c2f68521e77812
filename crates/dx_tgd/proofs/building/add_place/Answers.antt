use Rattle.std.proofs.Common.{◌≡◌, ◌∙◌, ◌∷◌, [], ℕ, List, ap, sym, subst, length}
use Rattle.std.specs.Prelude.{map}
use Rattle.std.proofs.lemmas.List.{length-map}
use Rattle.dx_base.proofs.Members.{item_in}
use Rattle.dx_model.specs.declared.values.Value.{Value}
use Rattle.dx_instance.specs.Shown.{shown_row}
use Rattle.dx_tgd.specs.Gained.{GainsFacts}
use Rattle.dx_tgd.specs.Planned.{built, planned_number, planned_fact}
use Rattle.dx_tgd.proofs.Gaining.{gains_next, room_for_next}
use Rattle.dx_tgd.proofs.Plans.{some_below}
use Rattle.dx_tgd.proofs.Tables.{wide_table}
use Rattle.dx_tgd.proofs.building.add_place.Goals as goal

pub fill-requires : goal.fill-requires
fill-requires c =
    let s = c.requires.stand c.atom-item.result (item_in c.args.atoms.now c.loop-atom.atom-index c.atom-item.result c.loop-atom-test.true c.atom-item.is) in
    rw c.deref.ensures.value s.there

pub add-requires : goal.add-requires
add-requires c =
    let s = c.requires.stand c.atom-item.result (item_in c.args.atoms.now c.loop-atom.atom-index c.atom-item.result c.loop-atom-test.true c.atom-item.is) in
    let w = wide_table (built c.loop-atom.target) c.atom-item.result.table (length c.atom-item.result.cells.items) (rw c.loop-atom.invariant.gains.widths_stay s.wide) in
    record {
      table_there = w.0;
      width = ap length c.deref-in-loop-atom.ensures.value ∙ ap length c.in_ok-fill.ensures ∙ length-map c.deref.result.now (planned_number c.args.row.now c.args.place) ∙ ap length c.deref.ensures.value ∙ sym w.1;
      below = rw (c.deref-in-loop-atom.ensures.value, c.in_ok-fill.ensures, c.deref.ensures.value, c.loop-atom.invariant.symbols) (some_below c.args.row.now c.args.place c.atom-item.result.cells.items (length c.args.target.now.symbols) s.below);
      room = room_for_next (planned_fact c.args.target.now.symbols c.args.row.now c.args.place) c.args.atoms.now c.loop-atom.atom-index c.atom-item.result.table c.loop-atom-test.true c.requires.room c.loop-atom.invariant.gains;
    }

pub loop-atom-preserved : goal.loop-atom-preserved
loop-atom-preserved c =
    let numbers : c.deref-in-loop-atom.result.now ≡ map (planned_number c.args.row.now c.args.place) c.atom-item.result.cells.items =
    c.deref-in-loop-atom.ensures.value ∙ c.in_ok-fill.ensures ∙ ap (map (planned_number c.args.row.now c.args.place)) c.deref.ensures.value in
    let row : shown_row c.loop-atom.target.symbols c.deref-in-loop-atom.result.now ≡ shown_row c.args.target.now.symbols (map (planned_number c.args.row.now c.args.place) c.atom-item.result.cells.items) =
    ap (λ (S : List Value). shown_row S c.deref-in-loop-atom.result.now) c.loop-atom.invariant.symbols ∙ ap (λ (ns : List ℕ). shown_row c.args.target.now.symbols ns) numbers in
    record {
      symbols = c.in_ok-add.ensures.symbols ∙ c.loop-atom.invariant.symbols;
      gains = gains_next (planned_fact c.args.target.now.symbols c.args.row.now c.args.place) c.args.atoms.now c.loop-atom.atom-index c.atom-item.result c.loop-atom-test.true c.atom-item.is c.loop-atom.invariant.gains
          (subst (λ (vs : List Value). GainsFacts (built c.loop-atom.target) (built c.add.new.self) (record { table = c.atom-item.result.table; row = vs } ∷ [])) row c.in_ok-add.ensures.added);
    }
