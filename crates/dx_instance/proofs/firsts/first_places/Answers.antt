use Rattle.std.proofs.Common.{◌≡◌, ◌∙◌, ◌∷◌, [], ℕ, List, ap, arith, length, map, sym}
use Rattle.std.specs.Prelude.{slice_index}
use Rattle.std.proofs.lemmas.List.{length-append}
use Rattle.dx_instance.specs.Cells.{NumberTable}
use Rattle.dx_instance.specs.Firsts.{part_at}
use Rattle.dx_instance.proofs.PartsFacts.{firsts_more, none_yet}
use Rattle.dx_instance.proofs.firsts.first_places.Goals as goal

pub loop-place-init : goal.loop-place-init
loop-place-init c = record {
  width = ap (λ (t : NumberTable). t.width) c.new-parts.ensures.rows;
  parts = none_yet (part_at c.args.rows.now.rows c.args.columns.now) c.new-parts.result (ap (λ (t : NumberTable). t.rows) c.new-parts.ensures.rows) c.new-parts.ensures.places;
  many = ap length c.in_ok-firsts.ensures.items;
  first = λ p h. absurd (omega (arith, h));
}

pub loop-place-preserved : goal.loop-place-preserved
loop-place-preserved c =
    let f : ℕ → List ℕ = part_at c.args.rows.now.rows c.args.columns.now in
    let is : f c.loop-place.place ≡ c.deref.result.now =
    sym (c.deref.ensures.value ∙ (c.in_ok-part.ensures ∙ ap (λ (r : List ℕ). map (slice_index r) c.args.columns.now) c.row.ensures.row)) in
    record {
      width = c.in_ok-first.ensures.width ∙ c.loop-place.invariant.width;
      parts = c.in_ok-first.ensures.parts f is c.loop-place.invariant.parts;
      many = let l = ap length c.in_ok-push.ensures.items ∙ length-append c.loop-place.firsts.items (c.in_ok-first.field-0 ∷ []) in omega (arith, l, c.loop-place.invariant.many);
      first = firsts_more f c.loop-place.place c.in_ok-first.field-0 c.loop-place.firsts.items c.push.new.self.items c.loop-place.invariant.many c.in_ok-push.ensures.items c.loop-place.invariant.first
          (c.in_ok-first.ensures.first f is c.loop-place.invariant.parts);
    }
