use Rattle.std.proofs.Common.{◌≡◌, ℕ, ◌<◌, length}
use Rattle.std.specs.Prelude.{slice_index}
use Rattle.dx_instance.specs.Firsts.{PartsOfPlaces, IsFirstOf, part_at}
use Rattle.dx_instance.proofs.firsts.first_places.Given as goal

abbrev pub invariant-loop-place : goal.invariant-loop-place
invariant-loop-place l = record {
  width : l.parts.rows.width ≡ length l.columns;
  parts : PartsOfPlaces (part_at l.rows.rows l.columns) l.place l.parts;
  many : length l.firsts.items ≡ l.place;
  first : (p : ℕ) → p < l.place → IsFirstOf (part_at l.rows.rows l.columns) p (slice_index l.firsts.items p);
}
