use Rattle.std.proofs.Common.{◌≡◌, ◌≤◌, ◌∷◌, length, drop}
use Rattle.std.specs.Prelude.{map, flat_map}
use Rattle.std.specs.List.{filter}
use Rattle.dx_lines.specs.Ways.{is_of}
use Rattle.dx_ways.specs.Tried.{put_all, tried}
use Rattle.dx_ways.proofs.trying.Trial.+add_tried.Given as goal

abbrev pub decreases-add_tried : goal.decreases-add_tried
decreases-add_tried l = length l.places.now

abbrev pub invariant-loop-occurrence : goal.invariant-loop-occurrence
invariant-loop-occurrence l = record {
  same : put_all l.found.items (flat_map (tried l.self.source.now l.self.variables.now (map (λ r. r.now) l.self.among.now) l.rest) (map (λ o. o ∷ map (λ r. r.now) l.choice) (filter (is_of l.first.table) (map (λ r. r.now) (drop l.occurrence-index l.self.among.now)))))
      ≡ put_all l.initial.found.items (tried l.self.source.now l.self.variables.now (map (λ r. r.now) l.self.among.now) l.places (map (λ r. r.now) l.choice));
  few : length l.found.items ≤ 64;
}
