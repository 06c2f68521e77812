use Rattle.std.proofs.Common.{rules, refl, Bor}
use Rattle.std.specs.Prelude.{map}
use Rattle.std.proofs.lemmas.List.{map-append}
use Rattle.dx_logical.specs.declared.relation.Occurrence.{Occurrence}
use Rattle.dx_ways.specs.Tried.{is_like}
use Rattle.dx_ways.proofs.Unlike.{item_added, item_left}
use Rattle.dx_ways.proofs.seen.unlike.Goals as goal
use Rattle.dx_ways.proofs.seen.unlike.Goals.{then-not-has_like+in_ok-push, else-not-has_like}

pub loop-occurrence-preserved : goal.loop-occurrence-preserved
loop-occurrence-preserved c = elim c.if-not-has_like.branch [
  | then-not-has_like+in_ok-push w ↦
      item_added (is_like c.args.places.now) c.args.occurrences.now c.loop-occurrence.occurrence-index c.occurrence-item.result (map (λ r. r.now) c.loop-occurrence.found.items) _ _
      c.loop-occurrence-test.true c.occurrence-item.is (search rules) (rw (w.found-is, w.in_ok-push.ensures.items, map-append (λ (r : Bor Occurrence). r.now)) refl) c.loop-occurrence.invariant
  | else-not-has_like w ↦
      item_left (is_like c.args.places.now) c.args.occurrences.now c.loop-occurrence.occurrence-index c.occurrence-item.result (map (λ r. r.now) c.loop-occurrence.found.items) _ _
      c.loop-occurrence-test.true c.occurrence-item.is (search rules) (search rules) c.loop-occurrence.invariant
]
