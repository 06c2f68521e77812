use Rattle.std.specs.Prelude.{[], slice_index_or}
use Rattle.dx_cover_fold.specs.Codes.{numbers_by}
use Rattle.dx_cover_fold.proofs.IndexFacts.{IndexedBelow}
use Rattle.dx_cover_fold.proofs.index.Index.build.Given as goal

abbrev pub invariant-loop-place : goal.invariant-loop-place
invariant-loop-place l = IndexedBelow (λ k. numbers_by l.plan (slice_index_or l.rows.rows k [])) l.places.entries l.place
