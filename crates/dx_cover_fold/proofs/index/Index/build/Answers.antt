use Rattle.std.proofs.Common.{◌≡◌, [], get_or, length, sym, ◌∙◌, ap, subst, arith}
use Rattle.dx_cover_fold.specs.Codes.{numbers_by}
use Rattle.dx_cover_fold.proofs.IndexFacts.{IndexedBelow, absent, indexed_kept, indexed_put, present}
use Rattle.dx_cover_fold.proofs.index.Index.build.Goals as goal
use Rattle.dx_cover_fold.proofs.index.Index.build.Goals.{then-is_none+in_ok-insert, else-is_none+in-Inline-1, else-is_none+in-Heap-1}

pub numbers_said-requires : goal.numbers_said-requires
numbers_said-requires c = rw c.row.ensures.width c.requires

pub loop-place-preserved : goal.loop-place-preserved
loop-place-preserved c =
    let r = ap (numbers_by c.args.plan.now) (sym c.row.ensures.row) ∙ sym c.in_ok-numbers.ensures in
    elim c.if-is_none.branch [
      | then-is_none+in_ok-insert w ↦
          rw w.places-is (indexed_put (λ k. numbers_by c.args.plan.now (get_or c.args.rows.now.rows k [])) c.loop-place.places.entries w.insert.new.self.entries c.loop-place.place
          (rw r (absent c.in_ok-numbers.numbers.items c.loop-place.places.entries c.get.result c.is_none.result c.get.ensures.value c.is_none.ensures w.if-is_none.true))
          (rw r w.in_ok-insert.ensures.updates.0) c.loop-place.invariant)
      | else-is_none+in-Inline-1 w ↦
          let p = present c.in_ok-numbers.numbers.items c.loop-place.places.entries c.get.result c.is_none.result c.get.ensures.value c.is_none.ensures w.if-is_none.false in
          rw w.places-is (indexed_kept (λ k. numbers_by c.args.plan.now (get_or c.args.rows.now.rows k [])) c.loop-place.places.entries c.loop-place.place p.0 (rw r p.1) c.loop-place.invariant)
      | else-is_none+in-Heap-1 w ↦
          let p = present c.in_ok-numbers.numbers.items c.loop-place.places.entries c.get.result c.is_none.result c.get.ensures.value c.is_none.ensures w.if-is_none.false in
          rw w.places-is (indexed_kept (λ k. numbers_by c.args.plan.now (get_or c.args.rows.now.rows k [])) c.loop-place.places.entries c.loop-place.place p.0 (rw r p.1) c.loop-place.invariant)
    ]

pub returns : goal.returns
returns c =
    let all : c.loop-place.place ≡ length c.args.rows.now.rows = omega (arith, c.loop-place-test.false, c.loop-place.auto.place-end, c.count-place-end.ensures.count) in
    subst (IndexedBelow (λ k. numbers_by c.args.plan.now (get_or c.args.rows.now.rows k [])) c.loop-place.places.entries) all c.loop-place.invariant
