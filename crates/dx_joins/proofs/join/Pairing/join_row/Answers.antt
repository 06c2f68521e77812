use Rattle.std.proofs.Common.{◌≡◌, ◌∙◌, ◌⊎◌, ◌+◌, ◌%◌, ◌<◌, ap, subst, arith, ℕ, List, length}
use Rattle.std.specs.Prelude.{slice_index}
use Rattle.dx_base.specs.Members.{◌∈◌}
use Rattle.dx_instance.specs.Shown.{numbers_of_table}
use Rattle.dx_instance.specs.Cells.{row_key}
use Rattle.dx_joins.specs.Collecting.{CollectsRows, MoreThan}
use Rattle.dx_joins.specs.Looking.{IsNextInBucket, keys_of, numbers_at_places}
use Rattle.dx_joins.specs.Planning.{Pairs}
use Rattle.dx_joins.proofs.ByPlace.{by_none, by_more, by_full, by_all, by_skip, other_bucket, next_self, keys_long}
use Rattle.dx_joins.proofs.Linking.{below_mod}
use Rattle.dx_joins.proofs.join.Pairing.join_row.Goals as goal

pub loop-place-init : goal.loop-place-init
loop-place-init c =
    let p = c.args.self.now.plan.now in
    let rows = (numbers_of_table c.args.self.now.source.now.tables c.args.self.now.table).rows in
    let keys = keys_of p.by_right.items rows in
    let m = length c.args.index.now.heads.items in
    let key = row_key (numbers_at_places c.args.left.now p.by_left.items) in
    let some = c.requires.index.some in
    let at : c.first-place.result ≡ slice_index c.args.index.now.heads.items (key % m) = c.first-place.ensures ∙ ap (λ (k : ℕ). slice_index c.args.index.now.heads.items (k % m)) (c.key_at.ensures ∙ ap (λ (l : List ℕ). row_key (numbers_at_places c.args.left.now l)) c.deref.ensures.value) in
    let next : IsNextInBucket keys m (key % m) 0 c.first-place.result = rw at (c.requires.index.head (key % m) (below_mod key m some)) in
    record {
      gains = by_skip (λ s t. Pairs p c.args.self.now.marks.now c.args.left.now s t) rows c.args.out.now c.args.out.now 0 c.first-place.result (omega arith)
          (λ q i j. other_bucket p c.args.self.now.marks.now rows c.args.left.now m q c.requires.ready.plan (let w = next.within in omega (arith, w, j, keys_long p.by_right.items rows)) (next.skips q i j))
          (by_none (λ s t. Pairs p c.args.self.now.marks.now c.args.left.now s t) rows c.args.out.now);
      next = next_self keys m (key % m) 0 c.first-place.result next;
    }

pub join_pair-requires-clause-ready : goal.join_pair-requires-clause-ready
join_pair-requires-clause-ready c = record {
  plan = c.requires.ready.plan;
  left = c.requires.ready.left;
  width = c.loop-place.invariant.gains.width ∙ c.requires.ready.width;
}

pub returns-then-branch : goal.returns-then-branch
returns-then-branch c =
    let E : List ℕ → List ℕ → Type 0 = λ s t. Pairs c.args.self.now.plan.now c.args.self.now.marks.now c.args.left.now s t in
    let full : MoreThan c.loop-place.out.most (λ t. (t ∈ c.loop-place.out.rows) ⊎ E c.row-right.result.now t) = rw c.if-branch.true at c.in_ok-join_pair.ensures in
    by_full E (numbers_of_table c.args.self.now.source.now.tables c.args.self.now.table).rows c.args.out.now c.loop-place.out c.loop-place.place (omega (arith, c.loop-place-test.true, c.count-count.ensures)) c.loop-place.invariant.gains
    (subst (λ (r : List ℕ). MoreThan c.loop-place.out.most (λ t. (t ∈ c.loop-place.out.rows) ⊎ E r t)) c.row-right.ensures.row full)

pub loop-place-preserved : goal.loop-place-preserved
loop-place-preserved c =
    let p = c.args.self.now.plan.now in
    let rows = (numbers_of_table c.args.self.now.source.now.tables c.args.self.now.table).rows in
    let keys = keys_of p.by_right.items rows in
    let m = length c.args.index.now.heads.items in
    let key = row_key (numbers_at_places c.args.left.now p.by_left.items) in
    let place = c.loop-place.place in
    let here : place < length keys = omega (arith, c.loop-place-test.true, c.count-count.ensures, keys_long p.by_right.items rows) in
    let falls = c.loop-place.invariant.next.falls here in
    let next : IsNextInBucket keys m (key % m) (place + 1) c.next-place.result = rw (← falls, c.next-place.ensures) (c.requires.index.next place (omega arith) here) in
    let E : List ℕ → List ℕ → Type 0 = λ s t. Pairs p c.args.self.now.marks.now c.args.left.now s t in
    let more : CollectsRows c.loop-place.out c.join_pair.new.out (E c.row-right.result.now) = rw c.if-branch.false at c.in_ok-join_pair.ensures in
    let gains = by_more E rows c.args.out.now c.loop-place.out c.join_pair.new.out place c.loop-place.invariant.gains
    (subst (λ (r : List ℕ). CollectsRows c.loop-place.out c.join_pair.new.out (E r)) c.row-right.ensures.row more) in
    record {
      gains = by_skip E rows c.args.out.now c.join_pair.new.out (place + 1) c.next-place.result next.after
          (λ q i j. other_bucket p c.args.self.now.marks.now rows c.args.left.now m q c.requires.ready.plan (let w = next.within in omega (arith, w, j, keys_long p.by_right.items rows)) (next.skips q i j))
          gains;
      next = next_self keys m (key % m) (place + 1) c.next-place.result next;
    }

pub loop-place-smaller : goal.loop-place-smaller
loop-place-smaller c =
    let p = c.args.self.now.plan.now in
    let rows = (numbers_of_table c.args.self.now.source.now.tables c.args.self.now.table).rows in
    let place = c.loop-place.place in
    let here : place < length (keys_of p.by_right.items rows) = omega (arith, c.loop-place-test.true, c.count-count.ensures, keys_long p.by_right.items rows) in
    let next = c.requires.index.next place (omega arith) here in
    omega (arith, next.after, c.next-place.ensures, c.loop-place-test.true)

pub returns : goal.returns
returns c =
    let w = c.loop-place.invariant.next.within in
    by_all (λ s t. Pairs c.args.self.now.plan.now c.args.self.now.marks.now c.args.left.now s t) (numbers_of_table c.args.self.now.source.now.tables c.args.self.now.table).rows c.args.out.now c.loop-place.out c.loop-place.place
    (omega (arith, c.loop-place-test.false, c.count-count.ensures, w, keys_long c.args.self.now.plan.now.by_right.items (numbers_of_table c.args.self.now.source.now.tables c.args.self.now.table).rows)) c.loop-place.invariant.gains
