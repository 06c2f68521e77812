use Rattle.std.proofs.Common.{◌≡◌, ◌∙◌, ◌<◌, ℕ, List, true, false, sym, ap, subst, arith, length, rules}
use Rattle.std.specs.List.Sorted.{IsPartitionPoint, IsPartitionedBy}
use Rattle.std.proofs.lemmas.Fn.{always_returns_same}
use Rattle.std.proofs.lemmas.List.{get_or_default}
use Rattle.dx_instance.specs.Indexes.{entry_at}
use Rattle.dx_instance.proofs.IndexFacts.{test, parted, next_some, next_none}
use Rattle.dx_instance.proofs.column_index.ColumnIndex.next.Goals as goal
use Rattle.dx_instance.proofs.column_index.ColumnIndex.next.Goals.{else-first-len-via-then-first-len+else-index-number, else-first-len-via-else-first-len}

pub returns-then-index-number : goal.returns-then-index-number
returns-then-index-number c rows is =
    let parts : IsPartitionPoint (λ y. test c.args.number c.args.from y ≡ true) (λ y. test c.args.number c.args.from y ≡ false) c.args.self.now.entries.items c.partition_point-first.result =
    subst (λ (l : List (ℕ × ℕ)). IsPartitionPoint (λ y. test c.args.number c.args.from y ≡ true) (λ y. test c.args.number c.args.from y ≡ false) l c.partition_point-first.result) c.deref.ensures.value
    (c.partition_point-first.ensures.partitioned (test c.args.number c.args.from) (always_returns_same _ (λ a r. r ≡ test c.args.number c.args.from a.0.now) _ (λ a r f k. search rules))
    (subst (λ (l : List (ℕ × ℕ)). IsPartitionedBy (test c.args.number c.args.from) l) (sym c.deref.ensures.value) (parted rows c.args.self.now c.args.number c.args.from is))) in
    let h : c.partition_point-first.result < length c.args.self.now.entries.items = omega (arith, c.if-first-len.true, c.len.ensures, c.args.self.now.entries.ok.0) in
    let e = ap (λ (k : ℕ × ℕ). k.0) (sym (c.index.ensures ∙ get_or_default c.args.self.now.entries.items c.partition_point-first.result c.index.result.now (0, 0) h)) ∙ c.if-index-number.true in
    let read : entry_at c.args.self.now c.partition_point-first.result ≡ c.index-then-index-number.result.now = sym (c.index-then-index-number.ensures ∙ get_or_default c.args.self.now.entries.items c.partition_point-first.result c.index-then-index-number.result.now (0, 0) h) in
    rw read at (next_some rows c.args.self.now c.args.number c.args.from c.partition_point-first.result is parts h e)

pub returns-else-first-len : goal.returns-else-first-len
returns-else-first-len c rows is =
    let parts : IsPartitionPoint (λ y. test c.args.number c.args.from y ≡ true) (λ y. test c.args.number c.args.from y ≡ false) c.args.self.now.entries.items c.partition_point-first.result =
    subst (λ (l : List (ℕ × ℕ)). IsPartitionPoint (λ y. test c.args.number c.args.from y ≡ true) (λ y. test c.args.number c.args.from y ≡ false) l c.partition_point-first.result) c.deref.ensures.value
    (c.partition_point-first.ensures.partitioned (test c.args.number c.args.from) (always_returns_same _ (λ a r. r ≡ test c.args.number c.args.from a.0.now) _ (λ a r f k. search rules))
    (subst (λ (l : List (ℕ × ℕ)). IsPartitionedBy (test c.args.number c.args.from) l) (sym c.deref.ensures.value) (parted rows c.args.self.now c.args.number c.args.from is))) in
    next_none rows c.args.self.now c.args.number c.args.from c.partition_point-first.result is parts (λ h. elim c.else-first-len.branch [
      | else-first-len-via-then-first-len+else-index-number w ↦ λ e. w.if-index-number.false (ap (λ (k : ℕ × ℕ). k.0) (w.index.ensures ∙ get_or_default c.args.self.now.entries.items c.partition_point-first.result w.index.result.now (0, 0) h) ∙ e)
      | else-first-len-via-else-first-len w ↦ absurd (omega (arith, h, w.if-first-len.false, c.len.ensures, c.args.self.now.entries.ok.0))
    ])
