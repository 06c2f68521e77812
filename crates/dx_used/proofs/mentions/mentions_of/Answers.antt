use Rattle.std.proofs.Common.{◌≡◌, ◌∙◌, ap, arith, length}
use Rattle.std.proofs.lemmas.List.{length-replicate, with_items_is}
use Rattle.dx_used.proofs.MarkFacts.{zero_counts}
use Rattle.dx_used.proofs.mentions.mentions_of.Goals as goal

pub returns-clause-counts : goal.returns-clause-counts
returns-clause-counts c =
    let n : length c.add_rule.new.counts ≡ c.in_ok-counts.counts.len = omega (arith, ap length c.deref_mut.ensures.value) in
    let none = zero_counts c.cells_in.result c.in_ok-counts.counts.items (c.in_ok-counts.ensures.items_if_clones_equal (λ y e. e)) in
    rw (with_items_is c.in_ok-counts.counts c.add_rule.new.counts n) (c.add_rule.ensures.counts (rw c.deref_mut.ensures.value none))

pub returns-clause-places : goal.returns-clause-places
returns-clause-places c =
    let n : length c.add_rule.new.counts ≡ c.in_ok-counts.counts.len = omega (arith, ap length c.deref_mut.ensures.value) in
    let many = ap length (c.in_ok-counts.ensures.items_if_clones_equal (λ y e. e)) ∙ length-replicate c.cells_in.result 0 in
    let cells = rw c.items.ensures at c.cells_in.ensures in
    rw (with_items_is c.in_ok-counts.counts c.add_rule.new.counts n) (c.add_rule.auto.counts ∙ (ap length c.deref_mut.ensures.value ∙ (many ∙ cells)))
