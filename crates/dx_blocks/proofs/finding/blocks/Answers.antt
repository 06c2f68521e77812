use Rattle.std.proofs.Common.{◌∙◌}
use Rattle.dx_instance.specs.Stored.{facts}
use Rattle.dx_blocks.proofs.BlockLaws.{blocks_are}
use Rattle.dx_blocks.proofs.finding.blocks.Goals as goal

pub null_blocks-requires : goal.null_blocks-requires
null_blocks-requires c = record {
  nulls = rw (c.deref-4.ensures.value, c.deref-5.ensures.value) (rw c.deref.ensures.value at c.in_ok-nulls.ensures);
  labels = rw (c.deref-4.ensures.value, c.deref-5.ensures.value, c.deref-6.ensures.value)
      (rw (c.deref-2.ensures.value, c.deref-3.ensures.value) at c.in_ok-labels.ensures);
}

pub place_facts-requires-clause-labelled : goal.place_facts-requires-clause-labelled
place_facts-requires-clause-labelled c = record {
  nulls = rw c.deref-7.ensures.value (rw c.deref.ensures.value at c.in_ok-nulls.ensures);
  labels = rw (c.deref-7.ensures.value, c.deref-8.ensures.value)
      (rw (c.deref-2.ensures.value, c.deref-3.ensures.value) at c.in_ok-labels.ensures);
}

pub returns : goal.returns
returns c =
    blocks_are c.with_nulls.result (facts c.args.instance.now) c.in_ok-facts.facts.items c.in_ok-nulls.nulls.items
    c.in_ok-labels.labels.items c.place_facts.new.blocks _ c.in_ok-blocks.blocks.len
    c.in_ok-facts.ensures.same
    (rw c.deref.ensures.value at c.in_ok-nulls.ensures)
    (rw (c.deref-2.ensures.value, c.deref-3.ensures.value) at c.in_ok-labels.ensures)
    (rw (c.deref-7.ensures.value, c.deref-8.ensures.value) at c.in_ok-place_facts.ensures)
    (c.place_facts.auto.blocks ∙ c.deref_mut.ensures.len)
    c.with_nulls.ensures
