use Rattle.std.proofs.Common.{◌∙◌, sym, length}
use Rattle.dx_blocks.proofs.Labelling.{labels_written, single_trees_fall, single_trees_many}
use Rattle.dx_blocks.proofs.labels.labels_of.Goals as goal

pub join_all-requires-clause-forest : goal.join_all-requires-clause-forest
join_all-requires-clause-forest c =
    let singles = c.deref_mut.ensures.value ∙ c.in_ok-labels.ensures in
    record {
      many = single_trees_many c.deref_mut.result.now (length c.args.nulls.now) singles;
      falls = single_trees_fall c.deref_mut.result.now (length c.args.nulls.now) singles;
    }

pub returns : goal.returns
returns c =
    labels_written c.args.facts.now c.args.nulls.now c.deref_mut.result.now c.join_all.new.parents
    c.deref_mut-2.result.now c.flatten.new.parents _ _ c.in_ok-labels.labels.len c.requires.ascend
    (λ m. (c.requires.exactly m).1)
    (sym (c.in_ok-labels.labels.ok.0 ∙ single_trees_many c.in_ok-labels.labels.items (length c.args.nulls.now) c.in_ok-labels.ensures))
    (c.deref_mut.ensures.value ∙ c.in_ok-labels.ensures) c.join_all.ensures c.deref_mut-2.ensures.value
    c.flatten.ensures.trees c.flatten.ensures.flat
