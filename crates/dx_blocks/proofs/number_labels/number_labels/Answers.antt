use Rattle.std.proofs.Common.{◌≡◌, ◌-◌, ◌∙◌, sym, ap, length}
use Rattle.std.specs.List.{range_with_len}
use Rattle.dx_blocks.specs.NullRows.{facts_of, nulls_from}
use Rattle.dx_blocks.proofs.Labelling.{labels_written, single_trees_fall, single_trees_many}
use Rattle.dx_blocks.proofs.NullRowFacts.{nulls_many, nulls_up}
use Rattle.dx_blocks.proofs.NumberLabelling.{rows_known}
use Rattle.dx_blocks.proofs.number_labels.number_labels.Goals as goal

pub join_all-requires-clause-forest : goal.join_all-requires-clause-forest
join_all-requires-clause-forest c =
    let singles = c.deref_mut.ensures.value ∙ c.in_ok-labels.ensures in
    record {
      many = single_trees_many c.deref_mut.result.now (c.len.result - c.args.first) singles ∙ ap (λ n. n - c.args.first) c.len.ensures.len;
      falls = single_trees_fall c.deref_mut.result.now (c.len.result - c.args.first) singles;
    }

pub returns : goal.returns
returns c =
    let many : length (nulls_from c.args.numbers.now c.args.first) ≡ c.len.result - c.args.first =
    nulls_many c.args.numbers.now c.args.first ∙ ap (λ z. z - c.args.first) (sym c.len.ensures.len) in
    labels_written (facts_of c.args.numbers.now c.args.rows.now) (nulls_from c.args.numbers.now c.args.first)
    c.deref_mut.result.now c.join_all.new.parents c.deref_mut-2.result.now c.flatten.new.parents _ _ c.in_ok-labels.labels.len
    (nulls_up c.args.numbers.now c.args.first c.requires.first)
    (rows_known c.args.numbers.now c.args.first c.args.rows.now c.len.ensures.fit c.requires.first c.requires.rows)
    (many ∙ sym (c.in_ok-labels.labels.ok.0 ∙ single_trees_many c.in_ok-labels.labels.items (c.len.result - c.args.first) c.in_ok-labels.ensures))
    (c.deref_mut.ensures.value ∙ (c.in_ok-labels.ensures ∙ ap (range_with_len 0) (sym many))) c.join_all.ensures c.deref_mut-2.ensures.value
    c.flatten.ensures.trees c.flatten.ensures.flat
