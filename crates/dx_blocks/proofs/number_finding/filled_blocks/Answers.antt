use Rattle.std.proofs.Common.{◌∙◌, ap, replicate, length, []}
use Rattle.dx_blocks.specs.declared.numbered.NumberBlock.{NumberBlock}
use Rattle.dx_blocks.specs.NullRows.{facts_of, nulls_from}
use Rattle.dx_blocks.proofs.NumberBlocks.{made_ok, within_ok, written, as_many}
use Rattle.dx_blocks.proofs.NumberFilling.{start_shown, start_within}
use Rattle.dx_blocks.proofs.number_finding.filled_blocks.Goals as goal

pub place_rows-requires-clause-held : goal.place_rows-requires-clause-held
place_rows-requires-clause-held c =
    let N = c.args.numbers.now in
    let start = c.deref_mut.ensures.value ∙ c.in_ok-blocks.ensures in
    record {
      filled = start_shown N (nulls_from N c.args.first) c.args.labels.now c.deref_mut.result.now
          (start ∙ ap (λ n. replicate n (let b : NumberBlock = record { nulls = []; rows = [] } in b)) c.requires.labelled.labels.many);
      within = start_within N (length c.args.labels.now) c.deref_mut.result.now start;
    }

pub place_nulls-requires-clause-held : goal.place_nulls-requires-clause-held
place_nulls-requires-clause-held c =
    let many = as_many c.args.numbers.now (facts_of c.args.numbers.now c.args.rows.now) (facts_of c.args.numbers.now c.args.rows.now)
    (nulls_from c.args.numbers.now c.args.first) [] c.args.labels.now c.in_ok-blocks.blocks.items c.place_rows.new.blocks c.in_ok-blocks.blocks.len
    c.requires.labelled.labels c.in_ok-place_rows.ensures.filled c.in_ok-blocks.ensures c.in_ok-blocks.blocks.ok.0 in
    let same = written c.deref_mut-2.result.now c.place_rows.new.blocks _ c.in_ok-blocks.blocks.len c.deref_mut-2.ensures.value many in
    record { filled = rw same c.in_ok-place_rows.ensures.filled; within = rw same c.in_ok-place_rows.ensures.within }

pub returns-clause-blocks : goal.returns-clause-blocks
returns-clause-blocks c =
    let used = c.in_ok-place_nulls.ensures.filled in
    let many = as_many c.args.numbers.now (facts_of c.args.numbers.now c.args.rows.now) (facts_of c.args.numbers.now c.args.rows.now)
    (nulls_from c.args.numbers.now c.args.first) used.some c.args.labels.now c.in_ok-blocks.blocks.items c.place_nulls.new.blocks c.in_ok-blocks.blocks.len
    c.requires.labelled.labels used.filled c.in_ok-blocks.ensures c.in_ok-blocks.blocks.ok.0 in
    made_ok c.with_numbers.result c.args.numbers.now c.args.first c.args.rows.now c.args.labels.now c.place_nulls.new.blocks _ c.in_ok-blocks.blocks.len
    c.requires.labelled.first.fit c.requires.labelled.first c.requires.rows c.requires.labelled.labels used many c.with_numbers.ensures

pub returns-clause-within : goal.returns-clause-within
returns-clause-within c =
    let used = c.in_ok-place_nulls.ensures.filled in
    let many = as_many c.args.numbers.now (facts_of c.args.numbers.now c.args.rows.now) (facts_of c.args.numbers.now c.args.rows.now)
    (nulls_from c.args.numbers.now c.args.first) used.some c.args.labels.now c.in_ok-blocks.blocks.items c.place_nulls.new.blocks c.in_ok-blocks.blocks.len
    c.requires.labelled.labels used.filled c.in_ok-blocks.ensures c.in_ok-blocks.blocks.ok.0 in
    within_ok c.with_numbers.result c.args.numbers.now c.place_nulls.new.blocks _ c.in_ok-blocks.blocks.len
    c.in_ok-place_nulls.ensures.within many c.with_numbers.ensures
