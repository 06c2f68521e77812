use Rattle.std.proofs.Common.{◌∙◌}
use Rattle.dx_blocks.proofs.Labelling.{known, fact_joined, fact_passed, all_joined, all_start}
use Rattle.dx_blocks.proofs.labels.join_all.Goals as goal
use Rattle.dx_blocks.proofs.labels.join_all.Goals.{in-Some, in_default}

pub loop-fact-init : goal.loop-fact-init
loop-fact-init c = all_start c.args.facts.now c.args.nulls.now c.args.parents.now c.requires.forest.falls

pub first_place-requires : goal.first_place-requires
first_place-requires c = record {
  ascend = c.requires.nulls.ascend;
  known = rw c.items-row.ensures (known c.args.facts.now c.args.nulls.now c.loop-fact.fact-index c.fact-item.result c.requires.nulls
      c.loop-fact-test.true c.fact-item.is);
}

pub join_row-requires-clause-known : goal.join_row-requires-clause-known
join_row-requires-clause-known c = record {
  ascend = c.requires.nulls.ascend;
  known = rw c.items-row.ensures (known c.args.facts.now c.args.nulls.now c.loop-fact.fact-index c.fact-item.result c.requires.nulls
      c.loop-fact-test.true c.fact-item.is);
}

pub join_row-requires-clause-forest : goal.join_row-requires-clause-forest
join_row-requires-clause-forest c = record {
  many = c.loop-fact.invariant.many ∙ c.requires.forest.many;
  falls = c.loop-fact.invariant.falls;
}

pub loop-fact-preserved : goal.loop-fact-preserved
loop-fact-preserved c = elim c.match-first_place.branch [
  | in-Some w ↦ rw w.parents-is
      (fact_joined c.args.facts.now c.args.nulls.now c.args.parents.now c.loop-fact.parents c.loop-fact.fact-index c.fact-item.result
      c.loop-fact-test.true c.fact-item.is c.loop-fact.invariant w.join_row.new.parents (rw c.items-row.ensures at w.join_row.ensures))
  | in_default w ↦ rw w.parents-is
      (fact_passed c.args.facts.now c.args.nulls.now c.args.parents.now c.loop-fact.parents c.loop-fact.fact-index c.fact-item.result
      c.loop-fact-test.true c.fact-item.is c.loop-fact.invariant (rw c.items-row.ensures at w.in_default.ensures.none))
]

pub returns : goal.returns
returns c =
    all_joined c.args.facts.now c.args.nulls.now c.loop-fact.fact-index c.args.parents.now c.loop-fact.parents
    c.loop-fact-test.false c.loop-fact.invariant
