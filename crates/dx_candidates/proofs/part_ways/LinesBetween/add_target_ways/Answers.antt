use Rattle.std.proofs.Common.{List}
use Rattle.std.proofs.lemmas.Result.{err_from_is_err_and}
use Rattle.dx_base.specs.Members.{◌⊆◌}
use Rattle.dx_base.proofs.Loops.{each_item}
use Rattle.dx_logical.specs.declared.relation.Occurrence.{Occurrence}
use Rattle.dx_candidates.proofs.Readable.{reached_in_part}
use Rattle.dx_candidates.proofs.PartWays.{target_memory}
use Rattle.dx_candidates.proofs.part_ways.LinesBetween.add_target_ways.Goals as goal

pub ways-requires-clause-from : goal.ways-requires-clause-from
ways-requires-clause-from c = c.requires.ready.read

pub ways-requires-clause-to : goal.ways-requires-clause-to
ways-requires-clause-to c =
    let within = each_item (λ (g : List Occurrence). g ⊆ c.args.self.now.to.now) c.args.parts.now c.loop-part.part-index c.part-item.result c.loop-part-test.true c.part-item.is c.requires.parts in
    rw c.items.ensures (reached_in_part c.args.self.now.lines.now c.args.self.now.to.now c.part-item.result within c.requires.ready.reached)

pub returns-in_err-some-clause-fault : goal.returns-in_err-some-clause-fault
returns-in_err-some-clause-fault c =
    let within = each_item (λ (g : List Occurrence). g ⊆ c.args.self.now.to.now) c.args.parts.now c.loop-part.part-index c.part-item.result c.loop-part-test.true c.part-item.is c.requires.parts in
    let p = err_from_is_err_and c.from_residual.result c.from_residual.ensures.1 in
    rw (p.1, p.2) (target_memory c.args.self.now.lines.now c.args.self.now.from.now c.args.self.now.to.now c.items.result.now _ c.requires.ready.few (rw c.items.ensures within) c.in_err-some.ensures.many)
