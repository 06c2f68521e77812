use Rattle.std.proofs.Common.{length, [], None, sym, arith}
use Rattle.dx_logical.specs.declared.relation.Occurrence.{Occurrence}
use Rattle.dx_candidates.proofs.Subtree.{subtree_is}
use Rattle.dx_candidates.proofs.parts.subtree.Goals as goal

pub returns-then-not-is_behind : goal.returns-then-not-is_behind
returns-then-not-is_behind c =
    subtree_is c.args.occurrences.now c.args.place c.loop-end.end c.index-occurrences-end.result (omega arith) (omega arith) (c.loop-end.invariant c.index-occurrences-end.result)
    (λ l. sym c.if-not-is_behind.ensures)

pub returns : goal.returns
returns c =
    let d : Occurrence = record { table = 0; variables = []; parent = None; link = 0 } in
    subtree_is c.args.occurrences.now c.args.place (length c.args.occurrences.now) d c.requires (omega arith) (λ k i j. c.loop-end.invariant d k i (omega arith)) (λ l. absurd (omega arith))
