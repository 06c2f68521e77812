use Rattle.std.proofs.Common.{◌≡◌, length}
use Rattle.dx_base.specs.Members.{Each}
use Rattle.dx_solver.specs.Domains.{worth}
use Rattle.dx_solver.specs.Questions.{Solves}
use Rattle.dx_solver.proofs.SearchFacts.{Covers}
use Rattle.dx_solver.proofs.solving.search.Given as goal

abbrev pub decreases-loop-node : goal.decreases-loop-node
decreases-loop-node l = worth l.nodes.items

abbrev pub invariant-loop-node : goal.invariant-loop-node
invariant-loop-node l = record {
  covers : Covers (Solves l.question.numbers.now.tables l.question.taken.now l.question.atoms.now l.question.known.now)
      l.fn.root.domains.items l.nodes.items;
  many : Each l.nodes.items (λ n. length n.domains.items ≡ length l.question.known.now);
}
