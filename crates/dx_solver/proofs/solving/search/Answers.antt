use Rattle.std.proofs.Common.{◌≡◌, ◌∙◌, ◌<◌, List, arith, length, refl, subst, sym}
use Rattle.dx_solver.specs.declared.node.Node.{Node}
use Rattle.dx_solver.specs.Domains.{worth}
use Rattle.dx_solver.specs.Questions.{Solves}
use Rattle.dx_solver.proofs.SearchFacts.{Covers, covers_more, covers_none, covers_root, empty_is, each_both, each_last, each_less, one_only, worth_more}
use Rattle.dx_solver.proofs.solving.search.Goals as goal

pub loop-node-init : goal.loop-node-init
loop-node-init c =
    let P = Solves c.args.question.now.numbers.now.tables c.args.question.now.taken.now c.args.question.now.atoms.now
    c.args.question.now.known.now in
    record {
      covers = rw c.in_ok-push.ensures.items (rw c.new-nodes.ensures.items (covers_root P c.args.root.domains.items c.args.root refl));
      many = rw c.in_ok-push.ensures.items (rw c.new-nodes.ensures.items (one_only c.args.root _ c.requires.many));
    }

pub expand-requires-clause-many : goal.expand-requires-clause-many
expand-requires-clause-many c =
    let all = rw c.in-Some.ensures.items at c.loop-node.invariant.many in
    each_last (λ n. length n.domains.items ≡ length c.args.question.now.known.now) c.pop.new.self.items c.in-Some.node all

pub loop-node-smaller : goal.loop-node-smaller
loop-node-smaller c =
    let b = rw c.in-None.is at c.in_ok-answer.ensures.exact in
    subst (λ (l : List Node). worth c.expand.new.nodes.items < worth l) (sym c.in-Some.ensures.items)
    (worth_more c.pop.new.self.items c.expand.new.nodes.items c.in-Some.node c.in-Some.node (omega arith) b)

pub loop-node-preserved : goal.loop-node-preserved
loop-node-preserved c =
    let P = Solves c.args.question.now.numbers.now.tables c.args.question.now.taken.now c.args.question.now.atoms.now
    c.args.question.now.known.now in
    let node = c.in-Some.node in
    let rest = c.pop.new.self.items in
    let b = rw c.in-None.is at c.in_ok-answer.ensures.exact in
    let all = rw c.in-Some.ensures.items at c.loop-node.invariant.many in
    let N = λ (n : Node). length n.domains.items ≡ length c.args.question.now.known.now in
    let long = each_last N rest node all in
    record {
      covers = covers_more P c.args.root.domains.items P (λ a p. p) rest c.expand.new.nodes.items node node (λ a p k. k) b
          (rw c.in-Some.ensures.items at c.loop-node.invariant.covers);
      many = rw b.added (each_both N rest b.more (each_less N rest node all) (λ m i. b.many m i ∙ long));
    }

pub returns-clause-exact : goal.returns-clause-exact
returns-clause-exact c =
    let P = Solves c.args.question.now.numbers.now.tables c.args.question.now.taken.now c.args.question.now.atoms.now
    c.args.question.now.known.now in
    let none : length c.loop-node.nodes.items ≡ 0 = omega (arith, c.in_default.ensures.cases.0, c.loop-node.nodes.ok.0) in
    covers_none P c.args.root.domains.items (subst (λ (l : List Node). Covers P c.args.root.domains.items l)
    (empty_is c.loop-node.nodes.items none) c.loop-node.invariant.covers)
