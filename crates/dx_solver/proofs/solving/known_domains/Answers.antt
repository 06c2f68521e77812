use Rattle.std.proofs.Common.{ap, arith, length}
use Rattle.std.proofs.lemmas.List.{length-append}
use Rattle.dx_solver.proofs.DomainFacts.{keeps_push}
use Rattle.dx_solver.proofs.solving.known_domains.Goals as goal

pub loop-variable-preserved : goal.loop-variable-preserved
loop-variable-preserved c =
    let ds = c.loop-variable.domains.items in
    let d = c.known_domain.result in
    let pushed = c.in_ok-push.ensures.items in
    let long = simp length-append at (ap length pushed) in
    let here = c.loop-variable.invariant.many in
    record {
      many = omega (arith, long, here);
      keeps = λ a f. rw pushed (keeps_push ds d a (c.loop-variable.invariant.keeps a f)
          (c.known_domain.ensures (a (length ds)) (λ m e. f (length ds) m (rw here e))));
    }
