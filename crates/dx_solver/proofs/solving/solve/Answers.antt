use Rattle.dx_solver.proofs.SearchFacts.{ok_match}
use Rattle.dx_solver.proofs.solving.solve.Goals as goal

pub returns-then-is_hopeless-clause-exact : goal.returns-then-is_hopeless-clause-exact
returns-then-is_hopeless-clause-exact c = λ a s.
    c.if-is_hopeless.ensures a (rw c.as_slice.ensures.value (c.in_ok-domains.ensures.keeps a s.keeps)) s.stands

pub returns-clause-exact : goal.returns-clause-exact
returns-clause-exact c =
    ok_match _ c.search.result (λ none a s. none a (c.in_ok-domains.ensures.keeps a s.keeps) s) c.search.ensures.exact

pub returns-in-Nothing-clause-exact : goal.returns-in-Nothing-clause-exact
returns-in-Nothing-clause-exact c = λ a s.
    (rw c.in-Nothing.is at c.in_ok-found.ensures) a (rw c.deref.ensures.value (c.in_ok-domains.ensures.keeps a s.keeps)) s
