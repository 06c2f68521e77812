use Rattle.std.proofs.Common.{◌≡◌, arith, length}
use Rattle.dx_solver.proofs.ValueFacts.{only}
use Rattle.dx_solver.proofs.domain.Domain.of.Goals as goal

pub returns-then-items-eq1-clause-all : goal.returns-then-items-eq1-clause-all
returns-then-items-eq1-clause-all c =
    let l : length c.items-items.result.now ≡ 1 = omega arith in
    λ n m. only c.items-items.result.now n l (rw c.items-items.ensures (c.of-values.ensures.all n m))
