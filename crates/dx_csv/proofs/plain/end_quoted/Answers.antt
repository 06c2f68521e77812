use Rattle.std.proofs.Common.{◌++◌, ◌∷◌, [], ℕ, List, subst}
use Rattle.dx_csv.specs.Fields.{HaveFields}
use Rattle.dx_csv.proofs.plain.end_quoted.Goals as goal

pub returns-clause-field : goal.returns-clause-field
returns-clause-field c before part h =
    subst (λ (more : List ℕ). HaveFields c.end.new.self (before ++ (part ++ more) ∷ [])) c.in-Some.ensures.cases.0
    (c.in_ok-end.ensures before (part ++ c.in-Some.part.now) (c.in_ok-add.ensures before part h))
