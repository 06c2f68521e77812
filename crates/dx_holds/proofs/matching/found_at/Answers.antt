use Rattle.std.proofs.Common.{rules, tests}
use Rattle.std.proofs.lemmas.Iterator.{first_from_find, YieldsList-from_slice}
use Rattle.dx_holds.specs.declared.matching.Found.{Found}
use Rattle.dx_holds.proofs.Finding.{HasVariable, found_first}
use Rattle.dx_holds.proofs.matching.found_at.Goals as goal

pub returns : goal.returns
returns c =
    let first = first_from_find _ _ c.find.result (HasVariable c.args.variable) (λ (b : Found). ¬ (HasVariable c.args.variable b)) c.find.ensures.ran (YieldsList-from_slice c.args.found.now cc)
    (λ x q k. search (rules, tests)) (λ x q k. search (rules, tests)) in
    found_first c.args.found.now c.args.variable c.find.result c.copied.result (search rules) first
