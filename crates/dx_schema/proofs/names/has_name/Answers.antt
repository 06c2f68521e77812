use Rattle.std.proofs.Common.{◌≡◌, ◌∙◌, nat_eq, rules, tests}
use Rattle.std.specs.Cmp.Lexicographic.{pointwise}
use Rattle.std.proofs.lemmas.Iterator.{YieldsList-from_slice}
use Rattle.std.proofs.lemmas.Iterator.Search.{any_from_yields_List}
use Rattle.dx_schema.proofs.Steps.{any_named}
use Rattle.dx_schema.proofs.names.has_name.Goals as goal

pub returns : goal.returns
returns c =
    any_from_yields_List (λ x. pointwise nat_eq x c.args.name.now) _ _ _ c.any.ensures.ran (YieldsList-from_slice c.args.names.now (cc)) (λ x b q k. search (rules, tests))
    ∙ any_named c.args.name.now c.args.names.now
