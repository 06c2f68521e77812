use Rattle.std.proofs.Common.{subst, ◌∙◌}
use Rattle.std.specs.Prelude.{IfOk}
use Rattle.dx_model.specs.Values.{Rows}
use Rattle.dx_tgd.proofs.Lending.{rules_counted}
use Rattle.dx_cover_fold.specs.Folding.{IsCoverFold}
use Rattle.dx_exchange.proofs.core_mode.fold_of.Goals as goal

pub cover_fold-requires-clause-one : goal.cover_fold-requires-clause-one
cover_fold-requires-clause-one c = rules_counted c.numbers.result.0.now c.numbers.result.1.now c.args.matches.now c.numbers.ensures.tuples ∙ c.requires.one

pub returns : goal.returns
returns c = subst (λ (rs : Rows). IfOk c.cover_fold.result (IsCoverFold c.args.rules.now rs)) c.numbers.ensures.tuples c.cover_fold.ensures
