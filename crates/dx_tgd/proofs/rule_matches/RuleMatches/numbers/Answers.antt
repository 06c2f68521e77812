use Rattle.std.proofs.Common.{◌∙◌, ap}
use Rattle.dx_tgd.specs.Texts.{tuples_in}
use Rattle.dx_tgd.proofs.rule_matches.RuleMatches.numbers.Goals as goal

pub returns-clause-tuples : goal.returns-clause-tuples
returns-clause-tuples c = ap (tuples_in c.self.inside.symbols) c.deref.ensures.value ∙ c.self.view_is

pub returns-clause-texts : goal.returns-clause-texts
returns-clause-texts c = rw c.deref.ensures.value c.self.invariant.1
