use Rattle.std.proofs.Common.{◌≡◌, ◌∙◌, ap, subst}
use Rattle.std.specs.Prelude.{IfOk}
use Rattle.dx_model.specs.Values.{Rows}
use Rattle.dx_model.specs.Matches.{rows_of_matches}
use Rattle.dx_tgd.specs.Texts.{tuples_in}
use Rattle.dx_tgd.proofs.rule_matches.RuleMatches.texts.Goals as goal

pub matches_of-requires : goal.matches_of-requires
matches_of-requires c = record { texts = rw c.deref.ensures.value c.self.invariant.1 }

pub returns : goal.returns
returns c =
    subst (λ (rs : Rows). IfOk c.matches_of.result (λ m. rows_of_matches m ≡ rs))
    (ap (tuples_in c.self.inside.symbols) c.deref.ensures.value ∙ c.self.view_is) c.matches_of.ensures
