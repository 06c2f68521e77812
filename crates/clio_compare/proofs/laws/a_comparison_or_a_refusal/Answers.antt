use Rattle.clio_steps.specs.Outcomes.{wrote_all}
use Rattle.clio_compare.proofs.ComparedIn.{compared_with}
use Rattle.clio_compare.proofs.Pairs.{compare_decided}
use Rattle.clio_compare.proofs.laws.a_comparison_or_a_refusal.Goals as goal

pub returns-clause-decided : goal.returns-clause-decided
returns-clause-decided c = compare_decided

pub returns-clause-so : goal.returns-clause-so
returns-clause-so c = λ P w M k files before after x are wrote. compared_with P w (M, k) files (wrote_all before after) x are wrote
