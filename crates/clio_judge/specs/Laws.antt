-- What holds of verdicts on given targets.
use Rattle.std.specs.Prelude.{[]}
use Rattle.dx_ports.specs.States.{OutputState}
use Rattle.dx_stages.specs.Laws.{IsDecided}
use Rattle.dx_stages.specs.Worlds.{World}
use Rattle.dx_judge.specs.declared.verdict.Verdict.{Verdict}
use Rattle.clio_accept.specs.declared.mapping.Mapping.{Mapping}
use Rattle.clio_files.specs.Verdicts.{verdict_text}
use Rattle.clio_ending.specs.Ending.{AreAlike}
use Rattle.clio_steps.specs.Steps.{Program}
use Rattle.clio_steps.specs.Outcomes.{wrote_all}
use Rattle.clio_judge.specs.Judging.{judge_stages, verdicts}
use Rattle.clio_judge.specs.Outcomes.{IsJudgedIn}

-- there is a verdict, or one reason to refuse it, and never both
abbrev pub VerdictOrRefusal : Type 0
VerdictOrRefusal = (P : Program) → IsDecided AreAlike (λ u. Unit {0}) (judge_stages P)

-- the verdict is that on the given files, as a target of the source under the mapping
abbrev pub VerdictsAreSo : Type 0
VerdictsAreSo =
    (P : Program) (c : World) (M : Mapping) (v : Verdict) (before after : OutputState)
    → (verdicts P).passes c (tt {0}) (M, v)
    → wrote_all before after [] (verdict_text M.target v) → IsJudgedIn P c v (wrote_all before after)
