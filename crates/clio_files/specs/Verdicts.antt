-- What is said of a verdict.
use Rattle.std.specs.Prelude.{◌++◌, codes}
use Rattle.std.specs.Fmt.{decimal}
use Rattle.dx_base.specs.Texts.{Text}
use Rattle.dx_schema.specs.Forest.{Forest}
use Rattle.dx_rule_text.specs.Printed.{table_name}
use Rattle.dx_judge.specs.declared.verdict.Verdict.{Verdict}
use Rattle.dx_judge.specs.declared.verdict.Verdict.TheVariants as verdicts
use Rattle.dx_judge.specs.declared.verdict.Why.{Why}
use Rattle.dx_judge.specs.declared.verdict.Why.TheVariants as whys

-- why a target is no solution, with the names of its schema
abbrev pub why_text : Forest → Why → Text
why_text target (whys.Rule rule place) = codes "rule " ++ (decimal rule ++ (codes " place " ++ decimal place))
why_text target (whys.Key table key left right column) =
    codes "key " ++ (decimal key ++ (codes " of table " ++ table_name target table))
why_text target (whys.Link table row link) =
    codes "link " ++ (decimal link ++ (codes " of table " ++ table_name target table))

-- the line of a verdict
abbrev pub verdict_text : Forest → Verdict → Text
verdict_text target (verdicts.NotSolution why) = codes "verdict not a solution: " ++ (why_text target why ++ codes "\n")
verdict_text target (verdicts.Solution other) = codes "verdict solution\n"
verdict_text target (verdicts.Universal map missed) = codes "verdict universal\n"
verdict_text target verdicts.Core = codes "verdict core\n"
