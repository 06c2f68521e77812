-- Rows that agree on the columns that the rules use have one verdict on a given target, or none for one reason.
use Rattle.std.proofs.Common.{List, Result, Ok, Err}
use Rattle.dx_base.specs.Members.{Each}
use Rattle.dx_model.specs.Values.{Conversions}
use Rattle.dx_instance.specs.Stored.{TableRows, facts}
use Rattle.dx_used.specs.Used.{AgreeOnUsed, Marks, UsesOnly}
use Rattle.dx_used.proofs.UsedLaws.{same_rows}
use Rattle.dx_judge.specs.declared.fault.JudgeFault.{JudgeFault}
use Rattle.dx_judge.specs.declared.fault.JudgeFault.TheVariants as judge_faults
use Rattle.dx_judge.specs.declared.verdict.Verdict.{Verdict}
use Rattle.dx_judge.specs.Verdicts.{HasNoVerdict, IsJudgement}
use Rattle.dx_judge.proofs.Members.{verdict_by_matches}
use Rattle.dx_stages.specs.declared.stop.Stop.{Stop}
use Rattle.dx_stages.specs.declared.stop.Stop.TheVariants as stops
use Rattle.dx_stages.specs.Running.{Gives}
use Rattle.clio_accept.specs.declared.mapping.Mapping.{Mapping}
use Rattle.clio_ending.specs.declared.ending.Refusal.{Refusal}
use Rattle.clio_judge.specs.Judging.{judged, judged_rows}

module _ (convert : Conversions) (M : Mapping) (used : Marks) (I J K : List TableRows) (uses : Each M.rules (UsesOnly used)) (agree : AgreeOnUsed used (facts I) (facts J)) where
  verdict_for : (v : Verdict) → IsJudgement convert (judged ((M, J), K)) v → IsJudgement convert (judged ((M, I), K)) v
  verdict_for v x =
      let are = same_rows convert used M.rules (facts J) (facts I) x.matches uses (agree.1, agree.0) x.are in record {
        matches = x.matches;
        are = are;
        within = x.within;
        verdict = verdict_by_matches convert (judged ((M, J), K)) (facts I) x.matches v x.are are x.verdict;
      }

  none_for : (e : JudgeFault) → HasNoVerdict convert (judged ((M, J), K)) e → HasNoVerdict convert (judged ((M, I), K)) e
  none_for (judge_faults.Limit l) x = (
    x.0,
    record {
      rows = x.1.rows;
      are = same_rows convert used M.rules (facts J) (facts I) x.1.rows uses (agree.1, agree.0) x.1.are;
      more = x.1.more;
    },
  )
  none_for judge_faults.Memory x = x

  -- the verdict for the rows that were read is that for those of the files
  pub same_verdict : (q : Result Verdict (Stop Refusal)) → Gives (judged_rows convert) ((M, J), K) q → Gives (judged_rows convert) ((M, I), K) q
  same_verdict (Ok v) g = λ c. verdict_for v (g c)
  same_verdict (Err (stops.Refused e)) g = λ c. let k = g c in (k.0, none_for k.0 k.1, k.2)
  same_verdict (Err (stops.Failed n)) g = g
  same_verdict (Err stops.Memory) g = g
