-- The steps of a verdict: what is left of the bytes for the given files, what is judged, and what is said.
use Rattle.std.proofs.Common.{◌≡◌, ℕ, List, [], ◌++◌, Some, None, codes, refl}
use Rattle.std.specs.Fmt.{decimal}
use Rattle.dx_base.specs.declared.file.Limit.{Limit}
use Rattle.dx_schema.specs.Tables.{model_tables}
use Rattle.dx_instance.specs.Stored.{TableRows, facts}
use Rattle.dx_judge.specs.declared.fault.JudgeFault.TheVariants as judge_faults
use Rattle.dx_judge.specs.declared.verdict.Verdict.TheVariants as verdicts
use Rattle.dx_judge.specs.declared.verdict.Why.TheVariants as whys
use Rattle.clio_accept.specs.declared.mapping.Mapping.{Mapping}
use Rattle.clio_given.specs.Given.{given_name}
use Rattle.clio_ending.specs.declared.ending.Done.TheVariants.{Judged}
use Rattle.clio_ending.specs.declared.ending.Refusal.TheVariants as refusals
use Rattle.clio_judge.specs.Judging.{judge_refusal, judged, judged_plan, wanted_given}

-- the given files have the tables of the target, in the bytes that the source files left
in_what_is_left : (M : Mapping) (I : List TableRows) (left : ℕ) → wanted_given ((M, I), left) ≡ record { schema = M.target; bytes_left = left }
in_what_is_left M I left = refl

in_their_folder : given_name (codes "person") ≡ codes "given/person.csv"
in_their_folder = refl

-- the given rows are judged as a target of the source rows
what_is_judged : (M : Mapping) (I K : List TableRows)
    → judged ((M, I), K) ≡ record { rules = M.rules; schema = model_tables M.target; rows = facts I; given = facts K; limit = 4000000 }
what_is_judged M I K = refl

-- a limit refuses, want of memory does not
a_limit_refuses : (l : Limit) → judge_refusal (judge_faults.Limit l) ≡ Some (refusals.Limit l)
a_limit_refuses l = refl

memory_refuses_none : judge_refusal judge_faults.Memory ≡ None
memory_refuses_none = refl

-- one line is said, and no file is put
said_of_a_core : (M : Mapping) → judged_plan (M, verdicts.Core) ≡ record { done = Judged verdicts.Core; files = []; text = codes "verdict core\n" }
said_of_a_core M = refl

said_of_a_rule : (M : Mapping) → judged_plan (M, verdicts.NotSolution (whys.Rule 3 12))
    ≡ record { done = Judged (verdicts.NotSolution (whys.Rule 3 12)); files = []; text = codes "verdict not a solution: " ++ ((codes "rule " ++ (decimal 3 ++ (codes " place " ++ decimal 12))) ++ codes "\n") }
said_of_a_rule M = refl
