-- What a run answers, from how it ended.
use Rattle.std.proofs.Common.{◌≡◌, ℕ, List, sym, ◌∙◌, subst}
use Rattle.dx_ports.specs.States.{InputState, OutputState}
use Rattle.dx_keys.specs.declared.answers.Clash.{Clash}
use Rattle.dx_stages.specs.declared.plan.Ended.{Ended}
use Rattle.dx_stages.specs.Ending.{Ends, Runs, RunsIn}
use Rattle.dx_stages.specs.Worlds.{World}
use Rattle.clio_ending.specs.declared.ending.Done.{Done}
use Rattle.clio_ending.specs.declared.ending.Ending.{Ending}
use Rattle.clio_ending.specs.declared.ending.Ending.TheVariants as endings
use Rattle.clio_ending.specs.declared.ending.Refusal.{Refusal}
use Rattle.clio_ending.specs.Ending.{AreAlike, ending_of}
use Rattle.clio_top.specs.Commands.{run_stages}
use Rattle.clio_top.specs.Leaving.{Leaves}
use Rattle.clio_steps.specs.Outcomes.{wrote_all}
use Rattle.clio_top.specs.Promises.{AsAsked, IsClashOf}
use Rattle.clio_top.specs.Right.{IsRight, IsRightIn}
use Rattle.clio_steps.specs.Steps.{Program}
use Rattle.clio_top.proofs.Asked.{as_asked}
use Rattle.clio_top.proofs.Completing.{completes, completes_demo}
use Rattle.clio_top.proofs.Clashes.{of_texts as clash_of_texts}
use Rattle.clio_top.proofs.Endings.{clash_of, done_of}
use Rattle.clio_top.proofs.Leaving.{leaves}

module _ (P : Program) (words : List (List ℕ)) (r : Ending) (e : Ended Done Refusal) (old new : InputState) (before after : OutputState) (faults faults' : ℕ)
    (is : r ≡ ending_of e) (runs : Runs AreAlike (run_stages P) words e old new before after faults faults') where
  -- what was done is as asked, in each world in which the run ended so
  done : (c : World) → Ends (run_stages P) c words before after e → (d : Done) → r ≡ endings.Done d → AsAsked P c words d (wrote_all before after)
  done c ends d h =
      as_asked P c words before after d (subst (λ k. Ends (run_stages P) c words before after k) (done_of e d (sym h ∙ is)) ends)

  clashed : (c : World) → Ends (run_stages P) c words before after e → (k : Clash) (table : List ℕ) (key : List (List ℕ)) (column : List ℕ)
      → r ≡ endings.Clash k table key column → IsClashOf P c words k table key column
  clashed c ends k table key column h =
      clash_of_texts P c words before after k table key column
      (subst (λ d. Ends (run_stages P) c words before after d) (clash_of e k table key column (sym h ∙ is)) ends)

  left : (c : World) → Ends (run_stages P) c words before after e → Leaves P c words before after r
  left c ends = subst (Leaves P c words before after) (sym is) (leaves P c words before after e ends)

  right_in : (c : World) → RunsIn AreAlike (run_stages P) c words e before after → IsRightIn P c words r old new before after faults faults'
  right_in c right = record {
    done = done c right.ends;
    clash = clashed c right.ends;
    left = left c right.ends;
    complete = completes P c words r e old new before after faults faults' is right runs.counts;
    complete_demo = completes_demo P c words r e old new before after faults faults' is right runs.counts;
  }

  -- all that is promised
  pub is_right : IsRight P words r old new before after faults faults'
  is_right = (e, is, runs, λ c h. right_in c (runs.right c h))
