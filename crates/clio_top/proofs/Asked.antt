-- What is done is as the words ask for it.
use Rattle.std.proofs.Common.{◌≡◌, ℕ, List, [], length, refl, sym, ◌∙◌, ap, subst, Option, Some, None, Ok}
use Rattle.std.specs.Prelude.{Bool}
use Rattle.dx_model.specs.declared.values.NullId.{NullId}
use Rattle.dx_instance.specs.Stored.{facts}
use Rattle.dx_exchange.specs.declared.mode.Mode.{Mode}
use Rattle.dx_exchange.specs.declared.result.Exchange.{Exchange}
use Rattle.dx_stages.specs.Worlds.{World}
use Rattle.dx_stages.specs.Ending.{PlanContent}
use Rattle.clio_accept.specs.declared.mapping.Mapping.{Mapping}
use Rattle.clio_files.specs.Files.{AreFiles, files_of, summary_of}
use Rattle.clio_files.specs.Sheets.{AreTargetNulls, PrintedFile}
use Rattle.clio_ending.specs.declared.ending.Done.{Done}
use Rattle.clio_top.specs.declared.command.Command.{Command}
use Rattle.clio_top.specs.declared.command.Command.TheVariants.{Answering, Comparing, Demonstrating, Exchanging, Judging, Showing}
use Rattle.clio_top.specs.Words.{or_usage, says}
use Rattle.clio_steps.specs.declared.texts.Side.TheVariants.{First}
use Rattle.clio_steps.specs.Steps.{Program, exchanges}
use Rattle.clio_top.specs.Demo.{demo_text, demo_world}
use Rattle.clio_top.specs.Commands.{run_stages, stages_of}
use Rattle.clio_top.specs.Outcomes.{IsDemoIn, WrittenIn}
use Rattle.clio_steps.specs.Outcomes.{Writing, wrote_all}
use Rattle.clio_top.specs.Promises.{AsAsked, DoneIsAsAsked}
use Rattle.clio_judge.proofs.JudgedIn.{judged_in}
use Rattle.clio_answer.proofs.AnsweredIn.{answered_in}
use Rattle.clio_steps.proofs.InWorld.{in_world, as_planned}
use Rattle.clio_steps.proofs.Spine.{accepted_in}
use Rattle.clio_compare.proofs.ComparedIn.{compared_with}

done_with : (P : Program) (mode : Mode) (nested : Bool) (c : World) (q : Mapping × Exchange) (files : List PrintedFile)
    (Wrote : Writing) → (exchanges P mode).passes c (tt {0}) q
    → AreFiles q.0.source q.0.target P.list mode nested q.0.rules q.1 files
    → Wrote (files_of files) (summary_of files) → WrittenIn P mode nested c q.1 Wrote
done_with P mode nested c q files Wrote x are wrote =
    let exchanged = in_world P mode c q x in record {
      mapping = q.0;
      rows = exchanged.0;
      exchanged = exchanged.1;
      files = files;
      are = are;
      written = wrote;
    }

demo_with : (P : Program) (number : ℕ) (mode : Mode) (q : Mapping × Exchange) (nulls : List NullId) (Wrote : Writing)
    → (exchanges P mode).passes (demo_world number) (tt {0}) q → AreTargetNulls (facts q.1.target) nulls
    → Wrote [] (demo_text number q.0 q.1.target (length nulls)) → IsDemoIn P number mode q.1 Wrote
demo_with P number mode q nulls Wrote x are wrote =
    let exchanged = in_world P mode (demo_world number) q x in record {
      mapping = q.0;
      rows = exchanged.0;
      exchanged = exchanged.1;
      nulls = nulls;
      nulls_are = are;
      written = wrote;
    }

-- ---- each command

asked_by : (P : Program) (c : World) (words : List (List ℕ)) (k : Command) (p : PlanContent Done) (Wrote : Writing) → says words ≡ Some k
    → (stages_of P k).passes c (tt {0}) p → Wrote p.files p.text → AsAsked P c words p.done Wrote
asked_by P c words (Exchanging mode nested) p Wrote w (q, x, (files, are, plan)) wrote =
    subst (λ (r : PlanContent Done). AsAsked P c words r.done Wrote) (sym plan)
    (mode, nested, w, done_with P mode nested c q files Wrote x are (as_planned Wrote p _ plan wrote))
asked_by P c words (Showing mode) p Wrote w (M, m, plan) wrote =
    subst (λ (r : PlanContent Done). AsAsked P c words r.done Wrote) (sym plan)
    (mode, w, record { mapping = M; accepted = accepted_in P First c M m; written = as_planned Wrote p _ plan wrote })
asked_by P c words (Demonstrating number mode) p Wrote w (q, x, (ns, are, plan)) wrote =
    subst (λ (r : PlanContent Done). AsAsked P c words r.done Wrote) (sym plan)
    (number, mode, w, demo_with P number mode q ns Wrote x are (as_planned Wrote p _ plan wrote))
asked_by P c words Answering p Wrote w (q, x, plan) wrote =
    subst (λ (r : PlanContent Done). AsAsked P c words r.done Wrote) (sym plan) (w, answered_in P c q Wrote x (as_planned Wrote p _ plan wrote))
asked_by P c words Judging p Wrote w (q, x, plan) wrote =
    subst (λ (r : PlanContent Done). AsAsked P c words r.done Wrote) (sym plan) (w, judged_in P c q Wrote x (as_planned Wrote p _ plan wrote))
asked_by P c words Comparing p Wrote w (q, x, (files, are, plan)) wrote =
    subst (λ (r : PlanContent Done). AsAsked P c words r.done Wrote) (sym plan)
    (w, compared_with P c q files Wrote x are (as_planned Wrote p _ plan wrote))

-- ---- the words

-- the command that the words say
pub said : (words : List (List ℕ)) (k : Command) → or_usage (says words) ≡ Ok k → says words ≡ Some k
said words k is = of (says words) refl
  where
    of : (o : Option Command) → says words ≡ o → says words ≡ Some k
    of None e = let h : or_usage None ≡ Ok k = sym (ap or_usage e) ∙ is in cc
    of (Some l) e = let h : or_usage (Some l) ≡ Ok k = sym (ap or_usage e) ∙ is in cc

-- each plan is as the words ask for it, however it is written
pub plan_asked : (P : Program) (c : World) (words : List (List ℕ)) (p : PlanContent Done) (Wrote : Writing) → (run_stages P).passes c words p
    → Wrote p.files p.text → AsAsked P c words p.done Wrote
plan_asked P c words p Wrote (k, w, passed) wrote = asked_by P c words k p Wrote (said words k w) passed wrote

pub as_asked : DoneIsAsAsked
as_asked P c words before after d (p, passed, is, wrote) =
    subst (λ (x : Done). AsAsked P c words x (wrote_all before after)) is (plan_asked P c words p (wrote_all before after) passed wrote)
