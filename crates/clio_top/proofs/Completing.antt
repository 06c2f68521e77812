-- What a run answers if nothing outside fails.
use Rattle.std.proofs.Common.{◌≡◌, ◌⊎◌, ℕ, List, refl, sym, ◌∙◌, ap, subst, inl, inr, Some, Ok, Bool}
use Rattle.std.proofs.lemmas.Option.{same_Some}
use Rattle.dx_ports.specs.Faults.{Rose}
use Rattle.dx_keys.specs.declared.answers.Clash.{Clash}
use Rattle.dx_base.specs.Texts.{Text}
use Rattle.dx_ports.specs.States.{InputState, OutputState}
use Rattle.dx_instance.specs.Stored.{facts}
use Rattle.dx_schema.specs.Tables.{model_tables, schema_widths}
use Rattle.dx_queries.proofs.Certain.{listed_are_certain}
use Rattle.dx_queries.proofs.Exist.{answers_exist}
use Rattle.dx_query_text.proofs.Fitting.{read_queries_fit}
use Rattle.dx_exchange.specs.declared.mode.Mode.TheVariants.{Plain}
use Rattle.clio_ending.specs.declared.ending.Answers.{Answers}
use Rattle.dx_exchange.specs.declared.mode.Mode.{Mode}
use Rattle.dx_exchange.specs.declared.result.Exchange.{Exchange}
use Rattle.dx_exchange.specs.declared.fault.ExFault.TheVariants as exchange_faults
use Rattle.dx_stages.specs.declared.plan.Ended.{Ended}
use Rattle.dx_stages.specs.declared.plan.Ended.TheVariants as endeds
use Rattle.dx_stages.specs.Ending.{Counts, Ends, IsOutside, IsRefusedAs, PlanContent, RunsIn}
use Rattle.dx_stages.specs.Worlds.{World}
use Rattle.clio_accept.specs.declared.mapping.Mapping.{Mapping}
use Rattle.clio_ending.specs.declared.ending.Done.{Done}
use Rattle.clio_ending.specs.declared.ending.Done.TheVariants as dones
use Rattle.clio_ending.specs.declared.ending.Ending.{Ending}
use Rattle.clio_ending.specs.declared.ending.Ending.TheVariants as endings
use Rattle.clio_ending.specs.declared.ending.Refusal.{Refusal}
use Rattle.clio_ending.specs.declared.ending.Refusal.TheVariants as refusals
use Rattle.clio_ending.specs.Ending.{AreAlike, ending_of, named_clash, refusal_ending}
use Rattle.clio_ending.proofs.Alike.{alike_clash}
use Rattle.clio_top.specs.declared.command.Command.{Command}
use Rattle.clio_top.specs.declared.command.Command.TheVariants.{Answering, Comparing, Demonstrating, Exchanging, Judging, Showing}
use Rattle.clio_top.specs.Words.{or_usage, says}
use Rattle.clio_steps.specs.Steps.{Program}
use Rattle.clio_top.specs.Demo.{demo_world}
use Rattle.clio_top.specs.Commands.{run_stages, stages_of}
use Rattle.clio_top.specs.Promises.{AsksFor}
use Rattle.clio_steps.specs.declared.texts.Side.TheVariants.{First}
use Rattle.clio_top.specs.Completing.{AnswersArePlanned, AnswersClash, Completes, CompletesDemo, DemoIsPlanned, HasDone, HasNoFault, MappingIsShown, NoAnswerIsAClash, OrMemory, SolutionIsPlanned}
use Rattle.clio_answer.specs.Answering.{answers, query_stages}
use Rattle.clio_answer.specs.Outcomes.{HasQueryIn}
use Rattle.clio_top.proofs.Asking.{in_order}
use Rattle.clio_steps.proofs.Clashes.{clash_there}
use Rattle.clio_top.proofs.Clashes.{demo_clashes, no_solution}
use Rattle.clio_steps.proofs.Spine.{accepted_passes, fits_in}
use Rattle.clio_top.proofs.Asked.{said}
use Rattle.clio_top.proofs.Promised.{demo_exists, plan_exists}
use Rattle.clio_top.proofs.RunDecided.{run_decided}
use Rattle.clio_steps.proofs.There.{exchange_there, exchange_passed}

pub planned : SolutionIsPlanned
planned P c words mode nested w h =
    let x = exchange_there P mode c h in
    let fits = fits_in P First c h.mapping h.matched.read.accepted in
    let plan = plan_exists P mode nested h.mapping x.0 (record { fits = fits; rows = h.rows; exchange = x.1 }) in
    let passed = exchange_passed P mode c h x.0 x.1 in
    (x.0, (plan.0, (Exchanging mode nested, ap or_usage w, ((h.mapping, x.0), passed, plan.1)), ap (λ (p : PlanContent Done). p.done) plan.1.2))

pub shown : MappingIsShown
shown P c words mode w M a = (_, (Showing mode, ap or_usage w, (M, accepted_passes P First c M a, refl)), refl)

pub demo_planned : DemoIsPlanned
demo_planned P c words number mode w h =
    let x = exchange_there P mode (demo_world number) h in
    let plan = demo_exists P number h.mapping x.0 in
    let passed = exchange_passed P mode (demo_world number) h x.0 x.1 in
    (x.0, (plan.0, (Demonstrating number mode, ap or_usage w, ((h.mapping, x.0), passed, plan.1)), ap (λ (p : PlanContent Done). p.done) plan.1.2))

-- ---- the answers of a query

-- a query that is there is posed
posed : (c : World) (M : Mapping) (k : HasQueryIn M.target c) → query_stages.passes c M (M, k.query)
posed c M k = (k.query, (k.text, (k.held, k.few), (k.query, k.said, (k.atoms, refl))), refl)

pub answers_planned : AnswersArePlanned
answers_planned P c words w h k few =
    let M = h.mapping in
    let read = h.matched.read in
    let x = exchange_there P Plain c h in
    let e = x.0 in
    let q = k.query in
    let fits = read_queries_fit M.target k.text q k.said k.atoms in
    let list = answers_exist (schema_widths M.target) (facts e.target) q fits in
    let certain = listed_are_certain P.apply M.rules (model_tables M.target) (facts h.rows) (facts e.target) q list.0
    x.1.universal list.1 in
    let a : Answers = record { exchange = e; rows = list.0 } in
    let passed : (answers P).passes c (tt {0}) ((M, q), a) = (
      M,
      accepted_passes P First c M read.accepted,
      ((M, q), posed c M k, (((M, q), h.rows), (h.rows, read.source, refl), (((M, q), e), (e, x.1, refl), (a, (refl, list.1, few list.0 certain), refl)))),
    ) in
    (a, (_, (Answering, ap or_usage w, (((M, q), a), passed, refl)), refl))

pub answers_clash : NoAnswerIsAClash
answers_clash P c words w h k =
    let M = h.mapping in
    let read = h.matched.read in
    let x = clash_there P Plain c h in
    let q = k.query in
    let refused : (answers P).refuses c (tt {0}) (named_clash M.target x.0) =
    inr (M, accepted_passes P First c M read.accepted, inr ((M, q), posed c M k, inr (((M, q), h.rows), (h.rows, read.source, refl), inl (exchange_faults.Clash x.0, x.1, refl)))) in
    (x.0, _, _, _, inr (Answering, ap or_usage w, refused))

-- if nothing is at fault, there is a plan
faultless_planned : (P : Program) (c : World) (words : List (List ℕ)) → HasNoFault P c words → (p : PlanContent Done) × (run_stages P).passes c words p
faultless_planned P c words none = elim ((run_decided P).either c words tt) [ inl p ↦ p | inr f ↦ absurd (none f.0 f.1) ]

-- ---- what is done tells the command

has_done : (P : Program) (c : World) (k : Command) (p : PlanContent Done) → (stages_of P k).passes c (tt {0}) p → HasDone k p.done
has_done P c (Exchanging mode nested) p (q, x, (files, are, plan)) = (q.1, ap (λ (r : PlanContent Done). r.done) plan)
has_done P c (Showing mode) p (M, m, plan) = ap (λ (r : PlanContent Done). r.done) plan
has_done P c (Demonstrating number mode) p (q, x, (ns, are, plan)) = (q.1, ap (λ (r : PlanContent Done). r.done) plan)
has_done P c Answering p (q, x, plan) = (q.1, ap (λ (r : PlanContent Done). r.done) plan)
has_done P c Judging p (q, x, plan) = (q.1, ap (λ (r : PlanContent Done). r.done) plan)
has_done P c Comparing p (q, x, (files, are, plan)) = (q.1, ap (λ (r : PlanContent Done). r.done) plan)

-- the words say one command
one_command : (words : List (List ℕ)) (k d : Command) → says words ≡ Some k → or_usage (says words) ≡ Ok d → d ≡ k
one_command words k d w o = sym (same_Some k d (sym w ∙ said words d o))

done_as_said : (P : Program) (c : World) (words : List (List ℕ)) (k : Command) (p : PlanContent Done) → says words ≡ Some k
    → (run_stages P).passes c words p → HasDone k p.done
done_as_said P c words k p w (d, o, passed) = subst (λ (v : Command). HasDone v p.done) (one_command words k d w o) (has_done P c d p passed)

-- ---- a run during which nothing failed

-- the reads did not fail, or there are none
abbrev CalmReads : Program → World → List (List ℕ) → InputState → InputState → Type 0
CalmReads P c words old new = (n : List ℕ) → (run_stages P).asks c words n → ¬ (Rose old.faults new.faults)

-- with a plan it is done, or memory ran out
plan_done : (P : Program) (c : World) (words : List (List ℕ)) (e : Ended Done Refusal) (old new : InputState) (before after : OutputState) (writes writes' : ℕ)
    → RunsIn AreAlike (run_stages P) c words e before after → Counts old new writes writes' e → CalmReads P c words old new → ¬ (Rose writes writes')
    → (p : PlanContent Done) → (run_stages P).passes c words p
    → ((q : PlanContent Done) × (run_stages P).passes c words q × (e ≡ endeds.Done q.done)) ⊎ (e ≡ endeds.Memory)
plan_done P c words e old new before after writes writes' right counted reads written p passed = of e right.ends counted (right.complete p passed)
  where
    of : (e : Ended Done Refusal) → Ends (run_stages P) c words before after e → Counts old new writes writes' e → ((r : Refusal) → ¬ (e ≡ endeds.Refused r))
        → ((q : PlanContent Done) × (run_stages P).passes c words q × (e ≡ endeds.Done q.done)) ⊎ (e ≡ endeds.Memory)
    of (endeds.Done d) (q, h, is, wrote) counts never = inl (q, h, ap (λ x. endeds.Done x) (sym is))
    of (endeds.Refused r) ends counts never = absurd (never r refl)
    of (endeds.ReadFault n) ends counts never = absurd (reads n ends.0 counts.0)
    of (endeds.WriteFault count) ends counts never = absurd (written counts.1)
    of endeds.Memory ends counts never = inr refl

-- with a reason to refuse it is refused so, or memory ran out
reason_told : (P : Program) (c : World) (words : List (List ℕ)) (e : Ended Done Refusal) (old new : InputState) (before after : OutputState) (writes writes' : ℕ)
    → RunsIn AreAlike (run_stages P) c words e before after → Counts old new writes writes' e → CalmReads P c words old new
    → (r : Refusal) → (run_stages P).refuses c words r → IsRefusedAs AreAlike r e ⊎ (e ≡ endeds.Memory)
reason_told P c words e old new before after writes writes' right counted reads r refused = of e right.ends counted (right.exact r refused)
  where
    of : (e : Ended Done Refusal) → Ends (run_stages P) c words before after e → Counts old new writes writes' e → IsRefusedAs AreAlike r e ⊎ IsOutside e
        → IsRefusedAs AreAlike r e ⊎ (e ≡ endeds.Memory)
    of e ends counts (inl h) = inl h
    of (endeds.Done d) ends counts (inr h) = absurd h
    of (endeds.Refused k) ends counts (inr h) = absurd h
    of (endeds.ReadFault n) ends counts (inr h) = absurd (reads n ends.0 counts.0)
    of (endeds.WriteFault count) ends counts (inr h) = absurd h
    of endeds.Memory ends counts (inr h) = inr refl

-- ---- answers

-- what was done is answered
answered : (P : Program) (c : World) (words : List (List ℕ)) (r : Ending) (e : Ended Done Refusal) (k : Command) → r ≡ ending_of e → says words ≡ Some k
    → ((q : PlanContent Done) × (run_stages P).passes c words q × (e ≡ endeds.Done q.done)) ⊎ (e ≡ endeds.Memory)
    → OrMemory r ((d : Done) × HasDone k d × (r ≡ endings.Done d))
answered P c words r e k is w (inl (q, passed, done)) = inl (q.done, done_as_said P c words k q w passed, is ∙ ap ending_of done)
answered P c words r e k is w (inr none) = inr (is ∙ ap ending_of none)

exchange_answered : (r : Ending) (mode : Mode) (nested : Bool) → OrMemory r ((d : Done) × HasDone (Exchanging mode nested) d × (r ≡ endings.Done d))
    → OrMemory r ((e : Exchange) × (r ≡ endings.Done (dones.Exchanged e)))
exchange_answered r mode nested (inl (d, (e, d_is), is)) = inl (e, is ∙ ap (λ x. endings.Done x) d_is)
exchange_answered r mode nested (inr none) = inr none

shown_answered : (r : Ending) (mode : Mode) → OrMemory r ((d : Done) × HasDone (Showing mode) d × (r ≡ endings.Done d))
    → OrMemory r (r ≡ endings.Done dones.Shown)
shown_answered r mode (inl (d, d_is, is)) = inl (is ∙ ap (λ x. endings.Done x) d_is)
shown_answered r mode (inr none) = inr none

answers_answered : (r : Ending) → OrMemory r ((d : Done) × HasDone Answering d × (r ≡ endings.Done d)) → OrMemory r ((a : Answers) × (r ≡ endings.Done (dones.Answered a)))
answers_answered r (inl (d, (a, d_is), is)) = inl (a, is ∙ ap (λ x. endings.Done x) d_is)
answers_answered r (inr none) = inr none

demo_answered : (r : Ending) (number : ℕ) (mode : Mode) → OrMemory r ((d : Done) × HasDone (Demonstrating number mode) d × (r ≡ endings.Done d))
    → OrMemory r ((e : Exchange) × (r ≡ endings.Done (dones.Demo e)))
demo_answered r number mode (inl (d, (e, d_is), is)) = inl (e, is ∙ ap (λ x. endings.Done x) d_is)
demo_answered r number mode (inr none) = inr none

-- so is a reason to refuse, or one that is alike
refusal_answered : (r : Ending) (e : Ended Done Refusal) (f : Refusal) → r ≡ ending_of e → IsRefusedAs AreAlike f e ⊎ (e ≡ endeds.Memory)
    → OrMemory r ((k : Refusal) × AreAlike k f × (r ≡ refusal_ending k))
refusal_answered r e f is (inl (k, e_is, alike)) = inl (k, alike, is ∙ ap ending_of e_is)
refusal_answered r e f is (inr none) = inr (is ∙ ap ending_of none)

clash_answered : (r : Ending) (e : Ended Done Refusal) (k : Clash) (table : Text) (key : List Text) (column : Text) → r ≡ ending_of e
    → IsRefusedAs AreAlike (refusals.Clash k table key column) e ⊎ (e ≡ endeds.Memory) → OrMemory r (AnswersClash r)
clash_answered r e k table key column is (inl (f, e_is, alike)) =
    let h = alike_clash f k table key column alike in
    inl (h.0, h.1, h.2, h.3, is ∙ ap ending_of (e_is ∙ ap (λ x. endeds.Refused x) h.4))
clash_answered r e k table key column is (inr none) = inr (is ∙ ap ending_of none)

-- ---- in a world of a run

pub completes : (P : Program) (c : World) (words : List (List ℕ)) (r : Ending) (e : Ended Done Refusal) (old new : InputState) (before after : OutputState) (writes writes' : ℕ)
    → r ≡ ending_of e → RunsIn AreAlike (run_stages P) c words e before after → Counts old new writes writes' e
    → ¬ (Rose old.faults new.faults) → ¬ (Rose writes writes') → Completes P c words r
completes P c words r e old new before after writes writes' is right counted reads written = record {
  done = λ k w h.
      let p = faultless_planned P c words h in
      answered P c words r e k is w (plan_done P c words e old new before after writes writes' right counted (λ n a. reads) written p.0 p.1);
  refused = λ f h. refusal_answered r e f is (reason_told P c words e old new before after writes writes' right counted (λ n a. reads) f h);
  exchanged = λ mode nested w h.
      let p = planned P c words mode nested w h in
      exchange_answered r mode nested (answered P c words r e (Exchanging mode nested) is w
      (plan_done P c words e old new before after writes writes' right counted (λ n a. reads) written p.1.0 p.1.1));
  clash = λ mode nested w h.
      let k = no_solution P c words mode nested w h in
      clash_answered r e k.0 k.1 k.2 k.3 is (reason_told P c words e old new before after writes writes' right counted (λ n a. reads) (refusals.Clash k.0 k.1 k.2 k.3) k.4);
  shown = λ mode w M a.
      let p = shown P c words mode w M a in
      shown_answered r mode (answered P c words r e (Showing mode) is w
      (plan_done P c words e old new before after writes writes' right counted (λ n a. reads) written p.0 p.1));
  answers = λ w h k few.
      let p = answers_planned P c words w h k few in
      answers_answered r (answered P c words r e Answering is w (plan_done P c words e old new before after writes writes' right counted (λ n a. reads) written p.1.0 p.1.1));
  no_answer = λ w h q.
      let k = answers_clash P c words w h q in
      clash_answered r e k.0 k.1 k.2 k.3 is (reason_told P c words e old new before after writes writes' right counted (λ n a. reads) (refusals.Clash k.0 k.1 k.2 k.3) k.4);
}

-- ---- over the files of a demo

-- a demo asks for no file
asks_none : (P : Program) (c : World) (words : List (List ℕ)) (number : ℕ) (mode : Mode) (n : List ℕ) → says words ≡ Some (Demonstrating number mode)
    → ¬ ((run_stages P).asks c words n)
asks_none P c words number mode n w a =
    let k = (in_order P c words n).0 a in
    subst (λ (v : Command). AsksFor P c v n) (sym (same_Some (Demonstrating number mode) k.0 (sym w ∙ k.1))) k.2

pub completes_demo : (P : Program) (c : World) (words : List (List ℕ)) (r : Ending) (e : Ended Done Refusal) (old new : InputState) (before after : OutputState) (writes writes' : ℕ)
    → r ≡ ending_of e → RunsIn AreAlike (run_stages P) c words e before after → Counts old new writes writes' e → ¬ (Rose writes writes') → CompletesDemo P words r
completes_demo P c words r e old new before after writes writes' is right counted written = record {
  demo = λ number mode w h.
      let p = demo_planned P c words number mode w h in
      demo_answered r number mode (answered P c words r e (Demonstrating number mode) is w
      (plan_done P c words e old new before after writes writes' right counted (λ n a. absurd (asks_none P c words number mode n w a)) written p.1.0 p.1.1));
  clash = λ number mode w h.
      let k = demo_clashes P c words number mode w h in
      clash_answered r e k.0 k.1 k.2 k.3 is
      (reason_told P c words e old new before after writes writes' right counted (λ n a. absurd (asks_none P c words number mode n w a)) (refusals.Clash k.0 k.1 k.2 k.3) k.4);
}
