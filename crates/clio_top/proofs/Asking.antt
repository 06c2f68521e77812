-- Which files a run asks for.
use Rattle.std.proofs.Common.{◌≡◌, ℕ, List, refl, ap, subst, inl, inr, Some}
use Rattle.dx_stages.specs.Worlds.{World}
use Rattle.clio_source.specs.Source.{source_stages}
use Rattle.clio_top.specs.declared.command.Command.{Command}
use Rattle.clio_top.specs.declared.command.Command.TheVariants.{Answering, Comparing, Demonstrating, Exchanging, Judging, Showing}
use Rattle.clio_top.specs.Words.{or_usage, says}
use Rattle.clio_steps.specs.Steps.{Program, wanted}
use Rattle.clio_top.specs.Commands.{run_stages, stages_of}
use Rattle.clio_judge.specs.Judging.{wanted_given}
use Rattle.clio_top.specs.Promises.{AskedInOrder, AsksFor}
use Rattle.clio_steps.specs.declared.texts.Side.TheVariants.{First}
use Rattle.clio_steps.proofs.Names.{text_asks}
use Rattle.clio_compare.proofs.Pairs.{rest_asks}
use Rattle.clio_top.proofs.Asked.{said}
use Rattle.clio_answer.specs.Answering.{MappingAndQuery}
use Rattle.clio_answer.proofs.AnswerRuns.{end_silent}
use Rattle.clio_answer.proofs.Queried.{query_asks}
use Rattle.clio_judge.proofs.VerdictRuns.{after_rows}
use Rattle.clio_steps.proofs.Asking.{next_file, asks_next}
use Rattle.clio_steps.proofs.Spine.{accepted_in, accepted_passes}
use Rattle.clio_judge.proofs.Asking.{next_given, asks_given}

-- ---- the commands

asked_by : (P : Program) (c : World) (k : Command) (n : List ℕ) → (stages_of P k).asks c (tt {0}) n → AsksFor P c k n
asked_by P c (Exchanging mode nested) n (inl h) = inl (text_asks P First c tt n h)
asked_by P c (Exchanging mode nested) n (inr (M, m, inl h)) = inr (M, accepted_in P First c M m, next_file P.passes c (wanted M) n h)
asked_by P c (Exchanging mode nested) n (inr (M, m, inr h)) = absurd h.2
asked_by P c (Showing mode) n h = text_asks P First c tt n h
asked_by P c (Demonstrating number mode) n h = h
asked_by P c Answering n (inl h) = inl (text_asks P First c tt n h)
asked_by P c Answering n (inr (M, m, inl h)) = inr (M, accepted_in P First c M m, inl (query_asks c M n h))
asked_by P c Answering n (inr (M, m, inr (p, (q, passed, is), inl h))) =
    inr (M, accepted_in P First c M m, inr (q, passed, next_file P.passes c (wanted M) n (subst (λ (r : MappingAndQuery). (source_stages P.passes).asks c (wanted r.0) n) is h)))
asked_by P c Answering n (inr (M, m, inr (p, x, inr (f, y, h)))) = absurd (end_silent P c f n h)
asked_by P c Judging n (inl h) = inl (text_asks P First c tt n h)
asked_by P c Judging n (inr (M, m, inl h)) = inr (M, accepted_in P First c M m, inl (next_file P.passes c (wanted M) n h))
asked_by P c Judging n (inr (M, m, inr (p, x, h))) = inr (M, accepted_in P First c M m, inr (p, x, next_given c (wanted_given p) n (after_rows P c p n h)))
asked_by P c Comparing n (inl h) = inl (text_asks P First c tt n h)
asked_by P c Comparing n (inr (M, m, h)) = inr (M, accepted_in P First c M m, rest_asks P c M n h)

asks_it : (P : Program) (c : World) (k : Command) (n : List ℕ) → AsksFor P c k n → (stages_of P k).asks c (tt {0}) n
asks_it P c (Exchanging mode nested) n (inl h) = inl (inl h)
asks_it P c (Exchanging mode nested) n (inr (M, m, h)) = inr (M, accepted_passes P First c M m, inl (asks_next P.passes c (wanted M) n h))
asks_it P c (Showing mode) n h = inl h
asks_it P c (Demonstrating number mode) n h = h
asks_it P c Answering n (inl h) = inl (inl h)
asks_it P c Answering n (inr (M, m, inl h)) = inr (M, accepted_passes P First c M m, inl (inl h))
asks_it P c Answering n (inr (M, m, inr (q, passed, h))) = inr (M, accepted_passes P First c M m, inr ((M, q), (q, passed, refl), inl (asks_next P.passes c (wanted M) n h)))
asks_it P c Judging n (inl h) = inl (inl h)
asks_it P c Judging n (inr (M, m, inl h)) = inr (M, accepted_passes P First c M m, inl (asks_next P.passes c (wanted M) n h))
asks_it P c Judging n (inr (M, m, inr (p, x, h))) = inr (M, accepted_passes P First c M m, inr (p, x, inl (asks_given c (wanted_given p) n h)))
asks_it P c Comparing n (inl h) = inl (inl h)
asks_it P c Comparing n (inr (M, m, h)) = inr (M, accepted_passes P First c M m, inl (inl h))

asked_of : (P : Program) (c : World) (words : List (List ℕ)) (n : List ℕ) → (run_stages P).asks c words n
    → (k : Command) × (says words ≡ Some k) × AsksFor P c k n
asked_of P c words n (inl h) = absurd h
asked_of P c words n (inr (k, w, h)) = (k, said words k w, asked_by P c k n h)

pub in_order : AskedInOrder
in_order P c words n = (asked_of P c words n, λ h. inr (h.0, ap or_usage h.1, asks_it P c h.0 n h.2))
