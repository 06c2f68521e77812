-- An answer is never refused with `Usage`.
use Rattle.std.proofs.Common.{inl, inr}
use Rattle.dx_stages.specs.Worlds.{World}
use Rattle.clio_ending.specs.declared.ending.Refusal.TheVariants as refusals
use Rattle.clio_steps.specs.declared.texts.Side.TheVariants.{First}
use Rattle.clio_steps.specs.Steps.{Program}
use Rattle.clio_answer.specs.Answering.{answers, with_source_rows}
use Rattle.clio_answer.proofs.Queried.{IsOfQuery, query_refusals}
use Rattle.clio_steps.proofs.Reasons.{source_rows_kept, none_kept, text_never}

-- what refuses a query is not usage
of_query : ¬ (IsOfQuery refusals.Usage)
of_query (inl (fault, is)) = cc
of_query (inr (l, is)) = cc

pub answer_never : (P : Program) (c : World) → ¬ ((answers P).refuses c (tt {0}) refusals.Usage)
answer_never P c (inl m) = text_never P First c m
answer_never P c (inr (M, m, inl h)) = of_query (query_refusals c M refusals.Usage h)
answer_never P c (inr (M, m, inr (p, x, inl (k, refused, is)))) = source_rows_kept k is
answer_never P c (inr (M, m, inr (p, x, inr (f, y, inl (fault, none, is))))) = none_kept (with_source_rows f).0.target fault is
answer_never P c (inr (M, m, inr (p, x, inr (f, y, inr (g, z, (passes, is)))))) = cc
