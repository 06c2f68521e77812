-- When an answer is refused with a clash.
use Rattle.std.proofs.Common.{◌≡◌, ℕ, List, ◌∙◌, ap, subst, inl, inr}
use Rattle.std.proofs.lemmas.Bool.{true≢false}
use Rattle.dx_keys.specs.declared.answers.Clash.{Clash}
use Rattle.dx_exchange.specs.Exchanging.{HasClash}
use Rattle.dx_stages.specs.Worlds.{World}
use Rattle.clio_ending.specs.declared.ending.Refusal.TheVariants as refusals
use Rattle.clio_ending.specs.Ending.{named_clash}
use Rattle.clio_steps.specs.declared.texts.Side.TheVariants.{First}
use Rattle.clio_steps.specs.Steps.{MappingAndRows, Program, exchange_input, wanted}
use Rattle.clio_steps.specs.Outcomes.{IsClashIn, ReadIn}
use Rattle.clio_answer.specs.Answering.{MappingAndQuery, answers, with_source_rows}
use Rattle.clio_answer.proofs.Queried.{IsOfQuery, query_refusals}
use Rattle.dx_exchange.specs.declared.mode.Mode.TheVariants.{Plain}
use Rattle.clio_source.specs.Source.{source_stages}
use Rattle.clio_steps.proofs.Clashes.{is_clash, of_source, text_never, clash_of, named_of}
use Rattle.clio_steps.proofs.Spine.{accepted_in}

-- what refuses a query is no clash
of_query : (k : Clash) (table : List ℕ) (key : List (List ℕ)) (column : List ℕ) → ¬ (IsOfQuery (refusals.Clash k table key column))
unfolding is_clash
of_query k table key column (inl (fault, is)) = true≢false (ap is_clash is)
of_query k table key column (inr (l, is)) = true≢false (ap is_clash is)

pub answer_clashes : (P : Program) (c : World) (k : Clash) (table : List ℕ) (key : List (List ℕ)) (column : List ℕ)
    → (answers P).refuses c (tt {0}) (refusals.Clash k table key column) → IsClashIn P Plain c k table key column
unfolding is_clash
answer_clashes P c k table key column (inl m) = absurd (true≢false (text_never P First c (refusals.Clash k table key column) m))
answer_clashes P c k table key column (inr (M, m, inl h)) = absurd (of_query k table key column (query_refusals c M (refusals.Clash k table key column) h))
answer_clashes P c k table key column (inr (M, m, inr (p, x, inl (fault, refused, is)))) = absurd (true≢false (ap is_clash is ∙ of_source fault))
answer_clashes P c k table key column (inr (M, m, inr (p, (q, passed, p_is), inr (f, (I, source, f_is), inl (fault, none, is))))) =
    let filled_is : with_source_rows f ≡ (M, I) = ap with_source_rows f_is ∙ ap (λ (r : MappingAndQuery). (r.0, I)) p_is in
    let found = subst (λ (r : MappingAndQuery). (source_stages P.passes).passes c (wanted r.0) I) p_is source in
    let read : ReadIn P c M I = record { accepted = accepted_in P First c M m; source = found } in
    let clash = subst (λ (r : MappingAndRows). HasClash P.apply (exchange_input Plain r) k) filled_is
    (clash_of P Plain (with_source_rows f) (with_source_rows f).0.target k table key column fault none is) in record {
      mapping = M;
      rows = I;
      clash = clash;
      matched = record { read = read; are = clash.are; within = clash.within };
      named = subst (λ (r : MappingAndRows). refusals.Clash k table key column ≡ named_clash r.0.target k) filled_is
          (named_of P Plain (with_source_rows f) (with_source_rows f).0.target k table key column fault none is);
    }
answer_clashes P c k table key column (inr (M, m, inr (p, x, inr (f, y, inr (g, z, (passes, is)))))) = absurd (true≢false (ap is_clash is))
