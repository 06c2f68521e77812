-- An exchange that the stages pass on, in a world.
use Rattle.std.proofs.Common.{◌≡◌, List, sym, ◌∙◌, ap, subst}
use Rattle.dx_exchange.specs.declared.mode.Mode.{Mode}
use Rattle.dx_exchange.specs.declared.result.Exchange.{Exchange}
use Rattle.dx_exchange.specs.Exchanging.{IsExchange}
use Rattle.dx_instance.specs.Stored.{TableRows}
use Rattle.dx_stages.specs.Worlds.{World}
use Rattle.dx_stages.specs.Ending.{PlanContent}
use Rattle.clio_accept.specs.declared.mapping.Mapping.{Mapping}
use Rattle.clio_ending.specs.declared.ending.Done.{Done}
use Rattle.clio_steps.specs.declared.texts.Side.TheVariants.{First}
use Rattle.clio_steps.specs.Steps.{MappingAndRows, Program, exchange_input, exchanges}
use Rattle.clio_steps.specs.Outcomes.{ExchangedIn, Writing}
use Rattle.clio_steps.proofs.Spine.{accepted_in, exchanged_in}

pub in_world : (P : Program) (mode : Mode) (c : World) (q : Mapping × Exchange) → (exchanges P mode).passes c (tt {0}) q
    → (rows : List TableRows) × ExchangedIn P mode c q.0 rows q.1
in_world P mode c q (M, m, (pair, (I, source, pair_is), (x, exchange, q_is))) =
    let whole : q ≡ (M, x) = q_is ∙ ap (λ (r : MappingAndRows). (r.0, x)) pair_is in
    let made = subst (λ (r : MappingAndRows). IsExchange P.apply (exchange_input mode r) x) pair_is exchange in
    let is = exchanged_in P mode c M I x (record { accepted = accepted_in P First c M m; source = source }) made in
    (I, subst (λ (r : Mapping × Exchange). ExchangedIn P mode c r.0 I r.1) (sym whole) is)

-- what was written of a plan
pub as_planned : (Wrote : Writing) (p r : PlanContent Done) → p ≡ r → Wrote p.files p.text → Wrote r.files r.text
as_planned Wrote p r is w = subst (λ (t : PlanContent Done). Wrote t.files t.text) is w
