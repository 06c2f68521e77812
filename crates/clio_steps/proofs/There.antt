-- What has a solution has an exchange, which is passed on.
use Rattle.std.proofs.Common.{◌⊎◌, refl, inl, inr, arith}
use Rattle.dx_schema.specs.Tables.{model_tables}
use Rattle.dx_exchange.specs.declared.mode.Mode.{Mode}
use Rattle.dx_exchange.specs.declared.result.Exchange.{Exchange}
use Rattle.dx_exchange.specs.declared.fault.ExFault.{ExFault}
use Rattle.dx_exchange.specs.declared.fault.ExFault.TheVariants as exchange_faults
use Rattle.dx_exchange.specs.Exchanging.{HasNoExchange, IsExchange}
use Rattle.dx_exchange.proofs.Decided.{exchange_or_none}
use Rattle.dx_stages.specs.Worlds.{World}
use Rattle.clio_steps.specs.Steps.{Program, exchange_input, exchanges}
use Rattle.clio_steps.specs.Outcomes.{HasSolutionIn}
use Rattle.clio_steps.specs.declared.texts.Side.TheVariants.{First}
use Rattle.clio_steps.proofs.Plans.{rules_fit}
use Rattle.clio_steps.proofs.Spine.{accepted_passes, all_within, fits_in, read_passes}

-- ---- an exchange with a solution

-- the exchange of what has a solution
pub exchange_there : (P : Program) (mode : Mode) (c : World) (h : HasSolutionIn P c)
    → (e : Exchange) × IsExchange P.apply (exchange_input mode (h.mapping, h.rows)) e
exchange_there P mode c h =
    let fits = fits_in P First c h.mapping h.matched.read.accepted in
    let d = exchange_or_none P.apply P.list (model_tables h.mapping.source) in
    of (d.either c (exchange_input mode (h.mapping, h.rows)) (rules_fit P h.mapping fits))
  where
    of : ((e : Exchange) × IsExchange P.apply (exchange_input mode (h.mapping, h.rows)) e)
        ⊎ ((f : ExFault) × HasNoExchange P.apply (exchange_input mode (h.mapping, h.rows)) f)
        → (e : Exchange) × IsExchange P.apply (exchange_input mode (h.mapping, h.rows)) e
    of (inl x) = x
    of (inr (exchange_faults.Clash k, x)) = absurd (x.no_solution h.solution h.solves)
    of (inr (exchange_faults.Limit l, x)) =
        let few = all_within P c h.mapping h.rows h.matches x.matches h.matched x.are in
        let many = x.many in absurd (omega (arith, few, many))
    of (inr (exchange_faults.Memory, x)) = absurd x

-- so its exchange is passed on, beside its mapping
pub exchange_passed : (P : Program) (mode : Mode) (c : World) (h : HasSolutionIn P c) (e : Exchange)
    → IsExchange P.apply (exchange_input mode (h.mapping, h.rows)) e → (exchanges P mode).passes c (tt {0}) (h.mapping, e)
exchange_passed P mode c h e x =
    let read = h.matched.read in (
      h.mapping,
      accepted_passes P First c h.mapping read.accepted,
      ((h.mapping, h.rows), read_passes P c h.mapping h.rows read, (e, x, refl)),
    )
