-- What is accepted and read has a solution or none.
use Rattle.std.proofs.Common.{◌⊎◌, ◌≤◌, List, sym, ap, subst, inl, inr, arith}
use Rattle.dx_model.specs.Rules.{AreRows}
use Rattle.dx_model.specs.Solutions.{IsSolution}
use Rattle.dx_model.specs.Values.{Rows}
use Rattle.dx_instance.specs.Stored.{TableRows, facts}
use Rattle.dx_schema.specs.Tables.{model_tables}
use Rattle.dx_tgd.specs.Counting.{canonical_cells}
use Rattle.dx_exchange.specs.declared.mode.Mode.TheVariants.{Plain}
use Rattle.dx_exchange.specs.declared.result.Exchange.{Exchange}
use Rattle.dx_exchange.specs.declared.fault.ExFault.{ExFault}
use Rattle.dx_exchange.specs.declared.fault.ExFault.TheVariants as exchange_faults
use Rattle.dx_exchange.specs.Exchanging.{HasNoExchange, IsExchange}
use Rattle.dx_exchange.proofs.Decided.{exchange_or_none}
use Rattle.dx_stages.specs.Worlds.{World}
use Rattle.clio_accept.specs.declared.mapping.Mapping.{Mapping}
use Rattle.clio_source.specs.Source.{source_stages}
use Rattle.clio_steps.specs.Laws.{SolvedOrNot}
use Rattle.clio_steps.specs.Steps.{MappingAndRows, Program, exchange_input, mapping_stages, rows_stages, target_cells, wanted}
use Rattle.clio_steps.specs.declared.texts.Side.TheVariants.{First}
use Rattle.clio_steps.specs.Outcomes.{HasNoSolutionIn, HasSolutionIn, ReadIn}
use Rattle.clio_steps.proofs.Plans.{rules_fit}
use Rattle.clio_steps.proofs.Spine.{accepted_in, fits_in, one_read}

either_of : (P : Program) (c : World) (M : Mapping) (I : List TableRows) → (mapping_stages P).passes c (tt {0}) M
    → (rows_stages P).passes c M (M, I)
    → ((matches : Rows) → AreRows P.apply M.rules (facts I) matches → canonical_cells M.rules matches ≤ target_cells)
    → HasSolutionIn P c ⊎ HasNoSolutionIn P c
either_of P c M I m (J, source, is) few =
    let accepted = accepted_in P First c M m in
    let rows = sym (ap (λ (p : MappingAndRows). p.1) is) in
    let found = subst (λ (K : List TableRows). (source_stages P.passes).passes c (wanted M) K) rows source in
    of (record { accepted = accepted; source = found })
    ((exchange_or_none P.apply P.list (model_tables M.source)).either c (exchange_input Plain (M, I))
    (rules_fit P M (fits_in P First c M accepted)))
  where
    of : ReadIn P c M I
        → ((e : Exchange) × IsExchange P.apply (exchange_input Plain (M, I)) e)
        ⊎ ((f : ExFault) × HasNoExchange P.apply (exchange_input Plain (M, I)) f)
        → HasSolutionIn P c ⊎ HasNoSolutionIn P c
    of read (inl (e, x)) = inl (record {
      mapping = M;
      rows = I;
      matches = e.matches;
      matched = record { read = read; are = x.matches; within = x.within };
      solution = facts e.target;
      solves = x.universal.solution;
    })
    of read (inr (exchange_faults.Clash k, x)) = inr (record {
      mapping = M;
      rows = I;
      matches = x.matches;
      matched = record { read = read; are = x.are; within = x.within };
      none = x.no_solution;
    })
    of read (inr (exchange_faults.Limit l, x)) =
        let fewer = few x.matches x.are in let many = x.many in absurd (omega (arith, fewer, many))
    of read (inr (exchange_faults.Memory, x)) = absurd x

-- the two are of one mapping and of the same rows
never_both_of : (P : Program) (c : World) → HasSolutionIn P c → HasNoSolutionIn P c → ⊥
never_both_of P c h k =
    let is = one_read P c (h.mapping, h.rows) (k.mapping, k.rows) h.matched.read k.matched.read in
    k.none h.solution
    (subst (λ (p : MappingAndRows). IsSolution P.apply p.0.rules (model_tables p.0.target) (facts p.1) h.solution) is
    h.solves)

pub solved_or_not : SolvedOrNot
solved_or_not P c =
    record { mapped = λ M m. accepted_in P First c M m; either = either_of P c; never_both = never_both_of P c }
