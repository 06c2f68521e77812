-- From the stages to what there is after each step, and back; and that it is one.
use Rattle.std.proofs.Common.{◌≡◌, ◌⊎◌, ◌≤◌, ℕ, List, refl, sym, ◌∙◌, ap, subst, inl, inr}
use Rattle.std.proofs.lemmas.Option.{same_Some}
use Rattle.dx_model.specs.Rules.{AreRows}
use Rattle.dx_model.specs.Values.{Rows}
use Rattle.dx_model.proofs.RowsExist.{rows_of_all}
use Rattle.dx_instance.specs.Stored.{TableRows, facts}
use Rattle.dx_schema.specs.Tables.{model_tables}
use Rattle.dx_tgd.specs.Counting.{canonical_cells}
use Rattle.dx_exchange.specs.declared.fault.ExFault.{ExFault}
use Rattle.dx_exchange.specs.declared.fault.ExFault.TheVariants as exchange_faults
use Rattle.dx_exchange.specs.declared.mode.Mode.{Mode}
use Rattle.dx_exchange.specs.declared.mode.Mode.TheVariants.{Plain}
use Rattle.dx_exchange.specs.declared.result.Exchange.{Exchange}
use Rattle.dx_exchange.specs.Exchanging.{HasNoExchange, IsExchange}
use Rattle.dx_exchange.proofs.Decided.{exchange_or_none}
use Rattle.dx_stages.specs.Worlds.{World}
use Rattle.clio_accept.specs.declared.mapping.Mapping.{Mapping}
use Rattle.clio_accept.specs.Accepting.{accepting}
use Rattle.clio_accept.specs.Laws.{MappingFits}
use Rattle.clio_accept.proofs.Accepted.{accepted_fits}
use Rattle.clio_accept.proofs.Decided.{accepting_one}
use Rattle.clio_source.proofs.Decided.{source_one}
use Rattle.clio_steps.specs.declared.texts.Side.{Side}
use Rattle.clio_steps.specs.declared.texts.Side.TheVariants.{First}
use Rattle.clio_steps.specs.Laws.{OnceInWorlds}
use Rattle.clio_steps.specs.Outcomes.{AcceptedIn, ExchangedIn, HeldIn, MatchedIn, ReadIn}
use Rattle.clio_steps.specs.Steps.{MappingAndRows, Program, exchange_input, rows_stages, target_cells, text_stages, wanted}
use Rattle.clio_steps.proofs.Mappings.{is_small}
use Rattle.clio_steps.proofs.Plans.{rules_fit}

-- ---- from stages, and back

pub accepted_in : (P : Program) (side : Side) (c : World) (M : Mapping) → (text_stages P side).passes c (tt {0}) M
    → AcceptedIn P side c M
accepted_in P side c M (text, there, accepted) =
    record { text = text; held = record { is = there.0; few = there.1 }; accepted = accepted }

pub accepted_passes : (P : Program) (side : Side) (c : World) (M : Mapping) → AcceptedIn P side c M
    → (text_stages P side).passes c (tt {0}) M
accepted_passes P side c M a = (a.text, (a.held.is, a.held.few), a.accepted)

-- an accepted mapping fits
pub fits_in : (P : Program) (side : Side) (c : World) (M : Mapping) → AcceptedIn P side c M → MappingFits P.list P.tests M
fits_in P side c M a = accepted_fits P.list P.tests c a.text M (is_small a.text a.held.few) a.accepted

pub read_passes : (P : Program) (c : World) (M : Mapping) (I : List TableRows) → ReadIn P c M I
    → (rows_stages P).passes c M (M, I)
read_passes P c M I r = (I, r.source, refl)

pub exchanged_in : (P : Program) (mode : Mode) (c : World) (M : Mapping) (I : List TableRows) (e : Exchange)
    → ReadIn P c M I → IsExchange P.apply (exchange_input mode (M, I)) e → ExchangedIn P mode c M I e
exchanged_in P mode c M I e r x =
    record { matched = record { read = r; are = x.matches; within = x.within }; exchange = x }

-- ---- it is one

one_text : (side : Side) (c : World) (one other : List ℕ) → HeldIn side c one → HeldIn side c other → one ≡ other
one_text side c one other h k = same_Some one other (sym h.is ∙ k.is)

one_mapping : (P : Program) (side : Side) (c : World) (M N : Mapping) → AcceptedIn P side c M → AcceptedIn P side c N
    → M ≡ N
one_mapping P side c M N a b =
    let text = one_text side c a.text b.text a.held b.held in
    accepting_one P.list P.tests c b.text M N
    (subst (λ (t : List ℕ). (accepting P.list P.tests).passes c t M) text a.accepted) b.accepted

-- so what is read is one
pub one_read : (P : Program) (c : World) (p q : MappingAndRows) → ReadIn P c p.0 p.1 → ReadIn P c q.0 q.1 → p ≡ q
one_read P c (M, I) (N, J) r s =
    let mapping = one_mapping P First c M N r.accepted s.accepted in
    let read = subst (λ (L : Mapping). ReadIn P c L I) mapping r in
    let under : ◌≡◌ {A = MappingAndRows} (M, I) (N, I) = ap (λ (L : Mapping). (L, I)) mapping in
    let rows = source_one P.passes c (wanted N) I J read.source s.source in
    under ∙ ap (λ (K : List TableRows). (N, K)) rows

one_matches : (P : Program) (c : World) (M : Mapping) (I : List TableRows) (one other : Rows) → MatchedIn P c M I one
    → AreRows P.apply M.rules (facts I) other → one ≡ other
one_matches P c M I one other m are = (rows_of_all P.apply M.rules (facts I) one other m.are are).0

-- so the canonical instance is within its limit, whichever list it is of
pub all_within : (P : Program) (c : World) (M : Mapping) (I : List TableRows) (one other : Rows) → MatchedIn P c M I one
    → AreRows P.apply M.rules (facts I) other → canonical_cells M.rules other ≤ target_cells
all_within P c M I one other m are =
    subst (λ (r : Rows). canonical_cells M.rules r ≤ target_cells) (one_matches P c M I one other m are) m.within

-- there are matches: those of the exchange, or of the reason why there is none
some_matches : (P : Program) (c : World) (M : Mapping) (I : List TableRows) → ReadIn P c M I
    → (matches : Rows) × AreRows P.apply M.rules (facts I) matches
some_matches P c M I r =
    let d = exchange_or_none P.apply P.list (model_tables M.source) in
    of (d.either c (exchange_input Plain (M, I)) (rules_fit P M (fits_in P First c M r.accepted)))
  where
    of : ((e : Exchange) × IsExchange P.apply (exchange_input Plain (M, I)) e)
        ⊎ ((f : ExFault) × HasNoExchange P.apply (exchange_input Plain (M, I)) f)
        → (matches : Rows) × AreRows P.apply M.rules (facts I) matches
    of (inl (e, x)) = (e.matches, x.matches)
    of (inr (exchange_faults.Clash k, x)) = (x.matches, x.are)
    of (inr (exchange_faults.Limit l, x)) = (x.matches, x.are)
    of (inr (exchange_faults.Memory, x)) = absurd x

pub once_in : OnceInWorlds
once_in P c = record {
  text = λ side one other h k. one_text side c one other h k;
  mapping = λ side M N a b. one_mapping P side c M N a b;
  rows = λ M I J r s. source_one P.passes c (wanted M) I J r.source s.source;
  matches = λ M I one other m are. one_matches P c M I one other m are;
  some = λ M I r. some_matches P c M I r;
}
