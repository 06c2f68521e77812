-- When the stages that commands share refuse with a clash.
use Rattle.std.proofs.Common.{◌≡◌, ◌⊎◌, ℕ, List, refl, sym, ◌∙◌, ap, subst, inl, inr, Option, Some, None, Bool, true, false, arith}
use Rattle.std.proofs.lemmas.Bool.{true≢false}
use Rattle.std.proofs.lemmas.Option.{none-some, same_Some}
use Rattle.dx_instance.specs.Stored.{facts}
use Rattle.dx_schema.specs.Forest.{Forest}
use Rattle.dx_keys.specs.declared.answers.Clash.{Clash}
use Rattle.dx_exchange.specs.declared.mode.Mode.{Mode}
use Rattle.dx_exchange.specs.declared.result.Exchange.{Exchange}
use Rattle.dx_exchange.specs.declared.fault.ExFault.{ExFault}
use Rattle.dx_exchange.specs.declared.fault.ExFault.TheVariants as exchange_faults
use Rattle.dx_exchange.specs.Exchanging.{HasClash, HasNoExchange, IsExchange, exchanging}
use Rattle.dx_exchange.proofs.Decided.{exchange_or_none}
use Rattle.dx_schema.specs.Tables.{model_tables}
use Rattle.dx_stages.specs.Worlds.{World}
use Rattle.clio_accept.specs.declared.fault.AcceptFault.{AcceptFault}
use Rattle.clio_accept.specs.declared.fault.AcceptFault.TheVariants as accept_faults
use Rattle.clio_accept.specs.declared.mapping.Mapping.{Mapping}
use Rattle.clio_source.specs.declared.fault.SourceRefusal.{SourceRefusal}
use Rattle.clio_source.specs.declared.fault.SourceRefusal.TheVariants as source_refusals
use Rattle.clio_ending.specs.declared.faults.OtherFault.TheVariants as other_faults
use Rattle.clio_ending.specs.declared.ending.Refusal.{Refusal}
use Rattle.clio_ending.specs.declared.ending.Refusal.TheVariants as refusals
use Rattle.clio_ending.specs.Ending.{exchange_refusal, named_clash, source_refusal}
use Rattle.clio_steps.specs.declared.texts.Side.{Side}
use Rattle.clio_steps.specs.declared.texts.Side.TheVariants.{First, Second}
use Rattle.clio_steps.specs.Steps.{MappingAndRows, Program, absent_text, exchange_input, exchanges, rows_stages, side_refusal, text_stages}
use Rattle.clio_steps.specs.Outcomes.{HasNoSolutionIn, IsClashIn, ReadIn}
use Rattle.clio_steps.proofs.Plans.{rules_fit}
use Rattle.clio_steps.proofs.Spine.{accepted_in, accepted_passes, all_within, fits_in, read_passes}

-- ---- which refusals are clashes

unfoldable pub is_clash : Refusal → Bool
is_clash (refusals.Clash k table key column) = true
is_clash _ = false

clash_in : Refusal → Option Clash
clash_in (refusals.Clash k table key column) = Some k
clash_in _ = None

-- what is no clash is not this one
pub no_clash : (e : Refusal) (k : Clash) (table : List ℕ) (key : List (List ℕ)) (column : List ℕ) → is_clash e ≡ false → ¬ (e ≡ refusals.Clash k table key column)
unfolding is_clash
no_clash e k table key column none is = true≢false (sym (ap is_clash is) ∙ none)

of_text : (side : Side) (k : AcceptFault) (e : Refusal) → side_refusal side k ≡ Some e → is_clash e ≡ false
unfolding is_clash
of_text First (accept_faults.Mapping fault) e is = ap is_clash (sym (same_Some (refusals.Mapping fault) e is))
of_text First (accept_faults.Limit limit) e is = ap is_clash (sym (same_Some (refusals.Limit limit) e is))
of_text First accept_faults.Memory e is = absurd (none-some e is)
of_text Second (accept_faults.Mapping fault) e is = ap is_clash (sym (same_Some (refusals.Other (other_faults.Mapping fault)) e is))
of_text Second (accept_faults.Limit limit) e is = ap is_clash (sym (same_Some (refusals.Limit limit) e is))
of_text Second accept_faults.Memory e is = absurd (none-some e is)

of_absent : (side : Side) → is_clash (absent_text side) ≡ false
unfolding is_clash
of_absent First = refl
of_absent Second = refl

pub of_source : (k : SourceRefusal) → is_clash (source_refusal k) ≡ false
unfolding is_clash
of_source (source_refusals.Rows file fault) = refl
of_source (source_refusals.Limit limit) = refl

pub text_never : (P : Program) (side : Side) (c : World) (e : Refusal) → (text_stages P side).refuses c (tt {0}) e → is_clash e ≡ false
unfolding is_clash
text_never P side c e (inl (inl (none, is))) = ap is_clash is ∙ of_absent side
text_never P side c e (inl (inr (bytes, held, many, is))) = ap is_clash is
text_never P side c e (inr (text, there, (k, refused, is))) = of_text side k e is

pub rows_never : (P : Program) (c : World) (M : Mapping) (e : Refusal) → (rows_stages P).refuses c M e → is_clash e ≡ false
rows_never P c M e (k, refused, is) = ap is_clash is ∙ of_source k

-- ---- a clash has its reason

-- what is told of a clash is told of that one
clash_told : (target : Forest) (k d : Clash) (table : List ℕ) (key : List (List ℕ)) (column : List ℕ) → Some (named_clash target d) ≡ Some (refusals.Clash k table key column)
    → (d ≡ k) × (refusals.Clash k table key column ≡ named_clash target d)
unfolding clash_in
clash_told target k d table key column is =
    let told = same_Some (named_clash target d) (refusals.Clash k table key column) is in (same_Some d k (ap clash_in told), sym told)

pub clash_of : (P : Program) (mode : Mode) (p : MappingAndRows) (target : Forest) (k : Clash) (table : List ℕ) (key : List (List ℕ)) (column : List ℕ) (fault : ExFault)
    → HasNoExchange P.apply (exchange_input mode p) fault → exchange_refusal target fault ≡ Some (refusals.Clash k table key column) → HasClash P.apply (exchange_input mode p) k
unfolding is_clash
clash_of P mode p target k table key column (exchange_faults.Clash d) h is = subst (HasClash P.apply (exchange_input mode p)) (clash_told target k d table key column is).0 h
clash_of P mode p target k table key column (exchange_faults.Limit l) h is =
    absurd (no_clash (refusals.Limit l) k table key column refl (same_Some (refusals.Limit l) (refusals.Clash k table key column) is))
clash_of P mode p target k table key column exchange_faults.Memory h is = absurd h

-- it is told with the names of the target
pub named_of : (P : Program) (mode : Mode) (p : MappingAndRows) (target : Forest) (k : Clash) (table : List ℕ) (key : List (List ℕ)) (column : List ℕ) (fault : ExFault)
    → HasNoExchange P.apply (exchange_input mode p) fault → exchange_refusal target fault ≡ Some (refusals.Clash k table key column)
    → refusals.Clash k table key column ≡ named_clash target k
unfolding is_clash
named_of P mode p target k table key column (exchange_faults.Clash d) h is = let told = clash_told target k d table key column is in told.1 ∙ ap (named_clash target) told.0
named_of P mode p target k table key column (exchange_faults.Limit l) h is =
    absurd (no_clash (refusals.Limit l) k table key column refl (same_Some (refusals.Limit l) (refusals.Clash k table key column) is))
named_of P mode p target k table key column exchange_faults.Memory h is = absurd h

pub exchange_clashes : (P : Program) (mode : Mode) (c : World) (k : Clash) (table : List ℕ) (key : List (List ℕ)) (column : List ℕ)
    → (exchanges P mode).refuses c (tt {0}) (refusals.Clash k table key column) → IsClashIn P mode c k table key column
unfolding is_clash
exchange_clashes P mode c k table key column (inl m) = absurd (true≢false (text_never P First c (refusals.Clash k table key column) m))
exchange_clashes P mode c k table key column (inr (M, m, inl r)) =
    absurd (true≢false (rows_never P c M (refusals.Clash k table key column) r))
exchange_clashes P mode c k table key column (inr (M, m, inr (pair, (I, source, pair_is), (fault, none, is)))) =
    let clash = subst (λ (r : MappingAndRows). HasClash P.apply (exchange_input mode r) k) pair_is
    (clash_of P mode pair pair.0.target k table key column fault none is) in
    let read : ReadIn P c M I = record { accepted = accepted_in P First c M m; source = source } in
    record {
      mapping = M;
      rows = I;
      clash = clash;
      matched = record { read = read; are = clash.are; within = clash.within };
      named = subst (λ (r : MappingAndRows). refusals.Clash k table key column ≡ named_clash r.0.target k) pair_is
          (named_of P mode pair pair.0.target k table key column fault none is);
    }

-- ---- without a solution there is a clash

pub clash_there : (P : Program) (mode : Mode) (c : World) (h : HasNoSolutionIn P c)
    → (k : Clash) × (exchanging P.apply).refuses c (exchange_input mode (h.mapping, h.rows)) (exchange_faults.Clash k)
clash_there P mode c h =
    let fits = fits_in P First c h.mapping h.matched.read.accepted in
    let d = exchange_or_none P.apply P.list (model_tables h.mapping.source) in
    of (d.either c (exchange_input mode (h.mapping, h.rows)) (rules_fit P h.mapping fits))
  where
    of : ((e : Exchange) × IsExchange P.apply (exchange_input mode (h.mapping, h.rows)) e)
        ⊎ ((f : ExFault) × HasNoExchange P.apply (exchange_input mode (h.mapping, h.rows)) f)
        → (k : Clash) × (exchanging P.apply).refuses c (exchange_input mode (h.mapping, h.rows)) (exchange_faults.Clash k)
    of (inl (e, x)) = absurd (h.none (facts e.target) x.universal.solution)
    of (inr (exchange_faults.Clash k, x)) = (k, x)
    of (inr (exchange_faults.Limit l, x)) =
        let few = all_within P c h.mapping h.rows h.matches x.matches h.matched x.are in
        let many = x.many in absurd (omega (arith, few, many))
    of (inr (exchange_faults.Memory, x)) = absurd x

-- so the exchange is refused
pub exchange_refused : (P : Program) (mode : Mode) (c : World) (h : HasNoSolutionIn P c)
    → (k : Clash) × (exchanges P mode).refuses c (tt {0}) (named_clash h.mapping.target k)
exchange_refused P mode c h =
    let k = clash_there P mode c h in
    let read = h.matched.read in
    let rows = read_passes P c h.mapping h.rows read in
    let accepted = accepted_passes P First c h.mapping read.accepted in
    (k.0, inr (h.mapping, accepted, inr ((h.mapping, h.rows), rows, (exchange_faults.Clash k.0, k.1, refl))))
