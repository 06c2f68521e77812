-- Rows that agree on the columns that the rules use have one exchange, or none for one reason.
use Rattle.std.proofs.Common.{◌≡◌, ℕ, List, [], refl, sym, ◌∙◌, subst, Result, Ok, Err}
use Rattle.dx_base.specs.Members.{Each}
use Rattle.dx_ports.specs.States.{InputState}
use Rattle.dx_model.specs.declared.rules.Rule.{Rule}
use Rattle.dx_instance.specs.Stored.{TableRows, facts, widths}
use Rattle.dx_schema.specs.Tables.{model_tables, schema_widths}
use Rattle.dx_used.specs.Used.{AgreeOnUsed, Marks, UsesOnly}
use Rattle.dx_used.proofs.UsedLaws.{same_rows, same_solutions, same_universal}
use Rattle.dx_exchange.specs.declared.mode.Mode.{Mode}
use Rattle.dx_exchange.specs.declared.result.Exchange.{Exchange}
use Rattle.dx_exchange.specs.declared.fault.ExFault.{ExFault}
use Rattle.dx_exchange.specs.declared.fault.ExFault.TheVariants as faults
use Rattle.dx_exchange.specs.Exchanging.{HasNoExchange, IsExchange}
use Rattle.dx_stages.specs.declared.stop.Stop.{Stop}
use Rattle.dx_stages.specs.declared.stop.Stop.TheVariants as stops
use Rattle.dx_stages.specs.Stages.{by, saying}
use Rattle.dx_stages.specs.Running.{Gives, with_refusal}
use Rattle.dx_stages.proofs.Running.{ran_out, ran_saying}
use Rattle.clio_accept.specs.declared.mapping.Mapping.{Mapping}
use Rattle.clio_source.specs.declared.fault.SourceRefusal.{SourceRefusal}
use Rattle.clio_source.specs.Agreeing.{RanAgreeing}
use Rattle.dx_used.specs.Passing.{Passes}
use Rattle.clio_source.specs.Source.{SourceRequest, source_left}
use Rattle.clio_source.proofs.Left.{ran_first}
use Rattle.clio_ending.specs.declared.ending.Refusal.{Refusal}
use Rattle.clio_ending.specs.Ending.{source_refusal}
use Rattle.clio_steps.specs.Steps.{Program, exchange_input, named_stage}
use Rattle.clio_steps.proofs.Plans.{rows_widths}

-- ---- from the rows that were read to those of the files

made_for : (P : Program) (mode : Mode) (M : Mapping) (used : Marks) (I J : List TableRows) (e : Exchange) → Each M.rules (UsesOnly used)
    → AgreeOnUsed used (facts I) (facts J) → IsExchange P.apply (exchange_input mode (M, J)) e → IsExchange P.apply (exchange_input mode (M, I)) e
made_for P mode M used I J e uses agree x = record {
  matches = same_rows P.apply used M.rules (facts J) (facts I) e.matches uses (agree.1, agree.0) x.matches;
  within = x.within;
  universal = same_universal P.apply used M.rules (model_tables M.target) (facts J) (facts I) (facts e.target) uses (agree.1, agree.0) x.universal;
  null_map = x.null_map;
  listed = x.listed;
  folded = x.folded;
  by_mode = x.by_mode;
  nulls = x.nulls;
  stays = x.stays;
  widths_are = x.widths_are;
  ascend = x.ascend;
}

none_for : (P : Program) (mode : Mode) (M : Mapping) (used : Marks) (I J : List TableRows) (fault : ExFault) → Each M.rules (UsesOnly used)
    → AgreeOnUsed used (facts I) (facts J) → HasNoExchange P.apply (exchange_input mode (M, J)) fault → HasNoExchange P.apply (exchange_input mode (M, I)) fault
none_for P mode M used I J (faults.Clash c) uses agree x = record {
  matches = x.matches;
  are = same_rows P.apply used M.rules (facts J) (facts I) x.matches uses (agree.1, agree.0) x.are;
  within = x.within;
  clash = x.clash;
  no_solution = λ K s. x.no_solution K (same_solutions P.apply used M.rules (model_tables M.target) (facts I) (facts J) K uses agree s);
}
none_for P mode M used I J (faults.Limit l) uses agree x = record {
  matches = x.matches;
  are = same_rows P.apply used M.rules (facts J) (facts I) x.matches uses (agree.1, agree.0) x.are;
  many = x.many;
  said = x.said;
}
none_for P mode M used I J faults.Memory uses agree x = x

-- what the exchange gives for the rows that were read it gives for those of the files
pub same_exchange : (P : Program) (mode : Mode) (M : Mapping) (used : Marks) (I J : List TableRows) (q : Result Exchange (Stop Refusal))
    → Each M.rules (UsesOnly used) → AgreeOnUsed used (facts I) (facts J) → Gives (by (named_stage P.apply mode)) (M, J) q → Gives (by (named_stage P.apply mode)) (M, I) q
same_exchange P mode M used I J (Ok e) uses agree g = λ c. made_for P mode M used I J e uses agree (g c)
same_exchange P mode M used I J (Err (stops.Refused e)) uses agree g =
    λ c. let k = g c in (k.0, none_for P mode M used I J k.0 uses agree k.1, k.2)
same_exchange P mode M used I J (Err (stops.Failed n)) uses agree g = g
same_exchange P mode M used I J (Err stops.Memory) uses agree g = g

-- ---- the rows

-- the rows that were read, and how many bytes are left; refusals said as those of the run
rows_agree : (passes : Passes) (used : Marks) (w : SourceRequest) (r : Result (List TableRows × ℕ) (Stop SourceRefusal)) (q : List TableRows × ℕ) (old new : InputState) → r ≡ Ok q
    → RanAgreeing used (source_left passes) w r old new → RanAgreeing used (saying source_refusal (source_left passes)) w (Ok q) old new
rows_agree passes used w r q old new is x =
    let h = subst (λ v. RanAgreeing used (source_left passes) w v old new) is x in
    (h.0, h.1, h.2, ran_saying source_refusal (source_left passes) w (Ok (h.0, q.1)) (Ok (h.0, q.1)) old new refl h.3)

no_rows : (passes : Passes) (used : Marks) (w : SourceRequest) (r : Result (List TableRows × ℕ) (Stop SourceRefusal)) (e : Stop SourceRefusal) (k : Stop Refusal) (old new : InputState) → r ≡ Err e
    → ◌≡◌ {A = Result (List TableRows × ℕ) (Stop Refusal)} (Err k) (with_refusal source_refusal (Err e)) → RanAgreeing used (source_left passes) w r old new
    → RanAgreeing used (saying source_refusal (source_left passes)) w (Err k) old new
no_rows passes used w r e k old new is k_is x =
    ran_saying source_refusal (source_left passes) w (Err e) (Err k) old new k_is (subst (λ v. RanAgreeing used (source_left passes) w v old new) is x)

-- what it came to that they were read, and refusals said as those of the run
pub agreeing_said : (passes : Passes) (used : Marks) (w : SourceRequest) (r : Result (List TableRows × ℕ) (Stop SourceRefusal)) (k : Result (List TableRows × ℕ) (Stop Refusal)) (old new : InputState)
    → k ≡ with_refusal source_refusal r → RanAgreeing used (source_left passes) w r old new → RanAgreeing used (saying source_refusal (source_left passes)) w k old new
agreeing_said passes used w (Ok q) k old new is x =
    subst (λ v. RanAgreeing used (saying source_refusal (source_left passes)) w v old new) (sym is) (rows_agree passes used w (Ok q) q old new refl x)
agreeing_said passes used w (Err (stops.Refused e)) k old new is x =
    subst (λ v. RanAgreeing used (saying source_refusal (source_left passes)) w v old new) (sym is)
    (no_rows passes used w (Err (stops.Refused e)) (stops.Refused e) (stops.Refused (source_refusal e)) old new refl refl x)
agreeing_said passes used w (Err (stops.Failed n)) k old new is x =
    subst (λ v. RanAgreeing used (saying source_refusal (source_left passes)) w v old new) (sym is)
    (no_rows passes used w (Err (stops.Failed n)) (stops.Failed n) (stops.Failed n) old new refl refl x)
agreeing_said passes used w (Err stops.Memory) k old new is x =
    subst (λ v. RanAgreeing used (saying source_refusal (source_left passes)) w v old new) (sym is)
    (no_rows passes used w (Err stops.Memory) stops.Memory stops.Memory old new refl refl x)

-- before any file is read memory ran out
pub none_read : (passes : Passes) (R : List Rule) (w : SourceRequest) (told : InputState)
    → (used : Marks) × Each R (UsesOnly used) × RanAgreeing used (saying source_refusal (source_left passes)) w (Err stops.Memory) told told
none_read passes R w told = ([], (λ d m a k. tt), ran_out (saying source_refusal (source_left passes)) w told)

-- the rows that were read have the tables of the schema
pub agreeing_widths : (passes : Passes) (w : SourceRequest) (used : Marks) (q : List TableRows × ℕ) (old new : InputState)
    → RanAgreeing used (saying source_refusal (source_left passes)) w (Ok q) old new → widths q.0 ≡ schema_widths w.schema
agreeing_widths passes w used q old new x =
    sym x.2 ∙ rows_widths passes w x.0 old new (ran_first source_refusal passes w (Ok (x.0, q.1)) old new x.3)
