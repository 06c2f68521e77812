-- There is one reason to refuse an exchange, or there is one, and never both.
use Rattle.std.proofs.Common.{◌≡◌, List, sym, ap, subst, inr, Some, Ok}
use Rattle.std.proofs.lemmas.Option.{same_Some}
use Rattle.dx_ports.specs.States.{InputState}
use Rattle.dx_instance.specs.Stored.{TableRows, widths}
use Rattle.dx_keys.specs.declared.answers.Clash.{Clash}
use Rattle.dx_schema.specs.Forest.{Forest}
use Rattle.dx_schema.specs.Tables.{model_tables, schema_widths}
use Rattle.dx_exchange.specs.declared.result.Exchange.{Exchange}
use Rattle.dx_exchange.specs.declared.mode.Mode.{Mode}
use Rattle.dx_exchange.specs.Exchanging.{ClashesAlike as FaultsAlike, IsExchange, exchanging}
use Rattle.dx_exchange.specs.Laws.{RulesOfInputFit}
use Rattle.dx_exchange.specs.declared.fault.ExFault.{ExFault}
use Rattle.dx_exchange.specs.declared.fault.ExFault.TheVariants as exchange_faults
use Rattle.dx_exchange.proofs.Decided.{exchange_or_none}
use Rattle.dx_stages.specs.Worlds.{World}
use Rattle.dx_stages.specs.Stages.{next, by, over, saying, saying_if}
use Rattle.dx_stages.specs.Laws.{PassesOne, IsDecided}
use Rattle.dx_stages.specs.Running.{Ran}
use Rattle.dx_stages.proofs.Running.{ran_passes}
use Rattle.dx_stages.proofs.Decided.{Any, next_one, next_decided, over_one, over_decided, into_one, into_decided, file_one, file_decided, one_word, saying_decided, saying_if_decided}
use Rattle.clio_accept.specs.declared.mapping.Mapping.{Mapping}
use Rattle.clio_accept.specs.Accepting.{accepting}
use Rattle.clio_accept.specs.Laws.{MappingFits}
use Rattle.clio_accept.proofs.Accepted.{accepted_fits}
use Rattle.clio_accept.proofs.Decided.{accepting_decided, accepting_one}
use Rattle.clio_source.specs.Source.{source_stages}
use Rattle.clio_source.proofs.Decided.{source_decided, source_one}
use Rattle.clio_files.specs.Files.{FitsFiles}
use Rattle.clio_files.specs.Texts.{FitTexts}
use Rattle.clio_steps.specs.declared.texts.Side.{Side}
use Rattle.clio_steps.specs.declared.texts.Side.TheVariants.{First}
use Rattle.clio_ending.specs.declared.ending.Refusal.{Refusal}
use Rattle.clio_ending.specs.Ending.{AreAlike, IsClashRefusal, exchange_refusal, named_clash, source_refusal}
use Rattle.clio_ending.proofs.Alike.{alike, same_alike}
use Rattle.clio_steps.specs.Steps.{MappingAndRows, Program, absent_text, exchange_input, exchanges, mapping_stages, named_stage, rows_stages, target_stages, text_bytes, text_file, text_name, side_refusal, text_stages, too_long, wanted}
use Rattle.clio_steps.proofs.Mappings.{is_small}
use Rattle.clio_steps.proofs.Plans.{files_fit, rules_fit, texts_fit}
use Rattle.clio_steps.proofs.Reasons.{exchanges_have_words, texts_have_words}

-- ---- a mapping text

pub text_one : (P : Program) (side : Side) → PassesOne (text_stages P side)
text_one P side =
    next_one (text_file side) (saying_if (side_refusal side) (accepting P.list P.tests)) (file_one (Unit {0}) (text_name side) text_bytes (absent_text side) too_long) (accepting_one P.list P.tests)

pub text_decided : (P : Program) (side : Side) → IsDecided AreAlike Any (text_stages P side)
text_decided P side =
    next_decided AreAlike Any Any (text_file side) (saying_if (side_refusal side) (accepting P.list P.tests)) (file_one (Unit {0}) (text_name side) text_bytes (absent_text side) too_long) (λ c a b g p. tt)
    (file_decided AreAlike Any (text_name side) text_bytes (absent_text side) too_long alike)
    (saying_if_decided (λ e k. e ≡ k) AreAlike Any (side_refusal side) (accepting P.list P.tests) (λ e k x y is p q. same_alike x y (one_word (side_refusal side) e k x y is p q)) (texts_have_words P side)
    (accepting_decided P.list P.tests))

-- ---- the rows

pub rows_one : (P : Program) → PassesOne (rows_stages P)
rows_one P = into_one (λ (M : Mapping) (I : List TableRows). (M, I)) (over wanted (saying source_refusal (source_stages P.passes)))
    (over_one wanted (saying source_refusal (source_stages P.passes)) (source_one P.passes))

pub rows_decided : (P : Program) (Given : Mapping → Type 0) → IsDecided AreAlike Given (rows_stages P)
rows_decided P Given =
    into_decided AreAlike Given (λ (M : Mapping) (I : List TableRows). (M, I)) (over wanted (saying source_refusal (source_stages P.passes)))
    (over_decided AreAlike Given Any wanted (saying source_refusal (source_stages P.passes)) (λ M g. tt)
    (saying_decided (λ e k. e ≡ k) AreAlike Any source_refusal (source_stages P.passes) (λ e k is. same_alike (source_refusal e) (source_refusal k) (ap source_refusal is)) (source_decided P.passes)))

-- ---- the target

unfoldable pub PairReady : Program → MappingAndRows → Type 0
PairReady P p = MappingFits P.list P.tests p.0

pub target_decided : (P : Program) (mode : Mode) → IsDecided AreAlike (PairReady P) (by (named_stage P.apply mode))
unfolding PairReady
target_decided P mode = record {
  one = λ c p e f r. (asked_decided p.0.source p.0.target).one c (exchange_input mode p) e f (rules_fit P p.0 r);
  never_both = λ c p b e r. (asked_decided p.0.source p.0.target).never_both c (exchange_input mode p) b e (rules_fit P p.0 r);
  either = λ c p r. (asked_decided p.0.source p.0.target).either c (exchange_input mode p) (rules_fit P p.0 r);
}
  where
    clash_said : (target : Forest) (c : Clash) (x : Refusal) → exchange_refusal target (exchange_faults.Clash c) ≡ Some x → IsClashRefusal x
    clash_said target c x p = subst IsClashRefusal (same_Some (named_clash target c) x p) (tt {0})

    faults_alike : (target : Forest) (e k : ExFault) (x y : Refusal) → FaultsAlike e k → exchange_refusal target e ≡ Some x → exchange_refusal target k ≡ Some y → AreAlike x y
    faults_alike target (exchange_faults.Clash c) (exchange_faults.Clash d) x y a p q = inr (clash_said target c x p, clash_said target d y q)
    faults_alike target (exchange_faults.Clash c) (exchange_faults.Limit l) x y a p q = absurd a
    faults_alike target (exchange_faults.Clash c) exchange_faults.Memory x y a p q = absurd a
    faults_alike target (exchange_faults.Limit l) k x y a p q = same_alike x y (one_word (exchange_refusal target) (exchange_faults.Limit l) k x y a p q)
    faults_alike target exchange_faults.Memory k x y a p q = same_alike x y (one_word (exchange_refusal target) exchange_faults.Memory k x y a p q)

    asked_decided : (source target : Forest)
        → IsDecided AreAlike (RulesOfInputFit P.list (model_tables source)) (saying_if (exchange_refusal target) (exchanging P.apply))
    asked_decided source target =
        saying_if_decided FaultsAlike AreAlike (RulesOfInputFit P.list (model_tables source)) (exchange_refusal target) (exchanging P.apply)
        (faults_alike target) (exchanges_have_words P.apply target) (exchange_or_none P.apply P.list (model_tables source))

-- ---- an exchange

FitsList : Program → Mapping → Type 0
FitsList P M = MappingFits P.list P.tests M

pub exchanges_decided : (P : Program) (mode : Mode) → IsDecided AreAlike Any (exchanges P mode)
unfolding FitsList PairReady
exchanges_decided P mode =
    next_decided AreAlike Any (FitsList P) (mapping_stages P) (next (rows_stages P) (target_stages P mode)) (text_one P First)
    (λ c a M g p. accepted_fits P.list P.tests c p.0 M (is_small p.0 p.1.1) p.2) (text_decided P First)
    (next_decided AreAlike (FitsList P) (PairReady P) (rows_stages P) (target_stages P mode) (rows_one P) rows_ready (rows_decided P (FitsList P))
    (into_decided AreAlike (PairReady P) (λ (p : MappingAndRows) (e : Exchange). (p.0, e)) (by (named_stage P.apply mode)) (target_decided P mode)))
  where
    rows_ready : (c : World) (M : Mapping) (p : MappingAndRows) → FitsList P M → (rows_stages P).passes c M p → PairReady P p
    rows_ready c M p h (I, s, is) = subst (PairReady P) (sym is) h

-- what is known of an exchange that was made
pub record IsMade (P : Program) (mode : Mode) (M : Mapping) (e : Exchange) : Type 0 where
  pub fits : MappingFits P.list P.tests M
  pub rows : List TableRows
  pub exchange : IsExchange P.apply (exchange_input mode (M, rows)) e

pub made_in : (P : Program) (mode : Mode) (c : World) (q : Mapping × Exchange) → (exchanges P mode).passes c (tt {0}) q → IsMade P mode q.0 q.1
made_in P mode c q (M, m, (pair, (I, source, pair_is), (x, exchange, q_is))) =
    subst (λ (r : Mapping × Exchange). IsMade P mode r.0 r.1) (sym q_is)
    (subst (λ (r : MappingAndRows). IsMade P mode r.0 x) (sym pair_is) (record {
      fits = accepted_fits P.list P.tests c m.0 M (is_small m.0 m.1.1) m.2;
      rows = I;
      exchange = subst (λ (r : MappingAndRows). IsExchange P.apply (exchange_input mode r) x) pair_is exchange;
    }))

-- an exchange that ran was made
pub made : (P : Program) (mode : Mode) (q : Mapping × Exchange) (old new : InputState) → Ran (exchanges P mode) (tt {0}) (Ok q) old new → IsMade P mode q.0 q.1
made P mode q old new x = let p = ran_passes (exchanges P mode) (tt {0}) q old new x in made_in P mode p.0 q p.1

pub texts_ready : (P : Program) (mode : Mode) (M : Mapping) (e : Exchange) → IsMade P mode M e → FitTexts M.source M.target P.list M.rules
texts_ready P mode M e h = texts_fit P M h.fits

pub files_ready : (P : Program) (mode : Mode) (M : Mapping) (e : Exchange) → IsMade P mode M e → FitsFiles M.rules M.target e
files_ready P mode M e h = files_fit P mode M h.rows e h.fits h.exchange

pub widths_ready : (P : Program) (mode : Mode) (M : Mapping) (e : Exchange) → IsMade P mode M e → widths e.target ≡ schema_widths M.target
widths_ready P mode M e h = (files_ready P mode M e h).widths_are
