-- From the stages of an exchange to what is made of it.
use Rattle.std.proofs.Common.{◌≡◌, ℕ, zero, suc, ◌<◌, ◌≤◌, List, [], ◌∷◌, length, get_or, refl, ◌∙◌, subst, inl, inr, Result, Ok, Err, Option, None, Some, arith}
use Rattle.std.specs.Prelude.{◌==◌, map}
use Rattle.std.proofs.lemmas.Bool.{cases_Bool, eqb-true}
use Rattle.csv.specs.Reading.{strip_bom}
use Rattle.dx_base.specs.Members.{Each, here, there}
use Rattle.dx_base.proofs.Members.{from_append, from_flat_map, from_map, in_at}
use Rattle.dx_ports.specs.States.{InputState}
use Rattle.dx_model.specs.declared.facts.Fact.{Fact}
use Rattle.dx_model.specs.declared.rules.Rule.{Rule}
use Rattle.dx_model.specs.declared.values.NullId.{NullId}
use Rattle.dx_model.specs.Tables.{table_of}
use Rattle.dx_model.specs.Rules.{canonical, exported}
use Rattle.dx_model.specs.Values.{Rows}
use Rattle.dx_tgd.specs.Placed.{FitTuples, NamesPlace}
use Rattle.dx_instance.specs.Stored.{TableRows, facts, widths}
use Rattle.dx_schema.specs.Forest.{Forest, none, set}
use Rattle.dx_schema.specs.Tables.{NumberedSet, TableOf, as_numbers, columns_of, model_tables, numbered_sets, schema_widths, sets_of, table_in, tables_of}
use Rattle.dx_schema.proofs.Valid.{are_tables}
use Rattle.dx_schema_text.specs.Print.{HaveWordNames, AreNames}
use Rattle.dx_tokens.specs.Lexing.{IsWord}
use Rattle.dx_csv.specs.Print.{HasNoMark}
use Rattle.dx_tgd.proofs.CanonicalFacts.{nulls_have_places}
use Rattle.dx_exchange.specs.declared.mode.Mode.{Mode}
use Rattle.dx_exchange.specs.declared.result.Exchange.{Exchange}
use Rattle.dx_exchange.specs.Exchanging.{RulesFitSchemas, IsExchange}
use Rattle.dx_schema.proofs.ModelWidths.{model_widths}
use Rattle.dx_exchange.proofs.Lists.{fit_tuples, one_each}
use Rattle.dx_stages.specs.declared.stop.Stop.{Stop}
use Rattle.dx_stages.specs.declared.stop.Stop.TheVariants as stops
use Rattle.dx_stages.specs.Stages.{Stage, become, by, next, over, saying}
use Rattle.dx_stages.specs.Running.{Ran, Gives, Meets}
use Rattle.dx_stages.specs.Worlds.{World}
use Rattle.dx_stages.proofs.Running.{ran_into, ran_into_stop, ran_memory, ran_next, ran_over, ran_passes, ran_stop, ran_value, silent_apart, fault_of}
use Rattle.clio_accept.specs.declared.mapping.Mapping.{Mapping}
use Rattle.clio_accept.specs.Laws.{MappingFits}
use Rattle.dx_used.specs.Passing.{Passes}
use Rattle.clio_source.specs.Source.{SourceRequest, source_stages}
use Rattle.clio_files.specs.Files.{FitsFiles}
use Rattle.clio_files.specs.Sheets.{rule_of_null, null_texts}
use Rattle.clio_files.specs.Texts.{FitTexts}
use Rattle.clio_ending.specs.declared.ending.Refusal.{Refusal}
use Rattle.clio_ending.specs.Ending.{source_refusal}
use Rattle.clio_steps.specs.Steps.{MappingAndRows, Program, exchange_input, exchanges, mapping_stages, named_stage, rows_stages, target_stages, wanted}
use Rattle.clio_steps.proofs.Names.{apart}
use Rattle.clio_steps.proofs.Words.{not_in_word}

-- ---- no table's text begins with a byte order mark

pub word_unmarked : (w : List ℕ) → IsWord w → strip_bom w ≡ w
unfolding strip_bom
word_unmarked [] h = refl
word_unmarked (a ∷ []) h = refl
word_unmarked (a ∷ b ∷ []) h = refl
word_unmarked (a ∷ b ∷ c ∷ rest) h = elim (cases_Bool (a == 239)) [
  | inl e ↦ absurd (not_in_word 239 (a ∷ b ∷ c ∷ rest) refl h (here (eqb-true a 239 e)))
  | inr n ↦ rw n refl
]

names_unmarked : (columns : List (List ℕ)) → AreNames columns → HasNoMark columns
names_unmarked [] h = absurd h
names_unmarked (c ∷ cs) h = word_unmarked c h.0

set_unmarked : (s : NumberedSet) → AreNames s.label.columns → HasNoMark (columns_of s)
unfolding strip_bom
set_unmarked s names = of s.inner s.parent
  where
    of : (inner : Forest) (parent : Option ℕ) → HasNoMark (columns_of (record { label = s.label; number = s.number; parent = parent; inner = inner }))
    of (set l i r) parent = refl
    of none (Some p) = refl
    of none None = names_unmarked s.label.columns names

placed_unmarked : (parent : Option ℕ) (n : ℕ) (f : Forest) → HaveWordNames f → Each (numbered_sets parent n f) (λ s. HasNoMark (columns_of s))
placed_unmarked parent n none h s m = elim m [ ]
placed_unmarked parent n (set l inner rest) h s (here e) = subst (λ t. HasNoMark (columns_of t)) e (set_unmarked (record { label = l; number = n; parent = parent; inner = inner }) h.0.columns)
placed_unmarked parent n (set l inner rest) h s (there m) = elim (from_append (numbered_sets (Some n) _ inner) m) [
  | inl k ↦ placed_unmarked (Some n) _ inner h.1 s k
  | inr k ↦ placed_unmarked parent _ rest h.2 s k
]

pub no_marks : (f : Forest) → HaveWordNames f → Each (tables_of f) (λ t. HasNoMark t.columns)
no_marks f h t m =
    let p = from_map (table_in (sets_of f)) (sets_of f) m in
    subst (λ (u : TableOf). HasNoMark u.columns) p.2 (placed_unmarked None 0 f h p.0 p.1)

-- ---- the exchange

pub rules_fit : (P : Program) (M : Mapping) → MappingFits P.list P.tests M → RulesFitSchemas P.list M.rules (model_tables M.source) (model_tables M.target)
rules_fit P M h = let few = h.few in record { few = omega (arith, few); listed = h.listed; fit = h.fit; closed = h.closed }

pub texts_fit : (P : Program) (M : Mapping) → MappingFits P.list P.tests M → FitTexts M.source M.target P.list M.rules
texts_fit P M h = let few = h.few in record { few = omega (arith, few); fit = h.fit; listed = h.listed }

-- the tuple of the place of a null has a text for each exported variable of its rule
tuple_long : (R : List Rule) (rows : Rows) (n : NullId) → FitTuples R rows → length rows ≡ length R → NamesPlace R rows n
    → length (null_texts rows n) ≡ length (exported (rule_of_null R n))
tuple_long R rows n fit one p = at R rows n.rule fit one p.rule p.place
  where
    at : (R : List Rule) (rows : Rows) (i : ℕ) → FitTuples R rows → length rows ≡ length R → i < length R
        → n.row < length (get_or rows i [])
        → length (get_or (get_or rows i []) n.row []) ≡ length (exported (get_or R i (record { premise = []; derived = []; conclusion = [] })))
    at [] rows i fit one h p = absurd (omega (arith, h))
    at (d ∷ R) [] i fit one h p = absurd (omega (arith, one))
    at (d ∷ R) (ts ∷ rows) zero fit one h p = fit.0 _ (in_at ts n.row [] p)
    at (d ∷ R) (ts ∷ rows) (suc i) fit one h p = at R rows i fit.1 (omega (arith, one)) (omega (arith, h)) p

pub files_fit : (P : Program) (mode : Mode) (M : Mapping) (I : List TableRows) (e : Exchange) → MappingFits P.list P.tests M → IsExchange P.apply (exchange_input mode (M, I)) e → FitsFiles M.rules M.target e
files_fit P mode M I e h x = record {
  widths_are = x.widths_are ∙ model_widths M.target;
  no_marks = no_marks M.target h.target_names;
  places = λ n m.
      let w = from_flat_map (λ (f : Fact). f.row) (canonical 0 M.rules e.matches) (x.nulls n m) in
      let p = nulls_have_places M.rules e.matches w.0 n w.1 w.2 in
      let fit = fit_tuples P.apply M.rules (facts I) e.matches x.matches in
      let one = one_each P.apply M.rules (facts I) e.matches x.matches in record {
        place = p;
        wide = tuple_long M.rules e.matches n fit one p;
      };
}

-- each table has a column
pub some_column : (ts : List TableOf) (n : ℕ) → Each ts (λ t. 1 ≤ length t.columns) → n < length (map as_numbers ts)
    → 1 ≤ (table_of (map as_numbers ts) n).width
some_column [] n some k = absurd (omega (arith, k))
some_column (t ∷ ts) zero some k = some t (here refl)
some_column (t ∷ ts) (suc n) some k = some_column ts n (λ u i. some u (there i)) (omega (arith, k))

-- each fact of the target has a value
pub facts_wide : (P : Program) (mode : Mode) (M : Mapping) (I : List TableRows) (e : Exchange) → MappingFits P.list P.tests M → IsExchange P.apply (exchange_input mode (M, I)) e → Each (facts e.target) (λ f. 1 ≤ length f.row)
facts_wide P mode M I e h x f m =
    let fits = x.universal.solution.fits f m in
    let w = some_column (tables_of M.target) f.table (λ t k. ((are_tables M.target h.target.form).each_table t k).some_column) fits.table in
    let k = fits.width in omega (arith, w, k)

-- ---- an exchange

-- if the mapping text stops the run, it stops the exchange
pub mapping_stops : (P : Program) (mode : Mode) (e : Stop Refusal) (old new : InputState) → Ran (mapping_stages P) (tt {0}) (Err e) old new
    → Ran (exchanges P mode) (tt {0}) (Err e) old new
mapping_stops P mode e old new x = ran_stop (mapping_stages P) (next (rows_stages P) (target_stages P mode)) (tt {0}) e old new x

beside : Mapping → List TableRows → MappingAndRows
beside M I = (M, I)

pub rows_stop : (P : Program) (mode : Mode) (M : Mapping) (e : Stop Refusal) (old mid new : InputState) → Ran (mapping_stages P) (tt {0}) (Ok M) old mid
    → Ran (saying source_refusal (source_stages P.passes)) (wanted M) (Err e) mid new → Ran (exchanges P mode) (tt {0}) (Err e) old new
unfolding beside
rows_stop P mode M e old mid new x y =
    ran_next (mapping_stages P) (next (rows_stages P) (target_stages P mode)) (tt {0}) M (Err e) old mid new (apart P mode) x
    (ran_stop (rows_stages P) (target_stages P mode) M e mid new
    (ran_into_stop beside (over wanted (saying source_refusal (source_stages P.passes))) M e mid new
    (ran_over wanted (saying source_refusal (source_stages P.passes)) M (Err e) mid new y)))

-- what the exchange of the rows that were read answers
pub answered : (P : Program) (mode : Mode) (M : Mapping) (I : List TableRows) (q : Result (Mapping × Exchange) (Stop Refusal)) (old mid new : InputState)
    → Ran (mapping_stages P) (tt {0}) (Ok M) old mid → Ran (saying source_refusal (source_stages P.passes)) (wanted M) (Ok I) mid new
    → Gives (target_stages P mode) (M, I) q → Ran (exchanges P mode) (tt {0}) q old new
unfolding beside
answered P mode M I q old mid new x y g =
    ran_next (mapping_stages P) (next (rows_stages P) (target_stages P mode)) (tt {0}) M q old mid new (apart P mode) x
    (ran_next (rows_stages P) (target_stages P mode) M (M, I) q mid new new (silent_apart (rows_stages P) (target_stages P mode) (λ d b n h. h))
    (ran_into beside (over wanted (saying source_refusal (source_stages P.passes))) M I mid new
    (ran_over wanted (saying source_refusal (source_stages P.passes)) M (Ok I) mid new y))
    (ran_value (target_stages P mode) (M, I) q new g))

-- an exchange that was refused
pub target_stops : (P : Program) (mode : Mode) (p : MappingAndRows) (e : Stop Refusal) → Gives (by (named_stage P.apply mode)) p (Err e)
    → Gives (target_stages P mode) p (Err e)
target_stops P mode p (stops.Refused e) g = g
target_stops P mode p (stops.Failed n) g = g
target_stops P mode p stops.Memory g = g

-- an exchange that was made
pub target_made : (P : Program) (mode : Mode) (p : MappingAndRows) (e : Exchange) → Gives (by (named_stage P.apply mode)) p (Ok e)
    → Gives (target_stages P mode) p (Ok (p.0, e))
target_made P mode p e g = λ c. (e, g c, refl)

-- ---- what becomes of a result

pub ran_become_stop : {E A B C : Type 0} (R : A → B → C → Type 0) (s : Stage E A B) (a : A) (e : Stop E) (old new : InputState) → Ran s a (Err e) old new
    → Ran (become R s) a (Err e) old new
ran_become_stop {E} {A} {B} {C} R s a e old new x = record {
  kept = x.kept;
  counted = x.counted;
  failed = fault_of B C old new e x.failed;
  finds = record {
    found = x.finds.found;
    told = x.finds.told;
    once = x.finds.once;
    asked = λ c g n h. x.finds.asked c g n h;
    meets = λ c g. meets e c (x.finds.meets c g);
  };
  answered = x.answered;
}
  where
    meets : (e : Stop E) (c : World) → Meets s c a (Err e) → Meets (become R s) c a (Err e)
    meets (stops.Refused e) c m = m
    meets (stops.Failed n) c m = m
    meets stops.Memory c m = tt

-- what memory could not make of a result
pub ran_become_none : {E A B C : Type 0} (R : A → B → C → Type 0) (s : Stage E A B) (a : A) (b : B) (old new : InputState) → Ran s a (Ok b) old new
    → Ran (become R s) a (Err stops.Memory) old new
ran_become_none R s a b old new x = ran_become_stop R s a stops.Memory old new (ran_memory s a b old new x)

-- ---- the rows

-- the rows that were read have the tables of the schema
pub rows_widths : (passes : Passes) (w : SourceRequest) (I : List TableRows) (old new : InputState) → Ran (saying source_refusal (source_stages passes)) w (Ok I) old new → widths I ≡ schema_widths w.schema
rows_widths passes w I old new x = let p = ran_passes (saying source_refusal (source_stages passes)) w I old new x in p.1.2.widths_are
