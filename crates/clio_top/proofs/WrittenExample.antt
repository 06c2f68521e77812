-- The first worked example, to its end: what an exchange of it writes, in plain mode, is exactly these five files and this text; in core
-- mode it has the same target. No clash is told of it, and no other command is done by its words.
use Rattle.std.proofs.Common.{◌≡◌, ◌⊎◌, ℕ, suc, zero, List, [], ◌∷◌, ◌++◌, get_or, map, inl, inr, refl, sym, ◌∙◌, ap, subst, arith, Some, Bool, false}
use Rattle.std.specs.Prelude.{codes, length}
use Rattle.std.specs.Fmt.{digits}
use Rattle.std.proofs.lemmas.Option.{same_Some}
use Rattle.csv.specs.Machine.{next_record}
use Rattle.csv.specs.Reading.{records_from, strip_bom}
use Rattle.csv.specs.Writing.{fields_text, is_blank}
use Rattle.dx_base.specs.Entries.{Entry}
use Rattle.dx_base.specs.Members.{◌∈◌, ◌⊆◌, ◌≈◌, Each, here, there}
use Rattle.dx_base.specs.Texts.{Text}
use Rattle.dx_model.specs.declared.facts.Fact.{Fact}
use Rattle.dx_model.specs.declared.facts.NullPair.{NullPair}
use Rattle.dx_model.specs.declared.values.NullId.{NullId}
use Rattle.dx_model.specs.declared.values.Value.{Value}
use Rattle.dx_model.specs.declared.values.Value.TheVariants.{Const, Null}
use Rattle.dx_model.specs.Chase.{IsForcedMap}
use Rattle.dx_model.specs.Instances.{IsNullMap, given, image, values}
use Rattle.dx_model.specs.Rules.{canonical}
use Rattle.dx_model.specs.Solutions.{IsSolution}
use Rattle.dx_model.specs.Tables.{FactFits, IsKeyed, Table, cell}
use Rattle.std.specs.declared.cmp.Ordering.TheVariants.{Less}
use Rattle.dx_model.specs.Values.{NullsAscend, Rows, RowsAscend, null_cmp, row_cmp}
use Rattle.dx_model.proofs.Ascending.{one_ascending, one_fact_list}
use Rattle.dx_model.proofs.ByMembers.{keyed_map_is_empty, no_keys_hold}
use Rattle.dx_model.proofs.Maps.{same_null-refl}
use Rattle.dx_model.proofs.OneMap.{one_map}
use Rattle.dx_model.proofs.Orders.{null_total}
use Rattle.dx_model.proofs.RowsExist.{rows_of_all}
use Rattle.dx_instance.specs.NullMaps.{pairs_of}
use Rattle.dx_instance.specs.Stored.{TableRows, facts, rows_of, widths}
use Rattle.dx_instance.proofs.LawFacts.{sorted_facts}
use Rattle.dx_schema.specs.Forest.{Forest}
use Rattle.dx_schema.specs.Tables.{model_tables, tables_of}
use Rattle.dx_keys.specs.declared.answers.Clash.{Clash}
use Rattle.dx_exchange.specs.declared.mode.Mode.{Mode}
use Rattle.dx_exchange.specs.declared.mode.Mode.TheVariants.{Core, Plain}
use Rattle.dx_exchange.specs.declared.result.Exchange.{Exchange}
use Rattle.dx_exchange.specs.Exchanging.{IsCoreMode, IsExchange}
use Rattle.dx_judge.specs.declared.verdict.Verdict.{Verdict}
use Rattle.dx_compare.specs.declared.comparing.Comparison.{Comparison}
use Rattle.dx_ports.specs.States.{OutputState}
use Rattle.dx_stages.specs.Ending.{WroteFirst}
use Rattle.dx_stages.specs.Worlds.{World}
use Rattle.clio_accept.specs.declared.mapping.Mapping.{Mapping}
use Rattle.clio_files.specs.Files.{AreFiles, AreTableFiles, contents_of, files_of, summary_of}
use Rattle.clio_files.specs.Nested.{AreRootFiles}
use Rattle.clio_files.specs.Sheets.{AreTargetNulls, PrintedFile, file_of, fold_sheet, nulls_sheet}
use Rattle.clio_files.specs.Texts.{texts_told}
use Rattle.clio_files.proofs.OneList.{table_files_are_one}
use Rattle.clio_ending.specs.declared.ending.Answers.{Answers}
use Rattle.clio_ending.specs.declared.ending.Done.{Done}
use Rattle.clio_ending.specs.declared.ending.Done.TheVariants.{Answered, Compared, Demo, Exchanged, Judged, Shown}
use Rattle.clio_ending.specs.declared.ending.Ending.{Ending}
use Rattle.clio_ending.specs.declared.ending.Ending.TheVariants as endings
use Rattle.clio_ending.specs.declared.ending.Refusal.TheVariants.{Usage}
use Rattle.clio_ending.specs.Ending.{refusal_ending, status_of}
use Rattle.clio_answer.specs.Outcomes.{HasFewAnswers, HasQueryIn}
use Rattle.clio_steps.specs.declared.texts.Side.TheVariants.{First}
use Rattle.clio_steps.specs.Steps.{MappingAndRows, Program, exchange_input}
use Rattle.clio_steps.specs.Outcomes.{HasNoSolutionIn, HasSolutionIn, IsClashIn, ReadIn, Writing, wrote_all, wrote_first}
use Rattle.clio_steps.proofs.Spine.{once_in, one_read}
use Rattle.clio_top.specs.declared.command.Command.{Command}
use Rattle.clio_top.specs.declared.command.Command.TheVariants.{Answering, Comparing, Demonstrating, Exchanging, Judging, Showing}
use Rattle.clio_top.specs.Completing.{Completes, CompletesDemo, HasDone, HasNoFault, HasPlanFor}
use Rattle.clio_top.specs.Commands.{run_stages}
use Rattle.clio_top.specs.Demo.{demo_text, demo_world}
use Rattle.clio_top.specs.Leaving.{Leaves}
use Rattle.clio_top.specs.Outcomes.{IsDemoIn, IsShownIn, WrittenIn}
use Rattle.clio_top.specs.Promises.{AsAsked, IsAnswered, IsClashOf, IsCompared, IsDemo, IsExchanged, IsJudged, IsShown}
use Rattle.clio_top.specs.SmallWorld.{SmallIsWritten, small_files, small_summary}
use Rattle.clio_top.specs.Words.{Word, says}
use Rattle.clio_top.proofs.Asked.{plan_asked}
use Rattle.clio_top.proofs.Examples.{are_rows, emps, has_solution, is_accepted, is_source, mapping, person_determinations, persons, rows, rule, solution, solves, tuples, world}

abbrev exchange : List Word
exchange = codes "exchange" ∷ []

-- ---- the target

abbrev null : ℕ → NullId
null place = record { rule = 0; var = 0; row = place }

abbrev target_rows : List (List Value)
target_rows = (Const (codes "ann") ∷ Null (null 0) ∷ []) ∷ (Const (codes "bob") ∷ Null (null 1) ∷ []) ∷ []

abbrev target : List TableRows
target = record { width = 2; rows = target_rows } ∷ []

-- the canonical instance, which is what stands in the target
abbrev made : List Fact
made = canonical 0 (rule ∷ []) (tuples ∷ [])

abbrev schema : List Table
schema = model_tables persons

made_is_keyed : IsKeyed schema made
made_is_keyed = record { fits = λ f m. fits f m; keys = no_keys_hold schema made (λ f m. person_determinations f.table) }
  where
    fits : (f : Fact) → f ∈ made → FactFits schema f
    fits f (here e) = subst (FactFits schema) e (record { table = omega arith; width = refl })
    fits f (there (here e)) = subst (FactFits schema) e (record { table = omega arith; width = refl })
    fits f (there (there m)) = elim m [ ]

target_ascends : (t : ℕ) → RowsAscend (rows_of target t)
target_ascends zero = ((λ x m. less x m), ((λ x m. elim m [ ]), tt))
  where
    less : (x : List Value) → x ∈ ((Const (codes "bob") ∷ Null (null 1) ∷ []) ∷ []) → row_cmp (Const (codes "ann") ∷ Null (null 0) ∷ []) x ≡ Less
    less x (here e) = subst (λ r. row_cmp (Const (codes "ann") ∷ Null (null 0) ∷ []) r ≡ Less) e refl
    less x (there m) = elim m [ ]
target_ascends (suc t) = tt

-- no key forces anything
lists_nothing : (m : List NullPair) → IsForcedMap schema made m → m ≡ []
lists_nothing [] f = refl
lists_nothing (p ∷ ps) f =
    let stays : given (p ∷ ps) p.null ≡ Null p.null = one_map schema made (p ∷ ps) [] f (keyed_map_is_empty schema made made_is_keyed) p.null (f.here_alone p (here refl)) in
    let first : given (p ∷ ps) p.null ≡ p.value = rw (same_null-refl p.null) refl in
    absurd (f.null_map.0 (sym first ∙ stays))

-- rows from their facts
abbrev rows_in : List Fact → List (List Value)
rows_in fs = map (λ (f : Fact). f.row) fs

rows_back : (rs : List (List Value)) → rows_in (map (λ (row : List Value). record { table = 0; row = row }) rs ++ []) ≡ rs
rows_back [] = refl
rows_back (r ∷ rs) = ap (λ xs. r ∷ xs) (rows_back rs)

target_of : (T : List TableRows) → widths T ≡ 2 ∷ [] → facts T ≡ made → T ≡ target
target_of [] w f = absurd (cc w)
target_of (t ∷ []) w f =
    let wide : t.width ≡ 2 = ap (λ ws. get_or ws 0 0) w in
    let is : t.rows ≡ target_rows = sym (rows_back t.rows) ∙ ap rows_in f in
    (λ i. record { width = wide i; rows = is i } ∷ [])
target_of (t ∷ u ∷ T) w f = absurd (cc w)

module _ (P : Program) (e : Exchange) (x : IsExchange P.apply (exchange_input Plain (mapping, rows)) e) where
  matches_are : e.matches ≡ tuples ∷ []
  matches_are = (rows_of_all P.apply (rule ∷ []) (facts rows) e.matches (tuples ∷ []) x.matches (are_rows P.apply, tt)).0

  fold_is_empty : pairs_of e.fold ≡ []
  fold_is_empty = lists_nothing (pairs_of e.fold) (subst (λ (r : Rows). IsForcedMap schema (canonical 0 (rule ∷ []) r) (pairs_of e.fold)) matches_are x.by_mode)

  facts_are : facts e.target ≡ made
  facts_are = one_fact_list (facts e.target) made (sorted_facts e.target x.ascend) (sorted_facts target target_ascends) (same.1, same.0)
    where
      of_matches : image (pairs_of e.fold) made ≈ facts e.target
      of_matches = subst (λ (r : Rows). image (pairs_of e.fold) (canonical 0 (rule ∷ []) r) ≈ facts e.target) matches_are x.folded

      same : made ≈ facts e.target
      same = subst (λ (ps : List NullPair). image ps made ≈ facts e.target) fold_is_empty of_matches

  target_is : e.target ≡ target
  target_is = target_of e.target x.widths_are facts_are

-- ---- in core mode it is the same target, with a fold that lists nothing

abbrev person_of : Text → Value → Fact
person_of name phone = record { table = 0; row = Const name ∷ phone ∷ [] }

byte_of : Value → ℕ
byte_of (Const (b ∷ bs)) = b
byte_of _ = 0

abbrev name_byte : Fact → ℕ
name_byte f = byte_of (cell f.row 0)

module _ (fold : List NullPair) (stay : (f : Fact) → f ∈ image fold made → f ∈ made) where
  first_stays : given fold (null 0) ≡ Null (null 0)
  unfolding byte_of
  first_stays = of (stay (person_of (codes "ann") (given fold (null 0))) (here refl))
    where
      of : person_of (codes "ann") (given fold (null 0)) ∈ made → given fold (null 0) ≡ Null (null 0)
      of (here e) = sym (ap (λ (f : Fact). cell f.row 1) e)
      of (there (here e)) = let b : 98 ≡ 97 = ap name_byte e in absurd (omega (arith, b))
      of (there (there m)) = elim m [ ]

  second_stays : given fold (null 1) ≡ Null (null 1)
  unfolding byte_of
  second_stays = of (stay (person_of (codes "bob") (given fold (null 1))) (there (here refl)))
    where
      of : person_of (codes "bob") (given fold (null 1)) ∈ made → given fold (null 1) ≡ Null (null 1)
      of (here e) = let b : 97 ≡ 98 = ap name_byte e in absurd (omega (arith, b))
      of (there (here e)) = sym (ap (λ (f : Fact). cell f.row 1) e)
      of (there (there m)) = elim m [ ]

  each_stays : (n : NullId) → Null n ∈ values made → given fold n ≡ Null n
  each_stays n (here e) = absurd (cc e)
  each_stays n (there (here e)) = let same : null 0 ≡ n = cc e in subst (λ k. given fold k ≡ Null k) same first_stays
  each_stays n (there (there (here e))) = absurd (cc e)
  each_stays n (there (there (there (here e)))) = let same : null 1 ≡ n = cc e in subst (λ k. given fold k ≡ Null k) same second_stays
  each_stays n (there (there (there (there m)))) = elim m [ ]

moves_nothing : (m : List NullPair) → IsNullMap m → Each m (λ p. Null p.null ∈ values made) → ((n : NullId) → Null n ∈ values made → given m n ≡ Null n) → m ≡ []
moves_nothing [] i l k = refl
moves_nothing (p ∷ ps) i l k =
    let first : given (p ∷ ps) p.null ≡ p.value = rw (same_null-refl p.null) refl in absurd (i.0 (sym first ∙ k p.null (l p (here refl))))

module _ (P : Program) (e : Exchange) (x : IsExchange P.apply (exchange_input Core (mapping, rows)) e) where
  core_matches : e.matches ≡ tuples ∷ []
  core_matches = (rows_of_all P.apply (rule ∷ []) (facts rows) e.matches (tuples ∷ []) x.matches (are_rows P.apply, tt)).0

  by_core : IsCoreMode schema (rule ∷ []) (tuples ∷ []) (pairs_of e.fold) (facts e.target)
  by_core = subst (λ (r : Rows). IsCoreMode schema (rule ∷ []) r (pairs_of e.fold) (facts e.target)) core_matches x.by_mode

  core_inside : facts e.target ⊆ made
  core_inside = subst (λ (m : List NullPair). facts e.target ⊆ image m made) (lists_nothing by_core.key_map by_core.forced) by_core.inside

  core_onto : image (pairs_of e.fold) made ⊆ facts e.target
  core_onto = subst (λ (r : Rows). image (pairs_of e.fold) (canonical 0 (rule ∷ []) r) ⊆ facts e.target) core_matches x.folded.0

  core_fold : pairs_of e.fold ≡ []
  core_fold =
      moves_nothing (pairs_of e.fold) x.null_map (subst (λ (r : Rows). Each (pairs_of e.fold) (λ p. Null p.null ∈ values (canonical 0 (rule ∷ []) r))) core_matches x.listed)
      (each_stays (pairs_of e.fold) (λ f m. core_inside f (core_onto f m)))

  core_target : e.target ≡ target
  core_target =
      target_of e.target x.widths_are
      (one_fact_list (facts e.target) made (sorted_facts e.target x.ascend) (sorted_facts target target_ascends) (core_inside, subst (λ (ps : List NullPair). image ps made ⊆ facts e.target) core_fold core_onto))

-- ---- the files

abbrev person_file : PrintedFile
person_file = record { name = codes "person.csv"; bytes = codes "name,phone\nann,?0.0.0\nbob,?0.0.1\n"; count = 2 }

is_person_file : AreTableFiles [] 0 (tables_of persons) target (person_file ∷ [])
unfolding records_from next_record strip_bom digits fields_text is_blank
is_person_file =
    (record { name = refl; bytes = record { sorted = target_rows; ascend = target_ascends 0; kept = λ r m. m; only = λ r m. m; is = refl; reads = refl }; count = refl }, tt)

abbrev nulls : List NullId
nulls = null 0 ∷ null 1 ∷ []

nulls_ascend : NullsAscend nulls
nulls_ascend = ((λ n m. less n m), ((λ n m. elim m [ ]), tt))
  where
    less : (n : NullId) → n ∈ (null 1 ∷ []) → null_cmp (null 0) n ≡ Less
    less n (here e) = subst (λ k. null_cmp (null 0) k ≡ Less) e refl
    less n (there m) = elim m [ ]

nulls_of : (ns : List NullId) → AreTargetNulls made ns → ns ≡ nulls
nulls_of ns a = one_ascending null_cmp null_total ns nulls a.ascend nulls_ascend (λ n m. among n ((a.exact n).0 m)) (λ n m. (a.exact n).1 (stands n m))
  where
    among : (n : NullId) → Null n ∈ values made → n ∈ nulls
    among n (here e) = absurd (cc e)
    among n (there (here e)) = here (cc e)
    among n (there (there (here e))) = absurd (cc e)
    among n (there (there (there (here e)))) = there (here (cc e))
    among n (there (there (there (there m)))) = elim m [ ]

    stands : (n : NullId) → n ∈ nulls → Null n ∈ values made
    stands n (here e) = there (here (ap Null e))
    stands n (there (here e)) = there (there (there (here (ap Null e))))
    stands n (there (there m)) = elim m [ ]

pub none_nested : (sets : Forest) (T : List TableRows) (fs : List PrintedFile) → AreRootFiles sets T [] fs → fs ≡ []
none_nested sets T [] d = refl
none_nested sets T (f ∷ fs) d = absurd d

module _ (P : Program) (Wrote : Writing) where
  -- the files of these parts, which stand in this order
  abbrev listed : Rows → List NullPair → List NullId → List PrintedFile → List PrintedFile → List PrintedFile
  listed r fold ns tables documents =
      texts_told emps persons P.list Plain (rule ∷ []) ++ (tables ++ file_of (nulls_sheet (rule ∷ []) r ns) ∷ file_of (fold_sheet fold) ∷ documents)

  files_are : files_of (listed (tuples ∷ []) [] nulls (person_file ∷ []) []) ≡ small_files
  unfolding digits fields_text is_blank
  files_are = refl

  summary_is : summary_of (listed (tuples ∷ []) [] nulls (person_file ∷ []) []) ≡ small_summary
  unfolding digits
  summary_is = refl

  list_of : (e : Exchange) → IsExchange P.apply (exchange_input Plain (mapping, rows)) e → (files : List PrintedFile)
      → AreFiles emps persons P.list Plain false (rule ∷ []) e files → files ≡ listed (tuples ∷ []) [] nulls (person_file ∷ []) []
  list_of e x files a =
      let tables = table_files_are_one [] 0 (tables_of persons) target a.tables (person_file ∷ []) (subst (λ (T : List TableRows). AreTableFiles [] 0 (tables_of persons) T a.tables) (target_is P e x) a.tables_are) is_person_file in
      let ns = nulls_of a.nulls (subst (λ (A : List Fact). AreTargetNulls A a.nulls) (facts_are P e x) a.nulls_are) in
      let documents = none_nested persons e.target a.documents a.documents_are in
      a.is ∙ ap (λ (r : Rows). listed r (pairs_of e.fold) a.nulls a.tables a.documents) (matches_are P e x)
      ∙ ap (λ (ps : List NullPair). listed (tuples ∷ []) ps a.nulls a.tables a.documents) (fold_is_empty P e x)
      ∙ ap (λ (ks : List NullId). listed (tuples ∷ []) [] ks a.tables a.documents) ns
      ∙ ap (λ (ts : List PrintedFile). listed (tuples ∷ []) [] nulls ts a.documents) tables
      ∙ ap (λ (ds : List PrintedFile). listed (tuples ∷ []) [] nulls (person_file ∷ []) ds) documents

  written_by : (e : Exchange) → IsExchange P.apply (exchange_input Plain (mapping, rows)) e → (files : List PrintedFile)
      → AreFiles emps persons P.list Plain false (rule ∷ []) e files → Wrote (files_of files) (summary_of files) → Wrote small_files small_summary
  written_by e x files a w =
      let is = list_of e x files a in
      subst (λ (t : Text). Wrote small_files t) (ap summary_of is ∙ summary_is)
      (subst (λ (fs : List Entry). Wrote fs (summary_of files)) (ap files_of is ∙ files_are) w)

-- ---- of the words, the text and the rows

-- what is accepted and read
is_read : (P : Program) → ReadIn P world mapping rows
is_read P = record { accepted = is_accepted P; source = is_source P }

mode_in : Command → Mode
mode_in (Exchanging mode nested) = mode
mode_in (Showing mode) = mode
mode_in _ = Plain

nested_in : Command → Bool
nested_in (Exchanging mode nested) = nested
nested_in _ = false

-- the one word asks for plain mode, and for no documents
pub plain_alone : (mode : Mode) (nested : Bool) → says exchange ≡ Some (Exchanging mode nested) → (Plain ≡ mode) × (false ≡ nested)
unfolding mode_in nested_in
plain_alone mode nested w =
    let c : Exchanging Plain false ≡ Exchanging mode nested = same_Some (Exchanging Plain false) (Exchanging mode nested) w in (ap mode_in c, ap nested_in c)

done_in : (P : Program) (e : Exchange) (Wrote : Writing) → WrittenIn P Plain false world e Wrote
    → Wrote small_files small_summary
done_in P e Wrote d =
    let is = one_read P world (d.mapping, d.rows) (mapping, rows) d.exchanged.matched.read (is_read P) in
    let x = subst (λ (p : MappingAndRows). IsExchange P.apply (exchange_input Plain p) e) is d.exchanged.exchange in
    let files = subst (λ (p : MappingAndRows). AreFiles p.0.source p.0.target P.list Plain false p.0.rules e d.files) is
    d.are in
    written_by P Wrote e x d.files files d.written

pub written : (P : Program) (e : Exchange) (Wrote : Writing) → IsExchanged P world exchange e Wrote → Wrote small_files small_summary
written P e Wrote (mode, nested, w, d) =
    let plain = plain_alone mode nested w in
    let of_mode = subst (λ (m : Mode). WrittenIn P m nested world e Wrote) (sym plain.0) d in
    done_in P e Wrote (subst (λ (b : Bool). WrittenIn P Plain b world e Wrote) (sym plain.1) of_mode)

pub small_is_written : SmallIsWritten
small_is_written P e before after d = written P e (wrote_all before after) d

-- to show is to say its rule and the script of it, and to write nothing
abbrev pub small_texts : Text
small_texts =
    codes "rule emp(x0) -> person(x0, y0);\n"
    ++ (codes "CREATE TABLE target.\"person\" (\"name\" TEXT, \"phone\" TEXT);\n"
    ++ (codes "CREATE TABLE m0 AS SELECT DISTINCT a0.\"name\" AS c0 FROM source.\"emp\" AS a0;\n"
    ++ codes "INSERT INTO target.\"person\" SELECT m.c0, SKOLEM(0, 0, m.place) FROM m0 AS m;\n"))

texts_are : (P : Program) → contents_of (texts_told emps persons P.list Plain (rule ∷ [])) ≡ small_texts
unfolding digits
texts_are P = refl

pub shown : (P : Program) (Wrote : Writing) → IsShown P world (codes "show" ∷ []) Wrote → Wrote [] small_texts
unfolding mode_in
shown P Wrote (mode, w, d) =
    let c : Showing Plain ≡ Showing mode = same_Some (Showing Plain) (Showing mode) w in
    let plain = subst (λ (m : Mode). IsShownIn P m world Wrote) (sym (ap mode_in c)) d in
    let is = (once_in P world).mapping First plain.mapping mapping plain.accepted (is_accepted P) in
    subst (λ (t : Text). Wrote [] t) (texts_are P)
    (subst (λ (M : Mapping). Wrote [] (contents_of (texts_told M.source M.target P.list Plain M.rules))) is plain.written)

-- ---- what isn't so

-- there is no clash
no_clash_in : (P : Program) (mode : Mode) (k : Clash) (table : Text) (key : List Text) (column : Text)
    → ¬ (IsClashIn P mode world k table key column)
no_clash_in P mode k table key column h =
    let is = one_read P world (h.mapping, h.rows) (mapping, rows) h.matched.read (is_read P) in
    let none = subst
    (λ (p : MappingAndRows). ¬ (IsSolution P.apply p.0.rules (model_tables p.0.target) (facts p.1) solution)) is
    (h.clash.no_solution solution) in
    none (solves P.apply)

pub no_clash : (P : Program) (k : Clash) (table : Text) (key : List Text) (column : Text) → ¬ (IsClashOf P world exchange k table key column)
no_clash P k table key column (inl (mode, nested, w, h)) = no_clash_in P mode k table key column h
no_clash P k table key column (inr (inl (number, mode, w, h))) = absurd (cc (same_Some (Exchanging Plain false) (Demonstrating number mode) w))
no_clash P k table key column (inr (inr (w, h))) = absurd (cc (same_Some (Exchanging Plain false) Answering w))

-- nor of answers to a query
no_clash_of_answers : (P : Program) (k : Clash) (table : Text) (key : List Text) (column : Text) → ¬ (IsClashOf P world (codes "answer" ∷ []) k table key column)
no_clash_of_answers P k table key column (inl (mode, nested, w, h)) = absurd (cc (same_Some Answering (Exchanging mode nested) w))
no_clash_of_answers P k table key column (inr (inl (number, mode, w, h))) = absurd (cc (same_Some Answering (Demonstrating number mode) w))
no_clash_of_answers P k table key column (inr (inr (w, h))) = no_clash_in P Plain k table key column h

-- the words ask for nothing else
module _ (P : Program) (c : World) (Wrote : Writing) where
  not_shown : ¬ (IsShown P c exchange Wrote)
  not_shown (mode, w, d) = absurd (cc (same_Some (Exchanging Plain false) (Showing mode) w))

  no_demo : (e : Exchange) → ¬ (IsDemo P exchange e Wrote)
  no_demo e (number, mode, w, d) = absurd (cc (same_Some (Exchanging Plain false) (Demonstrating number mode) w))

  not_answered : (a : Answers) → ¬ (IsAnswered P c exchange a Wrote)
  not_answered a (w, d) = absurd (cc (same_Some (Exchanging Plain false) Answering w))

  not_judged : (v : Verdict) → ¬ (IsJudged P c exchange v Wrote)
  not_judged v (w, d) = absurd (cc (same_Some (Exchanging Plain false) Judging w))

  not_compared : (k : Comparison) → ¬ (IsCompared P c exchange k Wrote)
  not_compared k (w, d) = absurd (cc (same_Some (Exchanging Plain false) Comparing w))

-- nor is there a plan to show
abbrev anyhow : Writing
anyhow files said = Unit {0}

no_plan_to_show : (P : Program) → ¬ (HasPlanFor P world exchange Shown)
no_plan_to_show P (plan, passed, is) =
    not_shown P world anyhow (subst (λ (d : Done). AsAsked P world exchange d anyhow) is (plan_asked P world exchange plan anyhow passed tt))

-- after a write fault the first of its files stand there, as many as are told
first_stand : (P : Program) (count : ℕ) (before after : OutputState) → Leaves P world exchange before after (endings.WriteFault count)
    → WroteFirst small_files small_summary count before after
first_stand P count before after (Exchanged e, asked) = written P e (wrote_first count before after) asked
first_stand P count before after (Shown, asked) = absurd (not_shown P world (wrote_first count before after) asked)
first_stand P count before after (Demo e, asked) = absurd (no_demo P world (wrote_first count before after) e asked)
first_stand P count before after (Answered a, asked) = absurd (not_answered P world (wrote_first count before after) a asked)
first_stand P count before after (Judged v, asked) = absurd (not_judged P world (wrote_first count before after) v asked)
first_stand P count before after (Compared k, asked) = absurd (not_compared P world (wrote_first count before after) k asked)

-- ---- if nothing outside fails

-- to exchange is not to show
is_no_showing : ¬ (HasDone (Exchanging Plain false) Shown)
is_no_showing (e, is) = absurd (cc is)

-- an exchange is done, or memory ran out
exchanged_or_memory : (P : Program) (r : Ending) → Completes P world exchange r → (status_of r ≡ 0) ⊎ (status_of r ≡ 9)
exchanged_or_memory P r h = elim (h.exchanged Plain false refl (has_solution P)) [ inl x ↦ inl (ap status_of x.1) | inr m ↦ inr (ap status_of m) ]

-- and where there is no solution the status is 3, or memory ran out
three_or_memory : (P : Program) (c : World) (r : Ending) → Completes P c exchange r → HasNoSolutionIn P c → (status_of r ≡ 3) ⊎ (status_of r ≡ 9)
three_or_memory P c r h none = elim (h.clash Plain false refl none) [ inl x ↦ inl (ap status_of x.4) | inr m ↦ inr (ap status_of m) ]

-- and of the other words
shown_or_memory : (P : Program) (r : Ending) → Completes P world (codes "show" ∷ []) r → (status_of r ≡ 0) ⊎ (status_of r ≡ 9)
shown_or_memory P r h = elim (h.shown Plain refl mapping (is_accepted P)) [ inl x ↦ inl (ap status_of x) | inr m ↦ inr (ap status_of m) ]

done_or_memory : (P : Program) (c : World) (words : List Word) (k : Command) (r : Ending) → Completes P c words r → says words ≡ Some k → HasNoFault P c words → (status_of r ≡ 0) ⊎ (status_of r ≡ 9)
done_or_memory P c words k r h w none = elim (h.done k w none) [ inl x ↦ inl (ap status_of x.2) | inr m ↦ inr (ap status_of m) ]

usage_or_memory : (P : Program) (c : World) (words : List Word) (r : Ending) → Completes P c words r → (run_stages P).refuses c words Usage → (status_of r ≡ 2) ⊎ (status_of r ≡ 9)
usage_or_memory P c words r h refused = elim (h.refused Usage refused) [
  | inl x ↦ elim x.1 [ inl same ↦ inl (ap status_of x.2 ∙ ap (λ f. status_of (refusal_ending f)) same) | inr clashes ↦ absurd clashes.1 ]
  | inr m ↦ inr (ap status_of m)
]

answered_or_memory : (P : Program) (c : World) (r : Ending) → Completes P c (codes "answer" ∷ []) r → (s : HasSolutionIn P c) (k : HasQueryIn s.mapping.target c) → HasFewAnswers P c s k
    → (status_of r ≡ 0) ⊎ (status_of r ≡ 9)
answered_or_memory P c r h s k few = elim (h.answers refl s k few) [ inl x ↦ inl (ap status_of x.1) | inr m ↦ inr (ap status_of m) ]

no_answer_or_memory : (P : Program) (c : World) (r : Ending) → Completes P c (codes "answer" ∷ []) r → (s : HasNoSolutionIn P c) → HasQueryIn s.mapping.target c
    → (status_of r ≡ 3) ⊎ (status_of r ≡ 9)
no_answer_or_memory P c r h s k = elim (h.no_answer refl s k) [ inl x ↦ inl (ap status_of x.4) | inr m ↦ inr (ap status_of m) ]

-- so it is of a demo
demo_or_memory : (P : Program) (r : Ending) → CompletesDemo P (codes "demo" ∷ codes "5" ∷ []) r → HasSolutionIn P (demo_world 5) → (status_of r ≡ 0) ⊎ (status_of r ≡ 9)
demo_or_memory P r h some = elim (h.demo 5 Plain refl some) [ inl x ↦ inl (ap status_of x.1) | inr m ↦ inr (ap status_of m) ]

demo_three_or_memory : (P : Program) (r : Ending) → CompletesDemo P (codes "demo" ∷ codes "5" ∷ []) r → HasNoSolutionIn P (demo_world 5) → (status_of r ≡ 3) ⊎ (status_of r ≡ 9)
demo_three_or_memory P r h none = elim (h.clash 5 Plain refl none) [ inl x ↦ inl (ap status_of x.4) | inr m ↦ inr (ap status_of m) ]

-- ---- a demo of an exchange says one text

one_demo_text : (P : Program) (number : ℕ) (mode : Mode) (e : Exchange) (t u : Text)
    → IsDemoIn P number mode e (λ files said. said ≡ t) → IsDemoIn P number mode e (λ files said. said ≡ u) → t ≡ u
one_demo_text P number mode e t u p q =
    let M = (once_in P (demo_world number)).mapping First p.mapping q.mapping p.exchanged.matched.read.accepted
    q.exchanged.matched.read.accepted in
    let a = p.nulls_are in let b = q.nulls_are in
    let ns = one_ascending null_cmp null_total p.nulls q.nulls a.ascend b.ascend (λ n m. (b.exact n).1 ((a.exact n).0 m)) (λ n m. (a.exact n).1 ((b.exact n).0 m)) in
    sym p.written ∙ ap (λ (N : Mapping). demo_text number N e.target (length p.nulls)) M
    ∙ ap (λ (ks : List NullId). demo_text number q.mapping e.target (length ks)) ns ∙ q.written
