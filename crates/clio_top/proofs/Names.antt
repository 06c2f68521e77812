-- The names of the files that a run asks for and puts.
use Rattle.std.proofs.Common.{◌≡◌, ◌⊎◌, ◌<◌, ℕ, suc, List, [], ◌∷◌, ◌++◌, length, refl, sym, ap, subst, inl, inr, arith, Bool, true, false, Option, Some, None, append_assoc}
use Rattle.std.specs.Prelude.{codes, if◌then◌else◌}
use Rattle.dx_base.specs.Entries.{Entry}
use Rattle.dx_base.specs.Members.{◌∈◌, here, there, Each}
use Rattle.dx_base.proofs.Members.{from_append, from_map, in_at}
use Rattle.dx_base.proofs.Ranges.{from_range}
use Rattle.dx_stages.specs.Ending.{PlanContent}
use Rattle.dx_stages.specs.Worlds.{World}
use Rattle.dx_schema.specs.Forest.{Forest, none, set}
use Rattle.dx_schema.specs.Tables.{NumberedSet, TableOf, no_table, numbered_sets, schema_table, sets_of, table_in, tables_of}
use Rattle.dx_schema_text.specs.Print.{HaveWordNames}
use Rattle.dx_schema_text.proofs.PrintScans.{a_word}
use Rattle.dx_tokens.specs.Lexing.{IsWord}
use Rattle.dx_instance.specs.NullMaps.{pairs_of}
use Rattle.dx_instance.specs.Stored.{TableRows}
use Rattle.dx_model.specs.declared.values.NullId.{NullId}
use Rattle.dx_model.specs.Values.{Tuple}
use Rattle.dx_exchange.specs.declared.mode.Mode.{Mode}
use Rattle.dx_exchange.specs.declared.result.Exchange.{Exchange}
use Rattle.dx_compare.specs.declared.comparing.Comparison.{Comparison}
use Rattle.dx_compare.specs.declared.comparing.Answer.{Answer}
use Rattle.dx_compare.specs.declared.comparing.Answer.TheVariants as answers
use Rattle.clio_accept.specs.declared.mapping.Mapping.{Mapping}
use Rattle.clio_accept.specs.Laws.{MappingFits}
use Rattle.clio_source.specs.Source.{RootShape, csv_name, json_name, named_by, roots, shape_at}
use Rattle.clio_source.specs.Source as shapes
use Rattle.clio_source.proofs.Roots.{is_root}
use Rattle.clio_given.specs.Given.{TargetRequest}
use Rattle.clio_files.specs.Comparisons.{AreComparedFiles, AreDirectionFiles, source_front, target_front}
use Rattle.clio_files.specs.Answers.{answer_files}
use Rattle.clio_files.specs.Files.{AreFiles, AreTableFiles, files_of}
use Rattle.clio_files.specs.Texts.{rules_told, script_told, texts_told}
use Rattle.clio_files.specs.Nested.{AreRootFiles}
use Rattle.clio_files.specs.Sheets.{PrintedFile, file_of, fold_sheet, nulls_sheet}
use Rattle.clio_ending.specs.declared.ending.Done.{Done}
use Rattle.clio_steps.specs.Outcomes.{IsNextFile}
use Rattle.clio_steps.specs.Steps.{Program, exchanges}
use Rattle.clio_steps.specs.declared.texts.Side.TheVariants.{First}
use Rattle.clio_steps.proofs.InWorld.{in_world}
use Rattle.clio_steps.proofs.Spine.{fits_in}
use Rattle.clio_steps.proofs.Words.{word_bytes}
use Rattle.clio_compare.proofs.Pairs.{made_in}
use Rattle.clio_judge.specs.Judging.{RowsAndBytes, wanted_given}
use Rattle.clio_judge.specs.Outcomes.{IsNextGiven}
use Rattle.clio_top.specs.declared.command.Command.{Command}
use Rattle.clio_top.specs.declared.command.Command.TheVariants.{Answering, Comparing, Demonstrating, Exchanging, Judging, Showing}
use Rattle.clio_top.specs.Commands.{stages_of}
use Rattle.clio_top.specs.Names.{IsDataName, IsGivenName, IsPutName, IsReadName, PutsByName, ReadsByName}
use Rattle.clio_top.specs.Promises.{AsksFor}
use Rattle.clio_top.proofs.Asking.{in_order}

-- ---- the names of tables

placed_names : (parent : Option ℕ) (n : ℕ) (f : Forest) → HaveWordNames f → Each (numbered_sets parent n f) (λ s. IsWord s.label.name)
placed_names parent n none h s m = elim m [ ]
placed_names parent n (set l inner rest) h s (here e) = subst (λ (t : NumberedSet). IsWord t.label.name) e h.0.name
placed_names parent n (set l inner rest) h s (there m) = elim (from_append (numbered_sets (Some n) _ inner) m) [
  | inl k ↦ placed_names (Some n) _ inner h.1 s k
  | inr k ↦ placed_names parent _ rest h.2 s k
]

named_tables : (f : Forest) → HaveWordNames f → Each (tables_of f) (λ t. IsWord t.name)
named_tables f h t m =
    let p = from_map (table_in (sets_of f)) (sets_of f) m in subst (λ (u : TableOf). IsWord u.name) p.2 (placed_names None 0 f h p.0 p.1)

table_word : (f : Forest) → HaveWordNames f → (t : ℕ) → t < length (tables_of f) → IsWord (schema_table f t).name
table_word f h t within = named_tables f h (schema_table f t) (in_at (tables_of f) t no_table within)

-- ---- files of data, of words

csv_data : (word : List ℕ) → IsWord word → IsDataName (csv_name word)
csv_data word h = (word, h, inl refl)

json_data : (word : List ℕ) → IsWord word → IsDataName (json_name word)
json_data word h = (word, h, inr refl)

root_data : (form : RootShape) (word : List ℕ) → IsWord word → IsDataName (named_by form word)
root_data shapes.flat word h = csv_data word h
root_data shapes.nested word h = json_data word h

-- ---- what is read

exchange_fits : (P : Program) (mode : Mode) (c : World) (q : Mapping × Exchange) → (exchanges P mode).passes c (tt {0}) q
    → MappingFits P.list P.tests q.0
exchange_fits P mode c q x =
    let exchanged = in_world P mode c q x in fits_in P First c q.0 exchanged.1.matched.read.accepted

member_after : {A : Type 0} (before : List A) (x : A) (after : List A) → x ∈ (before ++ x ∷ after)
member_after [] x after = here refl
member_after (y ∷ ys) x after = there (member_after ys x after)

next_data : (f : Forest) (c : World) (n : List ℕ) → HaveWordNames f → IsNextFile c f n → IsDataName n
next_data f c n h x =
    let at : x.root ∈ roots f = subst (λ (rs : List ℕ). x.root ∈ rs) (sym x.roots_are) (member_after x.before x.root x.after) in
    let within = (is_root f x.root at).within in
    subst IsDataName (sym x.is) (root_data (shape_at f x.root) (schema_table f x.root).name (table_word f h x.root within))

next_given : (w : TargetRequest) (c : World) (n : List ℕ) → HaveWordNames w.schema → IsNextGiven c w n → IsGivenName n
next_given w c n h x =
    let at = subst (λ (ts : List ℕ). x.table ∈ ts) (sym x.tables_are) (member_after x.before x.table x.after) in
    let r = (from_range 0 (length (tables_of w.schema)) x.table at).1 in
    let within : x.table < length (tables_of w.schema) = omega (arith, r) in
    ((schema_table w.schema x.table).name, table_word w.schema h x.table within, x.is)

-- a file of data may be read
data_read : (n : List ℕ) → IsDataName n → IsReadName n
data_read n h = inr (inr (inr (inl h)))

asked_by : (P : Program) (c : World) (k : Command) (n : List ℕ) → AsksFor P c k n → IsReadName n
asked_by P c (Exchanging mode nested) n (inl h) = inl h
asked_by P c (Exchanging mode nested) n (inr (M, m, h)) = data_read n (next_data M.source c n (fits_in P First c M m).source_names h)
asked_by P c (Showing mode) n h = inl h
asked_by P c (Demonstrating number mode) n h = absurd h
asked_by P c Answering n (inl h) = inl h
asked_by P c Answering n (inr (M, m, inl h)) = inr (inl h)
asked_by P c Answering n (inr (M, m, inr (q, over, h))) = data_read n (next_data M.source c n (fits_in P First c M m).source_names h)
asked_by P c Judging n (inl h) = inl h
asked_by P c Judging n (inr (M, m, inl h)) = data_read n (next_data M.source c n (fits_in P First c M m).source_names h)
asked_by P c Judging n (inr (M, m, inr (p, (q, read, is), h))) =
    let same : M ≡ p.0.0 = sym (ap (λ (r : RowsAndBytes). r.0.0) is) in
    inr (inr (inr (inr (next_given (wanted_given p) c n (subst (λ (N : Mapping). HaveWordNames N.target) same (fits_in P First c M m).target_names) h))))
asked_by P c Comparing n (inl h) = inl h
asked_by P c Comparing n (inr (M, m, h)) = inr (inr (inl h))

pub reads_by_name : ReadsByName
reads_by_name P c words n h = let a = (in_order P c words n).0 h in asked_by P c a.0 n a.2

-- ---- what is put

-- the names of printed files
abbrev AreNamed : List PrintedFile → Type 0
AreNamed fs = Each fs (λ (f : PrintedFile). IsPutName f.name)

put_names : (fs : List PrintedFile) → AreNamed fs → Each (files_of fs) (λ (e : Entry). IsPutName e.0)
put_names fs h e m = let p = from_map (λ (f : PrintedFile). (f.name, f.bytes)) fs m in subst (λ (x : Entry). IsPutName x.0) p.2 (h p.0 p.1)

data_put : (n : List ℕ) → IsDataName n → IsPutName n
data_put n h = inr (inr h)

-- a word with a front of word bytes
fronted_word : (front word : List ℕ) → IsWord front → IsWord word → IsWord (front ++ word)
fronted_word [] word f w = absurd f
fronted_word (b ∷ bs) word f w = (f.0, λ c m. elim (from_append bs m) [ inl k ↦ f.1 c k | inr k ↦ word_bytes word w c k ])

-- the name of a table with this in front: nothing, or a word
front_data : (front word : List ℕ) → (front ≡ []) ⊎ IsWord front → IsWord word → IsDataName (front ++ csv_name word)
front_data front word (inl empty) h = subst (λ (f : List ℕ). IsDataName (f ++ csv_name word)) (sym empty) (csv_data word h)
front_data front word (inr f) h = (front ++ word, fronted_word front word f h, inl (sym (append_assoc front word (codes ".csv"))))

tables_put : (front : List ℕ) → (front ≡ []) ⊎ IsWord front → (n : ℕ) (ts : List TableOf) (T : List TableRows) (fs : List PrintedFile)
    → Each ts (λ t. IsWord t.name) → AreTableFiles front n ts T fs → AreNamed fs
tables_put front f n [] T [] h p g m = elim m [ ]
tables_put front f n [] T (x ∷ fs) h p g m = absurd p
tables_put front f n (t ∷ ts) T [] h p g m = absurd p
tables_put front f n (t ∷ ts) T (x ∷ fs) h p g (here e) =
    subst (λ (y : PrintedFile). IsPutName y.name) e (subst IsPutName (sym p.0.name) (data_put (front ++ csv_name t.name) (front_data front t.name f (h t (here refl)))))
tables_put front f n (t ∷ ts) T (x ∷ fs) h p g (there m) = tables_put front f (suc n) ts T fs (λ u i. h u (there i)) p.1 g m

roots_put : (target : Forest) → HaveWordNames target → (T : List TableRows) (rs : List ℕ) (fs : List PrintedFile)
    → Each rs (λ r. r ∈ roots target) → AreRootFiles target T rs fs → AreNamed fs
roots_put target w T [] [] h p g m = elim m [ ]
roots_put target w T [] (x ∷ fs) h p g m = absurd p
roots_put target w T (r ∷ rs) [] h p g m = absurd p
roots_put target w T (r ∷ rs) (x ∷ fs) h p g (here e) =
    let within = (is_root target r (h r (here refl))).within in
    subst (λ (y : PrintedFile). IsPutName y.name) e
    (subst IsPutName (sym p.0.name) (data_put (json_name (schema_table target r).name) (json_data (schema_table target r).name (table_word target w r within))))
roots_put target w T (r ∷ rs) (x ∷ fs) h p g (there m) = roots_put target w T rs fs (λ u i. h u (there i)) p.1 g m

wanted_roots : (target : Forest) (nested : Bool) → Each (if nested then roots target else []) (λ r. r ∈ roots target)
wanted_roots target true r m = m
wanted_roots target false r m = elim m [ ]

nulls_data : IsDataName (codes "nulls.csv")
nulls_data = csv_data (codes "nulls") (a_word (codes "nulls") refl)

fold_data : IsDataName (codes "fold.csv")
fold_data = csv_data (codes "fold") (a_word (codes "fold") refl)

answers_data : IsDataName (codes "answers.csv")
answers_data = csv_data (codes "answers") (a_word (codes "answers") refl)

abbrev nulls_file : Mapping → Exchange → List NullId → PrintedFile
nulls_file M e nulls = file_of (nulls_sheet M.rules e.matches nulls)

abbrev fold_file : Exchange → PrintedFile
fold_file e = file_of (fold_sheet (pairs_of e.fold))

exchange_put : (P : Program) (mode : Mode) (nested : Bool) (M : Mapping) (e : Exchange) (files : List PrintedFile) → MappingFits P.list P.tests M
    → AreFiles M.source M.target P.list mode nested M.rules e files → AreNamed files
exchange_put P mode nested M e files fits a = subst AreNamed (sym a.is) all
  where
    named_so : (f g : PrintedFile) → f ≡ g → IsPutName f.name → IsPutName g.name
    named_so f g is h = subst (λ (y : PrintedFile). IsPutName y.name) is h

    sheets : AreNamed (nulls_file M e a.nulls ∷ fold_file e ∷ a.documents)
    sheets g (here is) = named_so (nulls_file M e a.nulls) g is (data_put (codes "nulls.csv") nulls_data)
    sheets g (there (here is)) = named_so (fold_file e) g is (data_put (codes "fold.csv") fold_data)
    sheets g (there (there m)) =
        roots_put M.target fits.target_names e.target (if nested then roots M.target else []) a.documents (wanted_roots M.target nested) a.documents_are g m

    all : AreNamed (texts_told M.source M.target P.list mode M.rules ++ (a.tables ++ nulls_file M e a.nulls ∷ fold_file e ∷ a.documents))
    all g (here is) = named_so (rules_told M.source M.target P.list M.rules) g is (inl refl)
    all g (there (here is)) = named_so (script_told M.source M.target P.list mode M.rules) g is (inr (inl refl))
    all g (there (there m)) = elim (from_append a.tables m) [
      | inl k ↦ tables_put [] (inl refl) 0 (tables_of M.target) e.target a.tables (named_tables M.target fits.target_names) a.tables_are g k
      | inr k ↦ sheets g k
    ]

-- ---- a comparison

direction_put : (direction : List ℕ) (source target : Forest) (a : Answer) (fs : List PrintedFile) → IsWord (source_front direction)
    → IsWord (target_front direction) → HaveWordNames source → HaveWordNames target → AreDirectionFiles direction source target a fs → AreNamed fs
direction_put direction source target answers.Implies fs v w s t is g m = elim (subst (λ (l : List PrintedFile). g ∈ l) is m) [ ]
direction_put direction source target (answers.Refuted rule I K) fs v w s t p g m = elim (from_append p.sources (subst (λ (l : List PrintedFile). g ∈ l) p.is m)) [
  | inl k ↦ tables_put (source_front direction) (inr v) 0 (tables_of source) I p.sources (named_tables source s) p.sources_are g k
  | inr k ↦ tables_put (target_front direction) (inr w) 0 (tables_of target) K p.targets (named_tables target t) p.targets_are g k
]

compared_put : (source target : Forest) (k : Comparison) (fs : List PrintedFile) → HaveWordNames source → HaveWordNames target
    → AreComparedFiles source target k fs → AreNamed fs
compared_put source target k fs s t p g m = elim (from_append p.forward (subst (λ (l : List PrintedFile). g ∈ l) p.is m)) [
  | inl h ↦ direction_put (codes "forward") source target k.forward p.forward
      (a_word (source_front (codes "forward")) refl) (a_word (target_front (codes "forward")) refl) s t p.forward_are g h
  | inr h ↦ direction_put (codes "backward") source target k.backward p.backward
      (a_word (source_front (codes "backward")) refl) (a_word (target_front (codes "backward")) refl) s t p.backward_are g h
]

-- ---- each command

none_put : Each [] (λ (f : Entry). IsPutName f.0)
none_put f m = elim m [ ]

answer_put : (width : ℕ) (rows : List Tuple) → AreNamed (answer_files width rows)
answer_put width rows g (here is) = subst (λ (y : PrintedFile). IsPutName y.name) is (data_put (codes "answers.csv") answers_data)
answer_put width rows g (there m) = elim m [ ]

abbrev PutsNamed : PlanContent Done → Type 0
PutsNamed plan = Each plan.files (λ (f : Entry). IsPutName f.0)

put_by : (P : Program) (c : World) (k : Command) (p : PlanContent Done) → (stages_of P k).passes c (tt {0}) p → PutsNamed p
put_by P c (Exchanging mode nested) p (q, x, (files, are, plan)) =
    let fits = exchange_fits P mode c q x in
    subst PutsNamed (sym plan) (put_names files (exchange_put P mode nested q.0 q.1 files fits are))
put_by P c (Showing mode) p (M, m, plan) = subst PutsNamed (sym plan) none_put
put_by P c (Demonstrating number mode) p (q, x, (ns, are, plan)) = subst PutsNamed (sym plan) none_put
put_by P c Answering p (q, x, plan) = subst PutsNamed (sym plan) (put_names (answer_files q.0.1.width q.1.rows) (answer_put q.0.1.width q.1.rows))
put_by P c Judging p (q, x, plan) = subst PutsNamed (sym plan) none_put
put_by P c Comparing p (q, x, (files, are, plan)) =
    let m = made_in P c q x in
    let fits = subst (MappingFits P.list P.tests) (sym m.is) m.first_fits in
    subst PutsNamed (sym plan) (put_names files (compared_put q.0.source q.0.target q.1 files fits.source_names fits.target_names are))

pub puts_by_name : PutsByName
puts_by_name P c words plan (k, w, passed) = put_by P c k plan passed
