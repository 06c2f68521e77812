-- The roots' files, fetched and read.
use Rattle.std.proofs.Common.{◌≡◌, ℕ, ◌+◌, ◌-◌, ◌<◌, ◌≤◌, List, [], ◌∷◌, ◌++◌, length, take, get_or, refl, sym, ◌∙◌, ap, subst, Result, Ok, Err, inl, inr, arith}
use Rattle.std.proofs.lemmas.Bool.Decides.{nat_tests}
use Rattle.dx_base.specs.Members.{◌∈◌}
use Rattle.dx_ports.specs.States.{InputState}
use Rattle.dx_model.specs.declared.facts.Fact.{Fact}
use Rattle.dx_instance.specs.Shown.{shown_tables}
use Rattle.dx_instance.specs.Stored.{facts}
use Rattle.dx_schema.specs.Forest.{Forest, Tree, forest_of}
use Rattle.dx_schema.specs.Tables.{AreTables, count, schema_table, tables_of}
use Rattle.dx_stages.specs.declared.stop.Stop.{Stop}
use Rattle.dx_stages.specs.declared.stop.Stop.TheVariants as stops
use Rattle.dx_stages.specs.Worlds.{World}
use Rattle.dx_stages.specs.Stages.{Stage, file, each, by, stay}
use Rattle.dx_stages.specs.Laws.{AsksOtherFiles}
use Rattle.dx_stages.specs.Running.{Ran, Gives}
use Rattle.dx_stages.proofs.Running.{ran_file, ran_next, ran_stop, ran_value, ran_by, ran_into, ran_into_stop, ran_more, ran_front, silent_apart}
use Rattle.clio_source.specs.declared.fault.SourceRefusal.{SourceRefusal}
use Rattle.clio_source.specs.declared.fault.SourceRefusal.TheVariants as refusals
use Rattle.clio_source.specs.declared.fault.RowsFault.TheVariants.{Absent}
use Rattle.clio_source.specs.declared.reading.Reading.{Reading}
use Rattle.clio_source.specs.Source.{RootShape, ReadState, SayFacts, at_start, fact_cells, fetching, file_at, files_stages, shape_at, loading, named_by, reading, too_many_bytes, too_many_cells, with_facts}
use Rattle.dx_used.specs.Used.{AgreeOnUsed, Marks}
use Rattle.clio_source.specs.Fitting.{GivesTo, Holds, NotRead, RanTo}
use Rattle.clio_source.proofs.Roots.{apart, first_roots, next_root, numbers_between, roots_all, roots_more, roots_rest}

-- ---- what is read of bytes

pub not_loaded : (used : Marks) (form : RootShape) (f : Forest) (root : ℕ) (q : ReadState) (bytes name : List ℕ) (e : Stop SourceRefusal) → name ≡ named_by form (schema_table f root).name → NotRead form f root bytes name e
    → GivesTo used (loading form f root) (q, bytes) (Err e)
not_loaded used form f root q bytes name (stops.Refused e) n h = λ w. inl (h.0, h.1, h.2 ∙ ap (λ k. refusals.Rows k h.0) n)
not_loaded used form f root q bytes name (stops.Failed k) n h = h
not_loaded used form f root q bytes name stops.Memory n h = tt

-- the facts that were read, before their cells are counted
abbrev with_bytes : ReadState → List ℕ → ReadState
with_bytes r bytes = record { facts = r.facts; bytes_left = r.bytes_left - length bytes; cells_left = r.cells_left }

abbrev with_cells : Forest → ReadState × List Fact → ReadState
with_cells f q = record { facts = q.0.facts ++ q.1; bytes_left = q.0.bytes_left; cells_left = q.0.cells_left - fact_cells f q.1 }

too_many : (f : Forest) (q : ReadState × List Fact) → q.0.cells_left < fact_cells f q.1 → with_facts f q ≡ Err too_many_cells
too_many f q h = grind (arith, nat_tests, h)

within : (f : Forest) (q : ReadState × List Fact) → fact_cells f q.1 ≤ q.0.cells_left → with_facts f q ≡ Ok (with_cells f q)
within f q h = grind (arith, nat_tests, h)

pub no_cells_left : (used : Marks) (form : RootShape) (f : Forest) (root left : ℕ) (q : ReadState) (bytes : List ℕ) (said : List Fact) → SayFacts form f root bytes said → left ≡ q.cells_left → left < fact_cells f said
    → GivesTo used (loading form f root) (q, bytes) (Err (stops.Refused too_many_cells))
no_cells_left used form f root left q bytes said s is h = λ world. inr ((with_bytes q bytes, said), (said, s, refl), too_many f (with_bytes q bytes, said) (subst (λ n. n < fact_cells f said) is h))

pub loaded : (used : Marks) (form : RootShape) (f : Forest) (root left : ℕ) (q : ReadState) (after : Reading) (bytes : List ℕ) (said : List Fact) → SayFacts form f root bytes said → left ≡ q.cells_left → fact_cells f said ≤ left
    → AgreeOnUsed used (q.facts ++ said) (facts (shown_tables after.symbols after.tables.items)) → after.bytes_left ≡ q.bytes_left - length bytes → after.cells_left ≡ left - fact_cells f said → GivesTo used (loading form f root) (q, bytes) (Ok after)
loaded used form f root left q after bytes said s is h are b c = (
  with_cells f (with_bytes q bytes, said),
  record { agree = are; bytes = b; cells = c ∙ ap (λ n. n - fact_cells f said) is },
  λ world. ((with_bytes q bytes, said), (said, s, refl), within f (with_bytes q bytes, said) (subst (λ n. fact_cells f said ≤ n) is h)),
)

-- ---- a root's file

abbrev pub its_file : List ℕ → ReadState → Stage SourceRefusal ReadState (List ℕ)
its_file name r = file name r.bytes_left (refusals.Rows name Absent) too_many_bytes

silent : (form : RootShape) (f : Forest) (root : ℕ) (d : World) (b : ReadState × List ℕ) (n : List ℕ) → ¬ ((loading form f root).asks d b n)
silent form f root d b n (inl h) = h
silent form f root d b n (inr h) = h.2

-- the file that was asked for is that of the stage
asked : (name n copy : List ℕ) (left : ℕ) (long : SourceRefusal) (r : ReadState) (x : Result (List ℕ) (Stop SourceRefusal)) (old new : InputState) → n ≡ name → copy ≡ name → left ≡ r.bytes_left → long ≡ too_many_bytes
    → Ran (file {A = Unit {0}} n left (refusals.Rows copy Absent) long) (tt {0}) x old new → Ran (by (its_file name)) r x old new
asked name n copy left long r x old new is copied many wide ran =
    ran_by (its_file name) r x old new
    (ran_file n name left r.bytes_left (refusals.Rows copy Absent) (refusals.Rows name Absent) long too_many_bytes r x old new is many (ap (λ k. refusals.Rows k Absent) copied) wide ran)

pub stopped : (used : Marks) (f : Forest) (root left : ℕ) (n copy : List ℕ) (long : SourceRefusal) (r : ReadState) (e : Stop SourceRefusal) (old new : InputState) → n ≡ file_at f root → copy ≡ file_at f root → left ≡ r.bytes_left → long ≡ too_many_bytes
    → Ran (file {A = Unit {0}} n left (refusals.Rows copy Absent) long) (tt {0}) (Err e) old new → RanTo used (reading f root) r (Err e) old new
stopped used f root left n copy long r e old new is copied many wide ran =
    ran_stop (fetching (file_at f root)) (loading (shape_at f root) f root) r e old new
    (ran_into_stop (λ (r : ReadState) (bytes : List ℕ). (r, bytes)) (by (its_file (file_at f root))) r e old new (asked (file_at f root) n copy left long r (Err e) old new is copied many wide ran))

-- what a stage gives to a reading, a run of it gives
to_run : {A B : Type 0} (used : Marks) (s : Stage SourceRefusal A ReadState) (t : Stage SourceRefusal B ReadState) (a : A) (b : B) (r : Result Reading (Stop SourceRefusal)) (old new : InputState)
    → ((x : Result ReadState (Stop SourceRefusal)) → Gives s a x → Ran t b x old new) → GivesTo used s a r → RanTo used t b r old new
to_run used s t a b (Ok r) old new k g = (g.0, g.1, k (Ok g.0) g.2)
to_run used s t a b (Err e) old new k g = k (Err e) g

pub passed : (used : Marks) (f : Forest) (root left : ℕ) (form : RootShape) (n copy bytes lent : List ℕ) (long : SourceRefusal) (r : ReadState) (x : Result Reading (Stop SourceRefusal)) (old new : InputState) → n ≡ file_at f root → copy ≡ file_at f root → left ≡ r.bytes_left → long ≡ too_many_bytes
    → lent ≡ bytes → form ≡ shape_at f root → Ran (file {A = Unit {0}} n left (refusals.Rows copy Absent) long) (tt {0}) (Ok bytes) old new → GivesTo used (loading form f root) (r, lent) x → RanTo used (reading f root) r x old new
passed used f root left form n copy bytes lent long r x old new is copied many wide same formed ran g =
    to_run used (loading (shape_at f root) f root) (reading f root) (r, bytes) r x old new
    (λ y given. ran_next (fetching (file_at f root)) (loading (shape_at f root) f root) r (r, bytes) y old new new (silent_apart (fetching (file_at f root)) (loading (shape_at f root) f root) (silent (shape_at f root) f root))
    (ran_into (λ (r : ReadState) (bytes : List ℕ). (r, bytes)) (by (its_file (file_at f root))) r bytes old new (asked (file_at f root) n copy left long r (Ok bytes) old new is copied many wide ran))
    (ran_value (loading (shape_at f root) f root) (r, bytes) y new given))
    (subst (λ k. GivesTo used (loading k f root) (r, bytes) x) formed (subst (λ v. GivesTo used (loading form f root) (r, v) x) same g))

-- ---- one root after the other

pub none_read : (used : Marks) (f : Forest) (r : Reading) (told : InputState) → Holds used r at_start → RanTo used (each (reading f) []) at_start (Ok r) told told
none_read used f r told h = (at_start, h, ran_value (stay {E = SourceRefusal} {A = ReadState}) at_start (Ok at_start) told (λ c. refl))

pub more : (used : Marks) (f : Forest) (us : List ℕ) (root : ℕ) (before : Reading) (x : Result Reading (Stop SourceRefusal)) (old mid new : InputState) → AsksOtherFiles (each (reading f) us) (reading f root) → RanTo used (each (reading f) us) at_start (Ok before) old mid
    → ((q : ReadState) → Holds used before q → RanTo used (reading f root) q x mid new) → RanTo used (each (reading f) (us ++ root ∷ [])) at_start x old new
more used f us root before x old mid new apart p one = of x (one p.0 p.1)
  where
    of : (x : Result Reading (Stop SourceRefusal)) → RanTo used (reading f root) p.0 x mid new → RanTo used (each (reading f) (us ++ root ∷ [])) at_start x old new
    of (Ok r) h = (h.0, h.1, ran_more (reading f) us root at_start p.0 (Ok h.0) old mid new apart p.2 h.2)
    of (Err e) h = ran_more (reading f) us root at_start p.0 (Err e) old mid new apart p.2 h

-- with the root of the next set
pub one_more : (used : Marks) (f : Forest) (ts : List Tree) (k : ℕ) (t : Tree) (root : ℕ) (before : Reading) (x : Result Reading (Stop SourceRefusal)) (old mid new : InputState) → AreTables (tables_of f) → forest_of ts ≡ f → k < length ts → t ≡ get_or ts k t
    → root ≡ count (forest_of (take k ts)) → RanTo used (each (reading f) (first_roots ts k)) at_start (Ok before) old mid → ((q : ReadState) → Holds used before q → RanTo used (reading f root) q x mid new)
    → RanTo used (each (reading f) (first_roots ts (k + 1))) at_start x old new
one_more used f ts k t root before x old mid new tables whole lt is at p one =
    subst (λ (us : List ℕ). RanTo used (each (reading f) us) at_start x old new) (sym (roots_more ts k t root lt is at))
    (more used f (first_roots ts k) root before x old mid new (apart f (first_roots ts k) root tables.distinct_names (next_root ts k t root f whole lt is at).within below) p one)
  where
    below : (u : ℕ) → u ∈ first_roots ts k → u < root
    below u m = let h = numbers_between 0 (forest_of (take k ts)) u m in omega (arith, h, at)

-- if it stops there, the whole stops
pub ended : (used : Marks) (f : Forest) (ts : List Tree) (k : ℕ) (e : Stop SourceRefusal) (old new : InputState) → forest_of ts ≡ f → RanTo used (each (reading f) (first_roots ts k)) at_start (Err e) old new → RanTo used (files_stages f) at_start (Err e) old new
ended used f ts k e old new whole p =
    let rest = roots_rest ts k f whole in
    subst (λ (us : List ℕ). Ran (each (reading f) us) at_start (Err e) old new) (sym rest.1) (ran_front (reading f) (first_roots ts k) rest.0 at_start e old new p)

-- after the last set all were read
pub all_read : (used : Marks) (f : Forest) (ts : List Tree) (k : ℕ) (r : Reading) (old new : InputState) → forest_of ts ≡ f → length ts ≤ k → RanTo used (each (reading f) (first_roots ts k)) at_start (Ok r) old new → RanTo used (files_stages f) at_start (Ok r) old new
all_read used f ts k r old new whole past p = subst (λ (us : List ℕ). RanTo used (each (reading f) us) at_start (Ok r) old new) (roots_all ts k f whole past) p
