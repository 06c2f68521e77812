-- The given files, fetched and read.
use Rattle.std.proofs.Common.{◌≡◌, ◌∙◌, ℕ, zero, suc, ◌+◌, ◌-◌, ◌<◌, ◌≤◌, List, [], ◌∷◌, ◌++◌, inl, inr, refl, sym, ap, subst, arith, length, Result, Ok, Err}
use Rattle.std.specs.Prelude.{codes}
use Rattle.std.specs.List.{range_with_len}
use Rattle.std.proofs.lemmas.List.{append_cancel_right}
use Rattle.dx_base.specs.Members.{◌∈◌}
use Rattle.dx_base.proofs.Ranges.{from_range, range_more}
use Rattle.dx_ports.specs.States.{InputState}
use Rattle.dx_instance.specs.Stored.{TableRows}
use Rattle.dx_schema.specs.Forest.{Forest}
use Rattle.dx_schema.specs.Tables.{AreTables, schema_table, tables_of}
use Rattle.dx_stages.specs.declared.stop.Stop.{Stop}
use Rattle.dx_stages.specs.declared.stop.Stop.TheVariants as stops
use Rattle.dx_stages.specs.Worlds.{World}
use Rattle.dx_stages.specs.Stages.{Stage, by, each, file, next, over, stay}
use Rattle.dx_stages.specs.Laws.{AsksOtherFiles, AsksOnly}
use Rattle.dx_stages.specs.Running.{Gives, Ran}
use Rattle.dx_stages.proofs.Decided.{apart_by, each_only}
use Rattle.dx_stages.proofs.Running.{ran_by, ran_file, ran_front, ran_into, ran_into_stop, ran_memory, ran_more, ran_next, ran_over, ran_stop, ran_value, silent_apart}
use Rattle.clio_source.specs.declared.fault.RowsFault.TheVariants.{Absent}
use Rattle.clio_source.specs.declared.fault.SourceRefusal.{SourceRefusal}
use Rattle.clio_source.specs.declared.fault.SourceRefusal.TheVariants as refusals
use Rattle.clio_source.specs.Source.{IsStored, ReadState, fetching, too_many_bytes}
use Rattle.clio_source.proofs.Roots.{names_differ}
use Rattle.clio_source.proofs.Runs.{its_file}
use Rattle.clio_source.specs.declared.reading.Reading.{Reading}
use Rattle.clio_given.specs.Given.{TargetRequest, given_files_stages, given_name, given_stages, given_loading, none_read, given_reading, given_storing}
use Rattle.clio_given.specs.Reading.{read_of}

-- ---- one table

silent : (f : Forest) (table : ℕ) (d : World) (b : ReadState × List ℕ) (n : List ℕ) → ¬ ((given_loading f table).asks d b n)
silent f table d b n (inl h) = h
silent f table d b n (inr h) = h.2

-- the file that was asked for is that of the stage
asked : (name n copy : List ℕ) (left : ℕ) (long : SourceRefusal) (r : ReadState) (x : Result (List ℕ) (Stop SourceRefusal)) (old new : InputState) → n ≡ name → copy ≡ name
    → left ≡ r.bytes_left → long ≡ too_many_bytes → Ran (file {A = Unit {0}} n left (refusals.Rows copy Absent) long) (tt {0}) x old new
    → Ran (by (its_file name)) r x old new
asked name n copy left long r x old new is copied many wide ran =
    ran_by (its_file name) r x old new
    (ran_file n name left r.bytes_left (refusals.Rows copy Absent) (refusals.Rows name Absent) long too_many_bytes r x old new is many
    (ap (λ (k : List ℕ). refusals.Rows k Absent) copied) wide ran)

module _ (f : Forest) (table : ℕ) (n copy : List ℕ) (long : SourceRefusal) (r : ReadState) (old new : InputState) (is : n ≡ given_name (schema_table f table).name)
    (copied : copy ≡ given_name (schema_table f table).name) (wide : long ≡ too_many_bytes) where
  abbrev name : List ℕ
  name = given_name (schema_table f table).name

  pub stopped : (e : Stop SourceRefusal) → Ran (file {A = Unit {0}} n r.bytes_left (refusals.Rows copy Absent) long) (tt {0}) (Err e) old new
      → Ran (given_reading f table) r (Err e) old new
  stopped e ran =
      ran_stop (fetching name) (given_loading f table) r e old new
      (ran_into_stop (λ (q : ReadState) (bytes : List ℕ). (q, bytes)) (by (its_file name)) r e old new (asked name n copy r.bytes_left long r (Err e) old new is copied refl wide ran))

  pub passed : (bytes lent : List ℕ) (x : Result ReadState (Stop SourceRefusal)) → lent ≡ bytes
      → Ran (file {A = Unit {0}} n r.bytes_left (refusals.Rows copy Absent) long) (tt {0}) (Ok bytes) old new → Gives (given_loading f table) (r, lent) x
      → Ran (given_reading f table) r x old new
  passed bytes lent x same ran gives =
      ran_next (fetching name) (given_loading f table) r (r, bytes) x old new new (silent_apart (fetching name) (given_loading f table) (silent f table))
      (ran_into (λ (q : ReadState) (bs : List ℕ). (q, bs)) (by (its_file name)) r bytes old new (asked name n copy r.bytes_left long r (Ok bytes) old new is copied refl wide ran))
      (ran_value (given_loading f table) (r, bytes) x new (subst (λ (bs : List ℕ). Gives (given_loading f table) (r, bs) x) same gives))

-- ---- names

name_one : (x y : List ℕ) → given_name x ≡ given_name y → x ≡ y
name_one x y e = append_cancel_right x y (codes ".csv") (behind (codes "given/") (x ++ codes ".csv") (y ++ codes ".csv") e)
  where
    behind : (front a b : List ℕ) → front ++ a ≡ front ++ b → a ≡ b
    behind [] a b d = d
    behind (c ∷ front) a b d = let rest : front ++ a ≡ front ++ b = cc in behind front a b rest

-- a table asks for its own file
pub asks_own : (f : Forest) (table : ℕ) → AsksOnly (λ n. n ≡ given_name (schema_table f table).name) (given_reading f table)
asks_own f table c a n (inl h) = h
asks_own f table c a n (inr h) = absurd (elim h.2 [ inl x ↦ x | inr x ↦ x.2 ])

-- tables before it ask for no file of this one
apart : (f : Forest) (table : ℕ) → AreTables (tables_of f) → table < length (tables_of f) → AsksOtherFiles (each (given_reading f) (range_with_len 0 table)) (given_reading f table)
apart f table tables within =
    apart_by (λ n. (u : ℕ) × (u ∈ range_with_len 0 table) × (n ≡ given_name (schema_table f u).name)) (λ n. n ≡ given_name (schema_table f table).name)
    (each (given_reading f) (range_with_len 0 table)) (given_reading f table)
    (each_only (given_reading f) (λ u. given_name (schema_table f u).name) (range_with_len 0 table) (asks_own f)) (asks_own f table) never
  where
    never : (n : List ℕ) → (u : ℕ) × (u ∈ range_with_len 0 table) × (n ≡ given_name (schema_table f u).name) → ¬ (n ≡ given_name (schema_table f table).name)
    never n (u, m, is) e =
        let r = from_range 0 table u m in
        let high = r.1 in
        let below : u < table = omega (arith, high) in
        names_differ f u table tables.distinct_names below within (name_one (schema_table f u).name (schema_table f table).name (sym is ∙ e))

-- ---- all tables

abbrev SoFar : Forest → ℕ → ℕ → Result ReadState (Stop SourceRefusal) → InputState → InputState → Type 0
SoFar f bytes n x old new = Ran (each (given_reading f) (range_with_len 0 n)) (none_read bytes) x old new

pub none_came : (f : Forest) (bytes : ℕ) (r : Reading) (told : InputState) → read_of r ≡ none_read bytes → SoFar f bytes 0 (Ok (read_of r)) told told
none_came f bytes r told e =
    ran_value (stay {E = SourceRefusal} {A = ReadState}) (none_read bytes) (Ok (read_of r)) told (λ c. e)

pub one_came : (f : Forest) (bytes n : ℕ) (before : Reading) (x : Result ReadState (Stop SourceRefusal)) (old mid new : InputState) → AreTables (tables_of f) → n < length (tables_of f)
    → SoFar f bytes n (Ok (read_of before)) old mid → Ran (given_reading f n) (read_of before) x mid new → SoFar f bytes (n + 1) x old new
one_came f bytes n before x old mid new tables h so_far ran =
    subst (λ (us : List ℕ). Ran (each (given_reading f) us) (none_read bytes) x old new) (sym (range_more 0 n ∙ ap (λ (k : ℕ). range_with_len 0 n ++ k ∷ []) (last n)))
    (ran_more (given_reading f) (range_with_len 0 n) n (none_read bytes) (read_of before) x old mid new (apart f n tables h) so_far ran)
  where
    last : (k : ℕ) → 0 + k ≡ k
    last k = omega arith

-- the first numbers, and the others
range_both : (a n m : ℕ) → range_with_len a (n + m) ≡ range_with_len a n ++ range_with_len (a + n) m
range_both a zero m = let e : 0 + m ≡ m = omega arith in let d : a ≡ a + 0 = omega arith in ap (range_with_len a) e ∙ ap (λ (k : ℕ). range_with_len k m) d
range_both a (suc n) m =
    let e : suc n + m ≡ suc (n + m) = omega arith in
    let d : a + 1 + n ≡ a + suc n = omega arith in
    ap (range_with_len a) e ∙ ap (λ (ks : List ℕ). a ∷ ks) (range_both (a + 1) n m ∙ ap (λ (k : ℕ). range_with_len (a + 1) n ++ range_with_len k m) d)

-- if it stops at a table, the whole stops
pub ended : (f : Forest) (bytes n : ℕ) (e : Stop SourceRefusal) (old new : InputState) → n ≤ length (tables_of f) → SoFar f bytes n (Err e) old new
    → Ran (given_files_stages f) (none_read bytes) (Err e) old new
ended f bytes n e old new h ran =
    let m : ℕ = length (tables_of f) - n in
    let both : n + m ≡ length (tables_of f) = omega (arith, h) in
    subst (λ (us : List ℕ). Ran (each (given_reading f) us) (none_read bytes) (Err e) old new) (sym (range_both 0 n m) ∙ ap (range_with_len 0) both)
    (ran_front (given_reading f) (range_with_len 0 n) (range_with_len (0 + n) m) (none_read bytes) e old new ran)

pub all_came : (f : Forest) (bytes n : ℕ) (x : Result ReadState (Stop SourceRefusal)) (old new : InputState) → n ≡ length (tables_of f) → SoFar f bytes n x old new
    → Ran (given_files_stages f) (none_read bytes) x old new
all_came f bytes n x old new e ran = subst (λ (k : ℕ). SoFar f bytes k x old new) e ran

-- ---- the instance

abbrev whole : TargetRequest → Stage SourceRefusal TargetRequest (List TableRows)
whole w = over (λ (_ : TargetRequest). none_read w.bytes_left) (next (given_files_stages w.schema) (given_storing w.schema))

pub given_stops : (w : TargetRequest) (e : Stop SourceRefusal) (old new : InputState) → Ran (given_files_stages w.schema) (none_read w.bytes_left) (Err e) old new
    → Ran given_stages w (Err e) old new
given_stops w e old new ran =
    ran_by whole w (Err e) old new
    (ran_over (λ (_ : TargetRequest). none_read w.bytes_left) (next (given_files_stages w.schema) (given_storing w.schema)) w (Err e) old new
    (ran_stop (given_files_stages w.schema) (given_storing w.schema) (none_read w.bytes_left) e old new ran))

-- memory ran out after all was read
pub given_out : (w : TargetRequest) (r : Reading) (old new : InputState)
    → Ran (given_files_stages w.schema) (none_read w.bytes_left) (Ok (read_of r)) old new
    → Ran given_stages w (Err stops.Memory) old new
given_out w r old new ran =
    given_stops w stops.Memory old new
    (ran_memory (given_files_stages w.schema) (none_read w.bytes_left) (read_of r) old new ran)

pub given_passes : (w : TargetRequest) (r : Reading) (I : List TableRows) (old new : InputState) → Ran (given_files_stages w.schema) (none_read w.bytes_left) (Ok (read_of r)) old new
    → IsStored w.schema (read_of r).facts I → Ran given_stages w (Ok I) old new
given_passes w r I old new ran stored =
    ran_by whole w (Ok I) old new
    (ran_over (λ (_ : TargetRequest). none_read w.bytes_left) (next (given_files_stages w.schema) (given_storing w.schema)) w (Ok I) old new
    (ran_next (given_files_stages w.schema) (given_storing w.schema) (none_read w.bytes_left) (read_of r) (Ok I) old new new
    (silent_apart (given_files_stages w.schema) (given_storing w.schema) (λ d b n h. h)) ran (ran_value (given_storing w.schema) (read_of r) (Ok I) new (λ c. stored))))
