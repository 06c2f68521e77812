-- What ran of `judge`, one stage after the other.
use Rattle.std.proofs.Common.{◌≡◌, ◌∙◌, ℕ, zero, suc, ◌++◌, List, [], ◌∷◌, length, get_or, refl, sym, subst, inl, inr, arith, append_assoc, Option, None, Some, Result, Ok, Err}
use Rattle.std.specs.Prelude.{codes}
use Rattle.std.specs.List.{range_with_len}
use Rattle.dx_base.specs.Members.{◌∈◌, here, there, Each}
use Rattle.dx_base.proofs.Members.{from_append, from_map, in_left}
use Rattle.dx_ports.specs.States.{InputState}
use Rattle.dx_instance.specs.Stored.{TableRows, widths}
use Rattle.dx_schema.specs.Forest.{Forest, none, set}
use Rattle.dx_schema.specs.Tables.{NumberedSet, TableOf, numbered_sets, schema_widths, sets_of, schema_table, table_in, tables_of}
use Rattle.dx_schema_text.specs.Print.{HaveWordNames}
use Rattle.dx_judge.specs.declared.verdict.Verdict.{Verdict}
use Rattle.dx_stages.specs.declared.stop.Stop.{Stop}
use Rattle.dx_stages.specs.declared.stop.Stop.TheVariants as stops
use Rattle.dx_stages.specs.Worlds.{World}
use Rattle.dx_stages.specs.Ending.{PlanContent}
use Rattle.dx_stages.specs.Laws.{AsksOtherFiles, AsksOnly}
use Rattle.dx_stages.specs.Running.{Gives, Ran}
use Rattle.dx_stages.specs.Stages.{Stage, by, next, over, saying}
use Rattle.dx_stages.proofs.Decided.{apart_by, each_only}
use Rattle.dx_stages.proofs.Running.{ran_by, ran_into, ran_into_stop, ran_memory, ran_next, ran_over, ran_passes, ran_stop, ran_value, ran_within, silent_apart}
use Rattle.clio_accept.specs.declared.mapping.Mapping.{Mapping}
use Rattle.clio_source.specs.Source.{RootShape, at_start, csv_name, file_at, flat, shape_at, named_by, nested, roots, source_left, reading as source_reading}
use Rattle.clio_source.proofs.Roots.{asks_own as asks_root}
use Rattle.clio_given.specs.Given.{TargetRequest, given_name, given_stages, none_read, given_reading}
use Rattle.clio_given.proofs.Runs.{asks_own}
use Rattle.clio_ending.specs.declared.ending.Done.{Done}
use Rattle.clio_ending.specs.declared.ending.Refusal.{Refusal}
use Rattle.clio_ending.specs.Ending.{source_refusal}
use Rattle.clio_steps.specs.declared.texts.Side.TheVariants.{First}
use Rattle.clio_steps.specs.Steps.{Program, mapping_stages, text_name, wanted}
use Rattle.clio_judge.specs.Judging.{RowsAndTarget, RowsAndBytes, given_rows, verdict_of_mapping, judge_stages, judged_plan, judged_rows, judging_rows, rows_and_bytes, verdicts, wanted_given}
use Rattle.clio_steps.proofs.Names.{IsData, named, no_text, text_asks}
use Rattle.clio_steps.proofs.Words.{not_in_word}

-- ---- names of source files have no `/`, and those of given files have one

abbrev slash : ℕ
slash = 47

HasSlash : List ℕ → Type 0
HasSlash n = slash ∈ n

placed_plain : (parent : Option ℕ) (n : ℕ) (f : Forest) → HaveWordNames f → Each (numbered_sets parent n f) (λ s. ¬ (slash ∈ s.label.name))
placed_plain parent n none h s m = elim m [ ]
placed_plain parent n (set l inner rest) h s (here e) = subst (λ (t : NumberedSet). ¬ (slash ∈ t.label.name)) e (not_in_word slash l.name refl h.0.name)
placed_plain parent n (set l inner rest) h s (there m) = elim (from_append (numbered_sets (Some n) _ inner) m) [
  | inl k ↦ placed_plain (Some n) _ inner h.1 s k
  | inr k ↦ placed_plain parent _ rest h.2 s k
]

-- what holds of each item and of the default holds at each number
at_each : {X : Type 0} (P : X → Type 0) (xs : List X) (i : ℕ) (d : X) → Each xs P → P d → P (get_or xs i d)
at_each P [] i d all p = p
at_each P (x ∷ xs) zero d all p = all x (here refl)
at_each P (x ∷ xs) (suc i) d all p = at_each P xs i d (λ y m. all y (there m)) p

table_plain : (f : Forest) (t : ℕ) → HaveWordNames f → ¬ (slash ∈ (schema_table f t).name)
table_plain f t h = at_each (λ (u : TableOf). ¬ (slash ∈ u.name)) (tables_of f) t _ each (λ m. elim m [ ])
  where
    each : Each (tables_of f) (λ u. ¬ (slash ∈ u.name))
    each u m =
        let p = from_map (table_in (sets_of f)) (sets_of f) m in
        subst (λ (v : TableOf). ¬ (slash ∈ v.name)) p.2 (placed_plain None 0 f h p.0 p.1)

plain_end : (form : RootShape) (name : List ℕ) → ¬ (slash ∈ name) → ¬ (slash ∈ named_by form name)
plain_end flat name plain m = elim (from_append name m) [ inl k ↦ plain k | inr k ↦ csv k ]
  where
    csv : ¬ (slash ∈ codes ".csv")
    csv (here e) = absurd (omega (arith, e))
    csv (there (here e)) = absurd (omega (arith, e))
    csv (there (there (here e))) = absurd (omega (arith, e))
    csv (there (there (there (here e)))) = absurd (omega (arith, e))
    csv (there (there (there (there m)))) = elim m [ ]
plain_end nested name plain m = elim (from_append name m) [ inl k ↦ plain k | inr k ↦ json k ]
  where
    json : ¬ (slash ∈ codes ".json")
    json (here e) = absurd (omega (arith, e))
    json (there (here e)) = absurd (omega (arith, e))
    json (there (there (here e))) = absurd (omega (arith, e))
    json (there (there (there (here e)))) = absurd (omega (arith, e))
    json (there (there (there (there (here e))))) = absurd (omega (arith, e))
    json (there (there (there (there (there m))))) = elim m [ ]

given_marked : (table : List ℕ) → HasSlash (given_name table)
unfolding HasSlash
given_marked table = in_left (csv_name table) in_front
  where
    in_front : slash ∈ codes "given/"
    in_front = there (there (there (there (there (here refl)))))

-- ---- what is asked for

-- a source file has a root's name
source_asks : (P : Program) (c : World) (M : Mapping) (n : List ℕ) → (rows_and_bytes P).asks c M n → (u : ℕ) × (n ≡ file_at M.source u)
source_asks P c M n (inl h) =
    let k = each_only (source_reading M.source) (file_at M.source) (roots M.source) (asks_root M.source) c at_start n h in (k.0, k.2)
source_asks P c M n (inr h) = absurd h.2

pub given_asks : (c : World) (w : TargetRequest) (n : List ℕ) → given_stages.asks c w n → (t : ℕ) × (n ≡ given_name (schema_table w.schema t).name)
given_asks c w n (inl h) =
    let f = w.schema in
    let k = each_only (given_reading f) (λ u. given_name (schema_table f u).name) (range_with_len 0 (length (tables_of f))) (asks_own f) c (none_read w.bytes_left) n h in (k.0, k.2)
given_asks c w n (inr h) = absurd h.2

-- the given files and the verdict
pub after_rows : (P : Program) (c : World) (p : RowsAndBytes) (n : List ℕ) → (next given_rows (judging_rows P)).asks c p n → given_stages.asks c (wanted_given p) n
after_rows P c p n (inl h) = h
after_rows P c p n (inr h) = absurd h.2

pub rest_asks : (P : Program) → AsksOnly IsData (verdict_of_mapping P)
unfolding IsData
rest_asks P c M n (inl h) =
    let k = source_asks P c M n h in
    subst IsData (sym k.1) (named (shape_at M.source k.0) (schema_table M.source k.0).name)
rest_asks P c M n (inr (p, passed, h)) =
    let k = given_asks c (wanted_given p) n (after_rows P c p n h) in
    let name = (schema_table p.0.0.target k.0).name in
    (codes "given/" ++ name, inl (k.1 ∙ sym (append_assoc (codes "given/") name (codes ".csv"))))

pub text_apart : (P : Program) → AsksOtherFiles (mapping_stages P) (verdict_of_mapping P)
text_apart P =
    apart_by (λ n. n ≡ text_name First) IsData (mapping_stages P) (verdict_of_mapping P) (text_asks P First) (rest_asks P)
    (λ n e f. no_text First (subst IsData e f))

-- the rows of a mapping whose names are words, and the given files
rows_apart : (P : Program) (M : Mapping) → HaveWordNames M.source → AsksOtherFiles (over (λ (_ : Mapping). M) (rows_and_bytes P)) (next given_rows (judging_rows P))
unfolding HasSlash
rows_apart P M words c d a p n passed h k =
    let s = source_asks P c M n h in
    let g = given_asks d (wanted_given p) n (after_rows P d p n k) in
    let name = (schema_table p.0.0.target g.0).name in
    plain_end (shape_at M.source s.0) (schema_table M.source s.0).name (table_plain M.source s.0 words)
    (subst HasSlash (sym g.1 ∙ s.1) (given_marked name))

-- ---- the stages

beside : Mapping → List TableRows × ℕ → RowsAndBytes
beside M q = ((M, q.0), q.1)

handed_by : RowsAndBytes → List TableRows → RowsAndTarget
handed_by p K = (p.0, K)

judged_by : RowsAndTarget → Verdict → Mapping × Verdict
judged_by p v = (p.0.0, v)

-- the mapping text stops it
pub text_stops : (P : Program) (e : Stop Refusal) (old new : InputState) → Ran (mapping_stages P) (tt {0}) (Err e) old new → Ran (verdicts P) (tt {0}) (Err e) old new
text_stops P e old new x = ran_stop (mapping_stages P) (verdict_of_mapping P) (tt {0}) e old new x

module _ (P : Program) (M : Mapping) (r : Result (Mapping × Verdict) (Stop Refusal)) (old mid new : InputState) (x : Ran (mapping_stages P) (tt {0}) (Ok M) old mid) where
  after_text : Ran (verdict_of_mapping P) M r mid new → Ran (verdicts P) (tt {0}) r old new
  after_text y = ran_next (mapping_stages P) (verdict_of_mapping P) (tt {0}) M r old mid new (text_apart P) x y

-- the rows stop it
pub rows_stop : (P : Program) (M : Mapping) (e : Stop Refusal) (old mid new : InputState) → Ran (mapping_stages P) (tt {0}) (Ok M) old mid
    → Ran (saying source_refusal (source_left P.passes)) (wanted M) (Err e) mid new → Ran (verdicts P) (tt {0}) (Err e) old new
unfolding beside
rows_stop P M e old mid new x y =
    after_text P M (Err e) old mid new x
    (ran_stop (rows_and_bytes P) (next given_rows (judging_rows P)) M e mid new
    (ran_into_stop beside (over wanted (saying source_refusal (source_left P.passes))) M e mid new
    (ran_over wanted (saying source_refusal (source_left P.passes)) M (Err e) mid new y)))

-- of one mapping
for_one : Program → Mapping → Stage Refusal Mapping (Mapping × Verdict)
for_one P M = next (over (λ (_ : Mapping). M) (rows_and_bytes P)) (next given_rows (judging_rows P))

-- the rows were read
after_rows_ran : (P : Program) (M : Mapping) (I : List TableRows) (left : ℕ) (r : Result (Mapping × Verdict) (Stop Refusal)) (old mid new : InputState) → HaveWordNames M.source
    → Ran (saying source_refusal (source_left P.passes)) (wanted M) (Ok (I, left)) old mid → Ran (next given_rows (judging_rows P)) ((M, I), left) r mid new
    → Ran (verdict_of_mapping P) M r old new
unfolding beside for_one
after_rows_ran P M I left r old mid new words x y =
    ran_within (by (for_one P)) (verdict_of_mapping P) (record { refuses = λ c a e h. h; passes = λ c a b h. h; asks = λ c a n h. h }) M r old new
    (ran_by (for_one P) M r old new
    (ran_next (over (λ (_ : Mapping). M) (rows_and_bytes P)) (next given_rows (judging_rows P)) M ((M, I), left) r old mid new (rows_apart P M words)
    (ran_over (λ (_ : Mapping). M) (rows_and_bytes P) M (Ok ((M, I), left)) old mid
    (ran_into beside (over wanted (saying source_refusal (source_left P.passes))) M (I, left) old mid
    (ran_over wanted (saying source_refusal (source_left P.passes)) M (Ok (I, left)) old mid x))) y))

module _ (P : Program) (M : Mapping) (I : List TableRows) (left : ℕ) (old one two : InputState) (words : HaveWordNames M.source)
    (x : Ran (mapping_stages P) (tt {0}) (Ok M) old one) (y : Ran (saying source_refusal (source_left P.passes)) (wanted M) (Ok (I, left)) one two) where
  -- the given files stop it
  pub given_stop : (e : Stop Refusal) (new : InputState) → Ran (saying source_refusal given_stages) (wanted_given ((M, I), left)) (Err e) two new
      → Ran (verdicts P) (tt {0}) (Err e) old new
  unfolding handed_by
  given_stop e new z =
      after_text P M (Err e) old one new x
      (after_rows_ran P M I left (Err e) one two new words y
      (ran_stop given_rows (judging_rows P) ((M, I), left) e two new
      (ran_into_stop handed_by (over wanted_given (saying source_refusal given_stages)) ((M, I), left) e two new
      (ran_over wanted_given (saying source_refusal given_stages) ((M, I), left) (Err e) two new z))))

  -- the verdict, or why there is none
  pub judged_after : (K : List TableRows) (r : Result (Mapping × Verdict) (Stop Refusal)) (new : InputState) → Ran (saying source_refusal given_stages) (wanted_given ((M, I), left)) (Ok K) two new
      → Gives (judging_rows P) ((M, I), K) r → Ran (verdicts P) (tt {0}) r old new
  unfolding handed_by
  judged_after K r new z g =
      after_text P M r old one new x
      (after_rows_ran P M I left r one two new words y
      (ran_next given_rows (judging_rows P) ((M, I), left) ((M, I), K) r two new new (silent_apart given_rows (judging_rows P) (λ d b n h. h))
      (ran_into handed_by (over wanted_given (saying source_refusal given_stages)) ((M, I), left) K two new
      (ran_over wanted_given (saying source_refusal given_stages) ((M, I), left) (Ok K) two new z))
      (ran_value (judging_rows P) ((M, I), K) r new g)))

-- there is no verdict
pub no_verdict : (P : Program) (p : RowsAndTarget) (e : Stop Refusal) → Gives (judged_rows P.apply) p (Err e) → Gives (judging_rows P) p (Err e)
no_verdict P p (stops.Refused e) g = g
no_verdict P p (stops.Failed n) g = g
no_verdict P p stops.Memory g = g

-- there is one
pub a_verdict : (P : Program) (p : RowsAndTarget) (v : Verdict) → Gives (judged_rows P.apply) p (Ok v) → Gives (judging_rows P) p (Ok (p.0.0, v))
a_verdict P p v g = λ c. (v, g c, refl)

-- ---- the given files

-- they have the tables of the schema
pub given_widths : (w : TargetRequest) (K : List TableRows) (old new : InputState) → Ran (saying source_refusal given_stages) w (Ok K) old new → widths K ≡ schema_widths w.schema
given_widths w K old new x = let p = ran_passes (saying source_refusal given_stages) w K old new x in p.1.2.widths_are

-- ---- what is said

pub plan_stops : (P : Program) (e : Stop Refusal) (old new : InputState) → Ran (verdicts P) (tt {0}) (Err e) old new → Ran (judge_stages P) (tt {0}) (Err e) old new
plan_stops P e old new x = ran_into_stop (λ (u : Unit {0}) (q : Mapping × Verdict). judged_plan q) (verdicts P) (tt {0}) e old new x

pub planned_verdict : (P : Program) (q : Mapping × Verdict) (plan : PlanContent Done) (old new : InputState) → plan ≡ judged_plan q
    → Ran (verdicts P) (tt {0}) (Ok q) old new → Ran (judge_stages P) (tt {0}) (Ok plan) old new
planned_verdict P q plan old new is x =
    subst (λ v. Ran (judge_stages P) (tt {0}) (Ok v) old new) (sym is)
    (ran_into (λ (u : Unit {0}) (q : Mapping × Verdict). judged_plan q) (verdicts P) (tt {0}) q old new x)

-- what memory could not make of a verdict
pub plan_none : (P : Program) (q : Mapping × Verdict) (old new : InputState) → Ran (verdicts P) (tt {0}) (Ok q) old new → Ran (judge_stages P) (tt {0}) (Err stops.Memory) old new
plan_none P q old new x = ran_memory (judge_stages P) (tt {0}) (judged_plan q) old new (planned_verdict P q (judged_plan q) old new refl x)
