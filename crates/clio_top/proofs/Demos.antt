-- What ran over files that are given.
use Rattle.std.proofs.Common.{◌≡◌, ℕ, zero, suc, ◌+◌, ◌<◌, ◌≤◌, List, [], ◌∷◌, ◌++◌, length, take, get_or, sym, ◌∙◌, ap, subst, arith, Option, Some, Result, Ok, Err}
use Rattle.std.specs.Prelude.{codes}
use Rattle.std.specs.Fmt.{decimal}
use Rattle.std.specs.FinMap.{get}
use Rattle.std.proofs.lemmas.List.{append-nil, append_assoc, take_all}
use Rattle.dx_base.specs.Entries.{FileMap}
use Rattle.dx_ports.specs.States.{Found, InputState}
use Rattle.dx_instance.specs.Stored.{TableRows, rows_of}
use Rattle.dx_schema.specs.Forest.{Forest}
use Rattle.dx_schema.specs.Tables.{TableOf, schema_table, tables_of, no_table}
use Rattle.dx_stages.specs.declared.stop.Stop.{Stop}
use Rattle.dx_stages.specs.declared.stop.Stop.TheVariants as stops
use Rattle.dx_stages.specs.Worlds.{Agrees, HoldsFound, IsSeen, World}
use Rattle.dx_stages.specs.Stages.{Stage}
use Rattle.dx_stages.specs.Running.{FailedAt, Gives, Meets, Ran}
use Rattle.dx_stages.specs.Ending.{PlanContent}
use Rattle.dx_stages.proofs.Running.{gives_become, gives_become_stop}
use Rattle.dx_exchange.specs.declared.mode.Mode.{Mode}
use Rattle.dx_exchange.specs.declared.result.Exchange.{Exchange}
use Rattle.clio_accept.specs.declared.mapping.Mapping.{Mapping}
use Rattle.clio_ending.specs.declared.ending.Done.{Done}
use Rattle.clio_ending.specs.declared.ending.Refusal.{Refusal}
use Rattle.clio_steps.specs.Steps.{Program, exchanges}
use Rattle.clio_top.specs.Demo.{IsDemoPlan, count_line, counts_text, demo_file_map, demo_stages, demo_world, in_world}

-- what was told of a world is so there
agrees : (w : World) (m : FileMap) (found : List Found) → ((n : List ℕ) → w n ≡ get m n) → HoldsFound (Some m) found → Agrees w found
agrees w m [] same told = tt
agrees w m (f ∷ fs) same told =
    (subst (λ (o : Option (List ℕ)). IsSeen o f.sight) (sym (same f.name)) told.0, agrees w m fs same told.1)

-- over inputs that hold a world and count no faults a stage gives what it gives in that world
pub gives_inside : {E A B : Type 0} (s : Stage E A B) (w : World) (m : FileMap) (a : A) (r : Result B (Stop E)) (old new : InputState)
    → old.holds ≡ Some m → ((n : List ℕ) → w n ≡ get m n) → old.faults ≡ 0 → new.faults ≡ 0 → Ran s a r old new → Gives (in_world w s) a r
gives_inside {E} {A} {B} s w m a r old new holds same before after x =
    of r x.failed (x.finds.meets w (agrees w m x.finds.found same (subst (λ (o : Option FileMap). HoldsFound o x.finds.found) holds x.finds.told)))
  where
    of : (q : Result B (Stop E)) → FailedAt old new q → Meets s w a q → Gives (in_world w s) a q
    of (Ok b) f k = λ c. k
    of (Err (stops.Refused e)) f k = λ c. k
    of (Err (stops.Failed n)) f k = let rose = f.0 in absurd (omega (arith, rose, before, after))
    of (Err stops.Memory) f k = tt

-- ---- the counts

-- the lines of one table more
counts_from : (n k : ℕ) (ts : List TableOf) (d : TableOf) (target : List TableRows) → k < length ts
    → counts_text n (take (suc k) ts) target ≡ counts_text n (take k ts) target ++ count_line (get_or ts k d) (length (rows_of target (n + k)))
counts_from n k [] d target h = absurd (omega (arith, h))
counts_from n zero (t ∷ ts) d target h =
    append-nil (count_line t (length (rows_of target n))) ∙ ap (λ m. count_line t (length (rows_of target m))) (omega arith)
counts_from n (suc k) (t ∷ ts) d target h =
    let rest = counts_from (suc n) k ts d target (omega (arith, h)) in
    let line = count_line t (length (rows_of target n)) in
    ap (λ v. line ++ v) rest ∙ sym (append_assoc line (counts_text (suc n) (take k ts) target) (count_line (get_or ts k d) (length (rows_of target (suc n + k)))))
    ∙ ap (λ m. (line ++ counts_text (suc n) (take k ts) target) ++ count_line (get_or ts k d) (length (rows_of target m))) (omega arith)

one_more : (k : ℕ) → suc k ≡ k + 1
one_more k = omega arith

none_more : (k : ℕ) → k ≡ 0 + k
none_more k = omega arith

pub counts_more : (k : ℕ) (ts : List TableOf) (d : TableOf) (target : List TableRows) (before after line : List ℕ) → k < length ts
    → line ≡ count_line (get_or ts k d) (length (rows_of target k)) → after ≡ (before ++ counts_text 0 (take k ts) target) ++ line
    → after ≡ before ++ counts_text 0 (take (k + 1) ts) target
counts_more k ts d target before after line h is grown =
    grown ∙ append_assoc before (counts_text 0 (take k ts) target) line
    ∙ ap (λ v. before ++ v) (ap (λ v. counts_text 0 (take k ts) target ++ v) (is ∙ ap (λ m. count_line (get_or ts k d) (length (rows_of target m))) (none_more k))
    ∙ sym (counts_from 0 k ts d target h) ∙ ap (λ m. counts_text 0 (take m ts) target) (one_more k))

-- the same, by what the code knows of the table
pub counted : (k : ℕ) (f : Forest) (target : List TableRows) (before middle after name line : List ℕ) (count : ℕ) → k < length (tables_of f)
    → name ≡ (schema_table f k).name → count ≡ length (rows_of target k) → line ≡ name ++ (codes " " ++ (decimal count ++ codes "\n"))
    → middle ≡ before ++ counts_text 0 (take k (tables_of f)) target → after ≡ middle ++ line
    → after ≡ before ++ counts_text 0 (take (k + 1) (tables_of f)) target
counted k f target before middle after name line count h named many is so grown =
    counts_more k (tables_of f) no_table target before after line h
    (is ∙ ap (λ n. n ++ (codes " " ++ (decimal count ++ codes "\n"))) named
    ∙ ap (λ m. (schema_table f k).name ++ (codes " " ++ (decimal m ++ codes "\n"))) many)
    (grown ∙ ap (λ m. m ++ line) so)

pub counts_all : (k : ℕ) (ts : List TableOf) (target : List TableRows) → length ts ≤ k → counts_text 0 (take k ts) target ≡ counts_text 0 ts target
counts_all k ts target h = ap (λ v. counts_text 0 v target) (take_all k ts h)

-- ---- the exchange of a demo

-- over the files of a demo, its exchange was refused
pub demo_stops : (P : Program) (number : ℕ) (mode : Mode) (m : FileMap) (e : Stop Refusal) (old new : InputState) → old.holds ≡ Some m → m ≡ demo_file_map number
    → old.faults ≡ 0 → new.faults ≡ 0 → Ran (exchanges P mode) (tt {0}) (Err e) old new → Gives (demo_stages P number mode) (tt {0}) (Err e)
demo_stops P number mode m e old new holds same before after x =
    gives_become_stop (λ u q plan. IsDemoPlan number q.0 q.1 plan) (in_world (demo_world number) (exchanges P mode)) (tt {0}) e
    (gives_inside (exchanges P mode) (demo_world number) m (tt {0}) (Err e) old new holds (λ n. ap (λ h. get h n) (sym same)) before after x)

-- over the files of a demo, its exchange was made
pub demo_made : (P : Program) (number : ℕ) (mode : Mode) (m : FileMap) (q : Mapping × Exchange) (plan : PlanContent Done) (old new : InputState)
    → old.holds ≡ Some m → m ≡ demo_file_map number → old.faults ≡ 0 → new.faults ≡ 0 → Ran (exchanges P mode) (tt {0}) (Ok q) old new
    → IsDemoPlan number q.0 q.1 plan → Gives (demo_stages P number mode) (tt {0}) (Ok plan)
demo_made P number mode m q plan old new holds same before after x is =
    gives_become (λ u r p. IsDemoPlan number r.0 r.1 p) (in_world (demo_world number) (exchanges P mode)) (tt {0}) q plan is
    (gives_inside (exchanges P mode) (demo_world number) m (tt {0}) (Ok q) old new holds (λ n. ap (λ h. get h n) (sym same)) before after x)
