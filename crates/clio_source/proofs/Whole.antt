-- The whole source: the instance that was read agrees with that of the files.
use Rattle.std.proofs.Common.{◌≡◌, ℕ, refl, sym, ◌∙◌, subst, Ok, Err, List, length}
use Rattle.std.specs.List.{list_all}
use Rattle.dx_base.proofs.Members.{same_sym, same_trans}
use Rattle.dx_base.proofs.Tests.{from_filter}
use Rattle.dx_ports.specs.States.{InputState}
use Rattle.dx_model.specs.declared.facts.Fact.{Fact}
use Rattle.dx_instance.specs.Shown.{shown_tables}
use Rattle.dx_instance.specs.Stored.{IsSorting, TableRows, facts, widths}
use Rattle.dx_schema.specs.Tables.{schema_widths, tables_of}
use Rattle.dx_stages.specs.declared.stop.Stop.{Stop}
use Rattle.dx_stages.specs.declared.stop.Stop.TheVariants as stops
use Rattle.dx_stages.specs.Stages.{Stage, into, next, over}
use Rattle.dx_stages.specs.Running.{Ran}
use Rattle.dx_stages.proofs.Running.{ran_by, ran_memory, ran_next, ran_over, ran_passes, ran_stop, ran_value, silent_apart}
use Rattle.dx_used.specs.Used.{AgreeOnUsed, Marks}
use Rattle.dx_used.specs.Named.{ReadNamed}
use Rattle.dx_used.specs.Passing.{Passes, fact_passes, passing}
use Rattle.dx_used.proofs.Blanking.{agree_same}
use Rattle.dx_used.proofs.PassingLaws.{same_passing}
use Rattle.clio_source.specs.declared.fault.SourceRefusal.{SourceRefusal}
use Rattle.clio_source.specs.declared.reading.Reading.{Reading}
use Rattle.clio_source.specs.Agreeing.{AllBlanked, RanAgreeing}
use Rattle.clio_source.specs.Kept.{IsPassing}
use Rattle.clio_source.specs.Source.{ReadState, SourceRequest, at_start, files_stages, source_left, storing}
use Rattle.clio_source.specs.Fitting.{Holds, UnusedAreBlank, RanTo, ReadFits}
use Rattle.clio_source.proofs.Blank.{blank_sorted}
use Rattle.clio_source.proofs.Decided.{some_stored}
use Rattle.clio_source.proofs.Fits.{sorted_agree, sorted_wide}
use Rattle.clio_source.proofs.Passed.{passed_of, passing_of}

abbrev beside_bytes : ReadState → List TableRows → List TableRows × ℕ
beside_bytes r I = (I, r.bytes_left)

abbrev after_files : Passes → SourceRequest → Stage SourceRefusal ReadState (List TableRows × ℕ)
after_files passes w = into beside_bytes (storing passes w.conditions w.schema)

abbrev whole_of : Passes → SourceRequest → Stage SourceRefusal SourceRequest (List TableRows × ℕ)
whole_of passes w = over (λ (_ : SourceRequest). at_start) (next (files_stages w.schema) (after_files passes w))

pub source_stops : (passes : Passes) (used : Marks) (w : SourceRequest) (e : Stop SourceRefusal) (old new : InputState) → RanTo used (files_stages w.schema) at_start (Err e) old new
    → Ran (source_left passes) w (Err e) old new
source_stops passes used w e old new x =
    ran_by (whole_of passes) w (Err e) old new (ran_over (λ (_ : SourceRequest). at_start) (next (files_stages w.schema) (after_files passes w)) w (Err e) old new
    (ran_stop (files_stages w.schema) (after_files passes w) at_start e old new x))

-- memory ran out after all was read
pub source_out : (passes : Passes) (used : Marks) (w : SourceRequest) (r : Reading) (old new : InputState)
    → RanTo used (files_stages w.schema) at_start (Ok r) old new → Ran (source_left passes) w (Err stops.Memory) old new
source_out passes used w r old new (q, holds, ran) =
    source_stops passes used w stops.Memory old new (ran_memory (files_stages w.schema) at_start q old new ran)

-- the facts that were read and pass have an instance, and this is what the stage passes
source_agrees : (passes : Passes) (used : Marks) (w : SourceRequest) (r : Reading) (J : List TableRows) (old new : InputState) → RanTo used (files_stages w.schema) at_start (Ok r) old new
    → ((q : ReadState) → Holds used r q → AgreeOnUsed used (passing passes w.conditions q.facts) (facts J)) → widths J ≡ schema_widths w.schema
    → RanAgreeing used (source_left passes) w (Ok (J, r.bytes_left)) old new
source_agrees passes used w r J old new (q, holds, ran) agree wide =
    let f = w.schema in
    let told = ran_passes (files_stages f) at_start q old new ran in
    let s = some_stored f (passing passes w.conditions q.facts) (passing_of passes w.conditions f q.facts (passed_of f told.0 q told.1)) in (
      s.0,
      same_trans (agree_same used s.1.exact) (agree q holds),
      s.1.widths_are ∙ sym wide,
      subst (λ (n : ℕ). Ran (source_left passes) w (Ok (s.0, n)) old new) (sym holds.bytes)
          (ran_by (whole_of passes) w (Ok (beside_bytes q s.0)) old new
          (ran_over (λ (_ : SourceRequest). at_start) (next (files_stages f) (after_files passes w)) w (Ok (beside_bytes q s.0)) old new
          (ran_next (files_stages f) (after_files passes w) at_start q (Ok (beside_bytes q s.0)) old new new (silent_apart (files_stages f) (after_files passes w) (λ d b n h. h)) ran
          (ran_value (after_files passes w) q (Ok (beside_bytes q s.0)) new (λ c. (s.0, s.1, refl)))))),
    )

-- the instance that was read, of which the rows that pass stay
pub source_passes : (passes : Passes) (used : Marks) (w : SourceRequest) (r : Reading) (I J : List TableRows) (old new : InputState) → RanTo used (files_stages w.schema) at_start (Ok r) old new
    → ReadNamed used w.conditions → ReadFits w.schema (length (tables_of w.schema)) r → IsSorting (shown_tables r.symbols r.tables.items) I → IsPassing passes w.conditions I J
    → RanAgreeing used (source_left passes) w (Ok (J, r.bytes_left)) old new
source_passes passes used w r I J old new ran named fit sorted passed =
    source_agrees passes used w r J old new ran
    (λ q h. same_trans (same_passing passes used w.conditions q.facts (facts I) named (sorted_agree used r q I h sorted)) (agree_same used (same_sym passed.exact)))
    (passed.widths_stay ∙ sorted_wide w.schema r I fit sorted)

-- what is blank stays so
pub source_blank : (passes : Passes) (used : Marks) (w : SourceRequest) (r : Reading) (I J : List TableRows) → IsSorting (shown_tables r.symbols r.tables.items) I → IsPassing passes w.conditions I J
    → UnusedAreBlank used w.schema r → AllBlanked used w.schema (facts J)
source_blank passes used w r I J sorted passed blank fact m is =
    blank_sorted used w.schema r I sorted blank fact (from_filter (λ (g : Fact). list_all (fact_passes passes g) w.conditions) (facts I) (passed.exact.0 fact m)).0 is
