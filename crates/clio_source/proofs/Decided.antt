-- Files say one source, or are refused for one reason, and never both.
use Rattle.std.proofs.Common.{◌≡◌, ◌⊎◌, ℕ, zero, suc, ◌+◌, ◌-◌, ◌<◌, List, [], ◌∷◌, refl, sym, ◌∙◌, ap, subst, inl, inr, length, arith}
use Rattle.std.specs.Prelude.{map, filter, ◌==◌}
use Rattle.std.specs.Cmp.{IsTotalOrder}
use Rattle.std.proofs.lemmas.Bool.{eq-eqb, eqb-true}
use Rattle.std.proofs.lemmas.Cmp.{lists_total}
use Rattle.std.proofs.lemmas.List.{length-map}
use Rattle.dx_base.specs.Members.{◌∈◌, ◌⊆◌}
use Rattle.dx_base.proofs.Members.{from_map, in_map}
use Rattle.dx_base.proofs.Tests.{from_filter, to_filter}
use Rattle.dx_model.specs.declared.values.Value.{Value}
use Rattle.dx_model.specs.declared.facts.Fact.{Fact}
use Rattle.dx_model.specs.Values.{RowsAscend, row_cmp}
use Rattle.dx_model.proofs.Orders.{value_total, row_exact}
use Rattle.dx_model.proofs.Ascending.{one_ascending, in_order, in_order_ascends, in_in_order, from_in_order}
use Rattle.dx_instance.specs.Stored.{TableRows, facts, rows_of, widths}
use Rattle.dx_instance.proofs.StoredFacts.{fact_from_row, row_from_fact, same_tables}
use Rattle.dx_schema.specs.Forest.{Forest}
use Rattle.dx_schema.specs.Tables.{TableOf, schema_widths, schema_table, tables_of}
use Rattle.dx_csv.specs.Table.{table_records}
use Rattle.dx_csv.proofs.OneReading.{table-is-one, fault-is-one, faults-exclude}
use Rattle.dx_csv.proofs.Decided.{table_or_fault}
use Rattle.dx_json.proofs.OneReading.{facts_are_one, fault_is_one}
use Rattle.dx_json.proofs.OneReading.{never_both as document_or_fault, either as one_of_both}
use Rattle.dx_stages.specs.Stages.{Stage, next, by, over, into, computing, notions}
use Rattle.dx_stages.specs.Laws.{PassesOne, IsDecided}
use Rattle.dx_stages.proofs.Decided.{Any, next_one, next_decided, each_one, each_decided, by_one, by_decided, over_one, over_decided, into_one, into_decided, file_one, file_decided, computing_one, computing_decided, notions_decided, weaker}
use Rattle.clio_source.specs.declared.fault.RowsFault.{RowsFault}
use Rattle.clio_source.specs.declared.fault.RowsFault.TheVariants.{Absent, Csv, Json}
use Rattle.clio_source.specs.declared.fault.SourceRefusal.{SourceRefusal}
use Rattle.clio_source.specs.declared.fault.SourceRefusal.TheVariants as refusals
use Rattle.dx_lines.specs.declared.line.Condition.{Condition}
use Rattle.dx_used.specs.Passing.{Passes, passing}
use Rattle.clio_source.specs.Source.{RootShape, HaveFault, IsSourceFault, IsStored, ReadState, SayFacts, SaysSourceFacts, SourceRequest, as_facts, at_start, fetching, file_at, files_stages, flat, shape_at, loading, named_by, nested, reading, roots, storing, too_many_bytes, with_facts}
use Rattle.clio_source.specs.Laws.{OneSource, OneSourceLeft, ReadOrRefused, ReadOrRefusedLeft, SourceIsOfBoth}
use Rattle.clio_source.proofs.Runs.{its_file}
use Rattle.clio_source.proofs.Passed.{AreOf, passed_of, passing_of}

abbrev Same : SourceRefusal → SourceRefusal → Type 0
Same d e = d ≡ e

-- ---- what the bytes of a root's file say

said_one : (form : RootShape) (f : Forest) (root : ℕ) (bytes : List ℕ) (a b : List Fact) → SayFacts form f root bytes a → SayFacts form f root bytes b → a ≡ b
said_one flat f root bytes a b x y = x.2 ∙ ap (as_facts root) (table-is-one (table_records bytes) (schema_table f root).columns x.0 y.0 x.1 y.1) ∙ sym y.2
said_one nested f root bytes a b x y = facts_are_one bytes f root a b x y

fault_one : (form : RootShape) (f : Forest) (root : ℕ) (bytes : List ℕ) (d e : RowsFault) → HaveFault form f root bytes d → HaveFault form f root bytes e → d ≡ e
fault_one flat f root bytes d e x y = x.2 ∙ ap Csv (fault-is-one (table_records bytes) (schema_table f root).columns x.0 y.0 x.1 y.1) ∙ sym y.2
fault_one nested f root bytes d e x y = x.2 ∙ ap Json (fault_is_one bytes f root x.0 y.0 x.1 y.1) ∙ sym y.2

never_both : (form : RootShape) (f : Forest) (root : ℕ) (bytes : List ℕ) (a : List Fact) (e : RowsFault) → SayFacts form f root bytes a → ¬ (HaveFault form f root bytes e)
never_both flat f root bytes a e x y = faults-exclude (table_records bytes) (schema_table f root).columns x.0 y.0 x.1 y.1
never_both nested f root bytes a e x y = document_or_fault bytes f root a y.0 x y.1

either_one : (form : RootShape) (f : Forest) (root : ℕ) (bytes : List ℕ) → ((a : List Fact) × SayFacts form f root bytes a) ⊎ ((e : RowsFault) × HaveFault form f root bytes e)
either_one flat f root bytes = elim (table_or_fault (table_records bytes) (schema_table f root).columns) [
  | inl r ↦ inl (_, (r.0, r.1, refl))
  | inr k ↦ inr (_, (k.0, k.1, refl))
]
either_one nested f root bytes = elim (one_of_both bytes f root) [
  | inl s ↦ inl s
  | inr k ↦ inr (_, (k.0, k.1, refl))
]

-- ---- one root

pub fetching_one : (name : List ℕ) → PassesOne (fetching name)
fetching_one name = into_one (λ (r : ReadState) (bytes : List ℕ). (r, bytes)) (by (its_file name)) (by_one (its_file name) (λ r. file_one ReadState name r.bytes_left (refusals.Rows name Absent) too_many_bytes))

pub fetching_decided : (name : List ℕ) → IsDecided Same Any (fetching name)
fetching_decided name = into_decided Same Any (λ (r : ReadState) (bytes : List ℕ). (r, bytes)) (by (its_file name))
    (by_decided Same Any (its_file name) (λ r g. file_decided Same Any name r.bytes_left (refusals.Rows name Absent) too_many_bytes (λ e. refl)))

says_one : (form : RootShape) (f : Forest) (root : ℕ) → PassesOne (notions (IsSourceFault form f root) (SaysSourceFacts form f root))
says_one form f root c p q s x y =
    x.2 ∙ ap (λ (said : List Fact). (record { facts = p.0.facts; bytes_left = p.0.bytes_left - length p.1; cells_left = p.0.cells_left }, said)) (said_one form f root p.1 x.0 y.0 x.1 y.1) ∙ sym y.2

says_decided : (form : RootShape) (f : Forest) (root : ℕ) → IsDecided Same Any (notions (IsSourceFault form f root) (SaysSourceFacts form f root))
says_decided form f root = notions_decided Same Any (IsSourceFault form f root) (SaysSourceFacts form f root) one never either
  where
    one : (p : ReadState × List ℕ) (d e : SourceRefusal) → Unit {0} → IsSourceFault form f root p d → IsSourceFault form f root p e → d ≡ e
    one p d e g x y = x.2 ∙ ap (λ k. refusals.Rows (named_by form (schema_table f root).name) k) (fault_one form f root p.1 x.0 y.0 x.1 y.1) ∙ sym y.2

    never : (p : ReadState × List ℕ) (q : ReadState × List Fact) (e : SourceRefusal) → Unit {0} → SaysSourceFacts form f root p q → ¬ (IsSourceFault form f root p e)
    never p q e g x y = never_both form f root p.1 x.0 y.0 x.1 y.1

    either : (p : ReadState × List ℕ) → Unit {0} → ((q : ReadState × List Fact) × SaysSourceFacts form f root p q) ⊎ ((e : SourceRefusal) × IsSourceFault form f root p e)
    either p g = elim (either_one form f root p.1) [
      | inl s ↦ inl (_, (s.0, s.1, refl))
      | inr k ↦ inr (_, (k.0, k.1, refl))
    ]

loading_one : (form : RootShape) (f : Forest) (root : ℕ) → PassesOne (loading form f root)
loading_one form f root = next_one (notions (IsSourceFault form f root) (SaysSourceFacts form f root)) (computing (with_facts f)) (says_one form f root) (computing_one (with_facts f))

loading_decided : (form : RootShape) (f : Forest) (root : ℕ) → IsDecided Same Any (loading form f root)
loading_decided form f root = next_decided Same Any Any (notions (IsSourceFault form f root) (SaysSourceFacts form f root)) (computing (with_facts f)) (says_one form f root) (λ c a b g p. tt) (says_decided form f root)
    (computing_decided Same Any (with_facts f) (λ e. refl))

reading_one : (f : Forest) (root : ℕ) → PassesOne (reading f root)
reading_one f root = next_one (fetching (file_at f root)) (loading (shape_at f root) f root) (fetching_one (file_at f root)) (loading_one (shape_at f root) f root)

reading_decided : (f : Forest) (root : ℕ) → IsDecided Same Any (reading f root)
reading_decided f root = next_decided Same Any Any (fetching (file_at f root)) (loading (shape_at f root) f root) (fetching_one (file_at f root)) (λ c a b g p. tt) (fetching_decided (file_at f root)) (loading_decided (shape_at f root) f root)

-- ---- the instance

row_total : IsTotalOrder row_cmp
row_total = lists_total value_total

-- a row of one is a row of the other
pub row_of_both : (f : Forest) (said : List Fact) (I J : List TableRows) → IsStored f said I → IsStored f said J → (t : ℕ) → rows_of I t ⊆ rows_of J t
row_of_both f said I J p q t x m = row_from_fact J (record { table = t; row = x }) (q.exact.1 (record { table = t; row = x }) (p.exact.0 (record { table = t; row = x }) (fact_from_row I t x m)))

storing_one : (passes : Passes) (conditions : List Condition) (f : Forest) → PassesOne (storing passes conditions f)
storing_one passes conditions f c r I J p q = same_tables I J (p.widths_are ∙ sym q.widths_are) (λ t.
    one_ascending row_cmp row_total (rows_of I t) (rows_of J t) (p.ascend t) (q.ascend t) (row_of_both f (passing passes conditions r.facts) I J p q t) (row_of_both f (passing passes conditions r.facts) J I q p t))

-- the rows of a table among facts
abbrev rows_among : List Fact → ℕ → List (List Value)
rows_among said t = map (λ (fact : Fact). fact.row) (filter (λ (fact : Fact). fact.table == t) said)

row_among : (said : List Fact) (fact : Fact) → fact ∈ said → fact.row ∈ rows_among said fact.table
row_among said fact m = in_map (λ (fact : Fact). fact.row) (to_filter (λ (x : Fact). x.table == fact.table) said m (eq-eqb fact.table fact.table refl))

fact_among : (said : List Fact) (t : ℕ) (row : List Value) → row ∈ rows_among said t → ◌∈◌ {X = Fact} (record { table = t; row = row }) said
fact_among said t row m =
    let k = from_map (λ (fact : Fact). fact.row) (filter (λ (fact : Fact). fact.table == t) said) m in
    let h = from_filter (λ (fact : Fact). fact.table == t) said k.1 in
    let table : k.0.table ≡ t = eqb-true k.0.table t h.1 in
    subst (λ (x : Fact). x ∈ said) (λ i. record { table = table i; row = k.2 i }) h.0

-- the rows of each table in order
abbrev sorted_rows : List (List Value) → List (List Value)
sorted_rows = in_order row_cmp row_total row_exact

abbrev stored : List ℕ → ℕ → List Fact → List TableRows
stored [] n said = []
stored (w ∷ ws) n said = record { width = w; rows = sorted_rows (rows_among said n) } ∷ stored ws (suc n) said

stored_widths : (ws : List ℕ) (n : ℕ) (said : List Fact) → widths (stored ws n said) ≡ ws
stored_widths [] n said = refl
stored_widths (w ∷ ws) n said = ap (λ vs. w ∷ vs) (stored_widths ws (suc n) said)

stored_ascends : (ws : List ℕ) (n : ℕ) (said : List Fact) (t : ℕ) → RowsAscend (rows_of (stored ws n said) t)
stored_ascends [] n said t = tt
stored_ascends (w ∷ ws) n said zero = in_order_ascends row_cmp row_total row_exact (rows_among said n)
stored_ascends (w ∷ ws) n said (suc t) = stored_ascends ws (suc n) said t

stored_only : (ws : List ℕ) (n : ℕ) (said : List Fact) (t : ℕ) → rows_of (stored ws n said) t ⊆ rows_among said (n + t)
stored_only [] n said t x m = elim m [ ]
stored_only (w ∷ ws) n said zero x m = let e : n ≡ n + 0 = omega arith in subst (λ k. x ∈ rows_among said k) e (from_in_order row_cmp row_total row_exact x (rows_among said n) m)
stored_only (w ∷ ws) n said (suc t) x m = let e : suc n + t ≡ n + suc t = omega arith in subst (λ k. x ∈ rows_among said k) e (stored_only ws (suc n) said t x m)

stored_kept : (ws : List ℕ) (n : ℕ) (said : List Fact) (t : ℕ) → t < length ws → rows_among said (n + t) ⊆ rows_of (stored ws n said) t
stored_kept [] n said t h x m = absurd (omega arith)
stored_kept (w ∷ ws) n said zero h x m = let e : n + 0 ≡ n = omega arith in in_in_order row_cmp row_total row_exact x (rows_among said n) (subst (λ k. x ∈ rows_among said k) e m)
stored_kept (w ∷ ws) n said (suc t) h x m = let e : n + suc t ≡ suc n + t = omega arith in stored_kept ws (suc n) said t (omega arith) x (subst (λ k. x ∈ rows_among said k) e m)

abbrev IsOf : Forest → ReadState → Type 0
IsOf f r = AreOf f r.facts

is_stored : (f : Forest) (said : List Fact) → AreOf f said → IsStored f said (stored (schema_widths f) 0 said)
is_stored f said of = record { widths_are = stored_widths (schema_widths f) 0 said; ascend = stored_ascends (schema_widths f) 0 said; exact = (only, kept) }
  where
    only : facts (stored (schema_widths f) 0 said) ⊆ said
    only x m =
        let e : 0 + x.table ≡ x.table = omega arith in
        fact_among said x.table x.row (subst (λ k. x.row ∈ rows_among said k) e (stored_only (schema_widths f) 0 said x.table x.row (row_from_fact (stored (schema_widths f) 0 said) x m)))

    kept : said ⊆ facts (stored (schema_widths f) 0 said)
    kept x m =
        let e : x.table ≡ 0 + x.table = omega arith in
        let lt : x.table < length (schema_widths f) = omega (arith, of x m, length-map (tables_of f) (λ (t : TableOf). length t.columns)) in
        fact_from_row (stored (schema_widths f) 0 said) x.table x.row (stored_kept (schema_widths f) 0 said x.table lt x.row (subst (λ k. x.row ∈ rows_among said k) e (row_among said x m)))

-- facts of the schema's tables have an instance
pub some_stored : (f : Forest) (said : List Fact) → AreOf f said → (I : List TableRows) × IsStored f said I
some_stored f said of = (stored (schema_widths f) 0 said, is_stored f said of)

storing_decided : (passes : Passes) (conditions : List Condition) (f : Forest) → IsDecided Same (IsOf f) (storing passes conditions f)
storing_decided passes conditions f = notions_decided Same (IsOf f) (λ r e. ⊥) (λ r I. IsStored f (passing passes conditions r.facts) I)
    (λ r d e g x y. absurd x) (λ r I e g x y. y) (λ r g. inl (some_stored f (passing passes conditions r.facts) (passing_of passes conditions f r.facts g)))

-- ---- all roots

abbrev beside_bytes : ReadState → List TableRows → List TableRows × ℕ
beside_bytes r I = (I, r.bytes_left)

abbrev IsStart : ReadState → Type 0
IsStart r = r ≡ at_start

-- the files of all roots, and then a stage over what was read
after_all : {B : Type 0} → Stage SourceRefusal ReadState B → Forest → Stage SourceRefusal ReadState B
after_all last f = next (files_stages f) last

all_one : {B : Type 0} (last : Stage SourceRefusal ReadState B) (f : Forest) → PassesOne last → PassesOne (after_all last f)
unfolding after_all
all_one last f one = next_one (files_stages f) last (each_one (reading f) (roots f) (reading_one f)) one

all_decided : {B : Type 0} (last : Stage SourceRefusal ReadState B) (f : Forest) → IsDecided Same (IsOf f) last → IsDecided Same IsStart (after_all last f)
unfolding after_all
all_decided last f decided =
    next_decided Same IsStart (IsOf f) (files_stages f) last (each_one (reading f) (roots f) (reading_one f))
    (λ c a r g p. passed_of f c r (subst (λ v. (files_stages f).passes c v r) g p))
    (weaker Same Any IsStart (files_stages f) (λ a g. tt) (each_decided Same Any (reading f) (roots f) (reading_one f) (λ x c a b g p. tt) (reading_decided f)))
    decided

-- of what is wanted
from_start : {B : Type 0} → (SourceRequest → Stage SourceRefusal ReadState B) → Stage SourceRefusal SourceRequest B
from_start last = by (λ (w : SourceRequest). over (λ (_ : SourceRequest). at_start) (after_all (last w) w.schema))

from_one : {B : Type 0} (last : SourceRequest → Stage SourceRefusal ReadState B) → ((w : SourceRequest) → PassesOne (last w)) → PassesOne (from_start last)
unfolding from_start
from_one last one =
    by_one (λ (w : SourceRequest). over (λ (_ : SourceRequest). at_start) (after_all (last w) w.schema))
    (λ w. over_one (λ (_ : SourceRequest). at_start) (after_all (last w) w.schema) (all_one (last w) w.schema (one w)))

from_decided : {B : Type 0} (last : SourceRequest → Stage SourceRefusal ReadState B) → ((w : SourceRequest) → IsDecided Same (IsOf w.schema) (last w))
    → IsDecided Same Any (from_start last)
unfolding from_start
from_decided last decided =
    by_decided Same Any (λ (w : SourceRequest). over (λ (_ : SourceRequest). at_start) (after_all (last w) w.schema))
    (λ w g. over_decided Same Any IsStart (λ (_ : SourceRequest). at_start) (after_all (last w) w.schema) (λ a g. refl) (all_decided (last w) w.schema (decided w)))

abbrev kept : Passes → SourceRequest → Stage SourceRefusal ReadState (List TableRows)
kept passes w = storing passes w.conditions w.schema

abbrev kept_left : Passes → SourceRequest → Stage SourceRefusal ReadState (List TableRows × ℕ)
kept_left passes w = into beside_bytes (storing passes w.conditions w.schema)

pub source_one : OneSource
unfolding after_all from_start
source_one passes = from_one (kept passes) (λ w. storing_one passes w.conditions w.schema)

pub source_decided : ReadOrRefused
unfolding after_all from_start
source_decided passes = from_decided (kept passes) (λ w. storing_decided passes w.conditions w.schema)

pub left_one : OneSourceLeft
unfolding after_all from_start
left_one passes =
    from_one (kept_left passes) (λ w. into_one beside_bytes (storing passes w.conditions w.schema) (storing_one passes w.conditions w.schema))

pub left_decided : ReadOrRefusedLeft
unfolding after_all from_start
left_decided passes =
    from_decided (kept_left passes)
    (λ w. into_decided Same (IsOf w.schema) beside_bytes (storing passes w.conditions w.schema) (storing_decided passes w.conditions w.schema))

pub of_both : SourceIsOfBoth
of_both passes c w I = (
  (λ p. (p.0.bytes_left, (p.0, p.1, (I, p.2, refl)))),
  (λ q. let p = q.1 in (p.0, p.1, subst (λ (J : List TableRows). IsStored w.schema (passing passes w.conditions p.0.facts) J) (sym (ap (λ (r : List TableRows × ℕ). r.0) p.2.2)) p.2.1)),
)
