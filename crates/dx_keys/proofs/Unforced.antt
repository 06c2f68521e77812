-- Without keys and dependencies nothing is forced.
use Rattle.std.proofs.Common.{◌≡◌, ◌∙◌, ℕ, zero, suc, ◌+◌, List, [], ◌∷◌, refl, sym, ap, subst, length, arith}
use Rattle.std.specs.Prelude.{map}
use Rattle.std.specs.FinMap as finite
use Rattle.std.proofs.lemmas.List.{length-append, length-map, nil_from_length}
use Rattle.dx_base.specs.Members.{◌≈◌, here, there, Each}
use Rattle.dx_model.specs.declared.values.NullId.{NullId}
use Rattle.dx_model.specs.declared.values.Value.{Value}
use Rattle.dx_model.specs.declared.values.Value.TheVariants.{Const, Null}
use Rattle.dx_model.specs.declared.facts.Fact.{Fact}
use Rattle.dx_model.specs.declared.facts.NullPair.{NullPair}
use Rattle.dx_model.specs.Values.{null_cmp}
use Rattle.dx_model.specs.Instances.{fact_moved, given, image, moved}
use Rattle.dx_model.specs.declared.tables.Key.{Key}
use Rattle.dx_model.specs.Tables.{IsKeyed, Table, key_of, table_of}
use Rattle.dx_model.specs.Chase.{IsForcedMap}
use Rattle.dx_model.proofs.ByMembers.{keyed_map_is_empty, keys_by_members, no_keys_hold}
use Rattle.dx_schema.proofs.Whole.{widths_agree}
use Rattle.dx_schema.specs.Forest.{Forest}
use Rattle.dx_schema.specs.Tables.{TableOf, as_numbers, dep_of, determinations_of, key_determinations, model_tables, schema_widths, tables_of}
use Rattle.dx_instance.specs.NullMaps.{ByNull, pairs_of}
use Rattle.dx_instance.specs.Stored.{IsSorting, TableRows, facts, widths}
use Rattle.dx_instance.proofs.LawFacts.{facts_fit}
use Rattle.dx_instance.proofs.StoredFacts.{sorted_facts}
use Rattle.dx_keys.specs.Answers.{IsChased}

-- ---- a map that lists nothing

nothing_listed : pairs_of (finite.empty {X = Value} {R = null_cmp}) ≡ []
nothing_listed =
    ap (map (λ (e : NullId × Value). record { null = e.0; value = e.1 }))
    (nil_from_length (finite.entries (finite.empty {X = Value} {R = null_cmp})) (sym (finite.len-entries (finite.empty {X = Value} {R = null_cmp})) ∙ finite.len-empty null_cmp Value))

row_stays : (vs : List Value) → map (moved (given [])) vs ≡ vs
row_stays [] = refl
row_stays (Const t ∷ vs) = ap (λ (xs : List Value). Const t ∷ xs) (row_stays vs)
row_stays (Null n ∷ vs) = ap (λ (xs : List Value). Null n ∷ xs) (row_stays vs)

fact_stays : (f : Fact) → fact_moved (given []) f ≡ f
fact_stays f = let e = row_stays f.row in (λ i. record { table = f.table; row = e i })

facts_stay : (A : List Fact) → image [] A ≡ A
facts_stay [] = refl
facts_stay (f ∷ A) = let e = fact_stays f in let r = facts_stay A in (λ i. e i ∷ r i)

pub unchanged_is_chased : (schema : List Table) (I K : List TableRows) (m : ByNull) → m ≡ finite.empty → IsSorting I K → IsKeyed schema (facts I) → IsChased schema I (record { instance = K; map = m })
unchanged_is_chased schema I K m e s k =
    let none : pairs_of m ≡ [] = ap pairs_of e ∙ nothing_listed in
    let same = sorted_facts I K s in record {
      forced = subst (λ (ps : List NullPair). IsForcedMap schema (facts I) ps) (sym none) (keyed_map_is_empty schema (facts I) k);
      imaged = record {
        widths_stay = s.widths_stay;
        ascend = s.ascend;
        is = subst (λ (fs : List Fact). fs ≈ facts K) (sym (ap (λ (ps : List NullPair). image ps (facts I)) none ∙ facts_stay (facts I))) same;
      };
      keyed = record { fits = λ f h. k.fits f (same.1 f h); keys = keys_by_members schema (facts K) (facts I) same.1 k.keys };
    }

-- ---- a schema without keys and dependencies

pub no_rules : (t : TableOf) → t.keys ≡ [] → t.deps ≡ [] → determinations_of t ≡ []
no_rules t k d = rw (k, d) refl

many : (t : TableOf) → length (determinations_of t) ≡ length t.keys + length t.deps
many t =
    let all = length-append (key_determinations t) (map dep_of t.deps) in
    let keys : length (key_determinations t) ≡ length t.keys = length-map t.keys (λ (k : Key). key_of (length t.columns) k.columns) in
    let deps : length (map dep_of t.deps) ≡ length t.deps = length-map t.deps dep_of in
    omega (arith, all, keys, deps)

pub no_keys : (t : TableOf) → determinations_of t ≡ [] → t.keys ≡ []
no_keys t e = nil_from_length t.keys (let l = ap length e in omega (arith, l, many t))

pub no_deps : (t : TableOf) → determinations_of t ≡ [] → t.deps ≡ []
no_deps t e = nil_from_length t.deps (let l = ap length e in omega (arith, l, many t))

none_of_any : (ts : List TableOf) → Each ts (λ t. determinations_of t ≡ []) → (n : ℕ) → (table_of (map as_numbers ts) n).determinations ≡ []
none_of_any [] h n = refl
none_of_any (t ∷ ts) h zero = h t (here refl)
none_of_any (t ∷ ts) h (suc n) = none_of_any ts (λ u m. h u (there m)) n

pub free_is_keyed : (f : Forest) (I : List TableRows) → widths I ≡ schema_widths f → Each I (λ (t : TableRows). Each t.rows (λ (row : List Value). length row ≡ t.width))
    → Each (tables_of f) (λ t. determinations_of t ≡ []) → IsKeyed (model_tables f) (facts I)
free_is_keyed f I w l none = record { fits = facts_fit (model_tables f) I (w ∙ widths_agree f) l; keys = no_keys_hold (model_tables f) (facts I) (λ g m. none_of_any (tables_of f) none g.table) }
