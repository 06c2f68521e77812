-- The unfoldings of schemas within the limits have few variables.
use Rattle.std.proofs.Common.{◌≡◌, ℕ, ◌+◌, ◌*◌, ◌-◌, ◌^◌, ◌<◌, ◌≤◌, Bool, true, false, cond, List, [], ◌∷◌, ◌++◌, length, refl, sym, ap, arith, Option, Some, None}
use Rattle.std.specs.Prelude.{flat_map, nat_lt}
use Rattle.std.specs.List.{list_any}
use Rattle.std.proofs.lemmas.Bool.{ltb-false}
use Rattle.std.proofs.lemmas.List.{length-append}
use Rattle.dx_base.specs.declared.file.Limit.{Limit}
use Rattle.dx_base.specs.Members.{here, there, Each}
use Rattle.dx_base.proofs.Members.{in_left, in_right, in_map, from_map, in_at}
use Rattle.dx_base.proofs.Tests.{none_of}
use Rattle.dx_model.specs.Tables.{Table, table_of}
use Rattle.dx_schema.specs.Bounds.{HasFewRules}
use Rattle.dx_schema.specs.Forest.{Forest}
use Rattle.dx_schema_text.specs.declared.texts.MappingText.{MappingText}
use Rattle.dx_schema_text.specs.Texts.{IsMappingText}
use Rattle.dx_schema_text.proofs.FewRules as few
use Rattle.dx_schema.specs.Links.{IsFaultless}
use Rattle.dx_schema.specs.Tables.{as_numbers, model_tables, tables_of}
use Rattle.dx_schema.proofs.Valid.{are_tables}
use Rattle.dx_schema.proofs.Bounds.{rules_raised}
use Rattle.dx_logical.specs.declared.relation.Occurrence.{Occurrence}
use Rattle.dx_logical.specs.declared.relation.Relation.{Relation}
use Rattle.dx_logical.specs.Laws.{IsUnfolding, unfolding_variables}
use Rattle.dx_logical.specs.Unfolding.{variants_of}
use Rattle.dx_lines.specs.declared.line.Line.{Line}
use Rattle.dx_lines.specs.Limits.{first_or, count_upto, is_wide, passed_at, passed_by, passed_limit}
use Rattle.dx_candidates.proofs.UpTo.{in_upto}
use Rattle.dx_rules.proofs.ClosedRules.{occurrences_fit}

-- where the first of these is none, each is
none_first : (xs : List (Option Limit)) (rest : Option Limit) → first_or xs rest ≡ None → Each xs (λ o. o ≡ None)
none_first [] rest e o m = elim m [ ]
none_first (None ∷ xs) rest e o (here d) = sym d
none_first (None ∷ xs) rest e o (there m) = none_first xs rest e o m
none_first (Some l ∷ xs) rest e o m = absurd (cc)

none_wide : (a b : Bool) (k l : Limit) → cond a (Some k) (cond b (Some l) None) ≡ None → b ≡ false
none_wide true b k l e = absurd (cc)
none_wide false true k l e = absurd (cc)
none_wide false false k l e = refl

-- each unfolding of each table has at most 64 occurrences
abbrev pub AreNarrow : List Table → Type 0
AreNarrow schema = (t : ℕ) → t < length schema → Each (variants_of schema t) (λ r. length r.occurrences ≤ 64)

narrow : (schema : List Table) → Each (passed_by schema) (λ o. o ≡ None) → AreNarrow schema
narrow schema none t h r m =
    let e = none (passed_at schema t) (in_map (passed_at schema) (in_upto (length schema) t h)) in
    let w = none_wide (nat_lt 256 (count_upto schema t)) (list_any is_wide (variants_of schema t)) _ _ e in
    ltb-false 64 (length r.occurrences) (none_of is_wide (variants_of schema t) r w m)

pub narrow_sides : (lines : List Line) (A B : List Table) → passed_limit lines A B ≡ None → AreNarrow A × AreNarrow B
narrow_sides lines A B e =
    let none = none_first (passed_by A ++ passed_by B) _ e in
    (narrow A (λ o m. none o (in_left (passed_by B) m)), narrow B (λ o m. none o (in_right (passed_by A) m)))

-- tables have at most 64 columns
pub few_columns : (f : Forest) (t : ℕ) → IsFaultless f → t < length (model_tables f) → (table_of (model_tables f) t).width ≤ 64
few_columns f t ok h =
    let m = from_map as_numbers (tables_of f) (in_at (model_tables f) t (record { width = 0; determinations = []; links = []; optional = [] }) h) in
    let w = (are_tables f ok.form).each_table m.0 m.1 in
    let e : length m.0.columns ≡ (table_of (model_tables f) t).width = ap (λ (n : Table). n.width) m.2 in
    let c = w.few_columns in omega (arith, e, c)

sum_few : (os : List Occurrence) → Each os (λ o. length o.variables ≤ 64) → length (flat_map (λ (o : Occurrence). o.variables) os) ≤ 64 * length os
sum_few [] h = omega arith
sum_few (o ∷ os) h =
    let first = h o (here refl) in
    let rest = sum_few os (λ p m. h p (there m)) in
    let e = length-append o.variables (flat_map (λ (o : Occurrence). o.variables) os) in
    omega (arith, first, rest, e)

narrow_few : (f : Forest) (t : ℕ) (r : Relation) → IsFaultless f → length r.occurrences ≤ 64 → IsUnfolding (model_tables f) t r → length (unfolding_variables r) ≤ 4096
narrow_few f t r ok many u =
    let each : Each r.occurrences (λ o. length o.variables ≤ 64) = λ o m.
    let w = occurrences_fit (model_tables f) t r u o m in
    let c = few_columns f o.table ok w.table in
    let k = w.width in omega (arith, c, k) in
    let s = sum_few r.occurrences each in
    omega (arith, many, s)

pub few_variables : (source target : Forest) (s t : ℕ) (S T : Relation) → IsFaultless source → IsFaultless target → length S.occurrences ≤ 64 → length T.occurrences ≤ 64
    → IsUnfolding (model_tables source) s S → IsUnfolding (model_tables target) t T → length (unfolding_variables S) + length (unfolding_variables T) < 2 ^ 32 - 1
few_variables source target s t S T ok fine few_source few_target u v =
    let a = narrow_few source s S ok few_source u in
    let b = narrow_few target t T fine few_target v in
    omega (arith, a, b)

-- ---- keys and refs

pub few_rules : (text : List ℕ) (m : MappingText) → length text < 2 ^ 32 - 1 → IsMappingText text m → HasFewRules m.source × HasFewRules m.target
few_rules text m h says =
    let b = few.texts_have_few_rules text m says in
    let k : length text ≤ 2 ^ 32 - 2 = omega (arith, h) in
    (rules_raised (length text) (2 ^ 32 - 2) m.source k b.0, rules_raised (length text) (2 ^ 32 - 2) m.target k b.1)
