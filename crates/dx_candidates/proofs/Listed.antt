-- Candidates and rules, listed by pairs.
use Rattle.std.proofs.Common.{◌≡◌, ℕ, ◌<◌, ◌≤◌, min, cond, Some, None, List, [], ◌∷◌, ◌++◌, ◌+◌, length, get_or, take, refl, sym, ◌∙◌, ap, subst, inl, inr, arith}
use Rattle.std.specs.Prelude.{Bool, true, false, not, map, nat_lt, Option}
use Rattle.std.specs.List.{list_any, flat_map, filter}
use Rattle.std.proofs.lemmas.Bool.{lt-ltb, le-ltb, cases_Bool}
use Rattle.std.proofs.lemmas.List.{append-nil, map-append, length-map, length-append, take_all, take_more}
use Rattle.std.proofs.lemmas.List.Concat.{flat_map-append}
use Rattle.std.proofs.lemmas.List.Elements.{filter-append, filter_agree}
use Rattle.dx_base.specs.Members.{Each}
use Rattle.dx_base.proofs.Members.{in_at}
use Rattle.dx_base.specs.declared.file.Limit.{Limit}
use Rattle.dx_model.specs.Tables.{Table}
use Rattle.dx_model.specs.declared.rules.Rule.{Rule}
use Rattle.dx_logical.specs.declared.relation.Relation.{Relation}
use Rattle.dx_logical.specs.Unfolding.{variant_of}
use Rattle.dx_lines.specs.declared.line.Line.{Line}
use Rattle.dx_lines.specs.declared.candidate.Pick.{Pick}
use Rattle.dx_lines.specs.declared.candidate.Candidate.{Candidate}
use Rattle.dx_lines.specs.declared.variant.Variant.{Variant}
use Rattle.dx_lines.specs.Candidates.{upto, all_variants, pair_ways, pair_candidates, candidates_by, candidates_of, all_picks}
use Rattle.dx_lines.specs.Kept.{is_dropped, is_kept}
use Rattle.dx_lines.specs.Rules.{rule_by, candidate_rule, kept_rules}
use Rattle.dx_lines.specs.Limits.{first_or, passed_by, has_many_ways, passed_limit, LineFits}
use Rattle.dx_candidates.specs.declared.fault.CandFault.{CandFault}
use Rattle.dx_candidates.specs.declared.pairs.Pair.{Pair}
use Rattle.dx_candidates.specs.Faults.{IsLimitFault, IsFirst, schema_limit, ways_limit, candidates_limit}
use Rattle.dx_candidates.specs.declared.listing.Plan.{Plan}
use Rattle.dx_candidates.specs.Listing.{IsCandidatePlan, IsReadyPlan, is_needed, rules_of_pair}
use Rattle.dx_candidates.specs.Pairs.{IsSoundSchema, variant_at, pair_by, pair_at, pairs_at, pairs_between, has_many_at, have_many_ways, candidates_in, picks_in, IsPair, ArePairs}
use Rattle.dx_candidates.proofs.Paired.{at_item, item_has, pairs_are}
use Rattle.dx_candidates.proofs.Readable.{are_variants, are_read, are_reached, have_variables}
use Rattle.dx_candidates.proofs.Lists.{flat_by_numbers, any_by_numbers}
use Rattle.dx_candidates.proofs.Decide.{greatest_parts_decide}
use Rattle.dx_base.proofs.Tests.{flat_map_same, any_same, map_same}
use Rattle.dx_lines.proofs.Sources.{from_variants, is_unfolding}

-- ---- lists of lists

flat_map_flat : {X Y Z : Type 0} (f : X → List Y) (g : Y → List Z) (xs : List X) → flat_map g (flat_map f xs) ≡ flat_map (λ x. flat_map g (f x)) xs
flat_map_flat f g [] = refl
flat_map_flat {Z} f g (x ∷ xs) = flat_map-append g (f x) (flat_map f xs) ∙ ap (λ (zs : List Z). flat_map g (f x) ++ zs) (flat_map_flat f g xs)

filter_map : {X Y : Type 0} (q : Y → Bool) (h : X → Y) (xs : List X) → filter q (map h xs) ≡ map h (filter (λ x. q (h x)) xs)
filter_map q h [] = refl
filter_map q h (x ∷ xs) = elim (cases_Bool (q (h x))) [
  | inl t ↦ let r = filter_map q h xs in rw (t, r) refl
  | inr f ↦ let r = filter_map q h xs in rw (f, r) refl
]

map_map : {X Y Z : Type 0} (f : Y → Z) (h : X → Y) (xs : List X) → map f (map h xs) ≡ map (λ x. f (h x)) xs
map_map f h [] = refl
map_map f h (x ∷ xs) = let r = map_map f h xs in cc

map_filter_flat : {X Y Z : Type 0} (f : Y → Z) (q : Y → Bool) (g : X → List Y) (xs : List X) → map f (filter q (flat_map g xs)) ≡ flat_map (λ x. map f (filter q (g x))) xs
map_filter_flat f q g [] = refl
map_filter_flat {Z} f q g (x ∷ xs) =
    ap (map f) (filter-append q (g x) (flat_map g xs)) ∙ (map-append f (filter q (g x)) (filter q (flat_map g xs)) ∙ ap (λ (zs : List Z). map f (filter q (g x)) ++ zs) (map_filter_flat f q g xs))

-- ---- candidates

of_pair : (sources targets : List Variant) (s t : ℕ) (found : List Pick) → flat_map (candidates_in sources targets) (pair_by s t found) ≡ candidates_by (variant_at sources s) (variant_at targets t) found
of_pair sources targets s t [] = refl
of_pair sources targets s t (k ∷ ks) = append-nil (candidates_by (variant_at sources s) (variant_at targets t) (k ∷ ks))

-- the candidates of a variant of a source table
from_source : (lines : List Line) (A B : List Variant) (s : ℕ) → flat_map (pair_candidates lines (variant_at A s)) B ≡ flat_map (candidates_in A B) (pairs_at lines A B s)
from_source lines A B s =
    flat_by_numbers (pair_candidates lines (variant_at A s)) B _
    ∙ (flat_map_same (λ t. pair_candidates lines (variant_at A s) (variant_at B t)) (λ t. flat_map (candidates_in A B) (pair_at lines (variant_at A s) B s t)) (upto (length B))
    (λ t m. sym (of_pair A B s t (pair_ways lines (variant_at A s) (variant_at B t))))
    ∙ sym (flat_map_flat (pair_at lines (variant_at A s) B s) (candidates_in A B) (upto (length B))))

pub candidates_are : (lines : List Line) (S T : List Table)
    → candidates_of lines S T ≡ flat_map (candidates_in (all_variants S) (all_variants T)) (pairs_between lines (all_variants S) (all_variants T))
candidates_are lines S T =
    let A = all_variants S in
    let B = all_variants T in
    flat_by_numbers (λ s. flat_map (pair_candidates lines s) B) A _
    ∙ (flat_map_same (λ s. flat_map (pair_candidates lines (variant_at A s)) B) (λ s. flat_map (candidates_in A B) (pairs_at lines A B s)) (upto (length A)) (λ s m. from_source lines A B s)
    ∙ sym (flat_map_flat (pairs_at lines A B) (candidates_in A B) (upto (length A))))

-- ---- limits

pub many_are : (lines : List Line) (S T : List Table) → has_many_ways lines S T ≡ have_many_ways lines (all_variants S) (all_variants T)
many_are lines S T =
    let A = all_variants S in
    let B = all_variants T in
    let to : Variant → Variant → Bool = λ s t. nat_lt 64 (length (pair_ways lines s t)) in
    any_by_numbers (λ s. list_any (to s) B) A _
    ∙ any_same (λ s. list_any (to (variant_at A s)) B) (has_many_at lines A B) (upto (length A)) (λ s m. any_by_numbers (to (variant_at A s)) B _)

first_append : (xs ys : List (Option Limit)) (rest : Option Limit) → first_or (xs ++ ys) rest ≡ first_or xs (first_or ys rest)
first_append [] ys rest = refl
first_append (None ∷ xs) ys rest = first_append xs ys rest
first_append (Some l ∷ xs) ys rest = refl

first_none : (xs : List (Option Limit)) (rest : Option Limit) → first_or xs None ≡ None → first_or xs rest ≡ rest
first_none [] rest e = refl
first_none (None ∷ xs) rest e = first_none xs rest e
first_none (Some l ∷ xs) rest e = absurd (cc)

first_some : (xs : List (Option Limit)) (rest : Option Limit) (l : Limit) → first_or xs None ≡ Some l → first_or xs rest ≡ Some l
first_some [] rest l e = absurd (cc)
first_some (None ∷ xs) rest l e = first_some xs rest l e
first_some (Some k ∷ xs) rest l e = e

-- the limits after those of the variants
abbrev after_variants : List Line → List Table → List Table → Option Limit
after_variants lines S T =
    cond (has_many_ways lines S T) (Some ways_limit) (cond (nat_lt 1024 (length (candidates_of lines S T))) (Some candidates_limit) None)

-- where the variants pass no limit, the others decide
pub passed_after : (lines : List Line) (S T : List Table) → schema_limit S ≡ None → schema_limit T ≡ None → passed_limit lines S T ≡ after_variants lines S T
passed_after lines S T a b =
    first_append (passed_by S) (passed_by T) (after_variants lines S T)
    ∙ (first_none (passed_by S) (first_or (passed_by T) (after_variants lines S T)) a ∙ first_none (passed_by T) (after_variants lines S T) b)

pub source_fault_is : (lines : List Line) (S T : List Table) (e : CandFault) → IsFirst (schema_limit S) e → IsFirst (passed_limit lines S T) e
source_fault_is lines S T e (inl m) = inl m
source_fault_is lines S T e (inr (l, is, f)) =
    inr (l, first_append (passed_by S) (passed_by T) (after_variants lines S T) ∙ first_some (passed_by S) (first_or (passed_by T) (after_variants lines S T)) l is, f)

pub target_fault_is : (lines : List Line) (S T : List Table) (e : CandFault) → schema_limit S ≡ None → IsFirst (schema_limit T) e → IsFirst (passed_limit lines S T) e
target_fault_is lines S T e a (inl m) = inl m
target_fault_is lines S T e a (inr (l, is, f)) =
    inr (
      l,
      first_append (passed_by S) (passed_by T) (after_variants lines S T) ∙ (first_none (passed_by S) (first_or (passed_by T) (after_variants lines S T)) a
          ∙ first_some (passed_by T) (after_variants lines S T) l is),
      f,
    )

pub ways_fault_is : (lines : List Line) (S T : List Table) (sources targets : List Variant) (e : CandFault) → schema_limit S ≡ None → schema_limit T ≡ None → sources ≡ all_variants S → targets ≡ all_variants T
    → IsLimitFault ways_limit (have_many_ways lines sources targets) e → IsFirst (passed_limit lines S T) e
ways_fault_is lines S T sources targets e a b p q (inl m) = inl m
ways_fault_is lines S T sources targets e a b p q (inr m) =
    let many : has_many_ways lines S T ≡ true = many_are lines S T ∙ (rw (← p, ← q) m.1) in
    inr (ways_limit, passed_after lines S T a b ∙ rw many refl, m.0)

few_are : (lines : List Line) (S T : List Table) (sources targets : List Variant) → sources ≡ all_variants S → targets ≡ all_variants T → have_many_ways lines sources targets ≡ false → has_many_ways lines S T ≡ false
few_are lines S T sources targets p q m = many_are lines S T ∙ (rw (← p, ← q) m)

-- as many candidates as picks
as_many : (A B : List Variant) (pairs : List Pair) → length (flat_map (candidates_in A B) pairs) ≡ length (flat_map picks_in pairs)
as_many A B [] = refl
as_many A B (p ∷ ps) =
    let r = as_many A B ps in
    let a = length-append (candidates_in A B p) (flat_map (candidates_in A B) ps) in
    let b = length-append (picks_in p) (flat_map picks_in ps) in
    let m : length (candidates_in A B p) ≡ length (picks_in p) = length-map (all_picks p.ways) _ in
    omega (arith, r, a, b, m)

count_is : (lines : List Line) (S T : List Table) (sources targets : List Variant) (pairs : List Pair) (count : ℕ) → sources ≡ all_variants S → targets ≡ all_variants T → pairs ≡ pairs_between lines sources targets
    → count ≡ min 1025 (length (flat_map picks_in pairs)) → count ≡ min 1025 (length (candidates_of lines S T))
count_is lines S T sources targets pairs count p q r c =
    let e : candidates_of lines S T ≡ flat_map (candidates_in sources targets) pairs = rw (r, p, q) (candidates_are lines S T) in
    c ∙ ap (min 1025) (sym (ap length e ∙ as_many sources targets pairs))

pub candidates_fault : (lines : List Line) (S T : List Table) (sources targets : List Variant) (pairs : List Pair) (count : ℕ) → schema_limit S ≡ None → schema_limit T ≡ None → sources ≡ all_variants S → targets ≡ all_variants T
    → have_many_ways lines sources targets ≡ false → pairs ≡ pairs_between lines sources targets → count ≡ min 1025 (length (flat_map picks_in pairs)) → 1024 < count
    → passed_limit lines S T ≡ Some candidates_limit
candidates_fault lines S T sources targets pairs count a b p q m r c h =
    let few = few_are lines S T sources targets p q m in
    let n = count_is lines S T sources targets pairs count p q r c in
    let over : nat_lt 1024 (length (candidates_of lines S T)) ≡ true = lt-ltb 1024 (length (candidates_of lines S T)) (omega arith) in
    passed_after lines S T a b ∙ rw (few, over) refl

pub none_passed : (lines : List Line) (S T : List Table) (sources targets : List Variant) (pairs : List Pair) (count : ℕ) → schema_limit S ≡ None → schema_limit T ≡ None → sources ≡ all_variants S → targets ≡ all_variants T
    → have_many_ways lines sources targets ≡ false → pairs ≡ pairs_between lines sources targets → count ≡ min 1025 (length (flat_map picks_in pairs)) → count ≤ 1024
    → passed_limit lines S T ≡ None
none_passed lines S T sources targets pairs count a b p q m r c h =
    let few = few_are lines S T sources targets p q m in
    let n = count_is lines S T sources targets pairs count p q r c in
    let under : nat_lt 1024 (length (candidates_of lines S T)) ≡ false = le-ltb 1024 (length (candidates_of lines S T)) (omega arith) in
    passed_after lines S T a b ∙ rw (few, under) refl

-- ---- rules

-- the rules of a pair are those of its candidates that are kept
kept_of_pair : (lines : List Line) (S T : List Table) (p : Pair) → IsSoundSchema S → IsSoundSchema T → IsPair lines (all_variants S) (all_variants T) p
    → map (candidate_rule lines S T) (filter (is_kept lines S T) (candidates_in (all_variants S) (all_variants T) p)) ≡ rules_of_pair lines S T (all_variants S) (all_variants T) p
kept_of_pair lines S T p ss st i =
    let v = variant_at (all_variants S) p.source in
    let w = variant_at (all_variants T) p.target in
    let is_v = from_variants S v (in_at (all_variants S) p.source _ i.source) in
    let is_w = from_variants T w (in_at (all_variants T) p.target _ i.target) in
    let made : List Pick → Candidate = λ ks. record { source = v.table; source_variant = v.number; target = w.table; target_variant = w.number; picks = ks } in
    let same : (ks : List Pick) → is_kept lines S T (made ks) ≡ is_needed lines S T v w ks =
    λ ks. ap not (ap (λ (r : Relation). is_dropped lines S T r.occurrences (variant_of T w.table w.number).occurrences ks) (sym is_v.relation)
    ∙ (ap (λ (r : Relation). is_dropped lines S T v.relation.occurrences r.occurrences ks) (sym is_w.relation)
    ∙ greatest_parts_decide lines S T v.table w.table v.relation w.relation ks ss.links ss.acyclic is_v.table (is_unfolding S v is_v) st.links st.acyclic is_w.table (is_unfolding T w is_w))) in
    let rule : (ks : List Pick) → candidate_rule lines S T (made ks) ≡ rule_by lines v.relation w.relation ks =
    λ ks. ap (λ (r : Relation). rule_by lines r (variant_of T w.table w.number) ks) (sym is_v.relation) ∙ ap (λ (r : Relation). rule_by lines v.relation r ks) (sym is_w.relation) in
    ap (map (candidate_rule lines S T)) (filter_map (is_kept lines S T) made (all_picks p.ways))
    ∙ (map_map (candidate_rule lines S T) made (filter (λ ks. is_kept lines S T (made ks)) (all_picks p.ways))
    ∙ (ap (map (λ ks. candidate_rule lines S T (made ks))) (filter_agree (λ ks. is_kept lines S T (made ks)) (is_needed lines S T v w) same (all_picks p.ways))
    ∙ (map_same (λ ks. candidate_rule lines S T (made ks)) (rule_by lines v.relation w.relation) (filter (is_needed lines S T v w) (all_picks p.ways)) (λ ks m. rule ks)
    ∙ ap (λ (ks : List Pick). map (rule_by lines v.relation w.relation) (filter (is_needed lines S T v w) (all_picks ks))) i.ways)))

pub rules_are : (lines : List Line) (S T : List Table) (sources targets : List Variant) (pairs : List Pair) → IsSoundSchema S → IsSoundSchema T → sources ≡ all_variants S → targets ≡ all_variants T
    → pairs ≡ pairs_between lines sources targets → ArePairs lines sources targets pairs → kept_rules lines S T ≡ flat_map (rules_of_pair lines S T sources targets) pairs
rules_are lines S T sources targets pairs ss st p q r each =
    let c : candidates_of lines S T ≡ flat_map (candidates_in sources targets) pairs = rw (r, p, q) (candidates_are lines S T) in
    let same : flat_map (λ x. map (candidate_rule lines S T) (filter (is_kept lines S T) (candidates_in sources targets x))) pairs ≡ flat_map (rules_of_pair lines S T sources targets) pairs =
    flat_map_same (λ x. map (candidate_rule lines S T) (filter (is_kept lines S T) (candidates_in sources targets x))) (rules_of_pair lines S T sources targets) pairs
    (λ x m. rw (p, q) (kept_of_pair lines S T x ss st (rw (p, q) at (each x m)))) in
    ap (λ (cs : List Candidate). map (candidate_rule lines S T) (filter (is_kept lines S T) cs)) c
    ∙ (map_filter_flat (candidate_rule lines S T) (is_kept lines S T) (candidates_in sources targets) pairs ∙ same)

-- ---- plans

pub all_candidates : (lines : List Line) (S T : List Table) (p : Plan) (pairs : List Pair) (n : ℕ) (all : List Candidate) → IsCandidatePlan lines S T p → pairs ≡ p.pairs → length pairs ≤ n
    → all ≡ flat_map (candidates_in (all_variants S) (all_variants T)) (take n pairs) → all ≡ candidates_of lines S T
all_candidates lines S T p pairs n all i e h a =
    let whole : take n pairs ≡ pairs_between lines (all_variants S) (all_variants T) = take_all n pairs h ∙ (e ∙ (i.pairs ∙ (rw (i.sources, i.targets) refl))) in
    a ∙ (ap (flat_map (candidates_in (all_variants S) (all_variants T))) whole ∙ sym (candidates_are lines S T))

pub plan_pairs : (lines : List Line) (S T : List Table) (p : Plan) → IsCandidatePlan lines S T p → ArePairs lines p.sources p.targets p.pairs
plan_pairs lines S T p i = subst (ArePairs lines p.sources p.targets) (sym i.pairs) (pairs_are lines p.sources p.targets i.few)

-- a pair that was lent is a pair of the plan
pub lent_pair : (lines : List Line) (S T : List Table) (p : Plan) (pairs : List Pair) (n : ℕ) (pair : Pair) → IsCandidatePlan lines S T p → pairs ≡ p.pairs → n < length pairs → pair ≡ get_or pairs n pair
    → IsPair lines p.sources p.targets pair
lent_pair lines S T p pairs n pair i e h k = item_has (IsPair lines p.sources p.targets) p.pairs pairs n pair e h k (plan_pairs lines S T p i)

-- a variant that was lent of those of a schema
lent_variant : (schema : List Table) (own lent : List Variant) (n : ℕ) (v : Variant) → own ≡ all_variants schema → lent ≡ own → n < length own → v ≡ get_or lent n v → variant_at (all_variants schema) n ≡ v
lent_variant schema own lent n v is e h k = subst (λ (vs : List Variant). variant_at vs n ≡ v) is (at_item own n v h (rw e at k))

-- after one pair more of a plan, its candidates are listed too
pub candidates_more : (lines : List Line) (S T : List Table) (p : Plan) (pairs : List Pair) (n : ℕ) (pair : Pair) (all new : List Candidate) (xs ys : List Variant) (v w : Variant)
    → IsCandidatePlan lines S T p → pairs ≡ p.pairs → n < length pairs → pair ≡ get_or pairs n pair → xs ≡ p.sources → ys ≡ p.targets → v ≡ get_or xs pair.source v → w ≡ get_or ys pair.target w
    → all ≡ flat_map (candidates_in (all_variants S) (all_variants T)) (take n pairs) → new ≡ all ++ candidates_by v w pair.ways
    → new ≡ flat_map (candidates_in (all_variants S) (all_variants T)) (take (n + 1) pairs)
candidates_more lines S T p pairs n pair all new xs ys v w i e h k a b f g was made =
    let listed = candidates_in (all_variants S) (all_variants T) in
    let q = lent_pair lines S T p pairs n pair i e h k in
    let at_v = lent_variant S p.sources xs pair.source v i.sources a q.source f in
    let at_w = lent_variant T p.targets ys pair.target w i.targets b q.target g in
    let one : candidates_by v w pair.ways ≡ listed pair = rw (at_v, at_w) refl in
    let more : take (n + 1) pairs ≡ take n pairs ++ pair ∷ [] = rw (← k) at (take_more pairs n pair h) in
    made ∙ (ap (λ (cs : List Candidate). cs ++ candidates_by v w pair.ways) was
    ∙ (ap (λ (cs : List Candidate). flat_map listed (take n pairs) ++ cs) (one ∙ sym (append-nil (listed pair)))
    ∙ (sym (flat_map-append listed (take n pairs) (pair ∷ [])) ∙ ap (flat_map listed) (sym more))))

-- where the lines fit, the rules of a plan's candidates can be made
pub plan_ready : (lines : List Line) (S T : List Table) (p : Plan) → IsCandidatePlan lines S T p → Each lines (LineFits S T) → IsReadyPlan lines S T p
plan_ready lines S T p i fit = record {
  are_sources = are_variants S p.sources i.sound_source i.sources;
  are_targets = are_variants T p.targets i.sound_target i.targets;
  read = are_read lines S T p.sources i.sound_source fit i.sources;
  reached = are_reached lines S T p.targets i.sound_target fit i.targets;
  variables = have_variables T p.targets i.sound_target i.targets;
  narrow_sources = i.narrow_sources;
  narrow_targets = i.narrow_targets;
  pairs = plan_pairs lines S T p i;
}

pub all_rules : (lines : List Line) (S T : List Table) (p : Plan) (rules : List Rule) → IsCandidatePlan lines S T p → rules ≡ flat_map (rules_of_pair lines S T p.sources p.targets) p.pairs → rules ≡ kept_rules lines S T
all_rules lines S T p rules i r =
    r ∙ sym (rules_are lines S T p.sources p.targets p.pairs i.sound_source i.sound_target i.sources i.targets (i.pairs ∙ (rw (i.sources, i.targets) refl)) (plan_pairs lines S T p i))
