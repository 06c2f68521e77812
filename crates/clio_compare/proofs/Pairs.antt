-- Two mappings: what they have to have in common, and the comparison of their rules.
use Rattle.std.proofs.Common.{◌≡◌, ◌⊎◌, ℕ, suc, ◌≤◌, List, [], ◌∷◌, length, get_or, take, ◌+◌, ◌<◌, refl, sym, ◌∙◌, ap, subst, inl, inr, arith, Result, Ok, Err}
use Rattle.std.specs.Prelude.{codes, true, false, Option, Some, None, IfSome}
use Rattle.std.proofs.lemmas.Bool.{cases_lt}
use Rattle.std.proofs.lemmas.List.{nil_from_length, take_all}
use Rattle.dx_base.specs.declared.file.Limit.{Limit}
use Rattle.dx_base.specs.Members.{◌∈◌, here, there, Each}
use Rattle.dx_base.proofs.Loops.{each_more}
use Rattle.dx_base.proofs.Members.{from_append, in_left, in_right}
use Rattle.dx_model.specs.declared.rules.Derived.{Derived}
use Rattle.dx_model.specs.declared.rules.Rule.{Rule}
use Rattle.dx_model.specs.Fitting.{RuleFits}
use Rattle.dx_model.specs.Following.{frozen_text}
use Rattle.dx_model.specs.Tables.{IsInstance}
use Rattle.dx_base.specs.Texts.{Text}
use Rattle.dx_base.proofs.Lists.{get_at, get_in}
use Rattle.dx_ports.specs.States.{InputState}
use Rattle.dx_schema.specs.Forest.{Forest}
use Rattle.dx_schema.specs.Tables.{AreTables, model_tables, tables_of}
use Rattle.dx_schema.proofs.Valid.{are_tables}
use Rattle.dx_instance.specs.Stored.{TableRows, facts}
use Rattle.dx_compare.specs.declared.comparing.Answer.{Answer}
use Rattle.dx_compare.specs.declared.comparing.Answer.TheVariants as answers
use Rattle.dx_compare.specs.declared.comparing.Comparison.{Comparison}
use Rattle.dx_compare.specs.Comparing.{IsDirectionAnswer, IsComparison}
use Rattle.dx_compare.specs.Letters.{letters}
use Rattle.dx_compare.proofs.Answered.{get_front}
use Rattle.dx_compare.proofs.Exists.{canonical_fit, compared_or_past, frozen_fit}
use Rattle.dx_compare.proofs.Forests.{forests_same}
use Rattle.dx_stages.specs.declared.stop.Stop.{Stop}
use Rattle.dx_stages.specs.declared.stop.Stop.TheVariants as stops
use Rattle.dx_stages.specs.Ending.{PlanContent}
use Rattle.dx_stages.specs.Worlds.{World}
use Rattle.dx_stages.specs.Stages.{next, over}
use Rattle.dx_stages.specs.Laws.{AsksOtherFiles, AsksOnly, IsDecided, PassesOne}
use Rattle.dx_stages.specs.Running.{Gives, Ran}
use Rattle.dx_stages.proofs.Running.{ran_into, ran_into_stop, ran_next, ran_over, ran_passes, ran_stop, ran_value, silent_apart}
use Rattle.dx_stages.proofs.Decided.{Any, apart_by, become_decided, checking_decided, checking_one, into_decided, into_one, next_decided, next_one, notions_decided, over_decided, over_one}
use Rattle.clio_accept.specs.declared.mapping.Mapping.{Mapping}
use Rattle.clio_accept.specs.Laws.{MappingFits}
use Rattle.clio_accept.proofs.Accepted.{accepted_fits}
use Rattle.clio_files.specs.Comparisons.{AreComparedFiles, FitsAnswer, FitsComparison}
use Rattle.clio_files.specs.Laws.{HaveColumns}
use Rattle.clio_files.proofs.Compared.{files_exist as compared_files_exist}
use Rattle.clio_ending.specs.declared.ending.Done.{Done}
use Rattle.clio_ending.specs.declared.ending.Refusal.{Refusal}
use Rattle.clio_ending.specs.declared.ending.Refusal.TheVariants as refusals
use Rattle.clio_ending.specs.declared.faults.OtherFault.{OtherFault}
use Rattle.clio_ending.specs.declared.faults.OtherFault.TheVariants as other_faults
use Rattle.clio_ending.specs.Ending.{AreAlike}
use Rattle.clio_steps.specs.declared.texts.Side.TheVariants.{First, Second}
use Rattle.clio_steps.specs.Outcomes.{AcceptedIn}
use Rattle.clio_steps.specs.Steps.{Program, mapping_stages, text_name, text_stages}
use Rattle.clio_compare.specs.Comparing.{BothPlain, BothUnconditional, NoneDerived, PairReady, Differ, HasDerived, HaveConditions, HaveSameSets, IsComparedPlan, IsComparisonOf, IsFirstDerived, Pair, PassesFrozenLimit, comparable, compare_stages, compared_rules, comparing, comparisons, no_conditions, no_derived, other_stages, same_sets}
use Rattle.clio_accept.specs.Mapping.{frozen_cells}
use Rattle.clio_steps.proofs.Mappings.{is_small}
use Rattle.clio_steps.proofs.Names.{text_asks}
use Rattle.clio_steps.proofs.Plans.{no_marks, some_column}
use Rattle.clio_steps.proofs.Decided.{text_decided, text_one}
use Rattle.clio_steps.proofs.Spine.{accepted_in, fits_in}

-- ---- what is asked for

silent_rest : (d : World) (p : Pair) (n : List ℕ) → ¬ ((next comparable comparing).asks d p n)
silent_rest d p n (inl (inl h)) = h
silent_rest d p n (inl (inr h)) = none h.0 h.2
  where
    none : (q : Pair) → ¬ ((next no_conditions no_derived).asks d q n)
    none q (inl k) = k
    none q (inr k) = k.2
silent_rest d p n (inr h) = h.2

-- after the mapping text the other one alone
pub rest_asks : (P : Program) → AsksOnly (λ n. n ≡ text_name Second) (next (other_stages P) (next comparable comparing))
rest_asks P c a n (inl h) = text_asks P Second c (tt {0}) n h
rest_asks P c a n (inr h) = absurd (silent_rest c h.0 n h.2)

texts_apart : (P : Program) → AsksOtherFiles (mapping_stages P) (next (other_stages P) (next comparable comparing))
texts_apart P =
    apart_by (λ n. n ≡ text_name First) (λ n. n ≡ text_name Second) (mapping_stages P) (next (other_stages P) (next comparable comparing))
    (text_asks P First) (rest_asks P) (λ n e f. never (sym e ∙ f))
  where
    never : ¬ (codes "mapping.clio" ≡ codes "other.clio")
    never e = let h : 109 ≡ 111 = ap (λ (v : List ℕ). get_or v 0 0) e in omega (arith, h)

-- ---- what refuses two mappings, and what passes them

pub sets_refuse : (p : Pair) (c : World) → ¬ (HaveSameSets p) → comparable.refuses c p (refusals.Other other_faults.Schemas)
sets_refuse p c n = inl (n, refl)

pub conditions_refuse : (p : Pair) (c : World) → HaveSameSets p → ¬ (BothUnconditional p) → comparable.refuses c p (refusals.Other other_faults.Conditions)
conditions_refuse p c same n = inr (p, (same, refl), inl (n, refl))

pub derived_refuses : (p : Pair) (c : World) (e : Refusal) → HaveSameSets p → BothUnconditional p → HasDerived p e → comparable.refuses c p e
derived_refuses p c e same free h = inr (p, (same, refl), inr (p, (free, refl), h))

-- so does a derived variable that was found
pub derived_found : (p : Pair) (r : Option OtherFault) → HaveSameSets p → BothUnconditional p → IfSome r (λ f. HasDerived p (refusals.Other f))
    → IfSome r (λ f. (c : World) → comparable.refuses c p (refusals.Other f))
derived_found p None same free h = tt
derived_found p (Some f) same free h = λ c. derived_refuses p c (refusals.Other f) same free h

pub all_pass : (p : Pair) (c : World) → HaveSameSets p → BothUnconditional p → BothPlain p → comparable.passes c p p
all_pass p c same free h = (p, (same, refl), (p, (free, refl), (h, refl)))

-- what passes is what was given
pub passed_sets : (p q : Pair) (c : World) → comparable.passes c p q → (q ≡ p) × HaveSameSets p × BothUnconditional p × BothPlain p
passed_sets p q c (one, (same, one_is), (two, (free, two_is), (plain, q_is))) =
    let to_one : two ≡ p = two_is ∙ one_is in (
      q_is ∙ to_one,
      same,
      subst (λ (z : Pair). BothUnconditional z) one_is free,
      subst (λ (z : Pair). BothPlain z) to_one plain,
    )

-- a pair is refused for a limit, or for what is wrong with the two
pub refused_pair : (p : Pair) (c : World) (e : Refusal) → (next comparable comparing).refuses c p e
    → ((l : Limit) × (e ≡ refusals.Limit l)) ⊎ ((f : OtherFault) × (e ≡ refusals.Other f))
refused_pair p c e (inl (inl (n, is))) = inr (_, is)
refused_pair p c e (inl (inr (q, s, inl (n, is)))) = inr (_, is)
refused_pair p c e (inl (inr (q, s, inr (r, f, inl (n, first, is))))) = inr (_, is)
refused_pair p c e (inl (inr (q, s, inr (r, f, inr (plain, (n, first, is)))))) = inr (_, is)
refused_pair p c e (inr (q, x, (passes, is))) = inl (_, is)

-- ---- the first rule with derived variables

derived_some : (ds : List Derived) → 0 < length ds → ¬ (ds ≡ [])
derived_some [] h e = absurd (omega (arith, h))
derived_some (d ∷ ds) h e = cc

pub none_before : (R : List Rule) → NoneDerived (take 0 R)
none_before R d m = elim m [ ]

pub one_more_plain : (R : List Rule) (i : ℕ) (d : Rule) → i < length R → d ≡ get_or R i d → NoneDerived (take i R) → length d.derived ≤ 0 → NoneDerived (take (i + 1) R)
one_more_plain R i d lt is before none = each_more (λ (r : Rule). r.derived ≡ []) R i d lt is before (nil_from_length d.derived (omega arith))

pub all_plain : (R : List Rule) (i : ℕ) → length R ≤ i → NoneDerived (take i R) → NoneDerived R
all_plain R i h before = subst NoneDerived (take_all i R h) before

pub is_first : (R : List Rule) (i : ℕ) (d : Rule) → i < length R → d ≡ get_or R i d → NoneDerived (take i R) → 0 < length d.derived → IsFirstDerived R i
is_first R i d lt is before some = record { rule = d; is = get_at R i d lt is; some = derived_some d.derived some; before = before }

-- ---- tests

conditions_none : {X Y : Type 0} (xs : List X) (ys : List Y) → (length xs ≡ 0) × (length ys ≡ 0) → (xs ≡ []) × (ys ≡ [])
conditions_none [] [] h = (refl, refl)
conditions_none [] (y ∷ ys) h = absurd (omega (arith, h.1))
conditions_none (x ∷ xs) ys h = absurd (omega (arith, h.0))

-- ---- the rules

pub comparable_rules : (P : Program) (p : Pair) → MappingFits P.list P.tests p.0 → MappingFits P.list P.tests p.1 → HaveSameSets p → BothPlain p → PairReady p
comparable_rules P p first second same plain = record {
  rules = record {
    fit = λ d m. elim (from_append p.0.rules m) [
      | inl k ↦ first.fit d k
      | inr k ↦ subst (λ (f : Forest). RuleFits (model_tables f) (model_tables p.0.target) d) (sym same.0)
          (subst (λ (f : Forest). RuleFits (model_tables p.1.source) (model_tables f) d) (sym same.1) (second.fit d k))
    ];
    plain = λ d m. elim (from_append p.0.rules m) [ inl k ↦ plain.0 d k | inr k ↦ plain.1 d k ];
  };
  few_first = first.few;
  few_second = second.few;
}

-- ---- a comparison that was made

-- what is known of it
pub record IsMade (P : Program) (c : World) (q : Mapping × Comparison) : Type 0 where
  pub first : Mapping
  pub accepted : AcceptedIn P First c first
  pub second : Mapping
  pub other_accepted : AcceptedIn P Second c second
  pub first_fits : MappingFits P.list P.tests first
  pub second_fits : MappingFits P.list P.tests second
  pub same : HaveSameSets (first, second)
  pub free : BothUnconditional (first, second)
  pub plain : BothPlain (first, second)
  pub comparison : IsComparison first.source first.target first.rules second.rules q.1
  pub is : q.0 ≡ first

abbrev with_comparison : Comparison → Pair → Mapping × Comparison
with_comparison k p = (p.0, k)

pub made_in : (P : Program) (c : World) (q : Mapping × Comparison) → (comparisons P).passes c (tt {0}) q → IsMade P c q
made_in P c q (M, m, (pair, (N, n, pair_is), (tested, x, (k, (within, compared), q_is)))) =
    let first = accepted_in P First c M m in
    let second = accepted_in P Second c N n in
    let s = passed_sets pair tested c x in
    let to : tested ≡ (M, N) = s.0 ∙ pair_is in
    let whole : q ≡ (M, k) = q_is ∙ ap (with_comparison k) to in
    subst (λ (z : Mapping × Comparison). IsMade P c z) (sym whole) (record {
      first = M;
      accepted = first;
      second = N;
      other_accepted = second;
      first_fits = fits_in P First c M first;
      second_fits = fits_in P Second c N second;
      same = subst (λ (z : Pair). HaveSameSets z) pair_is s.1;
      free = subst (λ (z : Pair). BothUnconditional z) pair_is s.2;
      plain = subst (λ (z : Pair). BothPlain z) pair_is s.3;
      comparison = subst (λ (z : Pair). IsComparison z.0.source z.0.target z.0.rules z.1.rules k) to compared;
      is = refl;
    })

-- a comparison that ran was made
pub made : (P : Program) (q : Mapping × Comparison) (old new : InputState) → Ran (comparisons P) (tt {0}) (Ok q) old new → (c : World) × IsMade P c q
made P q old new x = let p = ran_passes (comparisons P) (tt {0}) q old new x in (p.0, made_in P p.0 q p.1)

-- ---- its files

answer_widths : (prefix : Text) (source target : Forest) (P Q : List Rule) (a : Answer) → IsDirectionAnswer prefix source target P Q a → FitsAnswer source target a
answer_widths prefix source target P Q answers.Implies h = tt
answer_widths prefix source target P Q (answers.Refuted n I K) h = (h.refutation.source_widths, h.refutation.target_widths)

-- the first mapping has the sets of both
pub files_fit : (P : Program) (c : World) (q : Mapping × Comparison) → IsMade P c q → FitsComparison q.0.source q.0.target q.1
files_fit P c q m =
    let M = m.first in
    let k = m.comparison in
    subst (λ (z : Mapping). FitsComparison z.source z.target q.1) (sym m.is) (record {
      forward = answer_widths (letters k.number) M.source M.target M.rules m.second.rules q.1.forward k.forward;
      backward = answer_widths (letters k.number) M.source M.target m.second.rules M.rules q.1.backward k.backward;
      source_marks = no_marks M.source m.first_fits.source_names;
      target_marks = no_marks M.target m.first_fits.target_names;
    })

facts_wide : (f : Forest) (I : List TableRows) → AreTables (tables_of f) → IsInstance (model_tables f) (facts I) → Each (facts I) (λ x. 1 ≤ length x.row)
facts_wide f I tables fits x m =
    let w = some_column (tables_of f) x.table (λ t k. (tables.each_table t k).some_column) (fits x m).table in
    let k = (fits x m).width in omega (arith, w, k)

answer_columns : (prefix : Text) (source target : Forest) (P Q : List Rule) (a : Answer) → Each P (RuleFits (model_tables source) (model_tables target))
    → Each Q (RuleFits (model_tables source) (model_tables target)) → AreTables (tables_of source) → AreTables (tables_of target)
    → IsDirectionAnswer prefix source target P Q a → HaveColumns a
answer_columns prefix source target P Q answers.Implies p q ss ts h = tt
answer_columns prefix source target P Q (answers.Refuted n I K) p q ss ts h =
    let r = h.refutation in (
      facts_wide source I ss (λ f m. frozen_fit (model_tables source) (frozen_text prefix) h.rule (q h.rule (get_in Q n h.rule h.tested.is)).premise f (r.premise.0 f m)),
      facts_wide target K ts (λ f m. canonical_fit (model_tables target) 0 P r.rows (λ d k. (p d k).conclusion) f (r.made.0 f m)),
    )

plan_exists : (P : Program) (c : World) (q : Mapping × Comparison) → IsMade P c q → (plan : PlanContent Done) × IsComparedPlan q.0 q.1 plan
plan_exists P c q m =
    let M = m.first in
    let N = m.second in
    let k = m.comparison in
    let fits = (comparable_rules P (M, N) m.first_fits m.second_fits m.same m.plain).rules.fit in
    let one : Each M.rules (RuleFits (model_tables M.source) (model_tables M.target)) = λ d i. fits d (in_left N.rules i) in
    let other : Each N.rules (RuleFits (model_tables M.source) (model_tables M.target)) = λ d i. fits d (in_right M.rules i) in
    let ss = are_tables M.source m.first_fits.source.form in
    let ts = are_tables M.target m.first_fits.target.form in
    let fs = compared_files_exist M.source M.target q.1 (subst (λ (z : Mapping). FitsComparison z.source z.target q.1) m.is (files_fit P c q m)) ss ts
    (answer_columns (letters k.number) M.source M.target M.rules N.rules q.1.forward one other ss ts k.forward)
    (answer_columns (letters k.number) M.source M.target N.rules M.rules q.1.backward other one ss ts k.backward) in
    (_, (fs.0, subst (λ (z : Mapping). AreComparedFiles z.source z.target q.1 fs.0) (sym m.is) fs.1, refl))

-- ---- the run

beside : Mapping → Mapping → Pair
beside M N = (M, N)

first_of : Pair → Comparison → Mapping × Comparison
first_of p k = (p.0, k)

-- the first text stops it
pub first_stops : (P : Program) (e : Stop Refusal) (old new : InputState) → Ran (mapping_stages P) (tt {0}) (Err e) old new → Ran (comparisons P) (tt {0}) (Err e) old new
first_stops P e old new x = ran_stop (mapping_stages P) (next (other_stages P) (next comparable comparing)) (tt {0}) e old new x

-- the second text does
pub second_stops : (P : Program) (M : Mapping) (e : Stop Refusal) (old mid new : InputState) → Ran (mapping_stages P) (tt {0}) (Ok M) old mid
    → Ran (text_stages P Second) (tt {0}) (Err e) mid new → Ran (comparisons P) (tt {0}) (Err e) old new
unfolding beside
second_stops P M e old mid new x y =
    ran_next (mapping_stages P) (next (other_stages P) (next comparable comparing)) (tt {0}) M (Err e) old mid new (texts_apart P) x
    (ran_stop (other_stages P) (next comparable comparing) M e mid new
    (ran_into_stop beside (over (λ (M : Mapping). tt {0}) (text_stages P Second)) M e mid new
    (ran_over (λ (M : Mapping). tt {0}) (text_stages P Second) M (Err e) mid new y)))

-- both texts were accepted
pub both_read : (P : Program) (M N : Mapping) (r : Result (Mapping × Comparison) (Stop Refusal)) (old mid new : InputState) → Ran (mapping_stages P) (tt {0}) (Ok M) old mid
    → Ran (text_stages P Second) (tt {0}) (Ok N) mid new → Gives (next comparable comparing) (M, N) r → Ran (comparisons P) (tt {0}) r old new
unfolding beside
both_read P M N r old mid new x y g =
    ran_next (mapping_stages P) (next (other_stages P) (next comparable comparing)) (tt {0}) M r old mid new (texts_apart P) x
    (ran_next (other_stages P) (next comparable comparing) M (M, N) r mid new new (silent_apart (other_stages P) (next comparable comparing) silent_rest)
    (ran_into beside (over (λ (M : Mapping). tt {0}) (text_stages P Second)) M N mid new
    (ran_over (λ (M : Mapping). tt {0}) (text_stages P Second) M (Ok N) mid new y))
    (ran_value (next comparable comparing) (M, N) r new g))

-- they can't be compared
pub gives_difference : (p : Pair) (e : Refusal) → ((c : World) → comparable.refuses c p e) → Gives (next comparable comparing) p (Err (stops.Refused e))
gives_difference p e h = λ c. inl (h c)

-- they were compared
pub gives_comparison : (p : Pair) (k : Comparison) → ((c : World) → comparable.passes c p p) → Gives compared_rules p (Ok k) → Gives (next comparable comparing) p (Ok (p.0, k))
gives_comparison p k h g = λ c. (p, h c, (k, g c, refl))

-- or the comparison was refused
pub gives_stop : (p : Pair) (e : Stop Refusal) → ((c : World) → comparable.passes c p p) → Gives compared_rules p (Err e) → Gives (next comparable comparing) p (Err e)
gives_stop p (stops.Refused e) h g = λ c. inr (p, h c, g c)
gives_stop p (stops.Failed n) h g = g
gives_stop p stops.Memory h g = tt

-- ---- what is decided

AreFitting : Program → Pair → Type 0
AreFitting P p = MappingFits P.list P.tests p.0 × MappingFits P.list P.tests p.1

-- two mappings have the same sets, or not
sets_same : (p : Pair) → HaveSameSets p ⊎ (¬ (HaveSameSets p))
sets_same p = elim (forests_same p.0.source p.1.source) [
  | inr n ↦ inr (λ h. n h.0)
  | inl a ↦ elim (forests_same p.0.target p.1.target) [ inr n ↦ inr (λ h. n h.1) | inl b ↦ inl (a, b) ]
]

none_or_some : {X : Type 0} (xs : List X) → (xs ≡ []) ⊎ (¬ (xs ≡ []))
none_or_some [] = inl refl
none_or_some (x ∷ xs) = inr (λ h. cc)

-- neither has a condition, or one has
free_or_not : (p : Pair) → BothUnconditional p ⊎ (¬ (BothUnconditional p))
free_or_not p = elim (none_or_some p.0.conditions) [
  | inr n ↦ inr (λ h. n h.0)
  | inl a ↦ elim (none_or_some p.1.conditions) [ inr n ↦ inr (λ h. n h.1) | inl b ↦ inl (a, b) ]
]

first_derived_of : (R : List Rule) → NoneDerived R ⊎ ((n : ℕ) × IsFirstDerived R n)
first_derived_of [] = inl (λ d m. elim m [ ])
first_derived_of (d ∷ R) = elim (none_or_some d.derived) [
  | inr n ↦ inr (0, record { rule = d; is = refl; some = n; before = λ e m. elim m [ ] })
  | inl p ↦ elim (first_derived_of R) [
    | inl h ↦ inl (λ e m. both R p h e m)
    | inr w ↦ inr (suc w.0, record { rule = w.1.rule; is = w.1.is; some = w.1.some; before = λ e m. both (take w.0 R) p w.1.before e m })
  ]
]
  where
    both : (S : List Rule) → d.derived ≡ [] → NoneDerived S → (e : Rule) → e ∈ (d ∷ S) → e.derived ≡ []
    both S p h e (here q) = subst (λ (r : Rule). r.derived ≡ []) q p
    both S p h e (there m) = h e m

same_sets_decided : (P : Program) → IsDecided AreAlike (AreFitting P) same_sets
same_sets_decided P =
    checking_decided AreAlike (AreFitting P) Differ HaveSameSets
    (λ p e f a b. inl (a.1 ∙ sym b.1)) (λ p e h r. r.0 h)
    (λ p. elim (sets_same p) [ inl h ↦ inl h | inr n ↦ inr (refusals.Other other_faults.Schemas, (n, refl)) ])

no_conditions_decided : (P : Program) → IsDecided AreAlike (AreFitting P) no_conditions
no_conditions_decided P =
    checking_decided AreAlike (AreFitting P) HaveConditions BothUnconditional
    (λ p e f a b. inl (a.1 ∙ sym b.1)) (λ p e h r. r.0 h)
    (λ p. elim (free_or_not p) [ inl h ↦ inl h | inr n ↦ inr (refusals.Other other_faults.Conditions, (n, refl)) ])

-- two first rules have one number
one_first : (R : List Rule) (m n : ℕ) → IsFirstDerived R m → IsFirstDerived R n → m ≡ n
one_first R m n a b = elim (cases_lt m n) [
  | inl h ↦ absurd (a.some (b.before a.rule (get_front R m n a.rule a.is h)))
  | inr h ↦ elim (cases_lt n m) [
    | inl l ↦ absurd (b.some (a.before b.rule (get_front R n m b.rule b.is l)))
    | inr l ↦ omega (arith, h, l)
  ]
]

derived_alike : (p : Pair) (e f : Refusal) → HasDerived p e → HasDerived p f → AreAlike e f
derived_alike p e f (inl a) (inl b) = inl (a.2 ∙ (ap (λ n. refusals.Other (other_faults.Derived false n)) (one_first p.0.rules a.0 b.0 a.1 b.1) ∙ sym b.2))
derived_alike p e f (inl a) (inr b) = absurd (a.1.some (b.0 a.1.rule (get_in p.0.rules a.0 a.1.rule a.1.is)))
derived_alike p e f (inr a) (inl b) = absurd (b.1.some (a.0 b.1.rule (get_in p.0.rules b.0 b.1.rule b.1.is)))
derived_alike p e f (inr a) (inr b) = inl (a.1.2 ∙ (ap (λ n. refusals.Other (other_faults.Derived true n)) (one_first p.1.rules a.1.0 b.1.0 a.1.1 b.1.1) ∙ sym b.1.2))

plain_or_derived : (p : Pair) → BothPlain p ⊎ ((e : Refusal) × HasDerived p e)
plain_or_derived p = elim (first_derived_of p.0.rules) [
  | inr w ↦ inr (refusals.Other (other_faults.Derived false w.0), inl (w.0, w.1, refl))
  | inl a ↦ elim (first_derived_of p.1.rules) [
    | inr w ↦ inr (refusals.Other (other_faults.Derived true w.0), inr (a, (w.0, w.1, refl)))
    | inl b ↦ inl (a, b)
  ]
]

no_derived_decided : (P : Program) → IsDecided AreAlike (AreFitting P) no_derived
no_derived_decided P = checking_decided AreAlike (AreFitting P) HasDerived BothPlain derived_alike never plain_or_derived
  where
    never : (p : Pair) (e : Refusal) → BothPlain p → ¬ (HasDerived p e)
    never p e h (inl a) = a.1.some (h.0 a.1.rule (get_in p.0.rules a.0 a.1.rule a.1.is))
    never p e h (inr b) = b.1.1.some (h.1 b.1.1.rule (get_in p.1.rules b.1.0 b.1.1.rule b.1.1.is))

-- ---- the comparison

comparing_decided : IsDecided AreAlike PairReady comparing
comparing_decided =
    into_decided AreAlike PairReady (λ (p : Pair) (k : Comparison). (p.0, k)) compared_rules
    (notions_decided AreAlike PairReady PassesFrozenLimit IsComparisonOf (λ p e f g a b. inl (a.1 ∙ sym b.1)) (λ p k e g a b. a.0 b.0) either)
  where
    either : (p : Pair) → PairReady p → ((k : Comparison) × IsComparisonOf p k) ⊎ ((e : Refusal) × PassesFrozenLimit p e)
    either p g = elim (compared_or_past frozen_cells p.0.source p.0.target p.0.rules p.1.rules g.rules) [
      | inl h ↦ inr (_, (h, refl))
      | inr h ↦ inl (h.1.0, (h.0, h.1.1))
    ]

-- ---- all of it

FitsList : Program → Mapping → Type 0
FitsList P M = MappingFits P.list P.tests M

other_one : (P : Program) → PassesOne (other_stages P)
other_one P =
    into_one (λ (M : Mapping) (N : Mapping). (M, N)) (over (λ (M : Mapping). tt {0}) (text_stages P Second))
    (over_one (λ (M : Mapping). tt {0}) (text_stages P Second) (text_one P Second))

other_decided : (P : Program) → IsDecided AreAlike (FitsList P) (other_stages P)
other_decided P =
    into_decided AreAlike (FitsList P) (λ (M : Mapping) (N : Mapping). (M, N)) (over (λ (M : Mapping). tt {0}) (text_stages P Second))
    (over_decided AreAlike (FitsList P) Any (λ (M : Mapping). tt {0}) (text_stages P Second) (λ M g. tt) (text_decided P Second))

pub comparisons_decided : (P : Program) → IsDecided AreAlike Any (comparisons P)
unfolding FitsList AreFitting
comparisons_decided P =
    next_decided AreAlike Any (FitsList P) (mapping_stages P) (next (other_stages P) (next comparable comparing)) (text_one P First)
    (λ c a M g p. accepted_fits P.list P.tests c p.0 M (is_small p.0 p.1.1) p.2) (text_decided P First)
    (next_decided AreAlike (FitsList P) (AreFitting P) (other_stages P) (next comparable comparing) (other_one P) both_fit (other_decided P)
    (next_decided AreAlike (AreFitting P) PairReady comparable comparing comparable_one ready comparable_decided comparing_decided))
  where
    both_fit : (c : World) (M : Mapping) (p : Pair) → FitsList P M → (other_stages P).passes c M p → AreFitting P p
    both_fit c M p h (N, (text, held, accepted), is) =
        subst (AreFitting P) (sym is) (h, accepted_fits P.list P.tests c text N (is_small text held.1) accepted)

    last_one : PassesOne (next no_conditions no_derived)
    last_one = next_one no_conditions no_derived (checking_one HaveConditions BothUnconditional) (checking_one HasDerived BothPlain)

    comparable_one : PassesOne comparable
    comparable_one = next_one same_sets (next no_conditions no_derived) (checking_one Differ HaveSameSets) last_one

    comparable_decided : IsDecided AreAlike (AreFitting P) comparable
    comparable_decided =
        next_decided AreAlike (AreFitting P) (AreFitting P) same_sets (next no_conditions no_derived) (checking_one Differ HaveSameSets)
        (λ c a b g p. subst (AreFitting P) (sym p.1) g) (same_sets_decided P)
        (next_decided AreAlike (AreFitting P) (AreFitting P) no_conditions no_derived (checking_one HaveConditions BothUnconditional)
        (λ c a b g p. subst (AreFitting P) (sym p.1) g) (no_conditions_decided P) (no_derived_decided P))

    ready : (c : World) (p q : Pair) → AreFitting P p → comparable.passes c p q → PairReady q
    ready c p q g x =
        let s = passed_sets p q c x in
        subst PairReady (sym s.0) (comparable_rules P p g.0 g.1 s.1 s.3)

pub compare_decided : (P : Program) → IsDecided AreAlike Any (compare_stages P)
compare_decided P =
    become_decided AreAlike Any (λ u q plan. IsComparedPlan q.0 q.1 plan) (comparisons P)
    (λ c u q g x. plan_exists P c q (made_in P c q x)) (comparisons_decided P)
