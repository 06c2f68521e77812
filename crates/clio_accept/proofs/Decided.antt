-- A text is accepted with one mapping, or refused for one reason, and never both.
use Rattle.std.proofs.Common.{◌≡◌, ◌⊎◌, ℕ, zero, suc, ◌+◌, ◌<◌, ◌≤◌, List, ◌++◌, Some, None, length, refl, sym, ◌∙◌, ap, false, subst, inl, inr, codes, arith, nat_eq}
use Rattle.std.specs.Prelude.{Option}
use Rattle.std.specs.Cmp.Lexicographic.{pointwise, bytes_decides}
use Rattle.std.proofs.lemmas.Bool.{cases_lt, cases_eq, cases_Bool, true≢false}
use Rattle.dx_base.specs.declared.file.Count.TheVariants.{FrozenCells, Lines, Rules}
use Rattle.dx_base.specs.Members.{Each}
use Rattle.dx_base.proofs.Lists.{none_or_some}
use Rattle.dx_model.specs.Fitting.{IsRule}
use Rattle.dx_model.specs.Following.{underived}
use Rattle.dx_tgd_text.specs.Laws.{IsWholeRule}
use Rattle.dx_tgd_text.proofs.Written.{texts_have_whole_rules}
use Rattle.dx_implies.specs.Pruning.{IsPrunedAlways, PruningPassesLimit}
use Rattle.dx_implies.proofs.Pruned.{left_exists, one_is_left, passes_or_none}
use Rattle.dx_schema.specs.Forest.{Forest}
use Rattle.dx_schema.specs.Tables.{model_tables, schema_table, tables_of}
use Rattle.dx_schema.specs.Links.{IsFaultless}
use Rattle.dx_schema.proofs.Deciding.{faultless_or_fault}
use Rattle.dx_schema.proofs.OneFault.{one_first_fault, faultless_have_none}
use Rattle.dx_schema_text.specs.declared.texts.LineText.{LineText}
use Rattle.dx_schema_text.specs.declared.texts.OnlyText.{OnlyText}
use Rattle.dx_schema_text.specs.declared.texts.RuleText.{RuleText}
use Rattle.dx_model.specs.declared.rules.Rule.{Rule}
use Rattle.dx_schema_text.specs.declared.texts.MappingText.{MappingText}
use Rattle.dx_schema_text.specs.Texts.{IsMappingText, IsMappingTextFault}
use Rattle.dx_schema_text.proofs.Answered.{mapping_or_fault, one_mapping, one_fault, never_said_and_faulty}
use Rattle.dx_funcs.specs.declared.conversion.Conversion.{Conversion}
use Rattle.dx_funcs.specs.declared.row_test.RowTest.{RowTest}
use Rattle.dx_line_text.specs.Naming.{lines_fault}
use Rattle.dx_line_text.specs.Conditions.{conditions_fault}
use Rattle.dx_tgd_text.specs.Reading.{rules_fault}
use Rattle.dx_stages.specs.Stages.{Stage, next, notions, checking}
use Rattle.dx_stages.specs.Laws.{PassesOne, IsDecided, Leads}
use Rattle.dx_stages.proofs.Decided.{Any, next_one, next_decided, checking_one, checking_decided, into_one, into_decided, over_one, over_decided, notions_decided, saying_decided, weaker}
use Rattle.clio_accept.specs.declared.fault.AcceptFault.{AcceptFault}
use Rattle.clio_accept.specs.declared.fault.AcceptFault.TheVariants as faults
use Rattle.clio_accept.specs.declared.fault.MapFault.TheVariants as map_faults
use Rattle.clio_accept.specs.Mapping.{IsReserved, NoneReserved, IsFirstReserved, RulesOfLines, TooWide, rules_of_lines, written_of, limit_of, text_refusal, source_sets_refusal, target_refusal}
use Rattle.clio_accept.specs.Mapping.{SourceRefused, TargetRefused, NameRefused, LinesRefused, NamingRefused, TestingRefused, WritingRefused}
use Rattle.clio_accept.specs.Mapping.{LimitRefused, WidthRefused, RulesRefused, FrozenRefused, frozen_cells}
use Rattle.clio_accept.proofs.Closed.{one_closed, never_closed, closed_or_wide}
use Rattle.clio_accept.proofs.Ruled.{are_rules, saying_all}
use Rattle.clio_accept.specs.Accepting.{TextsBetween, line_count, naming, conditions_stage, writing, limits, closing, rule_count, frozen_count, pruning, leaving, taking, with_rules, mapping_of}
use Rattle.clio_accept.specs.Accepting.{source_sets, target_sets, target_names, between_of, said_rules, accepting_said, said_by, accepting}

abbrev Same : AcceptFault → AcceptFault → Type 0
Same d e = d ≡ e

-- ---- schemas

one_source : (f : Forest) (d e : AcceptFault) → SourceRefused f d → SourceRefused f e → d ≡ e
one_source f d e a b = a.2 ∙ ap source_sets_refusal (one_first_fault f a.0 b.0 a.1 b.1) ∙ sym b.2

no_source : (f : Forest) (e : AcceptFault) → IsFaultless f → ¬ (SourceRefused f e)
no_source f e ok a = faultless_have_none f a.0 ok a.1

one_target : (f : Forest) (d e : AcceptFault) → TargetRefused f d → TargetRefused f e → d ≡ e
one_target f d e a b = a.2 ∙ ap target_refusal (one_first_fault f a.0 b.0 a.1 b.1) ∙ sym b.2

no_target : (f : Forest) (e : AcceptFault) → IsFaultless f → ¬ (TargetRefused f e)
no_target f e ok a = faultless_have_none f a.0 ok a.1

-- ---- reserved names

same_table : (f : Forest) (t u : ℕ) → IsReserved (schema_table f t).name → IsReserved (schema_table f u).name → ((k : ℕ) → k < t → ¬ (IsReserved (schema_table f k).name))
    → ((k : ℕ) → k < u → ¬ (IsReserved (schema_table f k).name)) → t ≡ u
same_table f t u a b p q =
    elim (cases_lt t u) [
      | inl lt ↦ absurd (q t lt a)
      | inr ge ↦ elim (cases_lt u t) [
        | inl lt ↦ absurd (p u lt b)
        | inr le ↦ omega (arith, ge, le)
      ]
    ]

at_table : (f : Forest) (name : List ℕ) (r : IsFirstReserved f name) → IsReserved (schema_table f r.table).name
at_table f name r = subst IsReserved r.is r.reserved

same_name : (f : Forest) (name other : List ℕ) → IsFirstReserved f name → IsFirstReserved f other → name ≡ other
same_name f name other a b = a.is ∙ ap (λ t. (schema_table f t).name) (same_table f a.table b.table (at_table f name a) (at_table f other b) a.first b.first) ∙ sym b.is

one_name : (f : Forest) (d e : AcceptFault) → NameRefused f d → NameRefused f e → d ≡ e
one_name f d e a b = a.2 ∙ ap (λ n. faults.Mapping (map_faults.Reserved n)) (same_name f a.0 b.0 a.1 b.1) ∙ sym b.2

no_name : (f : Forest) (e : AcceptFault) → NoneReserved f → ¬ (NameRefused f e)
no_name f e none a = none a.1.table a.1.within (at_table f a.0 a.1)

-- ---- lines

no_lines : (lines : List LineText) (conditions : List OnlyText) (e : AcceptFault) → length lines + length conditions ≤ 512 → ¬ (LinesRefused lines conditions e)
no_lines lines conditions e few a = let many = a.0 in omega (arith, few, many)

no_naming : (list : List Conversion) (source target : Forest) (lines : List LineText) (e : AcceptFault) → lines_fault source target list lines ≡ None → ¬ (NamingRefused list source target lines e)
no_naming list source target lines e none a = let some = a.1 in cc

same_some : {X : Type 0} (o : Option X) (x y : X) → o ≡ Some x → o ≡ Some y → x ≡ y
same_some o x y a b = cc

one_naming : (list : List Conversion) (source target : Forest) (lines : List LineText) (d e : AcceptFault) → NamingRefused list source target lines d → NamingRefused list source target lines e → d ≡ e
one_naming list source target lines d e a b = a.2 ∙ ap text_refusal (same_some (lines_fault source target list lines) a.0 b.0 a.1 b.1) ∙ sym b.2

no_testing : (tests : List RowTest) (source : Forest) (conditions : List OnlyText) (e : AcceptFault) → conditions_fault source tests conditions ≡ None → ¬ (TestingRefused tests source conditions e)
no_testing tests source conditions e none a = let some = a.1 in cc

one_testing : (tests : List RowTest) (source : Forest) (conditions : List OnlyText) (d e : AcceptFault) → TestingRefused tests source conditions d → TestingRefused tests source conditions e → d ≡ e
one_testing tests source conditions d e a b = a.2 ∙ ap text_refusal (same_some (conditions_fault source tests conditions) a.0 b.0 a.1 b.1) ∙ sym b.2

no_limit : (list : List Conversion) (source target : Forest) (lines : List LineText) (e : AcceptFault) → limit_of list source target lines ≡ None → ¬ (LimitRefused list source target lines e)
no_limit list source target lines e none a = let some = a.1 in cc

one_limit : (list : List Conversion) (source target : Forest) (lines : List LineText) (d e : AcceptFault) → LimitRefused list source target lines d → LimitRefused list source target lines e → d ≡ e
one_limit list source target lines d e a b = a.2 ∙ ap faults.Limit (same_some (limit_of list source target lines) a.0 b.0 a.1 b.1) ∙ sym b.2

no_writing : (list : List Conversion) (source target : Forest) (by_hand : List RuleText) (e : AcceptFault) → rules_fault source target list by_hand ≡ None → ¬ (WritingRefused list source target by_hand e)
no_writing list source target by_hand e none a = let some = a.1 in cc

one_writing : (list : List Conversion) (source target : Forest) (by_hand : List RuleText) (d e : AcceptFault) → WritingRefused list source target by_hand d → WritingRefused list source target by_hand e → d ≡ e
one_writing list source target by_hand d e a b = a.2 ∙ ap text_refusal (same_some (rules_fault source target list by_hand) a.0 b.0 a.1 b.1) ∙ sym b.2

no_rules : (R : List Rule) (e : AcceptFault) → length R ≤ 256 → ¬ (RulesRefused R e)
no_rules R e few a = let many = a.0 in omega (arith, few, many)

-- ---- reserved names

reserved_or_not : (name : List ℕ) → IsReserved name ⊎ ¬ (IsReserved name)
reserved_or_not name = elim (cases_Bool (pointwise nat_eq name (codes "nulls"))) [
  | inl t ↦ inl (inl ((bytes_decides name (codes "nulls")).0 t))
  | inr f ↦ elim (cases_Bool (pointwise nat_eq name (codes "fold"))) [
    | inl t ↦ inl (inr ((bytes_decides name (codes "fold")).0 t))
    | inr g ↦ inr (λ r. neither f g r)
  ]
]
  where
    neither : pointwise nat_eq name (codes "nulls") ≡ false → pointwise nat_eq name (codes "fold") ≡ false → ¬ (IsReserved name)
    neither f g (inl e) = true≢false (sym ((bytes_decides name (codes "nulls")).1 e) ∙ f)
    neither f g (inr e) = true≢false (sym ((bytes_decides name (codes "fold")).1 e) ∙ g)

-- the first of the tables below n with a reserved name, or none of them has one
first_reserved : (f : Forest) (n : ℕ) → ((t : ℕ) → t < n → ¬ (IsReserved (schema_table f t).name))
    ⊎ ((t : ℕ) × (t < n) × IsReserved (schema_table f t).name × ((k : ℕ) → k < t → ¬ (IsReserved (schema_table f k).name)))
first_reserved f zero = inl (λ t h. absurd (omega arith))
first_reserved f (suc n) = elim (first_reserved f n) [
  | inr r ↦ inr (r.0, omega (arith, r.1), r.2, r.3)
  | inl none ↦ elim (reserved_or_not (schema_table f n).name) [
    | inl r ↦ inr (n, omega arith, r, none)
    | inr d ↦ inl (also none d)
  ]
]
  where
    also : ((t : ℕ) → t < n → ¬ (IsReserved (schema_table f t).name)) → ¬ (IsReserved (schema_table f n).name) → (t : ℕ) → t < suc n → ¬ (IsReserved (schema_table f t).name)
    also none d t h = elim (cases_eq t n) [
      | inl e ↦ subst (λ (k : ℕ). ¬ (IsReserved (schema_table f k).name)) (sym e) d
      | inr ne ↦ none t (omega (arith, h, ne))
    ]

none_or_reserved : (f : Forest) → NoneReserved f ⊎ ((name : List ℕ) × IsFirstReserved f name)
none_or_reserved f = elim (first_reserved f (length (tables_of f))) [
  | inl none ↦ inl none
  | inr r ↦ inr ((schema_table f r.0).name, record { table = r.0; within = r.1; is = refl; reserved = r.2; first = r.3 })
]

-- ---- one stage after the other

-- a first stage that is decided of all, and one that is decided of what it passes
after : {A B C : Type 0} (Given : A → Type 0) (Between : B → Type 0) (s : Stage AcceptFault A B) (t : Stage AcceptFault B C) → PassesOne s → Leads Given Between s
    → IsDecided Same Any s → IsDecided Same Between t → IsDecided Same Given (next s t)
after Given Between s t p leads u v = next_decided Same Given Between s t p leads (weaker Same Any Given s (λ a g. tt) u) v

-- what is checked is so in what is passed
keeps : {A : Type 0} (Given : A → Type 0) (refused : A → AcceptFault → Type 0) (fits : A → Type 0) → Leads Given (λ a. Given a × fits a) (checking refused fits)
keeps Given refused fits c a b g p = subst (λ x. Given x × fits x) (sym p.1) (g, p.0)

check : {A : Type 0} (refused : A → AcceptFault → Type 0) (fits : A → Type 0) → ((a : A) (e f : AcceptFault) → refused a e → refused a f → e ≡ f) → ((a : A) (e : AcceptFault) → fits a → ¬ (refused a e))
    → ((a : A) → fits a ⊎ ((e : AcceptFault) × refused a e)) → IsDecided Same Any (checking refused fits)
check refused fits one never either = checking_decided Same Any refused fits one never either

-- ---- lines

line_count_decided : IsDecided Same Any line_count
line_count_decided = check (λ b. LinesRefused b.lines b.conditions) (λ b. length b.lines + length b.conditions ≤ 512) (λ b d e p q. p.1 ∙ sym q.1) (λ b e. no_lines b.lines b.conditions e) either
  where
    either : (b : TextsBetween) → (length b.lines + length b.conditions ≤ 512) ⊎ ((e : AcceptFault) × LinesRefused b.lines b.conditions e)
    either b = elim (cases_lt 512 (length b.lines + length b.conditions)) [
      | inl many ↦ inr (faults.Limit (record { what = Lines; number = 512 }), (many, refl))
      | inr few ↦ inl few
    ]

naming_decided : (list : List Conversion) → IsDecided Same Any (naming list)
naming_decided list = check (λ b. NamingRefused list b.source b.target b.lines) (λ b. lines_fault b.source b.target list b.lines ≡ None)
    (λ b. one_naming list b.source b.target b.lines) (λ b. no_naming list b.source b.target b.lines) either
  where
    either : (b : TextsBetween) → (lines_fault b.source b.target list b.lines ≡ None) ⊎ ((e : AcceptFault) × NamingRefused list b.source b.target b.lines e)
    either b = elim (none_or_some (lines_fault b.source b.target list b.lines)) [
      | inl none ↦ inl none
      | inr k ↦ inr (text_refusal k.0, (k.0, k.1, refl))
    ]

testing_decided : (tests : List RowTest) → IsDecided Same Any (conditions_stage tests)
testing_decided tests = check (λ b. TestingRefused tests b.source b.conditions) (λ b. conditions_fault b.source tests b.conditions ≡ None)
    (λ b. one_testing tests b.source b.conditions) (λ b. no_testing tests b.source b.conditions) either
  where
    either : (b : TextsBetween) → (conditions_fault b.source tests b.conditions ≡ None) ⊎ ((e : AcceptFault) × TestingRefused tests b.source b.conditions e)
    either b = elim (none_or_some (conditions_fault b.source tests b.conditions)) [
      | inl none ↦ inl none
      | inr k ↦ inr (text_refusal k.0, (k.0, k.1, refl))
    ]

limits_decided : (list : List Conversion) → IsDecided Same Any (limits list)
limits_decided list = check (λ b. LimitRefused list b.source b.target b.lines) (λ b. limit_of list b.source b.target b.lines ≡ None)
    (λ b. one_limit list b.source b.target b.lines) (λ b. no_limit list b.source b.target b.lines) either
  where
    either : (b : TextsBetween) → (limit_of list b.source b.target b.lines ≡ None) ⊎ ((e : AcceptFault) × LimitRefused list b.source b.target b.lines e)
    either b = elim (none_or_some (limit_of list b.source b.target b.lines)) [
      | inl none ↦ inl none
      | inr l ↦ inr (faults.Limit l.0, (l.0, l.1, refl))
    ]

writing_decided : (list : List Conversion) → IsDecided Same Any (writing list)
writing_decided list = check (λ b. WritingRefused list b.source b.target b.by_hand) (λ b. rules_fault b.source b.target list b.by_hand ≡ None)
    (λ b. one_writing list b.source b.target b.by_hand) (λ b. no_writing list b.source b.target b.by_hand) either
  where
    either : (b : TextsBetween) → (rules_fault b.source b.target list b.by_hand ≡ None) ⊎ ((e : AcceptFault) × WritingRefused list b.source b.target b.by_hand e)
    either b = elim (none_or_some (rules_fault b.source b.target list b.by_hand)) [
      | inl none ↦ inl none
      | inr k ↦ inr (text_refusal k.0, (k.0, k.1, refl))
    ]

closing_decided : (list : List Conversion) → IsDecided Same Any (closing list)
closing_decided list =
    notions_decided Same Any (λ b. WidthRefused (model_tables b.target) (written_of list b.source b.target b.by_hand)) (λ b. RulesOfLines list b.source b.target b.lines b.by_hand)
    (λ b e f g p q. p.3 ∙ sym q.3)
    (λ b R e g a. never_closed (model_tables b.target) (written_of list b.source b.target b.by_hand) a.closed e a.closings)
    (λ b g. either b)
  where
    either : (b : TextsBetween) → ((R : List Rule) × RulesOfLines list b.source b.target b.lines b.by_hand R) ⊎ ((e : AcceptFault) × WidthRefused (model_tables b.target) (written_of list b.source b.target b.by_hand) e)
    either b = elim (closed_or_wide (model_tables b.target) (written_of list b.source b.target b.by_hand)) [
      | inl r ↦ inl (rules_of_lines list b.source b.target b.lines ++ r.0, record { closed = r.0; closings = r.1; are = refl })
      | inr w ↦ inr (TooWide, (w.0, w.1, w.2, refl))
    ]

rule_count_decided : IsDecided Same Any rule_count
rule_count_decided = check RulesRefused (λ R. length R ≤ 256) (λ R d e p q. p.1 ∙ sym q.1) no_rules either
  where
    either : (R : List Rule) → (length R ≤ 256) ⊎ ((e : AcceptFault) × RulesRefused R e)
    either R = elim (cases_lt 256 (length R)) [
      | inl many ↦ inr (faults.Limit (record { what = Rules; number = 256 }), (many, refl))
      | inr few ↦ inl few
    ]

line_count_one : PassesOne line_count
line_count_one = checking_one (λ b. LinesRefused b.lines b.conditions) (λ b. length b.lines + length b.conditions ≤ 512)

naming_one : (list : List Conversion) → PassesOne (naming list)
naming_one list = checking_one (λ b. NamingRefused list b.source b.target b.lines) (λ b. lines_fault b.source b.target list b.lines ≡ None)

testing_one : (tests : List RowTest) → PassesOne (conditions_stage tests)
testing_one tests = checking_one (λ b. TestingRefused tests b.source b.conditions) (λ b. conditions_fault b.source tests b.conditions ≡ None)

limits_one : (list : List Conversion) → PassesOne (limits list)
limits_one list = checking_one (λ b. LimitRefused list b.source b.target b.lines) (λ b. limit_of list b.source b.target b.lines ≡ None)

writing_one : (list : List Conversion) → PassesOne (writing list)
writing_one list = checking_one (λ b. WritingRefused list b.source b.target b.by_hand) (λ b. rules_fault b.source b.target list b.by_hand ≡ None)

closing_one : (list : List Conversion) → PassesOne (closing list)
closing_one list c b R S p q =
    p.are ∙ ap (λ es. rules_of_lines list b.source b.target b.lines ++ es) (one_closed (model_tables b.target) (written_of list b.source b.target b.by_hand) p.closed q.closed p.closings q.closings) ∙ sym q.are

rule_count_one : PassesOne rule_count
rule_count_one = checking_one RulesRefused (λ R. length R ≤ 256)

-- ---- what is left of rules

-- those without derived variables are rules
abbrev AreRules : List Rule → Type 0
AreRules R = Each (underived R) IsRule

frozen_one : PassesOne frozen_count
frozen_one = checking_one FrozenRefused (λ R. ¬ (PruningPassesLimit frozen_cells R))

pruning_one : PassesOne pruning
pruning_one c R P Q p q = one_is_left R P Q p q

leaving_one : PassesOne leaving
leaving_one = next_one rule_count (next frozen_count pruning) rule_count_one (next_one frozen_count pruning frozen_one pruning_one)

frozen_decided : IsDecided Same AreRules frozen_count
frozen_decided =
    notions_decided Same AreRules FrozenRefused (λ R P. (¬ (PruningPassesLimit frozen_cells R)) × (P ≡ R)) (λ R d e g p q. p.1 ∙ sym q.1) (λ R P e g p q. p.0 q.0)
    (λ R g. either R g)
  where
    either : (R : List Rule) → AreRules R → ((P : List Rule) × ((¬ (PruningPassesLimit frozen_cells R)) × (P ≡ R))) ⊎ ((e : AcceptFault) × FrozenRefused R e)
    either R g = elim (passes_or_none frozen_cells R g) [
      | inl p ↦ inr (faults.Limit (record { what = FrozenCells; number = frozen_cells }), (p, refl))
      | inr n ↦ inl (R, (n, refl))
    ]

pruning_decided : IsDecided Same AreRules pruning
pruning_decided = notions_decided Same AreRules (λ R e. ⊥) IsPrunedAlways (λ R d e g p q. absurd p) (λ R P e g p q. q) (λ R g. inl (left_exists R g))

-- a check passes on what it was given
stays : {A : Type 0} (Given : A → Type 0) (refused : A → AcceptFault → Type 0) (fits : A → Type 0) → Leads Given Given (checking refused fits)
stays Given refused fits c a b g p = subst Given (sym p.1) g

leaving_decided : IsDecided Same AreRules leaving
leaving_decided =
    after AreRules AreRules rule_count (next frozen_count pruning) rule_count_one (stays AreRules RulesRefused (λ R. length R ≤ 256)) rule_count_decided
    (next_decided Same AreRules AreRules frozen_count pruning frozen_one (stays AreRules FrozenRefused (λ R. ¬ (PruningPassesLimit frozen_cells R))) frozen_decided pruning_decided)

-- ---- the rules between two schemas

-- the schemas have no fault, and the hand-written rules are whole
abbrev IsSound : TextsBetween → Type 0
IsSound b = (Each b.by_hand IsWholeRule × IsFaultless b.source) × IsFaultless b.target

abbrev IsCounted : TextsBetween → Type 0
IsCounted b = IsSound b × (length b.lines + length b.conditions ≤ 512)

abbrev IsNamed : List Conversion → TextsBetween → Type 0
IsNamed list b = IsCounted b × (lines_fault b.source b.target list b.lines ≡ None)

abbrev IsTestable : List Conversion → List RowTest → TextsBetween → Type 0
IsTestable list tests b = IsNamed list b × (conditions_fault b.source tests b.conditions ≡ None)

abbrev IsWritten : List Conversion → List RowTest → TextsBetween → Type 0
IsWritten list tests b = IsTestable list tests b × (rules_fault b.source b.target list b.by_hand ≡ None)

abbrev IsLimited : List Conversion → List RowTest → TextsBetween → Type 0
IsLimited list tests b = IsWritten list tests b × (limit_of list b.source b.target b.lines ≡ None)

closing_leads : (list : List Conversion) (tests : List RowTest) → Leads (IsLimited list tests) AreRules (closing list)
closing_leads list tests c b R g are = are_rules list (saying_all b) R (record {
  source = g.0.0.0.0.0.0.1;
  target = g.0.0.0.0.0.1;
  named = g.0.0.0.1;
  limits = g.1;
  written = g.0.1;
  whole = g.0.0.0.0.0.0.0;
}) are

taking_one : (list : List Conversion) (tests : List RowTest) → PassesOne (taking list tests)
taking_one list tests =
    next_one line_count (next (naming list) (next (conditions_stage tests) (next (writing list) (next (limits list) (next (closing list) leaving))))) line_count_one
    (next_one (naming list) (next (conditions_stage tests) (next (writing list) (next (limits list) (next (closing list) leaving)))) (naming_one list)
    (next_one (conditions_stage tests) (next (writing list) (next (limits list) (next (closing list) leaving))) (testing_one tests)
    (next_one (writing list) (next (limits list) (next (closing list) leaving)) (writing_one list)
    (next_one (limits list) (next (closing list) leaving) (limits_one list) (next_one (closing list) leaving (closing_one list) leaving_one)))))

taking_decided : (list : List Conversion) (tests : List RowTest) → IsDecided Same IsSound (taking list tests)
taking_decided list tests =
    after IsSound IsCounted line_count (next (naming list) (next (conditions_stage tests) (next (writing list) (next (limits list) (next (closing list) leaving))))) line_count_one
    (keeps IsSound (λ b. LinesRefused b.lines b.conditions) (λ b. length b.lines + length b.conditions ≤ 512)) line_count_decided
    (after IsCounted (IsNamed list) (naming list) (next (conditions_stage tests) (next (writing list) (next (limits list) (next (closing list) leaving)))) (naming_one list)
    (keeps IsCounted (λ b. NamingRefused list b.source b.target b.lines) (λ b. lines_fault b.source b.target list b.lines ≡ None)) (naming_decided list)
    (after (IsNamed list) (IsTestable list tests) (conditions_stage tests) (next (writing list) (next (limits list) (next (closing list) leaving))) (testing_one tests)
    (keeps (IsNamed list) (λ b. TestingRefused tests b.source b.conditions) (λ b. conditions_fault b.source tests b.conditions ≡ None)) (testing_decided tests)
    (after (IsTestable list tests) (IsWritten list tests) (writing list) (next (limits list) (next (closing list) leaving)) (writing_one list)
    (keeps (IsTestable list tests) (λ b. WritingRefused list b.source b.target b.by_hand) (λ b. rules_fault b.source b.target list b.by_hand ≡ None)) (writing_decided list)
    (after (IsWritten list tests) (IsLimited list tests) (limits list) (next (closing list) leaving) (limits_one list)
    (keeps (IsWritten list tests) (λ b. LimitRefused list b.source b.target b.lines) (λ b. limit_of list b.source b.target b.lines ≡ None)) (limits_decided list)
    (after (IsLimited list tests) AreRules (closing list) leaving (closing_one list) (closing_leads list tests) (closing_decided list) leaving_decided)))))

-- ---- what a text says

source_decided : IsDecided Same Any source_sets
source_decided = check (λ m. SourceRefused m.source) (λ m. IsFaultless m.source) (λ m. one_source m.source) (λ m. no_source m.source) either
  where
    either : (m : MappingText) → IsFaultless m.source ⊎ ((e : AcceptFault) × SourceRefused m.source e)
    either m = elim (faultless_or_fault m.source) [
      | inl ok ↦ inl ok
      | inr k ↦ inr (source_sets_refusal k.0, (k.0, k.1, refl))
    ]

target_decided : IsDecided Same Any target_sets
target_decided = check (λ m. TargetRefused m.target) (λ m. IsFaultless m.target) (λ m. one_target m.target) (λ m. no_target m.target) either
  where
    either : (m : MappingText) → IsFaultless m.target ⊎ ((e : AcceptFault) × TargetRefused m.target e)
    either m = elim (faultless_or_fault m.target) [
      | inl ok ↦ inl ok
      | inr k ↦ inr (target_refusal k.0, (k.0, k.1, refl))
    ]

names_decided : IsDecided Same Any target_names
names_decided = check (λ m. NameRefused m.target) (λ m. NoneReserved m.target) (λ m. one_name m.target) (λ m. no_name m.target) either
  where
    either : (m : MappingText) → NoneReserved m.target ⊎ ((e : AcceptFault) × NameRefused m.target e)
    either m = elim (none_or_reserved m.target) [
      | inl none ↦ inl none
      | inr r ↦ inr (faults.Mapping (map_faults.Reserved r.0), (r.0, r.1, refl))
    ]

source_one : PassesOne source_sets
source_one = checking_one (λ m. SourceRefused m.source) (λ m. IsFaultless m.source)

target_one : PassesOne target_sets
target_one = checking_one (λ m. TargetRefused m.target) (λ m. IsFaultless m.target)

names_one : PassesOne target_names
names_one = checking_one (λ m. NameRefused m.target) (λ m. NoneReserved m.target)

said_rules_one : (list : List Conversion) (tests : List RowTest) → PassesOne (said_rules list tests)
said_rules_one list tests = over_one between_of (mapping_of list tests) (into_one (with_rules tests) (taking list tests) (taking_one list tests))

said_one : (list : List Conversion) (tests : List RowTest) → PassesOne (accepting_said list tests)
said_one list tests =
    next_one source_sets (next target_sets (next target_names (said_rules list tests))) source_one
    (next_one target_sets (next target_names (said_rules list tests)) target_one (next_one target_names (said_rules list tests) names_one (said_rules_one list tests)))

-- the hand-written rules are whole
abbrev IsWholeText : MappingText → Type 0
IsWholeText m = Each m.rules IsWholeRule

abbrev HasSource : MappingText → Type 0
HasSource m = IsWholeText m × IsFaultless m.source

abbrev HasTarget : MappingText → Type 0
HasTarget m = HasSource m × IsFaultless m.target

said_decided : (list : List Conversion) (tests : List RowTest) → IsDecided Same IsWholeText (accepting_said list tests)
said_decided list tests =
    after IsWholeText HasSource source_sets (next target_sets (next target_names (said_rules list tests))) source_one
    (keeps IsWholeText (λ m. SourceRefused m.source) (λ m. IsFaultless m.source)) source_decided
    (after HasSource HasTarget target_sets (next target_names (said_rules list tests)) target_one (keeps HasSource (λ m. TargetRefused m.target) (λ m. IsFaultless m.target)) target_decided
    (after HasTarget HasTarget target_names (said_rules list tests) names_one (stays HasTarget (λ m. NameRefused m.target) (λ m. NoneReserved m.target)) names_decided
    (over_decided Same HasTarget IsSound between_of (mapping_of list tests) (λ m g. g) (into_decided Same IsSound (with_rules tests) (taking list tests) (taking_decided list tests)))))

-- ---- a text

said_by_one : PassesOne said_by
said_by_one c text m n = one_mapping text m n

said_by_decided : IsDecided Same Any said_by
said_by_decided =
    saying_decided (λ e k. e ≡ k) Same Any text_refusal (notions IsMappingTextFault IsMappingText) (λ e k is. ap text_refusal is)
    (notions_decided (λ e k. e ≡ k) Any IsMappingTextFault IsMappingText (λ text e f g. one_fault text e f) (λ text m e g. never_said_and_faulty text m e) (λ text g. mapping_or_fault text))

said_by_leads : Leads Any IsWholeText said_by
said_by_leads c text m g says r i = (texts_have_whole_rules text m says r i).0

pub accepting_one : (list : List Conversion) (tests : List RowTest) → PassesOne (accepting list tests)
accepting_one list tests = next_one said_by (accepting_said list tests) said_by_one (said_one list tests)

pub accepting_decided : (list : List Conversion) (tests : List RowTest) → IsDecided (λ e f. e ≡ f) (λ text. Unit {0}) (accepting list tests)
accepting_decided list tests = after Any IsWholeText said_by (accepting_said list tests) said_by_one said_by_leads said_by_decided (said_decided list tests)
