-- The stages of `compare`: the two mappings, what they have to have in common, the comparison.
use Rattle.std.specs.Prelude.{◌≡◌, ◌⊎◌, ◌≤◌, ℕ, List, [], Some, take, length, slice_get, true, false}
use Rattle.dx_base.specs.Entries.{Entry}
use Rattle.dx_base.specs.Members.{Each}
use Rattle.dx_base.specs.declared.file.Count.TheVariants.{FrozenCells}
use Rattle.dx_base.specs.declared.limits.TheConstants.{RULES}
use Rattle.dx_base.specs.Texts.{Text}
use Rattle.dx_model.specs.declared.rules.Rule.{Rule}
use Rattle.dx_stages.specs.Ending.{PlanContent}
use Rattle.dx_stages.specs.Stages.{Stage, next, become, over, into, checking, notions}
use Rattle.dx_compare.specs.declared.comparing.Comparison.{Comparison}
use Rattle.dx_compare.specs.Comparing.{IsComparison, ComparisonPassesLimit}
use Rattle.dx_compare.specs.Laws.{ComparableRules}
use Rattle.clio_accept.specs.declared.mapping.Mapping.{Mapping}
use Rattle.clio_accept.specs.Mapping.{frozen_cells}
use Rattle.clio_files.specs.Comparisons.{AreComparedFiles, compared_text}
use Rattle.clio_files.specs.Files.{files_of}
use Rattle.clio_files.specs.Sheets.{PrintedFile}
use Rattle.clio_ending.specs.declared.ending.Done.{Done}
use Rattle.clio_ending.specs.declared.ending.Done.TheVariants.{Compared}
use Rattle.clio_ending.specs.declared.ending.Refusal.{Refusal}
use Rattle.clio_ending.specs.declared.ending.Refusal.TheVariants as refusals
use Rattle.clio_ending.specs.declared.faults.OtherFault.TheVariants as other_faults
use Rattle.clio_steps.specs.declared.texts.Side.TheVariants.{Second}
use Rattle.clio_steps.specs.Steps.{Program, mapping_stages, text_stages}

-- ---- the other mapping

-- the first mapping and the second
abbrev pub Pair : Type 0
Pair = Mapping × Mapping

-- the second mapping, beside the first
abbrev pub other_stages : Program → Stage Refusal Mapping Pair
other_stages P = into (λ (M : Mapping) (N : Mapping). (M, N)) (over (λ (M : Mapping). tt {0}) (text_stages P Second))

-- ---- what can be compared

-- both have the same sets on each side
abbrev pub HaveSameSets : Pair → Type 0
HaveSameSets p = (p.0.source ≡ p.1.source) × (p.0.target ≡ p.1.target)

abbrev pub Differ : Pair → Refusal → Type 0
Differ p e = (¬ (HaveSameSets p)) × (e ≡ refusals.Other other_faults.Schemas)

abbrev pub same_sets : Stage Refusal Pair Pair
same_sets = checking Differ HaveSameSets

-- neither has a condition
abbrev pub BothUnconditional : Pair → Type 0
BothUnconditional p = (p.0.conditions ≡ []) × (p.1.conditions ≡ [])

abbrev pub HaveConditions : Pair → Refusal → Type 0
HaveConditions p e = (¬ (BothUnconditional p)) × (e ≡ refusals.Other other_faults.Conditions)

abbrev pub no_conditions : Stage Refusal Pair Pair
no_conditions = checking HaveConditions BothUnconditional

-- no rule has derived variables
abbrev pub NoneDerived : List Rule → Type 0
NoneDerived R = Each R (λ d. d.derived ≡ [])

abbrev pub BothPlain : Pair → Type 0
BothPlain p = NoneDerived p.0.rules × NoneDerived p.1.rules

-- the first rule that has some has this number
pub record IsFirstDerived (R : List Rule) (number : ℕ) : Type 0 where
  pub rule : Rule
  pub is : slice_get R number ≡ Some rule
  pub some : ¬ (rule.derived ≡ [])
  pub before : NoneDerived (take number R)

-- a rule of the first list has, or none of these and one of the second
abbrev pub HasDerived : Pair → Refusal → Type 0
HasDerived p e =
    ((n : ℕ) × IsFirstDerived p.0.rules n × (e ≡ refusals.Other (other_faults.Derived false n)))
    ⊎ (NoneDerived p.0.rules × ((n : ℕ) × IsFirstDerived p.1.rules n × (e ≡ refusals.Other (other_faults.Derived true n))))

abbrev pub no_derived : Stage Refusal Pair Pair
no_derived = checking HasDerived BothPlain

abbrev pub comparable : Stage Refusal Pair Pair
comparable = next same_sets (next no_conditions no_derived)

-- ---- the comparison

-- a test passes the limit
abbrev pub PassesFrozenLimit : Pair → Refusal → Type 0
PassesFrozenLimit p e =
    ComparisonPassesLimit frozen_cells p.0.rules p.1.rules
    × (e ≡ refusals.Limit (record { what = FrozenCells; number = frozen_cells }))

-- none does, and this is whether each list implies the other
abbrev pub IsComparisonOf : Pair → Comparison → Type 0
IsComparisonOf p k =
    (¬ (ComparisonPassesLimit frozen_cells p.0.rules p.1.rules))
    × IsComparison p.0.source p.0.target p.0.rules p.1.rules k

-- the comparison of the rules
abbrev pub compared_rules : Stage Refusal Pair Comparison
compared_rules = notions PassesFrozenLimit IsComparisonOf

-- the same, beside the first mapping
abbrev pub comparing : Stage Refusal Pair (Mapping × Comparison)
comparing = into (λ (p : Pair) (k : Comparison). (p.0, k)) compared_rules

-- two mapping texts, and the comparison of their rules
abbrev pub comparisons : Program → Stage Refusal (Unit {0}) (Mapping × Comparison)
comparisons P = next (mapping_stages P) (next (other_stages P) (next comparable comparing))

-- the files that are written of a comparison, and what is said of it
abbrev pub WritesComparison : Mapping → Comparison → List Entry → Text → Type 0
WritesComparison M k entries text =
    (files : List PrintedFile) × AreComparedFiles M.source M.target k files × (entries ≡ files_of files)
    × (text ≡ compared_text k files)

-- what is written of a comparison: the files of the instances that refute, and what is said
abbrev pub IsComparedPlan : Mapping → Comparison → PlanContent Done → Type 0
IsComparedPlan M k plan =
    (files : List PrintedFile) × AreComparedFiles M.source M.target k files
    × (plan ≡ record { done = Compared k; files = files_of files; text = compared_text k files })

-- a comparison, and what is written of it
abbrev pub compare_stages : Program → Stage Refusal (Unit {0}) (PlanContent Done)
compare_stages P = become (λ u q plan. IsComparedPlan q.0 q.1 plan) (comparisons P)

-- ---- what the code has

-- the rules of both mappings are few, have no derived variables, and fit the sets of the first
pub record PairReady (p : Pair) : Type 0 where
  pub rules : ComparableRules p.0.source p.0.target p.0.rules p.1.rules
  pub few_first : length p.0.rules ≤ RULES
  pub few_second : length p.1.rules ≤ RULES
