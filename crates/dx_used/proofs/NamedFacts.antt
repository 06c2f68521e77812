-- Marks of the columns that conditions name.
use Rattle.std.proofs.Common.{◌≡◌, ℕ, zero, suc, ◌+◌, ◌<◌, ◌≤◌, Bool, true, false, List, [], ◌∷◌, length, take, get_or, inl, inr, refl, sym, ◌∙◌, ap, subst, arith}
use Rattle.dx_base.specs.Members.{Each}
use Rattle.dx_base.proofs.Loops.{each_more}
use Rattle.dx_base.proofs.Members.{item_in}
use Rattle.dx_model.specs.declared.rules.Rule.{Rule}
use Rattle.dx_lines.specs.declared.line.Condition.{Condition}
use Rattle.dx_used.specs.Used.{Marks, UsesOnly, marks_at}
use Rattle.dx_used.specs.Named.{UsesExactly, IsNamed, IsRead, ReadNamed}
use Rattle.dx_used.specs.Counting.{NewOnlyWhere, MarksRead, MarksUsed, KeepMarks, ReadsNamed, UsesOnlyOf}
use Rattle.dx_used.proofs.MarkFacts.{none_there, only_kept, order, true_false, used_marked}

-- ---- one column

-- of a column that has a mark it does not matter what stands for one that has none
same_mark : (marks : List Bool) (i : ℕ) (d e : Bool) → i < length marks → get_or marks i d ≡ get_or marks i e
same_mark [] i d e h = absurd (omega (arith, h))
same_mark (u ∷ marks) zero d e h = refl
same_mark (u ∷ marks) (suc i) d e h = same_mark marks i d e (omega (arith, h))

-- a column without a mark is read
pub past_marks : (marks : List Bool) (i : ℕ) → length marks ≤ i → get_or marks i true ≡ true
past_marks [] i h = refl
past_marks (u ∷ marks) zero h = absurd (omega (arith, h))
past_marks (u ∷ marks) (suc i) h = past_marks marks i (omega (arith, h))

-- what is marked stays so
pub stays_marked : (old new : List Bool) (i : ℕ) → KeepMarks old new → get_or old i true ≡ true → get_or new i true ≡ true
stays_marked old new i k e = of (get_or new i true) refl
  where
    of : (b : Bool) → get_or new i true ≡ b → get_or new i true ≡ true
    of true n = n
    of false n = true_false (sym e ∙ k i n)

-- ---- the conditions of a loop

abbrev pub no_condition : Condition
no_condition = record { place = record { table = 0; column = 0 }; code = 0 }

pub named_more : (conditions : List Condition) (table : ℕ) (old new : List Bool) (i : ℕ) (c : Condition) → i < length conditions → c ≡ get_or conditions i c
    → Each (take i conditions) (ReadsNamed table old) → KeepMarks old new → ReadsNamed table new c → Each (take (i + 1) conditions) (ReadsNamed table new)
named_more conditions table old new i c h e all k r =
    each_more (ReadsNamed table new) conditions i c h e (λ x m t. stays_marked old new x.place.column k (all x m t)) r

-- a mark more is that of a column that the condition names
pub new_by_condition : (conditions : List Condition) (table i : ℕ) (c : Condition) (old now new : List Bool) → i < length conditions → c ≡ get_or conditions i c → c.place.table ≡ table
    → NewOnlyWhere (IsNamed conditions table) old now → NewOnlyWhere (λ j. j ≡ c.place.column) now new → NewOnlyWhere (IsNamed conditions table) old new
new_by_condition conditions table i c old now new h e t all more j b = elim (more j b) [
  | inl o ↦ all j o
  | inr is ↦ inr (c, item_in conditions i c h e, t, sym is)
]

-- ---- the marks of a table

pub read_by_both : (rules : List Rule) (conditions : List Condition) (table : ℕ) (old new : List Bool) → MarksUsed rules table old → NewOnlyWhere (IsNamed conditions table) old new
    → MarksRead rules conditions table new
read_by_both rules conditions table old new all more i e = elim (more i e) [ inl o ↦ inl (all i o) | inr w ↦ inr w ]

pub only_still : (rules : List Rule) (table : ℕ) (old new : List Bool) → KeepMarks old new → Each rules (UsesOnlyOf table old) → Each rules (UsesOnlyOf table new)
only_still rules table old new k all d m = only_kept table old new d k (all d m)

-- ---- all tables

-- of no table a mark is set
pub none_read : (rules : List Rule) (conditions : List Condition) (used : Marks) (t : ℕ) → used ≡ [] → MarksRead rules conditions t (marks_at used t)
none_read rules conditions used t e i k = true_false (sym k ∙ ap (λ (us : Marks). get_or (marks_at us t) i false) e)

pub all_named : (conditions : List Condition) (used : Marks) → ((t : ℕ) → t < length used → Each conditions (ReadsNamed t (marks_at used t))) → ReadNamed used conditions
all_named conditions used all c m = elim (order c.place.table (length used)) [
  | inl b ↦ all c.place.table b c m refl
  | inr o ↦ ap (λ ms. get_or ms c.place.column true) (none_there used c.place.table o)
]

-- a mark says exactly whether its column is read
pub exact_marks : (rules : List Rule) (conditions : List Condition) (used : Marks) → Each rules (UsesOnly used) → ReadNamed used conditions
    → ((t : ℕ) → MarksRead rules conditions t (marks_at used t)) → UsesExactly rules conditions used
exact_marks rules conditions used only named all table column h = (all table column, marked)
  where
    of_condition : IsNamed conditions table column → get_or (marks_at used table) column false ≡ true
    of_condition (c, m, t, i) =
        same_mark (marks_at used table) column false true h
        ∙ subst (λ u. get_or (marks_at used u) column true ≡ true) t (subst (λ j. get_or (marks_at used c.place.table) j true ≡ true) i (named c m))

    marked : IsRead rules conditions table column → get_or (marks_at used table) column false ≡ true
    marked w = elim w [ inl u ↦ used_marked rules used only table column h u | inr n ↦ of_condition n ]
