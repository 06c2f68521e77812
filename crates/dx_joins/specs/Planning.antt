-- How a row of a table of partial matches and a row of a pattern's table are put together.
use Rattle.std.specs.Prelude.{◌≡◌, ◌↔◌, ◌⊎◌, ◌<◌, ◌≤◌, ◌+◌, ◌^◌, ℕ, suc, cond, eqb}
use Rattle.std.specs.Prelude.{Bool, List, [], ◌∷◌, ◌++◌, length, map, slice_index}
use Rattle.dx_base.specs.Members.{◌∈◌, ◌⊆◌, Distinct, Each}
use Rattle.dx_instance.specs.Cells.{NumberTable}
use Rattle.dx_instance.specs.Shown.{numbers_of_table}
use Rattle.dx_joins.specs.declared.index.Index.{Index}
use Rattle.dx_joins.specs.declared.plan.Plan.{Plan}
use Rattle.dx_joins.specs.declared.pattern.Pattern.{Pattern}
use Rattle.dx_joins.specs.declared.premise.Partial.{Partial}
use Rattle.dx_joins.specs.Collecting.{RowsExactly, Collection}
use Rattle.dx_joins.specs.Looking.{IsBucketIndex, keys_of}
use Rattle.dx_joins.specs.Joining.{AllMarked, IsJoinOf, MatchesPatterns, HasRowsWith, variables_of_patterns}

-- the place where x stands first
abbrev pub first_place : List ℕ → ℕ → ℕ
first_place [] x = 0
first_place (y ∷ ys) x = cond (eqb x y) 0 (suc (first_place ys x))

-- the plan's places are those of its variables, and it looks for rows by variables that stand on both sides
pub record IsJoinPlan (p : Plan) : Type 0 where
  pub once : Distinct p.left.items
  pub known : p.kept.items ⊆ (p.left.items ++ p.right.items)
  pub firsts : p.firsts.items ≡ map (first_place (p.left.items ++ p.right.items)) p.right.items
  pub places : p.places.items ≡ map (first_place (p.left.items ++ p.right.items)) p.kept.items
  pub left_within : Each p.by_left.items (λ i. i < length p.left.items)
  pub right_within : Each p.by_right.items (λ i. i < length p.right.items)
  pub shared : map (slice_index p.left.items) p.by_left.items ≡ map (slice_index p.right.items) p.by_right.items

-- the plan is for rows of so many numbers on the left, and the collection takes what comes of them
pub record CanJoin (p : Plan) (numbers : ℕ) (out : Collection) : Type 0 where
  pub plan : IsJoinPlan p
  pub left : numbers ≡ length p.left.items
  pub width : out.width ≡ length p.kept.items

-- t comes of r and the marked row s
pub record Pairs (p : Plan) (marks : List Bool) (r s t : List ℕ) : Type 0 where
  pub marked : AllMarked marks s
  pub joined : IsJoinOf p.left.items p.right.items p.kept.items r s t

-- t comes of r and one of the rows
abbrev pub PairsWith : Plan → List Bool → List (List ℕ) → List ℕ → List ℕ → Type 0
PairsWith p marks rows r t = (s : List ℕ) × (s ∈ rows) × Pairs p marks r s t

-- t comes of r and a row of the table
abbrev pub PairsIn : Plan → List Bool → List NumberTable → ℕ → List ℕ → List ℕ → Type 0
PairsIn p marks tables table r t = PairsWith p marks (numbers_of_table tables table).rows r t

-- t comes of one of the rows and a row of the table
abbrev pub PairsOf : Plan → List Bool → List NumberTable → ℕ → List (List ℕ) → List ℕ → Type 0
PairsOf p marks tables table rows t = (r : List ℕ) × (r ∈ rows) × PairsIn p marks tables table r t

-- the index is that of a table's rows by the columns on the right that are joined
abbrev pub IndexesTable : Plan → List NumberTable → ℕ → Index → Type 0
IndexesTable p tables table index = IsBucketIndex index (keys_of p.by_right.items (numbers_of_table tables table).rows)

-- a later pattern has the variable, or it is wanted in the end
abbrev pub IsVariableNeeded : List Pattern → List ℕ → ℕ → Type 0
IsVariableNeeded later wanted x = (x ∈ variables_of_patterns later) ⊎ (x ∈ wanted)

-- the pattern has a variable for each column of its table
pub record FitPattern (tables : List NumberTable) (p : Pattern) : Type 0 where
  pub table : p.table < length tables
  pub width : (numbers_of_table tables p.table).width ≡ length p.variables.items

-- the patterns fit the tables, and their variables can be counted
pub record JoinableHere (tables : List NumberTable) (patterns : List Pattern) : Type 0 where
  pub fit : Each patterns (FitPattern tables)
  pub few : length (variables_of_patterns patterns) < 2 ^ 32

-- the variables are some of these, and can be counted
pub record FewAmong (names variables : List ℕ) : Type 0 where
  pub known : variables ⊆ names
  pub few : length variables < 2 ^ 32

-- the rows have a number for each variable, of which none stands twice
pub record IsPartialTable (p : Partial) : Type 0 where
  pub once : Distinct p.variables.items
  pub wide : p.rows.width ≡ length p.variables.items

-- t comes of a partial match and a row of the pattern's table
abbrev pub StepsTo : List NumberTable → List Bool → Partial → Pattern → List ℕ → List ℕ → Type 0
StepsTo tables marks p pattern kept t =
    (r : List ℕ) × (r ∈ p.rows.rows) × (s : List ℕ) × (s ∈ (numbers_of_table tables pattern.table).rows)
    × AllMarked marks s × IsJoinOf p.variables.items pattern.variables.items kept r s t

-- the partial matches are those of the patterns that are done, for the variables that are needed
pub record HoldsPartialMatches (tables : List NumberTable) (marks : List Bool)
    (done later : List Pattern) (wanted : List ℕ) (p : Partial) : Type 0 where
  pub told : HasRowsWith (MatchesPatterns tables marks done) p.variables.items p.rows.rows
  pub kept : (x : ℕ) → x ∈ variables_of_patterns done → IsVariableNeeded later wanted x → x ∈ p.variables.items
  pub once : Distinct p.variables.items
  pub wide : p.rows.width ≡ length p.variables.items
  pub few : length p.variables.items ≤ length (variables_of_patterns done)

-- with one pattern more done, the new partial matches are those of the patterns that are done
abbrev pub CarriesOn : List NumberTable → List Bool → Pattern → List Pattern → List ℕ → Partial → Partial → Type 0
CarriesOn tables marks pattern later wanted old new =
    (done : List Pattern) → HoldsPartialMatches tables marks done (pattern ∷ later) wanted old
    → HoldsPartialMatches tables marks (done ++ pattern ∷ []) later wanted new

-- a match of the patterns gives t to the variables
abbrev pub IsMatchRow : List NumberTable → List Bool → List Pattern → List ℕ → List ℕ → Type 0
IsMatchRow tables marks patterns shown t =
    (numbers : ℕ → ℕ) × MatchesPatterns tables marks patterns numbers × (t ≡ map numbers shown)

-- the rows are what the matches of the patterns give to the variables
abbrev pub HasMatchRows : List NumberTable → List Bool → List Pattern → List ℕ → NumberTable → Type 0
HasMatchRows tables marks patterns shown t = RowsExactly (length shown) (IsMatchRow tables marks patterns shown) t

-- x is added to distinct numbers, if it is not there
pub record AddsOnce (old new : List ℕ) (x : ℕ) : Type 0 where
  pub all : (y : ℕ) → (y ∈ new) ↔ ((y ∈ old) ⊎ (y ≡ x))
  pub once : Distinct old → Distinct new
  pub few : length new ≤ length old + 1
