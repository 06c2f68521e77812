-- Patterns that share no variable, and the products of their rows.
use Rattle.std.specs.Prelude.{◌≡◌, ◌<◌, ◌^◌, ℕ, Bool, Option, List, ◌++◌, length, IfSome, MatchOption}
use Rattle.dx_base.specs.Members.{◌∈◌, ◌⊆◌, Distinct, Each}
use Rattle.dx_instance.specs.Cells.{NumberTable}
use Rattle.dx_joins.specs.declared.pattern.Pattern.{Pattern}
use Rattle.dx_joins.specs.declared.parts.Part.{Part}
use Rattle.dx_joins.specs.Collecting.{MoreThan}
use Rattle.dx_joins.specs.Joining.{variables_of_patterns}
use Rattle.dx_joins.specs.Looking.{numbers_at_places}
use Rattle.dx_joins.specs.Planning.{IsMatchRow, HasMatchRows}

-- no variable of the first patterns stands in the others
abbrev pub ShareNone : List Pattern → List Pattern → Type 0
ShareNone first others = (x : ℕ) → x ∈ variables_of_patterns first → ¬ (x ∈ variables_of_patterns others)

-- t is what a row and one of the right rows have at these places
abbrev pub CrossesWith : List (List ℕ) → List ℕ → List ℕ → List ℕ → Type 0
CrossesWith rights places left t = (s : List ℕ) × (s ∈ rights) × (t ≡ numbers_at_places (left ++ s) places)

-- t is what one of the left rows and one of the right rows have at these places
abbrev pub Crosses : List (List ℕ) → List (List ℕ) → List ℕ → List ℕ → Type 0
Crosses lefts rights places t = (r : List ℕ) × (r ∈ lefts) × CrossesWith rights places r t

-- the rows are what the matches of the patterns give to the variables; no rows are there if that is more than is wanted
abbrev pub GivesRows : List NumberTable → List Bool → ℕ → List Pattern → List ℕ → Option NumberTable → Type 0
GivesRows tables marks most patterns variables o =
    MatchOption o (MoreThan most (IsMatchRow tables marks patterns variables))
    (λ r. HasMatchRows tables marks patterns variables r)

-- the part is what the patterns give to those of their variables that are shown
pub record IsPartOf (tables : List NumberTable) (marks : List Bool) (most : ℕ) (patterns : List Pattern)
    (shown : List ℕ) (p : Part) : Type 0 where
  pub gives : GivesRows tables marks most patterns p.variables.items p.rows
  pub known : p.variables.items ⊆ variables_of_patterns patterns
  pub wanted : p.variables.items ⊆ shown
  pub all : (x : ℕ) → x ∈ variables_of_patterns patterns → x ∈ shown → x ∈ p.variables.items
  pub once : Distinct p.variables.items

-- the part's rows, if it has them, have a number for each variable
abbrev pub IsWide : Part → Type 0
IsWide p = IfSome p.rows (λ r. r.width ≡ length p.variables.items)

-- the part is of some of the shown variables, which can be counted, each once, and of none that the patterns have
pub record StandsApart (patterns : List Pattern) (shown : List ℕ) (p : Part) : Type 0 where
  pub wide : IsWide p
  pub once : Distinct p.variables.items
  pub wanted : p.variables.items ⊆ shown
  pub few : length shown < 2 ^ 32
  pub apart : Each p.variables.items (λ x. ¬ (x ∈ variables_of_patterns patterns))

-- whatever patterns two parts are of, if those share no variable, the rows are what all of them give to the variables
abbrev pub IsProduct : ℕ → Part → Part → List ℕ → Option NumberTable → Type 0
IsProduct most left right kept o =
    (tables : List NumberTable) (marks : List Bool) (first second : List Pattern) (shown : List ℕ)
    → IsPartOf tables marks most first shown left → IsPartOf tables marks most second shown right
    → ShareNone first second
    → left.variables.items ⊆ kept → right.variables.items ⊆ kept → GivesRows tables marks most (first ++ second) kept o

-- with some patterns more, the new part is that of all of them
abbrev pub PartGrows : List NumberTable → List Bool → ℕ → List Pattern → List ℕ → Part → Part → Type 0
PartGrows tables marks most patterns shown old new =
    (first : List Pattern) → IsPartOf tables marks most first shown old → ShareNone first patterns
    → IsPartOf tables marks most (first ++ patterns) shown new
