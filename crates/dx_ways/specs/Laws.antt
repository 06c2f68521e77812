-- What holds of ways: their members without a list, their order, and that they grow with the occurrences.
use Rattle.std.specs.Prelude.{◌≡◌, ℕ, ◌↔◌, List, [], ◌∷◌, map}
use Rattle.std.specs.declared.cmp.Ordering.TheVariants.{Less}
use Rattle.dx_base.specs.Members.{◌∈◌, ◌⊆◌, Each}
use Rattle.dx_logical.specs.declared.relation.Occurrence.{Occurrence}
use Rattle.dx_lines.specs.declared.line.Place.{Place}
use Rattle.dx_lines.specs.declared.line.Origin.{Origin}
use Rattle.dx_lines.specs.declared.line.Origin.TheVariants.{Column, Literal, Call as Converted}
use Rattle.dx_lines.specs.declared.line.Line.{Line}
use Rattle.dx_lines.specs.declared.term.Term.{Term}
use Rattle.dx_lines.specs.declared.term.Term.TheVariants.{Var, Call}
use Rattle.dx_lines.specs.declared.candidate.Pick.{Pick}
use Rattle.dx_lines.specs.Ways.{named_columns, variable_in, pick_cmp, ways}

-- ---- members

-- the variable that stands in a column at the occurrence that f chooses for its table
abbrev pub seen_at : (ℕ → Occurrence) → Place → ℕ
seen_at f a = variable_in (f a.table) a.column

-- t is the term of a line's source, if f chooses an occurrence for each table; a literal has none
abbrev pub TermBy : (ℕ → Occurrence) → Origin → Term → Type 0
TermBy f (Column a) t = t ≡ Var (seen_at f a)
TermBy f (Literal s) t = ⊥
TermBy f (Converted code args) t = t ≡ Call code (map (seen_at f) args)

-- f chooses an occurrence of P of this place's table
abbrev pub ChoosesOf : List Occurrence → (ℕ → Occurrence) → Place → Type 0
ChoosesOf P f a = (f a.table ∈ P) × ((f a.table).table ≡ a.table)

-- a line has its target column at an occurrence of Q with the pick's variable,
-- and gives the pick's term by a choice among P
pub record IsWay (lines : List Line) (P Q : List Occurrence) (k : Pick) : Type 0 where
  pub line : Line
  pub is_line : line ∈ lines
  pub target : Occurrence
  pub is_in : target ∈ Q
  pub is_there : target.table ≡ line.target.table
  pub has : variable_in target line.target.column ≡ k.variable
  pub choice : ℕ → Occurrence
  pub chosen : Each (named_columns line.source) (ChoosesOf P choice)
  pub term : TermBy choice line.source k.term

-- a pick is in the list of ways exactly if it is one
abbrev pub WaysAre : Type 0
WaysAre = (lines : List Line) (P Q : List Occurrence) (k : Pick) → (k ∈ ways lines P Q) ↔ IsWay lines P Q k

-- ---- order

-- each pick is below all that follow
abbrev pub PicksAscend : List Pick → Type 0
PicksAscend [] = Unit {0}
PicksAscend (k ∷ ks) = Each ks (λ j. pick_cmp k j ≡ Less) × PicksAscend ks

-- the list of ways ascends
abbrev pub WaysAscend : Type 0
WaysAscend = (lines : List Line) (P Q : List Occurrence) → PicksAscend (ways lines P Q)

-- two lists that ascend and have the same members are one
abbrev pub OnePickList : Type 0
OnePickList = (js ks : List Pick) → PicksAscend js → PicksAscend ks → ((k : Pick) → (k ∈ js) ↔ (k ∈ ks)) → js ≡ ks

-- ---- growth

-- more occurrences have the same ways, and maybe more
abbrev pub WaysGrow : Type 0
WaysGrow = (lines : List Line) (P P' Q Q' : List Occurrence) → P ⊆ P' → Q ⊆ Q' → ways lines P Q ⊆ ways lines P' Q'
