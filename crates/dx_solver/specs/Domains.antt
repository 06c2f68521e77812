-- What each variable can still become.
use Rattle.std.specs.Prelude.{◌≡◌, ℕ, ◌<◌, ◌^◌, ◌++◌, ◌≤◌, Option, None, Some, MatchOption}
use Rattle.std.specs.Prelude.{Bool, false, List, [], length, slice_index_or}
use Rattle.std.specs.List.{sum_by}
use Rattle.dx_base.specs.Members.{Each, ◌∈◌}
use Rattle.dx_instance.specs.Cells.{NumberTable, numbers_at}
use Rattle.dx_instance.specs.Indexes.{number_in}
use Rattle.dx_instance.specs.Shown.{numbers_of_table}
use Rattle.dx_solver.specs.Marks.{is_out}
use Rattle.dx_solver.specs.Questions.{row_under}
use Rattle.dx_solver.specs.declared.atom.Term.{Term}
use Rattle.dx_solver.specs.declared.atom.Term.TheVariants.{Number, Variable}
use Rattle.dx_solver.specs.declared.atom.PatternAtom.{PatternAtom}
use Rattle.dx_solver.specs.declared.domain.Domain.{Domain}
use Rattle.dx_solver.specs.declared.domain.Domain.TheVariants.{Any, One, Many}
use Rattle.dx_solver.specs.declared.rows.Key.{Key}
use Rattle.dx_solver.specs.declared.node.Node.{Node}

-- the domain has the number
abbrev pub DomainHas : Domain → ℕ → Type 0
DomainHas Any n = Unit {0}
DomainHas (One m) n = n ≡ m
DomainHas (Many ns) n = n ∈ ns

-- each variable has a number of its domain
abbrev pub Keeps : List Domain → (ℕ → ℕ) → Type 0
Keeps ds a = (v : ℕ) → DomainHas (slice_index_or ds v Any) (a v)

-- how many numbers a domain has; m if it has any number
abbrev pub domain_size : ℕ → Domain → ℕ
domain_size m Any = m
domain_size m (One n) = 1
domain_size m (Many ns) = length ns

-- how many numbers the domains have in all
abbrev pub weight : ℕ → List Domain → ℕ
weight m ds = sum_by (domain_size m) ds

-- a term by its column
abbrev pub term_at : List Term → ℕ → Term
term_at terms c = slice_index_or terms c (Number 0)

-- how many numbers a term can still have
abbrev pub choice_count : List Domain → Term → ℕ
choice_count ds (Number n) = 1
choice_count ds (Variable v) = domain_size (2 ^ 32) (slice_index_or ds v Any)

-- each term of the atom has one number left at most
abbrev pub IsBound : List Domain → PatternAtom → Type 0
IsBound ds atom = Each atom.terms (λ t. choice_count ds t ≤ 1)

-- an atom by its place
abbrev pub pattern_atom_at : List PatternAtom → ℕ → PatternAtom
pattern_atom_at atoms k = slice_index_or atoms k (record { table = 0; terms = [] })

-- two numbers or more are left for the term in a column of an atom
pub record IsFreeTerm (atoms : List PatternAtom) (ds : List Domain) (k c : ℕ) : Type 0 where
  pub atom : k < length atoms
  pub column : c < length (pattern_atom_at atoms k).terms
  pub many : 1 < choice_count ds (term_at (pattern_atom_at atoms k).terms c)

-- what an answer gives a variable: the number that is known, or else what is left
pub record IsLeftNumber (known : Option ℕ) (d : Domain) (x : ℕ) : Type 0 where
  pub fixed : (n : ℕ) → known ≡ Some n → x ≡ n
  pub left : (n : ℕ) → known ≡ None → DomainHas d n → domain_size (2 ^ 32) d ≤ 1 → x ≡ n

-- the row at a place is not taken out, and is what the atom becomes
pub record IsImageRow (tables : List NumberTable) (out : List (List Bool)) (a : ℕ → ℕ)
    (atom : PatternAtom) (p : ℕ) : Type 0 where
  pub place : p < length (numbers_of_table tables atom.table).rows
  pub kept : is_out out atom.table p ≡ false
  pub row : numbers_at (numbers_of_table tables atom.table).rows p ≡ row_under a atom

-- how much of a search is left at these nodes
abbrev pub worth : List Node → ℕ
worth nodes = sum_by (λ (n : Node). 3 ^ weight (2 ^ 32) n.domains.items) nodes

-- nodes were added that are worth less than the node, and have each of its solutions
pub record IsBranched (P : (ℕ → ℕ) → Type 0) (node : Node) (old new : List Node) : Type 0 where
  pub more : List Node
  pub added : new ≡ old ++ more
  pub less : worth more < 3 ^ weight (2 ^ 32) node.domains.items
  pub many : Each more (λ (m : Node). length m.domains.items ≡ length node.domains.items)
  pub all : (a : ℕ → ℕ) → P a → Keeps node.domains.items a → (m : Node) × (m ∈ more) × Keeps m.domains.items a

-- the row at a place has the number of the key, if there is a key
abbrev pub HasKey : List (List ℕ) → Option Key → ℕ → Type 0
HasKey rows None p = Unit {0}
HasKey rows (Some k) p = number_in rows k.column p ≡ k.number

-- the least place from a on that has it, or nothing if none from a on has it
abbrev pub IsNextPlace : List (List ℕ) → Option Key → ℕ → Option ℕ → Type 0
IsNextPlace rows key a o = MatchOption o ((p : ℕ) → a ≤ p → p < length rows → ¬ (HasKey rows key p))
    (λ q. (a ≤ q) × (q < length rows) × HasKey rows key q × ((p : ℕ) → a ≤ p → p < q → ¬ (HasKey rows key p)))

-- no row at a place from a up to b is what the atom becomes by numbers that the domains allow
abbrev pub NoImage : List NumberTable → List (List Bool) → List Domain → PatternAtom → ℕ → ℕ → Type 0
NoImage tables out ds atom a b = (f : ℕ → ℕ) → Keeps ds f → (p : ℕ) → a ≤ p → p < b → ¬ (IsImageRow tables out f atom p)

-- a place from a on with no such row before it, or nothing if there is none from a on
abbrev pub IsNextImage : List NumberTable → List (List Bool) → List Domain → PatternAtom → ℕ → Option ℕ → Type 0
IsNextImage tables out ds atom a o =
    MatchOption o (NoImage tables out ds atom a (length (numbers_of_table tables atom.table).rows))
    (λ q. (a ≤ q) × (q < length (numbers_of_table tables atom.table).rows) × NoImage tables out ds atom a q)
