-- Questions about rows of a block: whether an endomorphism of what is left moves none of them to a certain fact.
use Rattle.std.specs.Prelude.{◌≡◌, ◌<◌, ℕ, Bool, false, List, [], ◌∷◌, length, Option, Some, None, slice_index_or}
use Rattle.std.specs.List.{AllZip, AllPairs}
use Rattle.dx_base.specs.Members.{◌∈◌, Each}
use Rattle.dx_model.specs.declared.values.NullId.{NullId}
use Rattle.dx_model.specs.declared.values.Value.{Value}
use Rattle.dx_model.specs.declared.facts.Fact.{Fact}
use Rattle.dx_model.specs.declared.facts.NullPair.{NullPair}
use Rattle.dx_model.specs.Instances.{Moves, fact_moved}
use Rattle.dx_instance.specs.Numbers.{value_of}
use Rattle.dx_instance.specs.Shown.{NumberedInstance}
use Rattle.dx_blocks.specs.declared.numbered.At.{At}
use Rattle.dx_blocks.specs.Numbered.{null_under}
use Rattle.dx_blocks.specs.NullRows.{row_numbers}
use Rattle.dx_rigid.specs.Rigid.{IsRigid}
use Rattle.dx_solver.specs.declared.atom.Term.{Term}
use Rattle.dx_solver.specs.declared.atom.Term.TheVariants.{Number, Variable}
use Rattle.dx_solver.specs.declared.atom.PatternAtom.{PatternAtom}
use Rattle.dx_solver.specs.Marks.{is_out}
use Rattle.dx_solver.specs.Questions.{answered, number_under}

-- the numbers ascend
abbrev pub AscendStrictly : List ℕ → Type 0
AscendStrictly ns = AllPairs (λ n m. n < m) ns

-- variable v stands for the null with number nulls[v], and a number for itself
abbrev pub IsTermOf : List ℕ → ℕ → Term → Type 0
IsTermOf nulls x (Number n) = (n ≡ x) × (¬ (x ∈ nulls))
IsTermOf nulls x (Variable v) = (v < length nulls) × (slice_index_or nulls v 0 ≡ x)

-- the atom of a row, with a variable for each of these nulls
pub record IsAtomOf (N : NumberedInstance) (nulls : List ℕ) (at : At) (atom : PatternAtom) : Type 0 where
  pub table : atom.table ≡ at.table
  pub terms : AllZip (IsTermOf nulls) (row_numbers N at) atom.terms

-- the atoms of those of the rows that are not taken out
pub record AreAtoms (N : NumberedInstance) (nulls : List ℕ) (out : List (List Bool)) (rows : List At)
    (atoms : List PatternAtom)
    : Type 0 where
  pub only : Each atoms (λ atom. (at : At) × (at ∈ rows) × IsAtomOf N nulls at atom
      × (is_out out at.table at.place ≡ false))
  pub all : Each rows (λ at. is_out out at.table at.place ≡ false
      → (atom : PatternAtom) × (atom ∈ atoms) × IsAtomOf N nulls at atom)

-- each null with the value under its number in an answer
abbrev pub pairs_by : NumberedInstance → List ℕ → List ℕ → List NullPair
pairs_by N [] xs = []
pairs_by N (n ∷ ns) [] = []
pairs_by N (n ∷ ns) (x ∷ xs) = record { null = null_under N n; value = value_of N.symbols x } ∷ pairs_by N ns xs

-- y is what x becomes if the nulls get the numbers of an answer
pub record IsNumberAfter (nulls xs : List ℕ) (x y : ℕ) : Type 0 where
  pub term : Term
  pub stands : IsTermOf nulls x term
  pub number : y ≡ number_under (answered xs) term

-- an endomorphism of T moves none of the facts F that T has to f
abbrev pub Avoids : List Fact → List Fact → Fact → Type 0
Avoids T F f = (g : NullId → Value) × Moves g T T × Each F (λ e. e ∈ T → ¬ (fact_moved g e ≡ f))

-- g moves each of the facts F that T has into T, and none of them to f
abbrev pub MovesOff : (NullId → Value) → List Fact → List Fact → Fact → Type 0
MovesOff g T F f = Each F (λ e. e ∈ T → (fact_moved g e ∈ T) × (¬ (fact_moved g e ≡ f)))

-- what is known of variables: these are numbers of nulls that every endomorphism of T keeps
pub record KnownAreRigid (N : NumberedInstance) (T : List Fact) (nulls : List ℕ)
    (known : List (Option ℕ)) : Type 0 where
  pub long : length known ≡ length nulls
  pub rigid : (v n : ℕ) → slice_index_or known v None ≡ Some n
      → (slice_index_or nulls v 0 ≡ n) × IsRigid T (null_under N n)
