-- Facts as a question to the solver: constants by their numbers, nulls by their places in a list.
use Rattle.std.specs.Prelude.{◌≡◌, ℕ, zero, suc, ◌<◌, ◌^◌, List, [], ◌∷◌, cond, length}
use Rattle.std.specs.List.{AllZip}
use Rattle.dx_base.specs.Members.{◌∈◌}
use Rattle.dx_model.specs.declared.facts.Fact.{Fact}
use Rattle.dx_model.specs.declared.values.NullId.{NullId}
use Rattle.dx_model.specs.declared.values.Value.{Value}
use Rattle.dx_model.specs.declared.values.Value.TheVariants.{Const, Null}
use Rattle.dx_model.specs.Instances.{same_null}
use Rattle.dx_model.specs.Values.{NullsAscend}
use Rattle.dx_instance.specs.Numbers.{value_of}
use Rattle.dx_solver.specs.declared.atom.Term.{Term}
use Rattle.dx_solver.specs.declared.atom.Term.TheVariants.{Number, Variable}
use Rattle.dx_solver.specs.declared.atom.PatternAtom.{PatternAtom}
use Rattle.dx_judge.specs.Turned.{fact_turned}

-- nulls in ascending order, so few that the place of each is a variable
pub record NullVariables (ns : List NullId) : Type 0 where
  pub ascend : NullsAscend ns
  pub few : length ns < 2 ^ 32

-- the first place of a null in a list, or how many nulls there are
abbrev pub place_in : List NullId → NullId → ℕ
place_in [] n = zero
place_in (m ∷ ns) n = cond (same_null m n) zero (suc (place_in ns n))

-- the term stands for the value: the number of a constant, the place of a null as a variable
abbrev pub SaysValue : List Value → List NullId → Value → Term → Type 0
SaysValue symbols ns (Const t) x = (n : ℕ) × (x ≡ Number n) × (n < length symbols) × (value_of symbols n ≡ Const t)
SaysValue symbols ns (Null n) x = x ≡ Variable (place_in ns n)

-- the atom stands for the fact
pub record SaysFact (symbols : List Value) (ns : List NullId) (f : Fact) (p : PatternAtom) : Type 0 where
  pub table : p.table ≡ f.table
  pub terms : AllZip (SaysValue symbols ns) f.row p.terms

-- the value is a constant that has no number
abbrev pub IsStranger : List Value → Value → Type 0
IsStranger symbols (Const t) = ¬ (Const t ∈ symbols)
IsStranger symbols (Null n) = ⊥

-- one of the values is
abbrev pub HasStranger : List Value → List Value → Type 0
HasStranger symbols row = (v : Value) × (v ∈ row) × IsStranger symbols v

-- the atom stands for the fact with its values in these orders
abbrev pub SaysTurned : List Value → List (List ℕ) → List NullId → Fact → PatternAtom → Type 0
SaysTurned symbols orders ns f p = SaysFact symbols ns (fact_turned orders f) p

-- one of the facts, in these orders, has a constant that has no number
abbrev pub HasStrangerIn : List Value → List (List ℕ) → List Fact → Type 0
HasStrangerIn symbols orders facts = (f : Fact) × (f ∈ facts) × HasStranger symbols (fact_turned orders f).row
