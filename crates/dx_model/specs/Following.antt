-- When a rule follows from others, which rules are pruned, and the frozen premise that tells it.
use Rattle.std.specs.Prelude.{◌≡◌, ℕ, ◌⊎◌, Bool, true, false, Option, None, List, [], ◌∷◌, ◌++◌, map}
use Rattle.std.specs.List.{filter}
use Rattle.std.specs.Fmt.{decimal}
use Rattle.dx_base.specs.Members.{◌∈◌, Each}
use Rattle.dx_base.specs.Texts.{Text}
use Rattle.dx_model.specs.declared.facts.Fact.{Fact}
use Rattle.dx_model.specs.declared.rules.Cell.{Cell}
use Rattle.dx_model.specs.declared.rules.Cell.TheVariants.{Var, Lit}
use Rattle.dx_model.specs.declared.rules.Atom.{Atom}
use Rattle.dx_model.specs.declared.rules.Derived.{Derived}
use Rattle.dx_model.specs.declared.rules.Rule.{Rule}
use Rattle.dx_model.specs.Rules.{premise_fact, Satisfies}
use Rattle.dx_model.specs.Values.{Conversions}

-- I and K satisfy each of the rules
abbrev pub SatisfyAll : Conversions → List Rule → List Fact → List Fact → Type 0
SatisfyAll convert R I K = Each R (λ r. Satisfies convert r I K)

-- each two instances that satisfy the rules satisfy d
abbrev pub Follows : Conversions → List Rule → Rule → Type 0
Follows convert R d = (I K : List Fact) → SatisfyAll convert R I K → Satisfies convert d I K

-- each two instances that satisfy each rule of P satisfy each rule of Q
abbrev pub Implies : Conversions → List Rule → List Rule → Type 0
Implies convert P Q = (I K : List Fact) → SatisfyAll convert P I K → SatisfyAll convert Q I K

-- ---- pruning

-- whether there are no derived variables
abbrev pub are_none : List Derived → Bool
are_none [] = true
are_none (e ∷ es) = false

-- the rules without derived variables
abbrev pub underived : List Rule → List Rule
underived R = filter (λ (d : Rule). are_none d.derived) R

-- beside these others a rule can go: it has no derived variables, and follows from those of them that have none
abbrev pub CanGo : Conversions → List Rule → Rule → Type 0
CanGo convert others d = (d.derived ≡ []) × Follows convert (underived others) d

-- P is what is left of R beside the rules in front of it, which stay: its rules are tried from the last to the first,
-- and each is dropped that can go beside those in front of it and those after it that were kept
abbrev pub PrunedAfter : Conversions → List Rule → List Rule → List Rule → Type 0
PrunedAfter convert front [] P = P ≡ []
PrunedAfter convert front (d ∷ R) P =
    (kept : List Rule) × PrunedAfter convert (front ++ d ∷ []) R kept
    × ((CanGo convert (front ++ kept) d × (P ≡ kept)) ⊎ ((¬ (CanGo convert (front ++ kept) d)) × (P ≡ d ∷ kept)))

-- P is the pruned list of R
abbrev pub IsPruned : Conversions → List Rule → List Rule → Type 0
IsPruned convert R P = PrunedAfter convert [] R P

-- ---- frozen premises

-- the premise, with a text for each variable
abbrev pub frozen : (ℕ → Text) → Rule → List Fact
frozen freeze d = map (premise_fact freeze) d.premise

-- a rule without derived variables, with variables alone in its premise, and no literal that thaw reads
pub record CanBeFrozen (thaw : Text → Option ℕ) (d : Rule) : Type 0 where
  pub derived : d.derived ≡ []
  pub variables : (a : Atom) → a ∈ d.premise → (c : Cell) → c ∈ a.cells → (x : ℕ) × (c ≡ Var x)
  pub literals : (a : Atom) → a ∈ d.conclusion → (t : Text) → Lit t ∈ a.cells → thaw t ≡ None

-- the text that stands for variable x: the prefix, and then the digits of x
abbrev pub frozen_text : Text → ℕ → Text
frozen_text prefix x = prefix ++ decimal x

-- no literal of the conclusion begins with the prefix
abbrev pub IsClean : Text → Rule → Type 0
IsClean prefix d = (a : Atom) → a ∈ d.conclusion → (t : Text) → Lit t ∈ a.cells → (rest : Text) → ¬ (t ≡ prefix ++ rest)
