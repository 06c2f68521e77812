-- Instances that are one up to the names of their nulls, and instances that have at least as much as others.
use Rattle.std.specs.Prelude.{◌≡◌, ℕ, List, length}
use Rattle.dx_base.specs.Members.{◌∈◌, ◌≈◌, Distinct, Each}
use Rattle.dx_model.specs.declared.values.NullId.{NullId}
use Rattle.dx_model.specs.declared.values.Value.TheVariants.{Null}
use Rattle.dx_model.specs.declared.facts.Fact.{Fact}
use Rattle.dx_model.specs.declared.facts.NullPair.{NullPair}
use Rattle.dx_model.specs.Instances.{IsNullMap, given, image, values}
use Rattle.dx_instance.specs.Stored.{facts, rows_of, widths}
use Rattle.dx_exchange.specs.declared.result.Exchange.{Exchange}
use Rattle.dx_exchange.specs.Exchanging.{ExchangeInput}

-- An isomorphism of A onto B: each null of A becomes a null, no two the same,
-- and the facts of A become exactly those of B.
pub record IsIsomorphism (h : List NullPair) (A B : List Fact) : Type 0 where
  pub null_map : IsNullMap h
  pub to_nulls : (n : NullId) → Null n ∈ values A → (k : NullId) × (given h n ≡ Null k)
  pub one_to_one : (m n : NullId) → Null m ∈ values A → Null n ∈ values A → given h m ≡ given h n → m ≡ n
  pub onto : image h A ≈ B

-- A and B are one up to the names of their nulls
abbrev pub AreIsomorphic : List Fact → List Fact → Type 0
AreIsomorphic A B = (h : List NullPair) × IsIsomorphism h A B

-- ---- how many there are

-- what has Q is at least as many as what has P: for different things with P there are as many different ones with Q
abbrev pub NoMore : {X : Type 0} → (X → Type 0) → (X → Type 0) → Type 0
NoMore {X} P Q =
    (xs : List X) → Distinct xs → Each xs P → (ys : List X) × Distinct ys × Each ys Q × (length ys ≡ length xs)

-- a fact of A in the table with a number
abbrev pub IsFactOf : List Fact → ℕ → Fact → Type 0
IsFactOf A t f = (f ∈ A) × (f.table ≡ t)

-- a null of A
abbrev pub IsNullOf : List Fact → NullId → Type 0
IsNullOf A n = Null n ∈ values A

-- in each table A has no more facts than B
abbrev pub NoMoreFacts : List Fact → List Fact → Type 0
NoMoreFacts A B = (t : ℕ) → NoMore (IsFactOf A t) (IsFactOf B t)

-- A has no more nulls than B
abbrev pub NoMoreNulls : List Fact → List Fact → Type 0
NoMoreNulls A B = NoMore (IsNullOf A) (IsNullOf B)

-- ---- exchanges

-- two exchanges are of the same rules into the same schema, and of the same source rows, in whatever order
pub record OfOneSource (a b : ExchangeInput) : Type 0 where
  pub rules : a.rules ≡ b.rules
  pub schema : a.schema ≡ b.schema
  pub rows : a.rows ≈ b.rows

-- two exchanges have the same matches, and targets that are one up to the names of their nulls,
-- with as many rows in each table
pub record AreAlike (e d : Exchange) : Type 0 where
  pub matches : e.matches ≡ d.matches
  pub widths_are : widths e.target ≡ widths d.target
  pub targets : AreIsomorphic (facts e.target) (facts d.target)
  pub many : (t : ℕ) → length (rows_of e.target t) ≡ length (rows_of d.target t)
