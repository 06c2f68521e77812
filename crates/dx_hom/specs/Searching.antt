-- What a search asks and answers.
use Rattle.std.specs.Prelude.{◌≡◌, ℕ, ◌<◌, ◌≤◌, Bool, false, MatchBool, MatchOption, Option, Some, List, [], length}
use Rattle.std.specs.FinMap as finite
use Rattle.dx_base.specs.Members.{◌∈◌, ◌⊆◌}
use Rattle.dx_model.specs.declared.values.NullId.{NullId}
use Rattle.dx_model.specs.declared.values.Value.{Value}
use Rattle.dx_model.specs.declared.facts.Fact.{Fact}
use Rattle.dx_model.specs.Instances.{fact_moved, moved, values, nulls_in}
use Rattle.dx_instance.specs.NullMaps.{ByNull}
use Rattle.dx_instance.specs.Stored.{HasTableIn, TableRows, rows_of}
use Rattle.dx_instance.specs.Places.{fact_at}
use Rattle.dx_hom.specs.declared.matching.Found.{Found}
use Rattle.dx_hom.specs.View.{gone_at}
use Rattle.dx_hom.specs.Bound.{BindingState}
use Rattle.dx_hom.specs.Narrowing.{AtMost, found_nulls, null_value, IsGood, ExtendsPartialMap, Narrows}
use Rattle.dx_hom.specs.Room.{Room}

-- the facts fit the instance, there is room for them and their nulls, and no other null has a fixed value
pub record IsReadyFor (T : List TableRows) (fixed : ByNull) (F : List Fact) (room : Room) : Type 0 where
  pub fits : (f : Fact) → f ∈ F → HasTableIn T f
  pub facts : length F ≤ room.facts
  pub nulls : AtMost (nulls_in (values F)) room.nulls
  pub fixed_nulls : (n : NullId) (x : Value) → finite.get fixed n ≡ Some x → n ∈ nulls_in (values F)

-- a fact of the instance that is not taken out and not to be avoided
pub record IsOpen (T : List TableRows) (gone : List (List Bool)) (avoid : Option Fact) (t p : ℕ) : Type 0 where
  pub place : p < length (rows_of T t)
  pub kept : gone_at gone t p ≡ false
  pub other : ¬ (avoid ≡ Some (fact_at T t p))

-- f is such a fact
abbrev pub IsOpenFact : List TableRows → List (List Bool) → Option Fact → Fact → Type 0
IsOpenFact T gone avoid f = (p : ℕ) × IsOpen T gone avoid f.table p × (f ≡ fact_at T f.table p)

-- nothing of which found is true moves the fact to one of the places from a up to b
abbrev pub Skips : List TableRows → List (List Bool) → ByNull → Option Fact → List Found → Fact → ℕ → ℕ → Type 0
Skips T gone fixed avoid found f a b =
    (p : ℕ) (g : NullId → Value) → a ≤ p → p < b → IsOpen T gone avoid f.table p → ExtendsPartialMap T fixed found g
    → ¬ (fact_moved g f ≡ fact_at T f.table p)

-- g moves each of the facts to such a fact
abbrev pub MovesOpen : List TableRows → List (List Bool) → Option Fact → (NullId → Value) → List Fact → Type 0
MovesOpen T gone avoid g F = (f : Fact) → f ∈ F → IsOpenFact T gone avoid (fact_moved g f)

-- what is found is of all the nulls of F, and moves F
pub record FindsAll (T : List TableRows) (gone : List (List Bool)) (fixed : ByNull)
    (avoid : Option Fact) (F : List Fact)
    (found : List Found) : Type 0 where
  pub good : IsGood T fixed found
  pub whole : nulls_in (values F) ⊆ found_nulls found
  pub only : found_nulls found ⊆ nulls_in (values F)
  pub moves : (g : NullId → Value) → ExtendsPartialMap T fixed found g → MovesOpen T gone avoid g F

-- nothing of which found is true moves F
abbrev pub NoMore : List TableRows → List (List Bool) → ByNull → Option Fact → List Found → List Fact → Type 0
NoMore T gone fixed avoid found F =
    (g : NullId → Value) → ExtendsPartialMap T fixed found g → ¬ (MovesOpen T gone avoid g F)

-- something gives the fixed nulls their values and moves F
abbrev pub Reaches : List TableRows → List (List Bool) → ByNull → Option Fact → List Fact → Type 0
Reaches T gone fixed avoid F =
    (g : NullId → Value) × ((n : NullId) (x : Value) → finite.get fixed n ≡ Some x → g n ≡ x)
    × MovesOpen T gone avoid g F

-- nothing of which found is true moves the fact to one of the places from a up to b
abbrev pub NotFrom : List TableRows → ByNull → List Found → Fact → ℕ → ℕ → Type 0
NotFrom T fixed found f a b =
    (p : ℕ) (g : NullId → Value) → a ≤ p → p < b → ExtendsPartialMap T fixed found g
    → ¬ (fact_moved g f ≡ fact_at T f.table p)

-- w is what each g moves v to that gives each null that was found the value of its cell
abbrev pub IsKnownImage : List TableRows → List Found → Value → Value → Type 0
IsKnownImage T found v w = (g : NullId → Value) → ((b : Found) → b ∈ found → g b.null ≡ null_value T b) → moved g v ≡ w

-- a place from a on with no place for the fact before it, or nothing if there is no place from a on
abbrev pub IsAhead : List TableRows → ByNull → List Found → Fact → ℕ → Option ℕ → Type 0
IsAhead T fixed found f a o =
    MatchOption o (NotFrom T fixed found f a (length (rows_of T f.table)))
    (λ p. (a ≤ p) × (p < length (rows_of T f.table)) × NotFrom T fixed found f a p)

-- g moves the fact to the fact at a place
abbrev pub MovesTo : List TableRows → Fact → ℕ → (NullId → Value) → Type 0
MovesTo T f p g = fact_moved g f ≡ fact_at T f.table p

-- the least open place from a on to which something of which old is true moves the fact: new says so beside old;
-- or there is none
abbrev pub IsNextMove : List TableRows → List (List Bool) → ByNull → Option Fact → Fact → ℕ
    → BindingState → BindingState → Option ℕ → Type 0
IsNextMove T gone fixed avoid f a old new o =
    MatchOption o ((new.cells ≡ old.cells) × Skips T gone fixed avoid old.cells f a (length (rows_of T f.table)))
    (λ p. (a ≤ p) × IsOpen T gone avoid f.table p × Skips T gone fixed avoid old.cells f a p
    × Narrows T fixed old.cells (nulls_in f.row) (MovesTo T f p) new.cells)

-- the answer of a search
abbrev pub IsSearched : List TableRows → List (List Bool) → ByNull → Option Fact → List Fact
    → List Found → Bool → Type 0
IsSearched T gone fixed avoid F found b =
    MatchBool b (FindsAll T gone fixed avoid F found) (NoMore T gone fixed avoid [] F)
