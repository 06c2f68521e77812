-- The places that keep steps leave, and the keys by which partners are looked up.
use Rattle.std.specs.Prelude.{◌≡◌, ◌↔◌, ℕ, ◌<◌, List, [], ◌∷◌, length, map, flat_map, slice_index}
use Rattle.dx_base.specs.Members.{◌∈◌, Each}
use Rattle.dx_model.specs.declared.values.Value.{Value}
use Rattle.dx_model.specs.Values.{Tuple, Rows}
use Rattle.dx_model.specs.Covers.{tuple_at}
use Rattle.dx_instance.specs.Cells.{NumberTable, NumbersAscend, numbers_at}
use Rattle.dx_instance.specs.Shown.{numbers_of_table}
use Rattle.dx_joins.specs.Shown.{texts_of}
use Rattle.dx_script.specs.declared.form.Test.{Test}
use Rattle.dx_script.specs.declared.form.Test.TheVariants.{Columns, Literal}
use Rattle.dx_script.specs.declared.form.Unless.{Unless}
use Rattle.dx_script.specs.declared.form.Step.{Step}
use Rattle.dx_script.specs.Meaning.{IsInKeepTable, MakesTrue, in_column, match_table}

-- ---- partners

-- a test reads columns of tables of these widths
abbrev pub TestStands : ℕ → ℕ → Test → Type 0
TestStands own other (Columns c d) = (c < other) × (d < own)
TestStands own other (Literal d text) = d < own

-- one of the others makes all tests true
abbrev pub IsPartnered : List Tuple → List Test → Tuple → Type 0
IsPartnered others tests own = (other : Tuple) × (other ∈ others) × Each tests (MakesTrue own other)

-- what a test says of the tuple's own columns alone
abbrev pub HoldsAlone : Tuple → Test → Type 0
HoldsAlone own (Columns c d) = Unit {0}
HoldsAlone own (Literal d text) = in_column own d ≡ text

-- the column of the other tuple that a test compares
abbrev pub other_in : Test → List ℕ
other_in (Columns c d) = c ∷ []
other_in (Literal d text) = []

-- the column of the tuple's own with which it is compared
abbrev pub own_in : Test → List ℕ
own_in (Columns c d) = d ∷ []
own_in (Literal d text) = []

abbrev pub other_columns : List Test → List ℕ
other_columns tests = flat_map other_in tests

abbrev pub own_columns : List Test → List ℕ
own_columns tests = flat_map own_in tests

-- the numbers in these columns of a row
abbrev pub column_numbers : List ℕ → List ℕ → List ℕ
column_numbers columns row = map (slice_index row) columns

-- the keys are what the rows have in these columns
pub record AreKeys (columns : List ℕ) (rows keys : List (List ℕ)) : Type 0 where
  pub ascend : NumbersAscend keys
  pub exact : (key : List ℕ) → (key ∈ keys) ↔ ((row : List ℕ) × (row ∈ rows) × (key ≡ column_numbers columns row))

-- ---- places

-- the new places are those of the old ones that have P
abbrev pub KeepsPlaces : (ℕ → Type 0) → List ℕ → List ℕ → Type 0
KeepsPlaces P old new = (k : ℕ) → (k ∈ new) ↔ ((k ∈ old) × P k)

-- the tuple of a place has no partner
abbrev pub LacksPartner : List Value → List (List ℕ) → List (List ℕ) → List Test → ℕ → Type 0
LacksPartner symbols own other tests k =
    ¬ (IsPartnered (map (texts_of symbols) other) tests (texts_of symbols (numbers_at own k)))

-- the tuple of a place of rule r has no partner by any of the parts
abbrev pub LacksPartners : List Value → List NumberTable → ℕ → List Unless → ℕ → Type 0
LacksPartners symbols tables r unless k =
    Each unless (λ (u : Unless). LacksPartner symbols (numbers_of_table tables r).rows
    (numbers_of_table tables u.rule).rows u.tests k)

-- a part reads tables that are there, and columns of theirs
pub record PartStands (tables : List NumberTable) (r : ℕ) (u : Unless) : Type 0 where
  pub rule : u.rule < length tables
  pub tests : Each u.tests (TestStands (numbers_of_table tables r).width (numbers_of_table tables u.rule).width)

-- the places of rule r that the keep steps leave
abbrev pub Stay : List Step → Rows → ℕ → List ℕ → Type 0
Stay steps tables r places =
    (k : ℕ) → (k ∈ places) ↔ ((k < length (match_table tables r)) × IsInKeepTable steps tables r (tuple_at tables r k))
