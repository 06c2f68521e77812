-- The order of the members of an object: that of their names.
-- A later member takes the place of an earlier one of its name.
use Rattle.std.specs.Prelude.{◌≡◌, ℕ, zero, suc, ◌+◌, ◌<◌, ◌≤◌, ◌^◌, List, [], ◌∷◌, ◌++◌, Bool}
use Rattle.std.specs.Prelude.{true, false, length, map, slice_index_or, ⊤, String, string_bytes}
use Rattle.std.specs.declared.alloc.Global.{Global}
use Rattle.std.specs.BTreeMap.{BTreeMap}
use Rattle.std.specs.Ordering.{nat_cmp, match_ordering}
use Rattle.std.specs.Cmp.Lexicographic.{slice_cmp}
use Rattle.dx_base.specs.declared.limits.TheConstants.{TABLES}
use Rattle.serde_json.specs.Data.{Data, string, array, Members, no_members, member}
use Rattle.dx_base.specs.Texts.{Text}
use Rattle.dx_model.specs.declared.values.Value.{Value}
use Rattle.dx_model.specs.Tables.{cell}
use Rattle.dx_schema.specs.Forest.{Label, Forest, Tree, none, set, bare_set}
use Rattle.dx_schema.specs.Tables.{count}
use Rattle.dx_instance.specs.Stored.{TableRows, table_at}
use Rattle.dx_instance.specs.ValueText.{value_text_of}
use Rattle.dx_json.specs.declared.orders.Source.{Source}
use Rattle.dx_json.specs.declared.orders.Source.TheVariants.{Cell, Inner}
use Rattle.dx_json.specs.Nesting.{objects_below, own_from}
use Rattle.dx_json.specs.Standing.{Stand}

-- the members of an object: their names, and where their values come from
abbrev pub Slots : Type 0
Slots = List (Text × Source)

-- those of a map
abbrev pub slots_of : List (String Global × Source) → Slots
slots_of entries = map (λ e. (string_bytes e.0, e.1)) entries

-- those of each of some maps
abbrev pub all_slots : List (BTreeMap (String Global) Source) → List Slots
all_slots orders = map (λ o. slots_of o.entries) orders

-- the members, with this one
abbrev pub slot_put : Text → Source → Slots → Slots
slot_put name s [] = (name, s) ∷ []
slot_put name s (m ∷ ms) =
    match_ordering (slice_cmp nat_cmp name m.0) ((name, s) ∷ m ∷ ms) ((m.0, s) ∷ ms) (m ∷ slot_put name s ms)

-- with a member for each of these columns, of which the first has this number
abbrev pub with_cells : List Text → ℕ → Slots → Slots
with_cells [] c ms = ms
with_cells (name ∷ names) c ms = with_cells names (suc c) (slot_put name (Cell c) ms)

-- with a member for each of these inner sets, of which the first has this place and this table
abbrev pub with_inner : Forest → ℕ → ℕ → Slots → Slots
with_inner none k table ms = ms
with_inner (set l inner rest) k table ms =
    with_inner rest (suc k) (suc (table + count inner)) (slot_put l.name (Inner k table) ms)

-- the members of the objects of a set
abbrev pub order_of : Label → Forest → Bool → ℕ → Slots
order_of l inner is_inner table = with_inner inner 0 (suc table) (with_cells l.columns (own_from inner is_inner) [])

-- those of the objects of inner sets, of which the first has this table, and of theirs, table by table
abbrev pub orders_of : Forest → ℕ → List Slots
orders_of none table = []
orders_of (set l inner rest) table =
    order_of l inner true table ∷ (orders_of inner (suc table) ++ orders_of rest (suc (table + count inner)))

-- the set at a place of a level
abbrev pub tree_in : Forest → ℕ → Tree
tree_in none k = record { label = bare_set [] []; inner = none }
tree_in (set l inner rest) zero = record { label = l; inner = inner }
tree_in (set l inner rest) (suc k) = tree_in rest k

-- how many sets a level has
abbrev pub level_length : Forest → ℕ
level_length none = 0
level_length (set l inner rest) = suc (level_length rest)

-- the value of a member of the object of a row
abbrev pub source_data : List TableRows → Forest → List Value → Source → Data
source_data I inner row (Cell c) = string (value_text_of (cell row c))
source_data I inner row (Inner k table) = array (objects_below I (tree_in inner k) table (cell row 0))

-- the members with their values
abbrev pub members_with_values : (Source → Data) → Slots → Members
members_with_values value [] = no_members
members_with_values value (m ∷ ms) = member m.0 (value m.1) (members_with_values value ms)

-- the members of the object of a row, in the order of a map
abbrev pub object_in : List TableRows → Forest → List Value → BTreeMap (String Global) Source → Members
object_in I inner row order = members_with_values (source_data I inner row) (slots_of order.entries)

-- each of the sets has its table there, with its columns, and its order at the table's number;
-- the first one's table has this number
abbrev pub Ready : List TableRows → List Slots → ℕ → Forest → Type 0
Ready I orders table none = ⊤
Ready I orders table (set l inner rest) =
    (table < length I) × (own_from inner true + length l.columns ≤ (table_at I table).width)
    × (table < length orders) × (slice_index_or orders table [] ≡ order_of l inner true table)
    × Ready I orders (suc table) inner × Ready I orders (suc (table + count inner)) rest

-- so is a set alone
abbrev pub TreeIsReady : List TableRows → List Slots → ℕ → Tree → Type 0
TreeIsReady I orders table t = Ready I orders table (set t.label t.inner none)

-- the table has the columns of a set that is no inner set
abbrev pub HasColumns : List TableRows → ℕ → Tree → Type 0
HasColumns I table t = own_from t.inner false + length t.label.columns ≤ (table_at I table).width

-- the root has its table there, with its columns, and its inner sets have theirs; there are few, and each has a number
pub record HasRoot (I : List TableRows) (root : ℕ) (t : Tree) : Type 0 where
  pub table : root < length I
  pub columns : HasColumns I root t
  pub stand : Stand I (suc root) t.inner
  pub few : count t.inner < TABLES
  pub room : root + suc (count t.inner) < 2 ^ 32

-- a root has its order at its table's number, and its inner sets are ready
pub record IsReadyRoot (I : List TableRows) (orders : List Slots) (root : ℕ) (t : Tree) : Type 0 where
  pub within : root < length orders
  pub order : slice_index_or orders root [] ≡ order_of t.label t.inner false root
  pub inner : Ready I orders (suc root) t.inner

-- a source is a column below this width, or one of the inner sets
abbrev pub SourceFits : List TableRows → List Slots → ℕ → Forest → Source → Type 0
SourceFits I orders width inner (Cell c) = c < width
SourceFits I orders width inner (Inner k table) =
    (k < level_length inner) × TreeIsReady I orders table (tree_in inner k)

-- the sources of members are
abbrev pub Fit : List TableRows → List Slots → ℕ → Forest → Slots → Type 0
Fit I orders width inner [] = ⊤
Fit I orders width inner (m ∷ ms) = SourceFits I orders width inner m.1 × Fit I orders width inner ms
