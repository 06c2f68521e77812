-- What a document says of a set: facts, and faults, in the order in which they are met.
use Rattle.std.specs.Prelude.{◌≡◌, ℕ, suc, map, ◌+◌, List, [], ◌∷◌, ◌++◌, codes, Option}
use Rattle.std.specs.Prelude.{Some, None, Bool, true, false, ◌||◌, if◌then◌else◌}
use Rattle.std.specs.Fmt.{decimal, signed_decimal}
use Rattle.serde_json.specs.Data.{Num, unsigned, negative, float, Data, null, boolean, number, string}
use Rattle.serde_json.specs.Data.{array, object, Items, no_items, item, Members, no_members, member}
use Rattle.serde_json.specs.Find.{get_member}
use Rattle.dx_base.specs.Texts.{Text}
use Rattle.dx_model.specs.declared.values.Value.{Value}
use Rattle.dx_model.specs.declared.values.Value.TheVariants.{Const}
use Rattle.dx_model.specs.declared.facts.Fact.{Fact}
use Rattle.dx_schema.specs.Forest.{Label, Forest, Tree, none, set}
use Rattle.dx_schema.specs.Faults.{is_among, level_names}
use Rattle.dx_schema.specs.Tables.{count, where_has_inner}
use Rattle.dx_json.specs.declared.place.Place.{Place}

-- what is met in going through a document: a fact, or a fault at a path
pub data DocumentItem : Type 0 where
  says : Fact → DocumentItem
  wrong_shape : Text → DocumentItem
  wrong_number : Text → DocumentItem
  unknown_member : Text → DocumentItem

-- ---- columns

-- what a column's member says: a constant, a number whose digits aren't kept, or none of both
pub data MemberValue : Type 0 where
  constant : Text → MemberValue
  no_integer : MemberValue
  no_constant : MemberValue

-- an integer of 64 bits is its decimal numeral
abbrev pub number_reading : Num → MemberValue
number_reading (unsigned n) = constant (decimal n)
number_reading (negative z) = constant (signed_decimal z)
number_reading (float x) = no_integer

abbrev pub word_of : Bool → Text
word_of true = codes "true"
word_of false = codes "false"

-- `null` is the empty text, a string is itself
abbrev pub data_reading : Data → MemberValue
data_reading null = constant []
data_reading (boolean b) = constant (word_of b)
data_reading (number n) = number_reading n
data_reading (string s) = constant s
data_reading (array ds) = no_constant
data_reading (object ms) = no_constant

-- an absent member is the empty text
abbrev pub reading_of : Option Data → MemberValue
reading_of None = constant []
reading_of (Some d) = data_reading d

-- the path of a member or of an item
abbrev pub path_below : Text → Text → Text
path_below path step = path ++ 47 ∷ step

abbrev pub reading_faults : Text → MemberValue → List DocumentItem
reading_faults path (constant t) = []
reading_faults path no_integer = wrong_number path ∷ []
reading_faults path no_constant = wrong_shape path ∷ []

abbrev pub member_text : MemberValue → Text
member_text (constant t) = t
member_text no_integer = []
member_text no_constant = []

-- the faults of an object's columns, in their order
abbrev pub column_faults : Text → List Text → Members → List DocumentItem
column_faults path [] ms = []
column_faults path (c ∷ cs) ms =
    reading_faults (path_below path c) (reading_of (get_member c ms)) ++ column_faults path cs ms

-- the constants of an object's columns
abbrev pub object_constants : List Text → Members → List Value
object_constants [] ms = []
object_constants (c ∷ cs) ms = Const (member_text (reading_of (get_member c ms))) ∷ object_constants cs ms

-- what an object's member of a column's name says
abbrev pub column_reading : Text → Members → MemberValue
column_reading column ms = reading_of (get_member column ms)

-- a reading at this path has no fault, and is this constant
abbrev pub ReadsConstant : Text → MemberValue → Text → Type 0
ReadsConstant path reading text = (reading_faults path reading ≡ []) × (text ≡ member_text reading)

-- ---- members that the schema doesn't have

-- a member is a column or an inner set
abbrev pub is_known : Label → Forest → Text → Bool
is_known l inner name = is_among name l.columns || is_among name (level_names inner)

abbrev pub unknown_members : Text → Label → Forest → Members → List DocumentItem
unknown_members path l inner no_members = []
unknown_members path l inner (member name d ms) =
    (if is_known l inner name then [] else unknown_member (path_below path name) ∷ [])
    ++ unknown_members path l inner ms

-- ---- objects

-- the `#id` of the k-th object of a list: `#` and k, below an object its `#id`, a point and k
abbrev pub id_of : Option Text → ℕ → Text
id_of None k = 35 ∷ decimal k
id_of (Some up) k = up ++ 46 ∷ decimal k

abbrev pub up_cell : Option Text → List Value
up_cell None = []
up_cell (Some up) = Const up ∷ []

-- the row of an object: its `#id` if there are inner sets, `#up` below an object, then its columns
abbrev pub object_row : Label → Forest → Option Text → Text → Members → List Value
object_row l inner up id ms = where_has_inner inner (Const id) ++ (up_cell up ++ object_constants l.columns ms)

-- an object's columns at this path have no fault, and these are the constants of its row
abbrev pub IsObjectRow : Text → Tree → Option Text → Text → Members → List Text → Type 0
IsObjectRow path t up id ms texts =
    (column_faults path t.label.columns ms ≡ []) × (map Const texts ≡ object_row t.label t.inner up id ms)

-- what the k-th object of a list says: its unknown members, the faults of its columns, its row,
-- and what its inner sets say
abbrev pub object_says : Label → Forest → (Place → Members → List DocumentItem) → Place → ℕ → Members
    → List DocumentItem
object_says l inner deeper at k ms =
    let path = path_below at.path (decimal k) in
    let id = id_of at.up k in
    unknown_members path l inner ms ++
    (column_faults path l.columns ms ++
    (says (record { table = at.table; row = object_row l inner at.up id ms }) ∷
    deeper (record { table = suc at.table; up = Some id; path = path }) ms))

-- what the k-th item of an array says: it is to be an object
abbrev pub item_says : Label → Forest → (Place → Members → List DocumentItem) → Place → ℕ → Data → List DocumentItem
item_says l inner deeper at k null = wrong_shape (path_below at.path (decimal k)) ∷ []
item_says l inner deeper at k (boolean b) = wrong_shape (path_below at.path (decimal k)) ∷ []
item_says l inner deeper at k (number n) = wrong_shape (path_below at.path (decimal k)) ∷ []
item_says l inner deeper at k (string s) = wrong_shape (path_below at.path (decimal k)) ∷ []
item_says l inner deeper at k (array ds) = wrong_shape (path_below at.path (decimal k)) ∷ []
item_says l inner deeper at k (object ms) = object_says l inner deeper at k ms

-- the items of an array in order, from the k-th on
abbrev pub items_say : Label → Forest → (Place → Members → List DocumentItem) → Place → ℕ → Items → List DocumentItem
items_say l inner deeper at k no_items = []
items_say l inner deeper at k (item d ds) = item_says l inner deeper at k d ++ items_say l inner deeper at (suc k) ds

-- the member of an inner set: an array, `null` or absent
abbrev pub member_says : Label → Forest → (Place → Members → List DocumentItem) → Place → Option Data
    → List DocumentItem
member_says l inner deeper at None = []
member_says l inner deeper at (Some null) = []
member_says l inner deeper at (Some (boolean b)) = wrong_shape at.path ∷ []
member_says l inner deeper at (Some (number n)) = wrong_shape at.path ∷ []
member_says l inner deeper at (Some (string s)) = wrong_shape at.path ∷ []
member_says l inner deeper at (Some (array ds)) = items_say l inner deeper at 0 ds
member_says l inner deeper at (Some (object ms)) = wrong_shape at.path ∷ []

-- what the inner sets of an object say, in order: the first has table `at.table`, the object the path `at.path`
abbrev pub sets_say : Forest → Place → Members → List DocumentItem
sets_say none at ms = []
sets_say (set l inner rest) at ms =
    member_says l inner (sets_say inner)
    (record { table = at.table; up = at.up; path = path_below at.path l.name }) (get_member l.name ms) ++
    sets_say rest (record { table = suc (at.table + count inner); up = at.up; path = at.path }) ms

-- ---- the same of a set with its inner sets

-- its objects, as the items of an array from the k-th on
abbrev pub items_said : Tree → Place → ℕ → Items → List DocumentItem
items_said t at k ds = items_say t.label t.inner (sets_say t.inner) at k ds

-- the k-th item of an array
abbrev pub item_said : Tree → Place → ℕ → Data → List DocumentItem
item_said t at k d = item_says t.label t.inner (sets_say t.inner) at k d

-- the k-th object of a list
abbrev pub object_said : Tree → Place → ℕ → Members → List DocumentItem
object_said t at k ms = object_says t.label t.inner (sets_say t.inner) at k ms

-- its member
abbrev pub member_said : Tree → Place → Option Data → List DocumentItem
member_said t at o = member_says t.label t.inner (sets_say t.inner) at o

-- the facts that come to these are what is said
abbrev pub AddsSaid : List Fact → List Fact → List DocumentItem → Type 0
AddsSaid old new said = map says new ≡ map says old ++ said
