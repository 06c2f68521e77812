-- The rows of a root, with the rows of its inner sets, as a document.
use Rattle.std.specs.Prelude.{◌≡◌, ℕ, suc, ◌+◌, List, [], ◌∷◌, ◌++◌, Bool, true, false, drop, filter, if◌then◌else◌}
use Rattle.serde_json.specs.Data.{string, array, object, Items, no_items, item, Members, no_members, put}
use Rattle.serde_json.specs.Written.{compact_text}
use Rattle.dx_base.specs.Texts.{Text}
use Rattle.dx_model.specs.declared.values.Value.{Value}
use Rattle.dx_model.specs.Covers.{same_value}
use Rattle.dx_model.specs.Tables.{cell}
use Rattle.dx_schema.specs.Forest.{Label, Forest, Tree, none, set, has_sets}
use Rattle.dx_schema.specs.Tables.{count, tree_at}
use Rattle.dx_instance.specs.Stored.{IsSorting, TableRows, rows_of}
use Rattle.dx_instance.specs.ValueText.{value_text_of}

-- the columns with the texts of their values
abbrev pub with_columns : List Text → List Value → Members → Members
with_columns [] vs ms = ms
with_columns (c ∷ cs) [] ms = ms
with_columns (c ∷ cs) (v ∷ vs) ms = with_columns cs vs (put c (string (value_text_of v)) ms)

-- where `#up` stands in the rows of an inner set: after `#id`, if there is one
abbrev pub up_column : Forest → ℕ
up_column inner = if has_sets inner then 1 else 0

-- how many cells of a row stand before those of the declared columns
abbrev pub own_from : Forest → Bool → ℕ
own_from inner is_inner = up_column inner + (if is_inner then 1 else 0)

-- the object of a row: its columns, and what its inner sets put there for its `#id`
abbrev pub object_of : Label → Forest → (Value → Members → Members) → Bool → List Value → Members
object_of l inner deeper is_inner row =
    deeper (cell row 0) (with_columns l.columns (drop (own_from inner is_inner) row) no_members)

-- an object for each row, in order
abbrev pub objects : (List Value → Members) → List (List Value) → Items
objects object_at [] = no_items
objects object_at (row ∷ rows) = item (object (object_at row)) (objects object_at rows)

-- the rows of an inner set's table whose `#up` is this `#id`
abbrev pub rows_below : List TableRows → ℕ → Forest → Value → List (List Value)
rows_below I table inner id = filter (λ row. same_value (cell row (up_column inner)) id) (rows_of I table)

-- with a member for each inner set, in order: the objects of the rows below this `#id`.
-- The first set's table has this number
abbrev pub with_sets : List TableRows → Forest → ℕ → Value → Members → Members
with_sets I none table id ms = ms
with_sets I (set l inner rest) table id ms =
    with_sets I rest (suc (table + count inner)) id
    (put l.name (array (objects (object_of l inner (with_sets I inner (suc table)) true)
    (rows_below I table inner id))) ms)

-- the objects of the rows of an inner set's table that are below this `#id`
abbrev pub objects_below : List TableRows → Tree → ℕ → Value → Items
objects_below I t table id =
    objects (object_of t.label t.inner (with_sets I t.inner (suc table)) true) (rows_below I table t.inner id)

-- an object for each row of a root, whose table has this number
abbrev pub root_objects : List TableRows → Tree → ℕ → Items
root_objects I t root = objects (object_of t.label t.inner (with_sets I t.inner (suc root)) false) (rows_of I root)

-- the compact text of the array of these, and a line feed
abbrev pub nested_text : List TableRows → Tree → ℕ → List ℕ
nested_text I t root = compact_text (array (root_objects I t root)) ++ 10 ∷ []

-- the nested text of a root of a schema: that of the same rows, ascending
pub record IsNestedText (I : List TableRows) (schema : Forest) (root : ℕ) (text : List ℕ) : Type 0 where
  pub sorted : List TableRows
  pub same : IsSorting I sorted
  pub is : text ≡ nested_text sorted (tree_at schema root) root
