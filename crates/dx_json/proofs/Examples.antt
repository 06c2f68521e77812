-- What small documents say, their first faults, and the documents of small instances, computed.
use Rattle.std.proofs.Common.{◌≡◌, ℕ, zero, suc, List, [], ◌∷◌, ◌++◌, Option, Some, None, true, false, map, codes, refl, subst}
use Rattle.std.specs.Fmt.{digits}
use Rattle.std.specs.Prelude.{Float, negsuc}
use Rattle.std.specs.Char.{encode_utf8}
use Rattle.std.specs.Str.{chars, is_utf8}
use Rattle.std.specs.declared.cmp.Ordering.TheVariants.{Less}
use Rattle.std.proofs.lemmas.Bool.{false≢true}
use Rattle.std.proofs.lemmas.Str.{IsUtf8-from_is_utf8, is_utf8-from_IsUtf8}
use Rattle.json.specs.Json.{items, members, value}
use Rattle.json.specs.Lex.{lex, punctuate}
use Rattle.json.specs.Print.{escape_byte}
use Rattle.json.specs.Text.{code_unit, content, short_escape}
use Rattle.json.specs.Word.{after_number, word}
use Rattle.serde_json.specs.Data.{Data, Num, unsigned, negative, float, null, boolean, number, string, array, object, Items, no_items, item, no_members, member}
use Rattle.serde_json.specs.Read.{read}
use Rattle.dx_base.specs.Members.{◌∈◌, ◌⊆◌, here, there}
use Rattle.dx_model.specs.declared.values.NullId.{NullId}
use Rattle.dx_model.specs.declared.values.Value.{Value}
use Rattle.dx_model.specs.declared.values.Value.TheVariants.{Const, Null}
use Rattle.dx_model.specs.Values.{RowsAscend, row_cmp}
use Rattle.dx_model.specs.declared.facts.Fact.{Fact}
use Rattle.dx_schema.specs.Forest.{Forest, Label, Tree, none, set, bare_set}
use Rattle.dx_base.specs.Texts.{Text}
use Rattle.dx_instance.specs.Stored.{TableRows, rows_of}
use Rattle.dx_json.specs.declared.fault.JsonKind.TheVariants as kind
use Rattle.dx_json.specs.Said.{DocumentItem, says, wrong_shape, wrong_number, unknown_member, column_faults, constant, data_reading, id_of, no_constant}
use Rattle.dx_json.specs.Documents.{IsDocument, document_says, first_fault, tree_says, without_mark}
use Rattle.dx_json.specs.Nesting.{IsNestedText, nested_text, root_objects}

abbrev label : Text → List Text → Label
label name columns = bare_set name columns

-- clubs with their members
abbrev club : Tree
club = record { label = label (codes "club") (codes "cname" ∷ []); inner = set (label (codes "member") (codes "mname" ∷ codes "age" ∷ [])) none none }

-- shops with their shelves and clerks, shelves with their boxes
abbrev shop : Tree
shop = record {
  label = label (codes "shop") (codes "name" ∷ []);
  inner = set (label (codes "shelf") (codes "no" ∷ [])) (set (label (codes "box") (codes "label" ∷ [])) none none) (set (label (codes "clerk") (codes "name" ∷ [])) none none);
}

-- towns, a flat set before the shops
abbrev schema : Forest
schema = set (label (codes "town") (codes "tname" ∷ codes "zip" ∷ [])) none (set shop.label shop.inner none)

abbrev one : Data → Data
one d = array (item d no_items)

-- a fact of constants
abbrev fact : ℕ → List Text → DocumentItem
fact table texts = says (record { table = table; row = map Const texts })

-- [{"cname": null, "member": [{"age": 7, "mname": "x"}, {"age": true}]}, {"cname": "B"}]
clubs : tree_says club 0
    (array
    (item (object (member (codes "cname") null (member (codes "member") (array (item (object (member (codes "age") (number (unsigned 7)) (member (codes "mname") (string (codes "x")) no_members)))
    (item (object (member (codes "age") (boolean true) no_members)) no_items))) no_members)))
    (item (object (member (codes "cname") (string (codes "B")) no_members)) no_items)))
    ≡ fact 0 (codes "#0" ∷ [] ∷ [])
    ∷ fact 1 (codes "#0" ∷ codes "x" ∷ codes "7" ∷ [])
    ∷ fact 1 (codes "#0" ∷ [] ∷ codes "true" ∷ [])
    ∷ fact 0 (codes "#1" ∷ codes "B" ∷ [])
    ∷ []
unfolding digits
clubs = refl

-- of the root with table 1: [{"clerk": [{"name": "c"}], "shelf": [{"box": [{"label": "l"}], "no": 0}]}]
shops : document_says schema 1
    (one (object (member (codes "clerk") (one (object (member (codes "name") (string (codes "c")) no_members)))
    (member (codes "shelf") (one (object (member (codes "box") (one (object (member (codes "label") (string (codes "l")) no_members))) (member (codes "no") (number (unsigned 0)) no_members)))) no_members))))
    ≡ fact 1 (codes "#0" ∷ [] ∷ [])
    ∷ fact 2 (codes "#0.0" ∷ codes "#0" ∷ codes "0" ∷ [])
    ∷ fact 3 (codes "#0.0" ∷ codes "l" ∷ [])
    ∷ fact 4 (codes "#0" ∷ codes "c" ∷ [])
    ∷ []
unfolding digits
shops = refl

-- a set without inner sets has no `#id`
towns : document_says schema 0 (one (object (member (codes "zip") (string (codes "8")) no_members))) ≡ fact 0 ([] ∷ codes "8" ∷ []) ∷ []
unfolding digits
towns = refl

-- unknown members are met before the faults of columns, and these before the row and what is wrong in its inner sets
faults : (x : Float) → tree_says club 0
    (one (object (member (codes "cname") (number (float x)) (member (codes "member") (one (object (member (codes "age") (one null) no_members))) (member (codes "z") null no_members)))))
    ≡ unknown_member (codes "/0/z")
    ∷ wrong_number (codes "/0/cname")
    ∷ fact 0 (codes "#0" ∷ [] ∷ [])
    ∷ wrong_shape (codes "/0/member/0/age")
    ∷ fact 1 (codes "#0" ∷ [] ∷ [] ∷ [])
    ∷ []
unfolding digits
faults x = refl

-- an item is to be an object, the member of an inner set an array
shapes : tree_says club 0 (array (item null (item (object (member (codes "member") (string []) no_members)) no_items)))
    ≡ wrong_shape (codes "/0") ∷ fact 0 (codes "#1" ∷ [] ∷ []) ∷ wrong_shape (codes "/1/member") ∷ []
unfolding digits
shapes = refl

-- or `null`
null_member : tree_says club 0 (one (object (member (codes "member") null no_members))) ≡ fact 0 (codes "#0" ∷ [] ∷ []) ∷ []
unfolding digits
null_member = refl

no_array : tree_says club 0 (object no_members) ≡ wrong_shape [] ∷ []
no_array = refl

-- the first fault is the first that is met
first : (f : Fact) (p q : Text) → first_fault (says f ∷ wrong_number p ∷ unknown_member q ∷ []) ≡ Some (kind.Number p)
first f p q = refl

no_fault : (f : Fact) → first_fault (says f ∷ says f ∷ []) ≡ None
no_fault f = refl

-- the document is an array, and each of its items an object, whatever else stands there
no_value_is_an_array : (n : Num) (s : Text)
    → tree_says club 0 null ++
    (tree_says club 0 (boolean true) ++ (tree_says club 0 (number n) ++ tree_says club 0 (string s)))
    ≡ wrong_shape [] ∷ wrong_shape [] ∷ wrong_shape [] ∷ wrong_shape [] ∷ []
no_value_is_an_array n s = refl

no_value_is_an_object : (n : Num) (s : Text)
    → tree_says club 0
    (array (item (boolean true) (item (number n) (item (string s) (item (array no_items) no_items)))))
    ≡ wrong_shape (codes "/0") ∷ wrong_shape (codes "/1") ∷ wrong_shape (codes "/2") ∷ wrong_shape (codes "/3") ∷ []
unfolding digits
no_value_is_an_object n s = refl

-- so it is with the member of an inner set
member_of : Data → List DocumentItem
unfolding digits
member_of d = tree_says club 0 (one (object (member (codes "member") d no_members)))

no_member : (n : Num) → map member_of (boolean true ∷ number n ∷ object no_members ∷ array (item null no_items) ∷ [])
    ≡ map (λ (path : Text). fact 0 (codes "#0" ∷ [] ∷ []) ∷ wrong_shape path ∷ [])
    (codes "/0/member" ∷ codes "/0/member" ∷ codes "/0/member" ∷ codes "/0/member/0" ∷ [])
unfolding member_of
no_member n = refl

-- of a column: integers are their digits, strings themselves, also if they look like nulls; objects are no texts
readings : map data_reading
    (boolean false ∷ boolean true ∷ number (unsigned 18446744073709551615) ∷ number (negative (negsuc 2))
    ∷ string (codes "?0.0.0") ∷ object no_members ∷ [])
    ≡ constant (codes "false") ∷ constant (codes "true") ∷ constant (codes "18446744073709551615")
    ∷ constant (codes "-3") ∷ constant (codes "?0.0.0") ∷ no_constant ∷ []
unfolding digits
readings = refl

-- unknown members come in the order of their names, the faults of columns in that of the columns, and then the row
in_order : document_says schema 0
    (one (object
    (member (codes "a") null
    (member (codes "b") null
    (member (codes "tname") (object no_members) (member (codes "zip") (array no_items) no_members))))))
    ≡ unknown_member (codes "/0/a") ∷ unknown_member (codes "/0/b") ∷ wrong_shape (codes "/0/tname")
    ∷ wrong_shape (codes "/0/zip") ∷ fact 0 ([] ∷ [] ∷ []) ∷ []
unfolding digits
in_order = refl

columns_in_order : column_faults [] (codes "zip" ∷ codes "tname" ∷ [])
    (member (codes "tname") (object no_members) (member (codes "zip") (array no_items) no_members))
    ≡ wrong_shape (codes "/zip") ∷ wrong_shape (codes "/tname") ∷ []
columns_in_order = refl

-- inner sets come in the order in which they are declared, each with its own path
inner_sets_in_order : tree_says shop 1
    (one (object (member (codes "clerk") (one null) (member (codes "shelf") (one null) no_members))))
    ≡ fact 1 (codes "#0" ∷ [] ∷ []) ∷ wrong_shape (codes "/0/shelf/0") ∷ wrong_shape (codes "/0/clerk/0") ∷ []
unfolding digits
inner_sets_in_order = refl

-- `#id`s count from 0 in each list, below that of the object around it
ids : id_of None 12 ∷ id_of (Some (codes "#1")) 0 ∷ id_of (Some (codes "#1.0")) 3 ∷ []
    ≡ codes "#12" ∷ codes "#1.0" ∷ codes "#1.0.3" ∷ []
unfolding digits
ids = refl

-- a text that is the text of a value is a document, with a mark in front or without; two marks are too many
abbrev small : List ℕ
small = codes "[{\"zip\": \"8\", \"a\": null, \"zip\": \"9\"}]"

tree_of : List ℕ → Option Data
unfolding lex punctuate content code_unit short_escape word after_number items members value
tree_of bytes = read (without_mark bytes)

-- of a member twice the last one counts, and members are in the order of their names
of_small : tree_of small
    ≡ Some (one (object (member (codes "a") null (member (codes "zip") (string (codes "9")) no_members))))
unfolding tree_of
of_small = refl

of_marked : tree_of (239 ∷ 187 ∷ 191 ∷ small) ≡ tree_of small
unfolding tree_of
of_marked = refl

of_two_marks : tree_of (239 ∷ 187 ∷ 191 ∷ 239 ∷ 187 ∷ 191 ∷ small) ≡ None
unfolding tree_of
of_two_marks = refl

behind_a_mark : IsDocument (239 ∷ 187 ∷ 191 ∷ codes "[]") (array no_items)
unfolding tree_of is_utf8 chars encode_utf8
behind_a_mark = (IsUtf8-from_is_utf8 (codes "[]") refl, refl)

-- bytes that are no UTF-8 are no document
no_text : (d : Data) → ¬ (IsDocument (91 ∷ 34 ∷ 255 ∷ 34 ∷ 93 ∷ []) d)
unfolding is_utf8 chars encode_utf8
no_text d x = false≢true (is_utf8-from_IsUtf8 (91 ∷ 34 ∷ 255 ∷ 34 ∷ 93 ∷ []) x.0)

-- one mark is left out
mark : without_mark (239 ∷ 187 ∷ 191 ∷ 239 ∷ 187 ∷ 191 ∷ codes "[]") ≡ 239 ∷ 187 ∷ 191 ∷ codes "[]"
mark = refl

no_mark : without_mark (239 ∷ 187 ∷ codes "[]") ≡ 239 ∷ 187 ∷ codes "[]"
no_mark = refl

-- ---- nesting

abbrev null_of : ℕ → ℕ → ℕ → NullId
null_of rule var row = record { rule = rule; var = var; row = row }

-- two clubs, the second without members
abbrev rows : List TableRows
rows =
    record { width = 2; rows = (Const (codes "a") ∷ Const (codes "A") ∷ []) ∷ (Null (null_of 0 1 2) ∷ Const (codes "?") ∷ []) ∷ [] }
    ∷ record { width = 3; rows = (Const (codes "a") ∷ Const (codes "x") ∷ Const (codes "7") ∷ []) ∷ (Const (codes "a") ∷ Const (codes "y") ∷ Const [] ∷ []) ∷ (Const (codes "b") ∷ Const [] ∷ Const [] ∷ []) ∷ [] }
    ∷ []

abbrev person : Text → Text → Data
person name age = object (member (codes "age") (string age) (member (codes "mname") (string name) no_members))

abbrev a_club : Text → Items → Data
a_club name members = object (member (codes "cname") (string name) (member (codes "member") (array members) no_members))

nested : root_objects rows club 0
    ≡ item (a_club (codes "A") (item (person (codes "x") (codes "7")) (item (person (codes "y") []) no_items))) (item (a_club (codes "??") no_items) no_items)
nested = refl

-- towns; a shop with two shelves, boxes in both, and a clerk; rows are told apart by `#id`, which may be a null
abbrev stock : List TableRows
stock =
    record { width = 2; rows = (Const (codes "t") ∷ Null (null_of 3 4 5) ∷ []) ∷ [] }
    ∷ record { width = 2; rows = (Const (codes "s") ∷ Const (codes "S") ∷ []) ∷ [] }
    ∷ record { width = 3; rows = (Const (codes "p") ∷ Const (codes "s") ∷ Const (codes "1") ∷ []) ∷ (Null (null_of 0 0 7) ∷ Const (codes "s") ∷ Const (codes "2") ∷ []) ∷ [] }
    ∷ record { width = 2; rows = (Const (codes "p") ∷ Const (codes "l") ∷ []) ∷ (Null (null_of 0 0 7) ∷ Const (codes "m") ∷ []) ∷ (Null (null_of 0 0 8) ∷ Const (codes "n") ∷ []) ∷ [] }
    ∷ record { width = 2; rows = (Const (codes "p") ∷ Const (codes "q") ∷ []) ∷ (Const (codes "s") ∷ Const (codes "c") ∷ []) ∷ [] }
    ∷ []

abbrev named : Text → Text → Data
named name text = object (member name (string text) no_members)

abbrev a_shelf : Text → Text → Data
a_shelf place text = object (member (codes "box") (one (named (codes "label") text)) (member (codes "no") (string place) no_members))

nested_shop : root_objects stock shop 1
    ≡ item (object (member (codes "clerk") (one (named (codes "name") (codes "c"))) (member (codes "name") (string (codes "S"))
    (member (codes "shelf") (array (item (a_shelf (codes "1") (codes "l")) (item (a_shelf (codes "2") (codes "m")) no_items))) no_members)))) no_items
nested_shop = refl

-- the text of a value, members by name, and a line feed
town_text : nested_text stock (record { label = label (codes "town") (codes "zip" ∷ codes "tname" ∷ []); inner = none }) 0 ≡ codes "[{\"tname\":\"?3.4.5\",\"zip\":\"t\"}]\n"
unfolding digits escape_byte
town_text = refl

no_rows : nested_text [] club 0 ≡ codes "[]\n"
no_rows = refl

-- a text that looks like a null is not that null
of_nulls : List TableRows
of_nulls =
    record { width = 2; rows = (Null (null_of 0 0 7) ∷ Const (codes "A") ∷ []) ∷ [] }
    ∷ record {
      width = 3;
      rows = (Const (codes "?0.0.7") ∷ Const (codes "x") ∷ Const [] ∷ [])
          ∷ (Null (null_of 0 0 7) ∷ Const (codes "y") ∷ Const [] ∷ []) ∷ [];
    }
    ∷ []

nested_of_nulls : root_objects of_nulls club 0
    ≡ item (a_club (codes "A") (item (person (codes "y") []) no_items)) no_items
unfolding of_nulls
nested_of_nulls = refl

-- objects are in the order of the rows when these ascend, in whichever order they are given
abbrev two_towns : List Value → List Value → List TableRows
two_towns first second = record { width = 2; rows = first ∷ second ∷ [] } ∷ []

abbrev a_town : List Value
a_town = Const (codes "a") ∷ Const (codes "1") ∷ []

abbrev b_town : List Value
b_town = Const (codes "b") ∷ Const (codes "0") ∷ []

turned : (x y : List Value) → (x ∷ y ∷ []) ⊆ (y ∷ x ∷ [])
turned x y z (here e) = there (here e)
turned x y z (there (here e)) = here e
turned x y z (there (there m)) = elim m [ ]

in_ascending_order : IsNestedText (two_towns b_town a_town) schema 0
    (codes "[{\"tname\":\"a\",\"zip\":\"1\"},{\"tname\":\"b\",\"zip\":\"0\"}]\n")
unfolding escape_byte
in_ascending_order = record {
  sorted = two_towns a_town b_town;
  same = record { widths_stay = refl; ascend = ascend; kept = kept; only = only };
  is = refl;
}
  where
    less : (x : List Value) → x ∈ (b_town ∷ []) → row_cmp a_town x ≡ Less
    less x (here e) = subst (λ r. row_cmp a_town r ≡ Less) e refl
    less x (there m) = elim m [ ]

    ascend : (t : ℕ) → RowsAscend (rows_of (two_towns a_town b_town) t)
    ascend zero = ((λ x m. less x m), ((λ x m. elim m [ ]), tt))
    ascend (suc t) = tt

    kept : (t : ℕ) → rows_of (two_towns b_town a_town) t ⊆ rows_of (two_towns a_town b_town) t
    kept zero = turned b_town a_town
    kept (suc t) = λ x m. m

    only : (t : ℕ) → rows_of (two_towns a_town b_town) t ⊆ rows_of (two_towns b_town a_town) t
    only zero = turned a_town b_town
    only (suc t) = λ x m. m
