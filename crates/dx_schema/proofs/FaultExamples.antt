-- The first faults of small sets, computed.
use Rattle.std.proofs.Common.{◌≡◌, ℕ, zero, suc, ◌≤◌, true, false, List, [], ◌∷◌, Option, Some, None, codes}
use Rattle.std.proofs.Common.{refl, inr, ap, arith}
use Rattle.dx_base.specs.declared.file.Count.TheVariants.{Tables, Columns, Depth}
use Rattle.dx_base.specs.Members.{◌∈◌, here, there}
use Rattle.dx_base.specs.Texts.{Text}
use Rattle.dx_model.specs.declared.tables.Link.{Link}
use Rattle.dx_model.specs.Tables.{table_of}
use Rattle.dx_schema.specs.declared.fault.SchemaFault.{SchemaFault}
use Rattle.dx_schema.specs.declared.fault.SchemaFault.TheVariants.{Bad, TooMany}
use Rattle.dx_schema.specs.declared.fault.SchemaKind.TheVariants.{DoubleName, NoColumn, UnknownName}
use Rattle.dx_schema.specs.declared.fault.SchemaKind.TheVariants.{CyclicLinks, BadLink}
use Rattle.dx_schema.specs.declared.sets.KeyDecl.{KeyDecl}
use Rattle.dx_schema.specs.declared.sets.DepDecl.{DepDecl}
use Rattle.dx_schema.specs.declared.sets.RefDecl.{RefDecl}
use Rattle.dx_schema.specs.Forest.{Label, Forest, none, set}
use Rattle.dx_schema.specs.Faults.{form_fault}
use Rattle.dx_schema.specs.Tables.{model_tables}
use Rattle.dx_schema.specs.Links.{every_link, LeadsByLinks, directly, further, IsFirstCycle, IsFirstSchemaFault}

abbrev a : Text
a = codes "a"

abbrev b : Text
b = codes "b"

abbrev c : Text
c = codes "c"

abbrev x : Text
x = codes "x"

abbrev y : Text
y = codes "y"

abbrev z : Text
z = codes "z"

abbrev plain : Text → List Text → Label
plain name columns = record { name = name; columns = columns; keys = []; deps = []; refs = [] }

abbrev key_of : List Text → KeyDecl
key_of columns = record { columns = columns }

abbrev dep_of : List Text → List Text → DepDecl
dep_of columns decides = record { columns = columns; decides = decides }

abbrev ref_to : List Text → Text → List Text → RefDecl
ref_to columns to referred = record { columns = columns; set = to; referred = referred; optional = false }

abbrev optional_to : List Text → Text → List Text → RefDecl
optional_to columns to referred = record { columns = columns; set = to; referred = referred; optional = true }

-- a set named a with these columns, keys, dependencies and refs
abbrev with_parts : List Text → List KeyDecl → List DepDecl → List RefDecl → Label
with_parts columns keys deps refs = record { name = a; columns = columns; keys = keys; deps = deps; refs = refs }

-- two sets beside one another
abbrev beside : Label → Label → Forest
beside l m = set l none (set m none none)

-- one in the other
abbrev inside : Label → Label → Forest
inside l m = set l (set m none none) none

-- ---- sizes

-- so many sets named a with a column x, beside one another
abbrev row : ℕ → Forest
row zero = none
row (suc n) = set (plain a (x ∷ [])) none (row n)

-- so many one in the other, and others beside the first
abbrev tower : ℕ → Forest → Forest
tower zero others = others
tower (suc n) others = set (plain a (x ∷ [])) (tower n none) others

-- 64 sets are not too many, 65 are; sizes come before names
sets_64 : form_fault (row 64) ≡ Some (Bad (DoubleName a))
sets_64 = refl

sets_65 : form_fault (row 65) ≡ Some (TooMany (record { what = Tables; number = 64 }))
sets_65 = refl

-- inner sets count
inner_sets_count : form_fault (tower 2 (row 63)) ≡ Some (TooMany (record { what = Tables; number = 64 }))
inner_sets_count = refl

-- 16 levels are not too many, 17 are, whatever stands after them; the number of sets comes first
levels_16 : form_fault (tower 16 none) ≡ Some (Bad (DoubleName a))
levels_16 = refl

levels_17 : form_fault (tower 17 (row 1)) ≡ Some (TooMany (record { what = Depth; number = 16 }))
levels_17 = refl

levels_after :
    form_fault (set (plain b (x ∷ [])) none (tower 17 none)) ≡ Some (TooMany (record { what = Depth; number = 16 }))
levels_after = refl

sets_before_levels : form_fault (tower 17 (row 48)) ≡ Some (TooMany (record { what = Tables; number = 64 }))
sets_before_levels = refl

-- so many columns, each with a name of its own
abbrev wide : ℕ → List Text
wide zero = []
wide (suc n) = (n ∷ []) ∷ wide n

-- a table of 64 columns is not too wide, one of 65 is, with the columns that a set with inner sets and an inner set get
columns_64 : form_fault (set (plain a (wide 64)) none none) ≡ None
columns_64 = refl

columns_65 : form_fault (set (plain a (wide 65)) none none) ≡ Some (TooMany (record { what = Columns; number = 64 }))
columns_65 = refl

with_its_id :
    form_fault (inside (plain a (wide 64)) (plain b (x ∷ []))) ≡ Some (TooMany (record { what = Columns; number = 64 }))
with_its_id = refl

with_its_up :
    form_fault (inside (plain a (x ∷ [])) (plain b (wide 64))) ≡ Some (TooMany (record { what = Columns; number = 64 }))
with_its_up = refl

-- ---- names

-- two sets have one name: beside one another, one in the other, and one after the inner sets of another
two_beside : form_fault (beside (plain a (x ∷ [])) (plain a (y ∷ []))) ≡ Some (Bad (DoubleName a))
two_beside = refl

two_inside : form_fault (inside (plain a (x ∷ [])) (plain a (y ∷ []))) ≡ Some (Bad (DoubleName a))
two_inside = refl

two_apart :
    form_fault (set (plain a (x ∷ [])) (set (plain b (y ∷ [])) none none) (set (plain b (z ∷ [])) none none))
    ≡ Some (Bad (DoubleName b))
two_apart = refl

-- a set has columns
no_columns : form_fault (beside (plain a (x ∷ [])) (plain b [])) ≡ Some (Bad (NoColumn b))
no_columns = refl

-- the names within a set differ: its columns, its inner sets, `#id` and `#up`; the first that stands before is told
column_twice : form_fault (set (plain a (x ∷ y ∷ y ∷ x ∷ [])) none none) ≡ Some (Bad (DoubleName y))
column_twice = refl

column_and_set : form_fault (inside (plain a (b ∷ [])) (plain b (y ∷ []))) ≡ Some (Bad (DoubleName b))
column_and_set = refl

column_id : form_fault (set (plain a (x ∷ codes "#id" ∷ [])) none none) ≡ Some (Bad (DoubleName (codes "#id")))
column_id = refl

column_up : form_fault (set (plain a (codes "#up" ∷ [])) none none) ≡ Some (Bad (DoubleName (codes "#up")))
column_up = refl

-- a column may have the name of its set, and of a column and a set elsewhere
names_elsewhere :
    form_fault (set (plain a (a ∷ b ∷ [])) (set (plain c (a ∷ [])) none none) (set (plain b (b ∷ [])) none none))
    ≡ None
names_elsewhere = refl

-- of one set its name is told before its columns, their number before what they are called
name_before_columns : form_fault (beside (plain a (x ∷ [])) (plain a [])) ≡ Some (Bad (DoubleName a))
name_before_columns = refl

width_before_names :
    form_fault (set (plain a (x ∷ x ∷ wide 63)) none none) ≡ Some (TooMany (record { what = Columns; number = 64 }))
width_before_names = refl

-- of two sets the first one's fault, a set before those in it and these before the next
first_set : form_fault (beside (plain a (x ∷ x ∷ [])) (plain b [])) ≡ Some (Bad (DoubleName x))
first_set = refl

inner_before_next :
    form_fault (set (plain a (x ∷ [])) (set (plain b []) none none) (set (plain c []) none none))
    ≡ Some (Bad (NoColumn b))
inner_before_next = refl

-- names of all sets before keys
names_before_keys :
    form_fault (beside (with_parts (x ∷ []) (key_of (z ∷ []) ∷ []) [] []) (plain b [])) ≡ Some (Bad (NoColumn b))
names_before_keys = refl

-- ---- keys, dependencies and refs

abbrev of_parts : List KeyDecl → List DepDecl → List RefDecl → Option SchemaFault
of_parts keys deps refs = form_fault (beside (with_parts (x ∷ y ∷ []) keys deps refs) (plain b (z ∷ codes "w" ∷ [])))

-- all that a set may have
sound_parts :
    of_parts (key_of (y ∷ x ∷ []) ∷ key_of (x ∷ []) ∷ []) (dep_of (x ∷ []) (y ∷ x ∷ []) ∷ [])
    (ref_to (x ∷ y ∷ []) b (codes "w" ∷ z ∷ []) ∷ optional_to (x ∷ []) b (z ∷ []) ∷ [])
    ≡ None
sound_parts = refl

-- a key has columns, each declared in its set and none twice, told from left to right
key_of_nothing : of_parts (key_of [] ∷ []) [] [] ≡ Some (Bad (BadLink a))
key_of_nothing = refl

key_unknown : of_parts (key_of (z ∷ x ∷ x ∷ []) ∷ []) [] [] ≡ Some (Bad (UnknownName z))
key_unknown = refl

key_twice : of_parts (key_of (x ∷ y ∷ x ∷ z ∷ []) ∷ []) [] [] ≡ Some (Bad (DoubleName x))
key_twice = refl

key_of_up :
    form_fault (inside (plain c (z ∷ [])) (with_parts (x ∷ []) (key_of (codes "#up" ∷ []) ∷ []) [] []))
    ≡ Some (Bad (UnknownName (codes "#up")))
key_of_up = refl

-- a dependency has columns on both sides; the left side is told first; a column may stand on both
dep_of_nothing : of_parts [] (dep_of [] (y ∷ []) ∷ []) [] ≡ Some (Bad (BadLink a))
dep_of_nothing = refl

dep_for_nothing : of_parts [] (dep_of (z ∷ []) [] ∷ []) [] ≡ Some (Bad (BadLink a))
dep_for_nothing = refl

dep_left : of_parts [] (dep_of (x ∷ x ∷ []) (z ∷ []) ∷ []) [] ≡ Some (Bad (DoubleName x))
dep_left = refl

dep_right : of_parts [] (dep_of (x ∷ []) (x ∷ z ∷ []) ∷ []) [] ≡ Some (Bad (UnknownName z))
dep_right = refl

-- of a ref: empty lists, its columns, its set, the columns there, and how many there are on both sides
ref_of_nothing : of_parts [] [] (ref_to [] c (x ∷ []) ∷ []) ≡ Some (Bad (BadLink a))
ref_of_nothing = refl

ref_to_nothing : of_parts [] [] (ref_to (z ∷ []) b [] ∷ []) ≡ Some (Bad (BadLink a))
ref_to_nothing = refl

ref_columns : of_parts [] [] (ref_to (x ∷ x ∷ []) c (x ∷ []) ∷ []) ≡ Some (Bad (DoubleName x))
ref_columns = refl

ref_set : of_parts [] [] (ref_to (x ∷ []) c (z ∷ z ∷ []) ∷ []) ≡ Some (Bad (UnknownName c))
ref_set = refl

ref_columns_there : of_parts [] [] (ref_to (x ∷ []) b (z ∷ y ∷ []) ∷ []) ≡ Some (Bad (UnknownName y))
ref_columns_there = refl

ref_twice_there : of_parts [] [] (ref_to (x ∷ []) b (z ∷ z ∷ []) ∷ []) ≡ Some (Bad (DoubleName z))
ref_twice_there = refl

ref_lengths : of_parts [] [] (ref_to (x ∷ y ∷ []) b (z ∷ []) ∷ []) ≡ Some (Bad (BadLink a))
ref_lengths = refl

-- an optional ref is no exception
optional_lengths : of_parts [] [] (optional_to (x ∷ []) b (z ∷ codes "w" ∷ []) ∷ []) ≡ Some (Bad (BadLink a))
optional_lengths = refl

-- keys before dependencies and these before refs, each in its order
keys_first : of_parts (key_of (x ∷ []) ∷ key_of (z ∷ []) ∷ []) (dep_of [] [] ∷ []) [] ≡ Some (Bad (UnknownName z))
keys_first = refl

deps_next :
    of_parts [] (dep_of (z ∷ []) (x ∷ []) ∷ dep_of [] [] ∷ []) (ref_to (y ∷ y ∷ []) b (z ∷ []) ∷ [])
    ≡ Some (Bad (UnknownName z))
deps_next = refl

-- the first set's refs before the next one's keys
sets_in_order :
    form_fault
    (set (with_parts (x ∷ []) [] [] (ref_to (x ∷ []) c (x ∷ []) ∷ [])) none
    (set (record { name = b; columns = x ∷ []; keys = key_of [] ∷ []; deps = []; refs = [] }) none none))
    ≡ Some (Bad (UnknownName c))
sets_in_order = refl

-- ---- links that lead back

abbrev to_self : Forest
to_self = set (with_parts (x ∷ []) [] [] (ref_to (x ∷ []) a (x ∷ []) ∷ [])) none none

-- of form there is no fault
to_self_form : form_fault to_self ≡ None
to_self_form = refl

-- of the first set, which has none before it
cyclic_self : IsFirstSchemaFault to_self (Bad (CyclicLinks a))
cyclic_self = inr (
  refl,
  (
    0,
    record {
      within = omega arith;
      cycle = directly (record { from = 0 ∷ []; table = 0; to = 0 ∷ [] }) (here refl);
      first = λ u lt. absurd (omega (arith, lt));
    },
    refl,
  ),
)

-- of two such sets the second is not the first
abbrev two_circles : Forest
two_circles =
    beside (with_parts (x ∷ []) [] [] (ref_to (x ∷ []) a (x ∷ []) ∷ []))
    (record { name = b; columns = x ∷ []; keys = []; deps = []; refs = ref_to (x ∷ []) b (x ∷ []) ∷ [] })

not_the_second : ¬ IsFirstCycle (model_tables two_circles) 1
not_the_second c =
    c.first 0 (omega arith) (directly (record { from = 0 ∷ []; table = 0; to = 0 ∷ [] }) (here refl))

-- so it is if the ref is optional
abbrev to_self_maybe : Forest
to_self_maybe = set (with_parts (x ∷ []) [] [] (optional_to (x ∷ []) a (x ∷ []) ∷ [])) none none

cyclic_optional : IsFirstSchemaFault to_self_maybe (Bad (CyclicLinks a))
cyclic_optional = inr (
  refl,
  (
    0,
    record {
      within = omega arith;
      cycle = directly (record { from = 0 ∷ []; table = 0; to = 0 ∷ [] }) (here refl);
      first = λ u lt. absurd (omega (arith, lt));
    },
    refl,
  ),
)

-- an inner set leads to the one that it is in: a ref from there leads back
abbrev to_inner : Forest
to_inner = inside (with_parts (x ∷ []) [] [] (ref_to (x ∷ []) b (y ∷ []) ∷ [])) (plain b (y ∷ []))

cyclic_inner : IsFirstSchemaFault to_inner (Bad (CyclicLinks a))
cyclic_inner = inr (
  refl,
  (
    0,
    record {
      within = omega arith;
      cycle =
          further (record { from = 0 ∷ []; table = 0; to = 0 ∷ [] })
          (directly (record { from = 1 ∷ []; table = 1; to = 1 ∷ [] }) (here refl)) (here refl);
      first = λ u lt. absurd (omega (arith, lt));
    },
    refl,
  ),
)

-- a set from which links lead to such a set is none itself
abbrev into_circle : Forest
into_circle =
    beside (with_parts (x ∷ []) [] [] (ref_to (x ∷ []) b (x ∷ []) ∷ []))
    (record { name = b; columns = x ∷ []; keys = []; deps = []; refs = ref_to (x ∷ []) b (x ∷ []) ∷ [] })

to_the_second : (t : ℕ) (l : Link) → l ∈ every_link (table_of (model_tables into_circle) t) → 1 ≤ l.table
to_the_second zero l (here e) = omega (arith, ap (λ (k : Link). k.table) e)
to_the_second zero l (there m) = elim m [ ]
to_the_second (suc zero) l (here e) = omega (arith, ap (λ (k : Link). k.table) e)
to_the_second (suc zero) l (there m) = elim m [ ]
to_the_second (suc (suc t)) l m = elim m [ ]

not_to_the_first : (t u : ℕ) → LeadsByLinks (model_tables into_circle) t u → 1 ≤ u
not_to_the_first t u (directly l m) = to_the_second t l m
not_to_the_first t u (further {u = v} l h m) = to_the_second v l m

cyclic_second : IsFirstSchemaFault into_circle (Bad (CyclicLinks b))
cyclic_second = inr (
  refl,
  (
    1,
    record {
      within = omega arith;
      cycle = directly (record { from = 0 ∷ []; table = 1; to = 0 ∷ [] }) (here refl);
      first = λ u lt h. absurd (omega (arith, not_to_the_first u u h, lt));
    },
    refl,
  ),
)
