-- The tables of a schema.
use Rattle.std.specs.Prelude.{◌≡◌, ℕ, suc, ◌+◌, ◌<◌, ◌≤◌, List, [], ◌∷◌, ◌++◌, Option, Some}
use Rattle.std.specs.Prelude.{None, length, map, cond, not, nat_eq, codes, slice_index_or}
use Rattle.std.specs.List.{filter}
use Rattle.std.specs.Cmp.Lexicographic.{pointwise}
use Rattle.dx_base.specs.declared.limits.TheConstants.{TABLES, COLUMNS}
use Rattle.dx_base.specs.Members.{Distinct, Each}
use Rattle.dx_base.specs.Texts.{Text}
use Rattle.dx_model.specs.declared.tables.Key.{Key}
use Rattle.dx_model.specs.declared.tables.Dep.{Dep}
use Rattle.dx_model.specs.declared.tables.Link.{Link}
use Rattle.dx_model.specs.Tables.{AllInside, Determination, key_of, Table as Numbers}
use Rattle.dx_schema.specs.declared.sets.KeyDecl.{KeyDecl}
use Rattle.dx_schema.specs.declared.sets.DepDecl.{DepDecl}
use Rattle.dx_schema.specs.declared.sets.RefDecl.{RefDecl}
use Rattle.dx_schema.specs.declared.tables.Table.{Table}
use Rattle.dx_schema.specs.Forest.{Label, Forest, Tree, bare_set, none, set}

-- a table, as the code has it
abbrev pub TableOf : Type 0
TableOf = Table

-- ---- sets in preorder

-- a set, its number, the number of the set that it is an inner set of, and its inner sets
pub record NumberedSet : Type 0 where
  pub label : Label
  pub number : ℕ
  pub parent : Option ℕ
  pub inner : Forest

-- a set without where it stands
abbrev pub tree_of : NumberedSet → Tree
tree_of s = record { label = s.label; inner = s.inner }

-- how many sets a forest has, at all depths
abbrev pub count : Forest → ℕ
count none = 0
count (set l inner rest) = suc (count inner + count rest)

-- the sets in preorder, of which the first has number n; those of the top level have this parent
abbrev pub numbered_sets : Option ℕ → ℕ → Forest → List NumberedSet
numbered_sets parent n none = []
numbered_sets parent n (set l inner rest) =
    record { label = l; number = n; parent = parent; inner = inner }
    ∷ (numbered_sets (Some n) (suc n) inner ++ numbered_sets parent (suc (n + count inner)) rest)

-- the sets of a schema in preorder, numbered from 0
abbrev pub sets_of : Forest → List NumberedSet
sets_of f = numbered_sets None 0 f

-- the numbers of the sets of one level, of which the first has number n
abbrev pub level_numbers : ℕ → Forest → List ℕ
level_numbers n none = []
level_numbers n (set l inner rest) = n ∷ level_numbers (suc (n + count inner)) rest

-- ---- columns

-- a name in front if a set has inner sets
abbrev pub where_has_inner : {X : Type 0} → Forest → X → List X
where_has_inner none x = []
where_has_inner (set l inner rest) x = x ∷ []

-- a name in front if a set is an inner set
abbrev pub where_inner : {X : Type 0} → Option ℕ → X → List X
where_inner None x = []
where_inner (Some p) x = x ∷ []

-- the columns of a set's table: `#id` if it has inner sets, `#up` if it is an inner set, then its own
abbrev pub columns_of : NumberedSet → List Text
columns_of s = where_has_inner s.inner (codes "#id") ++ (where_inner s.parent (codes "#up") ++ s.label.columns)

-- the number of the first of the names that is x, or how many names there are
abbrev pub number_of_name : Text → List Text → ℕ
number_of_name x [] = 0
number_of_name x (y ∷ ys) = cond (pointwise nat_eq y x) 0 (suc (number_of_name x ys))

-- the numbers of names
abbrev pub numbers_of_names : List Text → List Text → List ℕ
numbers_of_names names columns = map (λ x. number_of_name x columns) names

-- ---- keys, dependencies and links

-- a key by the names of its columns
abbrev pub key_named : NumberedSet → List Text → Key
key_named s names = record { columns = numbers_of_names names (columns_of s) }

-- the keys of a set's table: `#id` if it has that column, then each declared key, of an inner set with `#up` in front
abbrev pub keys_in : NumberedSet → List Key
keys_in s =
    map (key_named s) (where_has_inner s.inner (codes "#id" ∷ [])
    ++ map (λ (k : KeyDecl). where_inner s.parent (codes "#up") ++ k.columns) s.label.keys)

-- a dependency by the names of its columns, of an inner set with `#up` in front of those on the left
abbrev pub dep_named : NumberedSet → DepDecl → Dep
dep_named s d =
    record {
      columns = numbers_of_names (where_inner s.parent (codes "#up") ++ d.columns) (columns_of s);
      decides = numbers_of_names d.decides (columns_of s);
    }

-- the dependencies of a set's table: each declared one
abbrev pub deps_in : NumberedSet → List Dep
deps_in s = map (dep_named s) s.label.deps

-- the names of sets
abbrev pub names_of : List NumberedSet → List Text
names_of sets = map (λ s. s.label.name) sets

-- the columns of the set with a number
abbrev pub columns_at : List NumberedSet → ℕ → List Text
columns_at sets t = slice_index_or (map columns_of sets) t []

-- the link of a ref
abbrev pub link_of : List NumberedSet → NumberedSet → RefDecl → Link
link_of sets s r =
    let t = number_of_name r.set (names_of sets) in
    record {
      from = numbers_of_names r.columns (columns_of s);
      table = t;
      to = numbers_of_names r.referred (columns_at sets t);
    }

-- the link of an inner set to the set that it is in
abbrev pub link_up : List NumberedSet → NumberedSet → Option ℕ → List Link
link_up sets s None = []
link_up sets s (Some p) =
    record {
      from = numbers_of_names (codes "#up" ∷ []) (columns_of s);
      table = p;
      to = numbers_of_names (codes "#id" ∷ []) (columns_at sets p);
    } ∷ []

-- the refs that aren't optional, in order
abbrev pub firm_refs : List RefDecl → List RefDecl
firm_refs refs = filter (λ r. not r.optional) refs

-- the optional refs, in order
abbrev pub optional_refs : List RefDecl → List RefDecl
optional_refs refs = filter (λ r. r.optional) refs

-- the links of a set's table: that of `#up` to `#id` if it has that column, then each ref that isn't optional
abbrev pub links_in : List NumberedSet → NumberedSet → List Link
links_in sets s = link_up sets s s.parent ++ map (link_of sets s) (firm_refs s.label.refs)

-- the optional links of a set's table: each optional ref
abbrev pub optional_in : List NumberedSet → NumberedSet → List Link
optional_in sets s = map (link_of sets s) (optional_refs s.label.refs)

-- ---- tables

-- a set as a table, among the sets of its schema
abbrev pub table_in : List NumberedSet → NumberedSet → TableOf
table_in sets s =
    record {
      name = s.label.name;
      columns = columns_of s;
      keys = keys_in s;
      deps = deps_in s;
      links = links_in sets s;
      optional = optional_in sets s;
      parent = s.parent;
      inner = level_numbers (suc s.number) s.inner;
    }

-- the tables of a schema: its sets in preorder
abbrev pub tables_of : Forest → List TableOf
tables_of f = map (table_in (sets_of f)) (sets_of f)

-- what stands at a number that no table has: a table without a column
abbrev pub no_table : TableOf
no_table =
    record { name = []; columns = []; keys = []; deps = []; links = []; optional = []; parent = None; inner = [] }

-- the table with a number
abbrev pub schema_table : Forest → ℕ → TableOf
schema_table f t = slice_index_or (tables_of f) t no_table

-- a dependency: its columns determine those that it decides
abbrev pub dep_of : Dep → Determination
dep_of d = record { left = d.columns; right = d.decides }

-- what the keys of a table determine: each determines all columns
abbrev pub key_determinations : TableOf → List Determination
key_determinations t = map (λ (k : Key). key_of (length t.columns) k.columns) t.keys

-- the determinations of a table: its keys, and then its dependencies
abbrev pub determinations_of : TableOf → List Determination
determinations_of t = key_determinations t ++ map dep_of t.deps

-- a table as numbers: its width, its determinations, its links and its optional links
abbrev pub as_numbers : TableOf → Numbers
as_numbers t =
    record {
      width = length t.columns;
      determinations = determinations_of t;
      links = t.links;
      optional = t.optional;
    }

-- the widths of a schema's tables
abbrev pub schema_widths : Forest → List ℕ
schema_widths f = map (λ (t : TableOf). length t.columns) (tables_of f)

-- what stands at a number that no set has
abbrev pub nowhere : NumberedSet
nowhere = record { label = bare_set [] []; number = 0; parent = None; inner = none }

-- the set with a number, with its inner sets
abbrev pub tree_at : Forest → ℕ → Tree
tree_at f t = tree_of (slice_index_or (sets_of f) t nowhere)

-- the tables of a schema as numbers
abbrev pub model_tables : Forest → List Numbers
model_tables f = map as_numbers (tables_of f)

-- ---- what holds of each schema

-- at least one column, each of those of a table with this width, and none twice
pub record AreColumns (width : ℕ) (columns : List ℕ) : Type 0 where
  pub some : 1 ≤ length columns
  pub within : AllInside columns width
  pub distinct : Distinct columns

-- a dependency has columns of its table on both sides
pub record IsDep (width : ℕ) (d : Dep) : Type 0 where
  pub columns : AreColumns width d.columns
  pub decides : AreColumns width d.decides

-- a link goes from at least one column of its table, each other than the others, to as many columns of a table
pub record IsLink (tables : List TableOf) (width : ℕ) (link : Link) : Type 0 where
  pub table : link.table < length tables
  pub some : 1 ≤ length link.from
  pub same_length : length link.from ≡ length link.to
  pub from : AllInside link.from width
  pub to : AllInside link.to (length (slice_index_or (map (λ (t : TableOf). t.columns) tables) link.table []))
  pub from_distinct : Distinct link.from
  pub to_distinct : Distinct link.to

-- what holds of a table among those of its schema
pub record IsSchemaTable (tables : List TableOf) (t : TableOf) : Type 0 where
  pub some_column : 1 ≤ length t.columns
  pub few_columns : length t.columns ≤ COLUMNS
  pub distinct_columns : Distinct t.columns
  pub keys : Each t.keys (λ k. AreColumns (length t.columns) k.columns)
  pub deps : Each t.deps (IsDep (length t.columns))
  pub links : Each t.links (IsLink tables (length t.columns))
  pub optional : Each t.optional (IsLink tables (length t.columns))

-- what holds of the tables of each schema
pub record AreTables (tables : List TableOf) : Type 0 where
  pub few_tables : length tables ≤ TABLES
  pub distinct_names : Distinct (map (λ (t : TableOf). t.name) tables)
  pub each_table : Each tables (IsSchemaTable tables)
