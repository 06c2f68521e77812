-- Numbers of names that are there.
use Rattle.std.proofs.Common.{◌≡◌, ◌∙◌, ℕ, ◌<◌, List, [], ◌∷◌, length, sym, ap, subst, arith, inl, inr, true, false}
use Rattle.std.specs.Prelude.{map, nat_eq, slice_index_or}
use Rattle.std.specs.Cmp.Lexicographic.{pointwise}
use Rattle.std.proofs.lemmas.Bool.{cases_Bool}
use Rattle.dx_base.specs.Members.{◌∈◌, here, there}
use Rattle.dx_base.specs.Texts.{Text}
use Rattle.dx_schema.specs.Forest.{Forest}
use Rattle.dx_schema.specs.Tables.{AreTables, TableOf, number_of_name, schema_table, tables_of}
use Rattle.dx_schema.specs.Names.{TableNames, table_names_of}
use Rattle.dx_schema.proofs.Whole.{are_named}
use Rattle.dx_script.specs.Names.{column_at, column_named, table_named, table_names, table_numbered}
use Rattle.dx_script.proofs.Made.{named_at, named_count, names_are}
use Rattle.dx_script.proofs.NameFacts.{column_number, same_text, table_number}

-- a name that is there has its number among them
pub number_within : (name : Text) (names : List Text) → name ∈ names → number_of_name name names < length names
number_within name [] m = elim m [ ]
number_within name (y ∷ ys) m = elim (cases_Bool (pointwise nat_eq y name)) [
  | inl t ↦ rw t (omega arith)
  | inr f ↦ rw f (let r = number_within name ys (later f m) in omega (arith, r))
]
  where
    later : pointwise nat_eq y name ≡ false → name ∈ (y ∷ ys) → name ∈ ys
    later f (here e) = let t : pointwise nat_eq y name ≡ true = rw e (same_text name) in cc
    later f (there k) = k

pub column_within : (source : List TableNames) (table : ℕ) (column : Text) → column ∈ (table_numbered source table).columns → column_named source table column < length (table_numbered source table).columns
column_within source table column m = number_within column (table_numbered source table).columns m

-- ---- names of a schema

pub number_there : (f : Forest) (t : ℕ) (name : Text) → AreTables (tables_of f) → t < length (tables_of f) → (schema_table f t).name ≡ name → t ≡ table_named (table_names_of f) name
number_there f t name a lt e =
    let n : (table_numbered (table_names_of f) t).name ≡ name = ap (λ (z : TableNames). z.name) (named_at f t lt) ∙ e in
    sym (ap (table_named (table_names_of f)) (sym n) ∙ table_number (table_names_of f) t (are_named f a) (rw (named_count f) lt))

pub column_there : (f : Forest) (t c : ℕ) (name : Text) → AreTables (tables_of f) → t < length (tables_of f) → c < length (schema_table f t).columns → slice_index_or (schema_table f t).columns c [] ≡ name → c ≡ column_named (table_names_of f) t name
column_there f t c name a lt k e =
    let n = named_at f t lt in
    let l : c < length (table_numbered (table_names_of f) t).columns = rw n k in
    let same : column_at (table_names_of f) t c ≡ name = ap (λ (z : TableNames). slice_index_or z.columns c []) n ∙ e in
    sym (ap (column_named (table_names_of f) t) (sym same) ∙ column_number (table_names_of f) t c (are_named f a) (rw (named_count f) lt) l)

pub name_there : (f : Forest) (name : Text) → name ∈ table_names (table_names_of f) → name ∈ map (λ (t : TableOf). t.name) (tables_of f)
name_there f name m = subst (λ (ns : List Text). name ∈ ns) (names_are f) m

pub width_there : (f : Forest) (t : ℕ) → t < length (tables_of f) → length (schema_table f t).columns ≡ length (table_numbered (table_names_of f) t).columns
width_there f t lt = ap (λ (z : TableNames). length z.columns) (sym (named_at f t lt))

pub column_name_there : (f : Forest) (t u : ℕ) (name : Text) → t < length (tables_of f) → t ≡ u → name ∈ (table_numbered (table_names_of f) u).columns → name ∈ (schema_table f t).columns
column_name_there f t u name lt e m = subst (λ (z : TableNames). name ∈ z.columns) (ap (table_numbered (table_names_of f)) (sym e) ∙ named_at f t lt) m
