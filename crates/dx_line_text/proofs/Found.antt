-- What is looked up by a name is the first of that name.
use Rattle.std.proofs.Common.{◌≡◌, ℕ, zero, suc, ◌<◌, List, [], ◌∷◌, Some, None, Bool, true, false, cond, length, map, get_or, refl, sym, ap, ◌∙◌, arith, nat_eq}
use Rattle.std.specs.Cmp.Lexicographic.{pointwise, same_text, other_text}
use Rattle.std.proofs.lemmas.List.{get_or-map}
use Rattle.dx_base.specs.Members.{◌∈◌, Distinct}
use Rattle.dx_base.proofs.Members.{in_at, in_map}
use Rattle.dx_schema.specs.Forest.{Forest}
use Rattle.dx_schema.specs.Tables.{TableOf, tables_of, schema_table, number_of_name, AreTables}
use Rattle.dx_base.specs.Texts.{Text}
use Rattle.dx_schema.specs.Faults.{is_among}
use Rattle.dx_schema.proofs.Facts.{is_table}
use Rattle.dx_schema.proofs.Valid.{among_in, in_among}
use Rattle.dx_tokens.specs.declared.faults.TextFault.TheVariants.{At}
use Rattle.dx_tokens.specs.declared.faults.TextKind.TheVariants.{UnknownName}
use Rattle.dx_schema_text.specs.declared.texts.PlaceText.{PlaceText}
use Rattle.dx_lines.specs.declared.line.Place.{Place}
use Rattle.dx_line_text.specs.Naming.{set_names, set_number, columns_in, name_fault, place_fault, place_of_text}

-- ---- names

-- a name that isn't there is not found
pub not_found : (x : Text) (xs : List Text) → ¬ (x ∈ xs) → is_among x xs ≡ false
not_found x xs no_member = go (is_among x xs) refl
  where
    go : (b : Bool) → is_among x xs ≡ b → is_among x xs ≡ false
    go true e = absurd (no_member (among_in x xs e))
    go false e = e

-- among distinct names the number of a name is its place
pub number_is : (xs : List Text) (n : ℕ) (x : Text) → Distinct xs → n < length xs → get_or xs n [] ≡ x → number_of_name x xs ≡ n
number_is [] n x d lt is = absurd (omega arith)
number_is (y ∷ ys) zero x d lt is = go (pointwise nat_eq y x) refl
  where
    go : (b : Bool) → pointwise nat_eq y x ≡ b → cond b 0 (suc (number_of_name x ys)) ≡ 0
    go true e = refl
    go false e = absurd (other_text y x (sym e) is)
number_is (y ∷ ys) (suc n) x d lt is = go (pointwise nat_eq y x) refl (number_is ys n x d.1 (omega arith) is)
  where
    go : (b : Bool) → pointwise nat_eq y x ≡ b → number_of_name x ys ≡ n → cond b 0 (suc (number_of_name x ys)) ≡ suc n
    go true e h = absurd (d.0 (rw (same_text y x (sym e), ← is) (in_at ys n [] (omega arith))))
    go false e h = ap suc h

-- ---- sets and columns

len_names : (ts : List TableOf) → length (map (λ (t : TableOf). t.name) ts) ≡ length ts
len_names [] = refl
len_names (t ∷ ts) = ap suc (len_names ts)

-- the table of a name is that with the name's number
pub set_is : (f : Forest) (t : ℕ) (x : Text) → AreTables (tables_of f) → t < length (tables_of f) → (schema_table f t).name ≡ x → set_number f x ≡ t
set_is f t x a lt is =
    number_is (set_names f) t x a.distinct_names (rw (len_names (tables_of f)) lt) (get_or-map (λ (t : TableOf). t.name) (tables_of f) t _ [] lt ∙ is)

-- a set of this name is there
pub set_among : (f : Forest) (t : ℕ) (x : Text) → t < length (tables_of f) → (schema_table f t).name ≡ x → is_among x (set_names f) ≡ true
set_among f t x lt is = in_among x (set_names f) (rw (← is) (in_map (λ (t : TableOf). t.name) (in_at (tables_of f) t _ lt)))

-- and its columns are those of that table
columns_are : (f : Forest) (t : ℕ) (x : Text) → AreTables (tables_of f) → t < length (tables_of f) → (schema_table f t).name ≡ x → columns_in f x ≡ (schema_table f t).columns
columns_are f t x a lt is = ap (λ n. (schema_table f n).columns) (set_is f t x a lt is)

-- a set that isn't there is the place's fault
pub unknown_set : (f : Forest) (p : PlaceText) → ¬ (p.set ∈ set_names f) → place_fault f p ≡ Some (At p.set_place UnknownName)
unknown_set f p no_member = rw (not_found p.set (set_names f) no_member) refl

-- a column that isn't there is the place's fault
pub unknown_column : (f : Forest) (p : PlaceText) (t : ℕ) → AreTables (tables_of f) → t < length (tables_of f) → (schema_table f t).name ≡ p.set → ¬ (p.column ∈ (schema_table f t).columns)
    → place_fault f p ≡ Some (At p.column_place UnknownName)
unknown_column f p t a lt is no_member =
    rw (set_among f t p.set lt is) (ap (λ columns. name_fault columns p.column p.column_place) (columns_are f t p.set a lt is) ∙ rw (not_found p.column (schema_table f t).columns no_member) refl)

same_place : (t c u d : ℕ) → u ≡ t → d ≡ c → ◌≡◌ {A = Place} (record { table = t; column = c }) (record { table = u; column = d })
same_place t c u d h k = rw (h, k) refl

-- a column that is there is what the place names
pub place_found : (f : Forest) (p : PlaceText) (t c : ℕ) → AreTables (tables_of f) → t < length (tables_of f) → (schema_table f t).name ≡ p.set
    → c < length (schema_table f t).columns → get_or (schema_table f t).columns c [] ≡ p.column
    → (record { table = t; column = c } ≡ place_of_text f p) × (place_fault f p ≡ None)
place_found f p t c a lt is within at =
    let number : number_of_name p.column (schema_table f t).columns ≡ c = number_is (schema_table f t).columns c p.column (is_table (tables_of f) t _ a lt).distinct_columns within at in
    let among : is_among p.column (schema_table f t).columns ≡ true = in_among p.column (schema_table f t).columns (rw (← at) (in_at (schema_table f t).columns c [] within)) in
    let columns : columns_in f p.set ≡ (schema_table f t).columns = columns_are f t p.set a lt is in (
      same_place t c (set_number f p.set) (number_of_name p.column (columns_in f p.set)) (set_is f t p.set a lt is) (ap (number_of_name p.column) columns ∙ number),
      rw (set_among f t p.set lt is) (ap (λ columns. name_fault columns p.column p.column_place) columns ∙ rw among refl),
    )
