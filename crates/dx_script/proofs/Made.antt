-- What the first steps make, step by step, and the names of a schema's tables.
use Rattle.std.proofs.Common.{◌≡◌, ℕ, zero, suc, ◌+◌, ◌<◌, ◌≤◌, List, [], ◌∷◌, ◌++◌, length, get_or, drop, refl, sym, ◌∙◌, ap, arith, inl, inr}
use Rattle.std.specs.Prelude.{IsTrue, ◌↔◌, true, false, Bool, map, flat_map}
use Rattle.std.proofs.lemmas.Bool.{false≢true, cases_lt}
use Rattle.std.proofs.lemmas.List.{drop_more, drop_all, get_or-map, length-map}
use Rattle.std.proofs.lemmas.Simd.{map-map}
use Rattle.dx_base.specs.Members.{◌∈◌, here, there}
use Rattle.dx_base.proofs.Lists.{cut_at}
use Rattle.dx_base.specs.Texts.{Text}
use Rattle.dx_schema.specs.Forest.{Forest}
use Rattle.dx_schema.specs.Tables.{AreTables, TableOf, tables_of, schema_table, number_of_name}
use Rattle.dx_schema.specs.Names.{TableNames, table_names_of, names_of_table}
use Rattle.dx_schema.proofs.Whole.{are_named}
use Rattle.dx_script.specs.declared.form.Step.{Step}
use Rattle.dx_script.specs.declared.form.Step.TheVariants.{Create, MatchRows, KeepRows, InsertRows}
use Rattle.dx_script.specs.Names.{table_numbered, table_names, table_named}
use Rattle.dx_script.specs.Fits.{created, created_in, kept_in}
use Rattle.dx_script.proofs.NameFacts.{no_table, table_number, other_text}

-- ---- what the rest of the steps makes

pub made_next : {X : Type 0} (f : Step → List X) (steps : List Step) (i : ℕ) (s : Step) → i < length steps → s ≡ get_or steps i s → flat_map f (drop i steps) ≡ f s ++ flat_map f (drop (i + 1) steps)
made_next f steps i s lt is = rw (cut_at steps i s lt is) refl

-- ---- keep tables

pub no_keep : (s : Step) (n : ℕ) → ((r : ℕ) (u : _) → ¬ (s ≡ KeepRows r u)) → ¬ (n ∈ kept_in s)
no_keep (Create table columns) n h m = elim m [ ]
no_keep (MatchRows r select sources equal) n h m = elim m [ ]
no_keep (KeepRows r unless) n h m = absurd (h r unless refl)
no_keep (InsertRows table r kept cells) n h m = elim m [ ]

-- ---- created tables

-- the names of the tables that a step creates
abbrev pub created_names : Step → List Text
created_names s = map (λ (t : Text × List Text). t.0) (created_in s)

pub names_created : (steps : List Step) → map (λ (t : Text × List Text). t.0) (created steps) ≡ flat_map created_names steps
names_created [] = refl
names_created (Create table columns ∷ steps) = ap (λ z. table ∷ z) (names_created steps)
names_created (MatchRows r select sources equal ∷ steps) = names_created steps
names_created (KeepRows r unless ∷ steps) = names_created steps
names_created (InsertRows table r kept cells ∷ steps) = names_created steps

pub no_create : (s : Step) (n : Text) → ((t : _) (u : _) → ¬ (s ≡ Create t u)) → ¬ (n ∈ created_names s)
no_create (Create table columns) n h m = absurd (h table columns refl)
no_create (MatchRows r select sources equal) n h m = elim m [ ]
no_create (KeepRows r unless) n h m = elim m [ ]
no_create (InsertRows table r kept cells) n h m = elim m [ ]

-- ---- tables by their names

pub named_count : (f : Forest) → length (table_names_of f) ≡ length (tables_of f)
named_count f = length-map (tables_of f) names_of_table

pub named_at : (f : Forest) (t : ℕ) → t < length (tables_of f) → table_numbered (table_names_of f) t ≡ names_of_table (schema_table f t)
named_at f t lt = get_or-map names_of_table (tables_of f) t _ no_table lt

pub names_are : (f : Forest) → table_names (table_names_of f) ≡ map (λ (t : TableOf). t.name) (tables_of f)
names_are f = map-map (λ (n : TableNames). n.name) names_of_table (tables_of f)

-- the table of a name that is there
pub table_there : (f : Forest) (t : ℕ) (name : Text) → AreTables (tables_of f) → t < length (tables_of f) → (schema_table f t).name ≡ name
    → table_numbered (table_names_of f) (table_named (table_names_of f) name) ≡ names_of_table (schema_table f t)
table_there f t name a lt e =
    let n : (table_numbered (table_names_of f) t).name ≡ name = ap (λ (z : TableNames). z.name) (named_at f t lt) ∙ e in
    let w : table_named (table_names_of f) name ≡ t = ap (table_named (table_names_of f)) (sym n) ∙ table_number (table_names_of f) t (are_named f a) (rw (named_count f) lt) in
    ap (table_numbered (table_names_of f)) w ∙ named_at f t lt

number_past : (x : Text) (xs : List Text) → ¬ (x ∈ xs) → number_of_name x xs ≡ length xs
number_past x [] h = refl
number_past x (y ∷ ys) h = rw (other_text y x (λ e. h (here e))) (ap suc (number_past x ys (λ m. h (there m))))

past_all : (tables : List TableNames) (n : ℕ) → length tables ≤ n → table_numbered tables n ≡ no_table
past_all [] zero h = refl
past_all [] (suc n) h = refl
past_all (t ∷ ts) zero h = absurd (omega arith)
past_all (t ∷ ts) (suc n) h = past_all ts n (omega arith)

-- a name that isn't there has no columns
pub table_nowhere : (f : Forest) (name : Text) → ¬ (name ∈ map (λ (t : TableOf). t.name) (tables_of f))
    → table_numbered (table_names_of f) (table_named (table_names_of f) name) ≡ no_table
table_nowhere f name h =
    let e : table_named (table_names_of f) name ≡ length (table_names (table_names_of f)) = number_past name (table_names (table_names_of f)) (λ m. h (rw (names_are f) at m)) in
    past_all (table_names_of f) (table_named (table_names_of f) name) (omega (arith, e, length-map (table_names_of f) (λ (n : TableNames). n.name)))

-- ---- the created tables, one by one

module _ {X : Type 0} where
  pub head_is : (xs : List X) (n : ℕ) (x d : X) (rest : List X) → (x ∷ rest) ≡ drop n xs → (n < length xs) × (get_or xs n d ≡ x)
  head_is xs n x d rest e = elim (cases_lt n (length xs)) [
    | inl l ↦ let w = drop_more xs n d l in (l, cc)
    | inr g ↦ absurd (let w = drop_all n xs g in cc)
  ]

  -- one more is the same on both sides
  pub both_more : {W : Type 0} (all xs : List X) (ys : List X) (n : ℕ) (x : X) → n < length xs → get_or xs n x ≡ x
      → (W ↔ ((x ∷ ys) ≡ drop n xs)) → (W ↔ (ys ≡ drop (n + 1) xs))
  both_more all xs ys n x lt e inv =
      let w = drop_more xs n x lt in (
        (λ q. let v = inv.0 q in cc),
        (λ q. inv.1 (cc)),
      )

  -- the other is at its end too
  pub both_end : {W : Type 0} (xs : List X) (n : ℕ) (b : Bool) → (IsTrue b ↔ (n ≡ length xs)) → n ≤ length xs → (W ↔ ([] ≡ drop n xs)) → (IsTrue b ↔ W)
  both_end xs n b t le inv = (
    (λ q. let e = t.0 q in inv.1 (sym (drop_all n xs (omega arith)))),
    (λ w. t.1 (elim (cases_lt n (length xs)) [
      | inl l ↦ absurd (more n xs l (inv.0 w))
      | inr g ↦ omega arith
    ])),
  )
    where
      more : (n : ℕ) (xs : List X) → n < length xs → ¬ ([] ≡ drop n xs)
      more n [] l e = absurd (omega arith)
      more zero (x ∷ xs) l e = cc
      more (suc n) (x ∷ xs) l e = more n xs (omega arith) e

-- no column stands among none
pub no_column : (x : Text) → (IsTrue false ↔ (x ∈ []))
no_column x = ((λ t. absurd (false≢true t)), (λ m. elim m [ ]))
