-- The roots of a schema, and the names of their files.
use Rattle.std.proofs.Common.{◌≡◌, ℕ, zero, suc, ◌+◌, ◌-◌, ◌<◌, ◌≤◌, List, [], ◌∷◌, ◌++◌, length, map, take, drop, get_or, reverse, Option, Some, None, true, false, not, refl, sym, ◌∙◌, ap, subst, arith, inl, inr}
use Rattle.std.specs.Prelude.{codes}
use Rattle.std.proofs.lemmas.Bool.{cases_lt}
use Rattle.std.proofs.lemmas.List.{append_cancel_right, get_or_append_left, get_or-append-add, get_or-map, reverse-append, take_more, take-append-drop, take_all, length-map}
use Rattle.dx_base.specs.Members.{◌∈◌, here, there, Distinct}
use Rattle.dx_base.proofs.Members.{in_at}
use Rattle.dx_schema.specs.Forest.{Forest, Tree, none, set, forest_of, has_sets}
use Rattle.dx_schema.specs.Tables.{AreTables, NumberedSet, TableOf, count, nowhere, level_numbers, numbered_sets, sets_of, schema_table, table_in, tables_of, tree_at}
use Rattle.dx_schema.proofs.Numbered.{found_here, tables_counted}
use Rattle.dx_schema.proofs.Preorder.{count_more, length_placed}
use Rattle.dx_stages.specs.Stages.{each}
use Rattle.dx_stages.specs.Laws.{AsksOtherFiles, AsksOnly}
use Rattle.dx_stages.proofs.Decided.{apart_by, each_only}
use Rattle.dx_schema.proofs.Inner.{numbers_ascend}
use Rattle.clio_source.specs.Laws.{RootsHaveNoParent}
use Rattle.clio_source.specs.Source.{IsRoot, RootShape, csv_name, file_at, flat, shape_at, shape_of, json_name, named_by, nested, reading, roots}

-- ---- their numbers

-- those of a level are not below the first, and below those after the level
pub numbers_between : (n : ℕ) (g : Forest) (u : ℕ) → u ∈ level_numbers n g → (n ≤ u) × (u < n + count g)
numbers_between n none u m = elim m [ ]
numbers_between n (set l i r) u (here e) = (omega (arith, e), omega (arith, e))
numbers_between n (set l i r) u (there m) = let h = numbers_between (suc (n + count i)) r u m in (omega (arith, h), omega (arith, h))

-- the sets of a level have its parent
parent_in : (p : Option ℕ) (n : ℕ) (g : Forest) (u : ℕ) (d : NumberedSet) → u ∈ level_numbers n g → (get_or (numbered_sets p n g) (u - n) d).parent ≡ p
parent_in p n none u d m = elim m [ ]
parent_in p n (set l i r) u d (here e) =
    let at : u - n ≡ 0 = omega (arith, e) in
    ap (λ k. (get_or (numbered_sets p n (set l i r)) k d).parent) at
parent_in p n (set l i r) u d (there m) =
    let left = numbered_sets (Some n) (suc n) i in
    let next = suc (n + count i) in
    let h = numbers_between next r u m in
    let at : u - n ≡ suc (length left + (u - next)) = omega (arith, h, length_placed (Some n) (suc n) i) in
    ap (λ k. (get_or (numbered_sets p n (set l i r)) k d).parent) at ∙ ap (λ (s : NumberedSet). s.parent) (get_or-append-add left (numbered_sets p next r) (u - next) d)
    ∙ parent_in p next r u d m

pub is_root : (f : Forest) (u : ℕ) → u ∈ roots f → IsRoot f u
is_root f u m =
    let h = numbers_between 0 f u m in
    let there_is : u < length (sets_of f) = omega (arith, h, length_placed None 0 f) in
    let same : u - 0 ≡ u = omega arith in record {
      within = omega (arith, h, tables_counted f);
      parent = ap (λ (t : TableOf). t.parent) (get_or-map (table_in (sets_of f)) (sets_of f) u nowhere _ there_is)
          ∙ ap (λ k. (get_or (sets_of f) k nowhere).parent) (sym same) ∙ parent_in None 0 f u nowhere m;
    }

-- an inner set has a parent
has_parent : (p n : ℕ) (g : Forest) (k : ℕ) (d : NumberedSet) → k < count g → ¬ ((get_or (numbered_sets (Some p) n g) k d).parent ≡ None)
has_parent p n none k d lt e = absurd (omega (arith, lt))
has_parent p n (set l i r) zero d lt e = absurd (cc e)
has_parent p n (set l i r) (suc k) d lt e =
    let left = numbered_sets (Some n) (suc n) i in
    let right = numbered_sets (Some p) (suc (n + count i)) r in
    let size : length left ≡ count i = length_placed (Some n) (suc n) i in
    elim (cases_lt k (count i)) [
      | inl a ↦ has_parent n (suc n) i k d a (sym (ap (λ (s : NumberedSet). s.parent) (get_or_append_left left right d k (omega (arith, a, size)))) ∙ e)
      | inr b ↦
          let place : k ≡ length left + (k - count i) = omega (arith, b, size) in
          has_parent p (suc (n + count i)) r (k - count i) d (omega (arith, b, lt))
          (sym (ap (λ j. (get_or (left ++ right) j d).parent) place ∙ ap (λ (s : NumberedSet). s.parent) (get_or-append-add left right (k - count i) d)) ∙ e)
    ]

-- a set without one is of the level
of_level : (n : ℕ) (g : Forest) (k : ℕ) (d : NumberedSet) → k < count g → (get_or (numbered_sets None n g) k d).parent ≡ None → (n + k) ∈ level_numbers n g
of_level n none k d lt e = absurd (omega (arith, lt))
of_level n (set l i r) zero d lt e = here (omega arith)
of_level n (set l i r) (suc k) d lt e =
    let left = numbered_sets (Some n) (suc n) i in
    let right = numbered_sets None (suc (n + count i)) r in
    let size : length left ≡ count i = length_placed (Some n) (suc n) i in
    elim (cases_lt k (count i)) [
      | inl a ↦ absurd (has_parent n (suc n) i k d a (sym (ap (λ (s : NumberedSet). s.parent) (get_or_append_left left right d k (omega (arith, a, size)))) ∙ e))
      | inr b ↦
          let place : k ≡ length left + (k - count i) = omega (arith, b, size) in
          let number : suc (n + count i) + (k - count i) ≡ n + suc k = omega (arith, b) in
          let rest = of_level (suc (n + count i)) r (k - count i) d (omega (arith, b, lt))
          (sym (ap (λ j. (get_or (left ++ right) j d).parent) place ∙ ap (λ (s : NumberedSet). s.parent) (get_or-append-add left right (k - count i) d)) ∙ e) in
          there (subst (λ m. m ∈ level_numbers (suc (n + count i)) r) number rest)
    ]

pub no_parent : RootsHaveNoParent
no_parent f = record { exact = λ t. ((λ m. (let r = is_root f t m in (r.within, r.parent))), back t); ascending = numbers_ascend 0 f }
  where
    back : (t : ℕ) → (t < length (tables_of f)) × ((schema_table f t).parent ≡ None) → t ∈ roots f
    back t (lt, e) =
        let in_f : t < count f = omega (arith, lt, tables_counted f) in
        let number : 0 + t ≡ t = omega arith in
        let is = ap (λ (u : TableOf). u.parent) (get_or-map (table_in (sets_of f)) (sets_of f) t nowhere _ (omega (arith, in_f, length_placed None 0 f))) in
        subst (λ m. m ∈ roots f) number (of_level 0 f t nowhere in_f (sym is ∙ e))

-- ---- one root after the other

-- the numbers of more sets
numbers_both : (n : ℕ) (xs ys : List Tree) → level_numbers n (forest_of (xs ++ ys)) ≡ level_numbers n (forest_of xs) ++ level_numbers (n + count (forest_of xs)) (forest_of ys)
numbers_both n [] ys = let e : n + 0 ≡ n = omega arith in ap (λ k. level_numbers k (forest_of ys)) (sym e)
numbers_both n (x ∷ xs) ys =
    let e : suc (n + count x.inner) + count (forest_of xs) ≡ n + suc (count x.inner + count (forest_of xs)) = omega arith in
    ap (λ ns. n ∷ ns) (numbers_both (suc (n + count x.inner)) xs ys)
    ∙ ap (λ k. n ∷ (level_numbers (suc (n + count x.inner)) (forest_of xs) ++ level_numbers k (forest_of ys))) e

-- the roots of the first sets
abbrev pub first_roots : List Tree → ℕ → List ℕ
first_roots ts k = level_numbers 0 (forest_of (take k ts))

pub roots_more : (ts : List Tree) (k : ℕ) (t : Tree) (root : ℕ) → k < length ts → t ≡ get_or ts k t → root ≡ count (forest_of (take k ts))
    → first_roots ts (k + 1) ≡ first_roots ts k ++ root ∷ []
roots_more ts k t root lt is at =
    ap (λ (us : List Tree). level_numbers 0 (forest_of us)) (take_more ts k t lt) ∙ numbers_both 0 (take k ts) (get_or ts k t ∷ [])
    ∙ (let e : 0 + count (forest_of (take k ts)) ≡ root = omega (arith, at) in ap (λ n. first_roots ts k ++ n ∷ []) e)

-- those that are left
pub roots_rest : (ts : List Tree) (k : ℕ) (f : Forest) → forest_of ts ≡ f → (us : List ℕ) × (roots f ≡ first_roots ts k ++ us)
roots_rest ts k f whole = (
  level_numbers (0 + count (forest_of (take k ts))) (forest_of (drop k ts)),
  sym (ap (level_numbers 0) whole) ∙ ap (λ (us : List Tree). level_numbers 0 (forest_of us)) (sym (take-append-drop k ts)) ∙ numbers_both 0 (take k ts) (drop k ts),
)

pub roots_all : (ts : List Tree) (k : ℕ) (f : Forest) → forest_of ts ≡ f → length ts ≤ k → first_roots ts k ≡ roots f
roots_all ts k f whole past = ap (λ (us : List Tree). level_numbers 0 (forest_of us)) (take_all k ts past) ∙ ap (level_numbers 0) whole

-- the next one is a root
pub next_root : (ts : List Tree) (k : ℕ) (t : Tree) (root : ℕ) (f : Forest) → forest_of ts ≡ f → k < length ts → t ≡ get_or ts k t → root ≡ count (forest_of (take k ts)) → IsRoot f root
next_root ts k t root f whole lt is at =
    let more = roots_more ts k t root lt is at in
    let rest = roots_rest ts (k + 1) f whole in
    is_root f root (subst (λ us. root ∈ us) (sym (rest.1 ∙ ap (λ us. us ++ rest.0) more)) (in_front (first_roots ts k) root rest.0))
  where
    in_front : (us : List ℕ) (x : ℕ) (vs : List ℕ) → x ∈ ((us ++ x ∷ []) ++ vs)
    in_front [] x vs = here refl
    in_front (u ∷ us) x vs = there (in_front us x vs)

-- and its set is the next
pub next_set : (ts : List Tree) (k : ℕ) (t : Tree) (root : ℕ) (f : Forest) → forest_of ts ≡ f → k < length ts → t ≡ get_or ts k t → root ≡ count (forest_of (take k ts)) → t ≡ tree_at f root
next_set ts k t root f whole lt is at =
    let e : root ≡ count (forest_of (take k ts)) + 0 = omega (arith, at) in
    found_here f ts k t root 0 whole lt is e refl

-- ---- the root's table and those of its inner sets

-- a set's inner sets are among those after it
inner_behind : (p : Option ℕ) (n : ℕ) (g : Forest) (k : ℕ) (d : NumberedSet) → k < count g → k + 1 + count (get_or (numbered_sets p n g) k d).inner ≤ count g
inner_behind p n none k d lt = absurd (omega (arith, lt))
inner_behind p n (set l i r) zero d lt = omega arith
inner_behind p n (set l i r) (suc k) d lt =
    let left = numbered_sets (Some n) (suc n) i in
    let right = numbered_sets p (suc (n + count i)) r in
    let size : length left ≡ count i = length_placed (Some n) (suc n) i in
    elim (cases_lt k (count i)) [
      | inl a ↦
          let h = inner_behind (Some n) (suc n) i k d a in
          let same : count (get_or (left ++ right) k d).inner ≡ count (get_or left k d).inner = ap (λ (s : NumberedSet). count s.inner) (get_or_append_left left right d k (omega (arith, a, size))) in
          omega (arith, h, same)
      | inr b ↦
          let h = inner_behind p (suc (n + count i)) r (k - count i) d (omega (arith, b, lt)) in
          let place : k ≡ length left + (k - count i) = omega (arith, b, size) in
          let same : count (get_or (left ++ right) k d).inner ≡ count (get_or right (k - count i) d).inner =
          ap (λ j. count (get_or (left ++ right) j d).inner) place ∙ ap (λ (s : NumberedSet). count s.inner) (get_or-append-add left right (k - count i) d) in
          omega (arith, h, same, b)
    ]

-- they are tables of the schema
pub end_within : (f : Forest) (root : ℕ) → root < length (tables_of f) → root + 1 + count (tree_at f root).inner ≤ length (tables_of f)
end_within f root lt =
    let many = tables_counted f in
    let h = inner_behind None 0 f root nowhere (omega (arith, lt, many)) in
    omega (arith, h, many)

-- the next root's are few
pub few_inner : (f : Forest) (ts : List Tree) (k : ℕ) (t : Tree) (root : ℕ) → AreTables (tables_of f) → forest_of ts ≡ f → k < length ts → t ≡ get_or ts k t → root ≡ count (forest_of (take k ts)) → root + 1 + count t.inner ≤ 64
few_inner f ts k t root tables whole lt is at =
    let h = end_within f root (next_root ts k t root f whole lt is at).within in
    omega (arith, h, tables.few_tables, ap (λ (u : Tree). count u.inner) (next_set ts k t root f whole lt is at))

-- the number after the next root and its inner sets
pub next_number : (f : Forest) (ts : List Tree) (k : ℕ) (t : Tree) (root : ℕ) → forest_of ts ≡ f → k < length ts → t ≡ get_or ts k t → root ≡ count (forest_of (take k ts))
    → (root + 1 + count (tree_at f root).inner ≡ root + (1 + count t.inner)) × (root + (1 + count t.inner) ≡ count (forest_of (take (k + 1) ts)))
next_number f ts k t root whole lt is at =
    let same = ap (λ (u : Tree). count u.inner) (next_set ts k t root f whole lt is at) in
    let more = count_more ts k t t.inner lt is refl in
    (omega (arith, same), omega (arith, more, at))

-- after the last one is no table
pub last_number : (f : Forest) (ts : List Tree) (k root : ℕ) → forest_of ts ≡ f → length ts ≤ k → root ≡ count (forest_of (take k ts)) → root ≡ length (tables_of f)
last_number f ts k root whole past at = at ∙ ap (λ (us : List Tree). count (forest_of us)) (take_all k ts past) ∙ ap count whole ∙ sym (tables_counted f)

-- ---- forms

pub is_flat : (g : Forest) → not (has_sets g) ≡ true → flat ≡ shape_of g
is_flat none e = refl
is_flat (set l i r) e = absurd (cc e)

pub is_nested : (g : Forest) → not (has_sets g) ≡ false → nested ≡ shape_of g
is_nested none e = absurd (cc e)
is_nested (set l i r) e = refl

-- ---- names

distinct_at : (xs : List (List ℕ)) (i j : ℕ) → Distinct xs → i < j → j < length xs → ¬ (get_or xs i [] ≡ get_or xs j [])
distinct_at [] i j d lt within e = absurd (omega arith)
distinct_at (x ∷ xs) zero zero d lt within e = absurd (omega arith)
distinct_at (x ∷ xs) (suc i) zero d lt within e = absurd (omega arith)
distinct_at (x ∷ xs) zero (suc j) d lt within e = let h : j < length xs = omega arith in d.0 (subst (λ v. v ∈ xs) (sym e) (in_at xs j [] h))
distinct_at (x ∷ xs) (suc i) (suc j) d lt within e = distinct_at xs i j d.1 (omega arith) (omega arith) e

abbrev pub names_in : List TableOf → List (List ℕ)
names_in ts = map (λ (t : TableOf). t.name) ts

pub names_differ : (f : Forest) (u v : ℕ) → Distinct (names_in (tables_of f)) → u < v → v < length (tables_of f) → ¬ ((schema_table f u).name ≡ (schema_table f v).name)
names_differ f u v d lt within e =
    let name = λ (t : TableOf). t.name in
    let v_in : v < length (names_in (tables_of f)) = omega (arith, length-map (tables_of f) name) in
    let at_u = get_or-map name (tables_of f) u _ [] (omega arith) in
    let at_v = get_or-map name (tables_of f) v _ [] within in
    distinct_at (names_in (tables_of f)) u v d lt v_in (at_u ∙ e ∙ sym at_v)

-- a table's file and a document have other ends
ends_differ : (x y : List ℕ) → ¬ (csv_name x ≡ json_name y)
ends_differ x y e =
    let f = sym (reverse-append x (codes ".csv")) ∙ ap reverse e ∙ reverse-append y (codes ".json") in
    let h : 118 ≡ 110 = ap (λ (v : List ℕ). get_or v 0 0) f in omega (arith, h)

named_one : (a b : RootShape) (x y : List ℕ) → named_by a x ≡ named_by b y → x ≡ y
named_one flat flat x y e = append_cancel_right x y (codes ".csv") e
named_one flat nested x y e = absurd (ends_differ x y e)
named_one nested flat x y e = absurd (ends_differ y x (sym e))
named_one nested nested x y e = append_cancel_right x y (codes ".json") e

-- a root's stages ask for its file alone
pub asks_own : (f : Forest) (root : ℕ) → AsksOnly (λ n. n ≡ file_at f root) (reading f root)
asks_own f root c a n (inl h) = h
asks_own f root c a n (inr h) = absurd (elim h.2 [ inl x ↦ x | inr x ↦ x.2 ])

-- roots before it ask for no file of this one
pub apart : (f : Forest) (us : List ℕ) (root : ℕ) → Distinct (names_in (tables_of f)) → root < length (tables_of f) → ((u : ℕ) → u ∈ us → u < root)
    → AsksOtherFiles (each (reading f) us) (reading f root)
apart f us root distinct within below =
    apart_by (λ n. (u : ℕ) × (u ∈ us) × (n ≡ file_at f u)) (λ n. n ≡ file_at f root) (each (reading f) us) (reading f root)
    (each_only (reading f) (file_at f) us (asks_own f)) (asks_own f root) never
  where
    never : (n : List ℕ) → (u : ℕ) × (u ∈ us) × (n ≡ file_at f u) → ¬ (n ≡ file_at f root)
    never n (u, m, is) e = names_differ f u root distinct (below u m) within (named_one (shape_at f u) (shape_at f root) _ _ (sym is ∙ e))
