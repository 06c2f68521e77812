-- Sets with no fault make tables as every schema has them.
use Rattle.std.proofs.Common.{◌≡◌, ℕ, zero, suc, ◌+◌, ◌<◌, ◌≤◌, List, [], ◌∷◌, ◌++◌, Option, Some, None, Bool, true, false, not, cond, length, map, get_or, refl, sym, ap, ◌∙◌, subst, arith, inl, inr, length-append, nat_eq, codes}
use Rattle.std.specs.Prelude.{◌||◌, ◌⊎◌, eqb}
use Rattle.std.specs.List.{filter}
use Rattle.std.specs.Cmp.Lexicographic.{pointwise, same_text, other_text}
use Rattle.std.proofs.lemmas.Bool.{false≢true, true≢false, ltb-false, eqb-true}
use Rattle.std.proofs.lemmas.List.{get_or_append_left, get_or-append-add, get_or-map, length-map}
use Rattle.dx_base.specs.Members.{Distinct, here, there, ◌∈◌, ◌⊆◌}
use Rattle.dx_base.proofs.Members.{from_map, in_map, in_left, in_right, from_append}
use Rattle.dx_model.specs.declared.tables.Key.{Key}
use Rattle.dx_model.specs.declared.tables.Dep.{Dep}
use Rattle.dx_model.specs.declared.tables.Link.{Link}
use Rattle.dx_model.specs.Tables.{AllInside}
use Rattle.dx_schema.specs.declared.fault.SchemaFault.{SchemaFault}
use Rattle.dx_schema.specs.declared.fault.SchemaFault.TheVariants.{Bad}
use Rattle.dx_schema.specs.declared.fault.SchemaKind.TheVariants.{DoubleName, UnknownName, BadLink}
use Rattle.dx_schema.specs.declared.sets.KeyDecl.{KeyDecl}
use Rattle.dx_schema.specs.declared.sets.DepDecl.{DepDecl}
use Rattle.dx_schema.specs.declared.sets.RefDecl.{RefDecl}
use Rattle.dx_schema.specs.Forest.{Label, Forest, none, set, has_sets}
use Rattle.dx_schema.specs.Tables.{TableOf, NumberedSet, numbered_sets, sets_of, names_of, count, where_has_inner, where_inner, columns_of, columns_at, number_of_name, numbers_of_names, key_named, keys_in, link_of, link_up, links_in, table_in, tables_of, IsLink, IsSchemaTable, AreTables, AreColumns, IsDep, dep_named, deps_in}
use Rattle.dx_base.specs.Texts.{Text}
use Rattle.dx_base.specs.Firsts.{first_of}
use Rattle.dx_schema.specs.Faults.{fault_if, is_among, level_names, twice_in, names_within, set_fault, sets_fault, columns_fault, key_fault, dep_fault, declared_at, ref_fault, declarations_fault, form_fault}
use Rattle.dx_schema.proofs.Preorder.{length_placed}
use Rattle.dx_schema.proofs.Loops.{among_number}
use Rattle.dx_base.proofs.Tests.{from_filter}
use Rattle.dx_base.proofs.Firsts.{first_none, none_of, two_none, each_none}
use Rattle.dx_base.proofs.Loops.{neither}

-- ---- no fault

if_none : (b : Bool) (e : SchemaFault) → fault_if b e ≡ None → b ≡ false
if_none true e h = absurd cc
if_none false e h = refl

not_none : (b : Bool) (e : SchemaFault) → fault_if (not b) e ≡ None → b ≡ true
not_none true e h = refl
not_none false e h = absurd cc

-- a list that isn't empty
not_empty : {X : Type 0} (xs : List X) → eqb (length xs) 0 ≡ false → 1 ≤ length xs
not_empty [] e = absurd cc
not_empty (x ∷ xs) e = omega arith

-- ---- names

pub among_in : (x : Text) (xs : List Text) → is_among x xs ≡ true → x ∈ xs
among_in x [] h = absurd (false≢true h)
among_in x (y ∷ ys) h = go (pointwise nat_eq y x) refl h (among_in x ys)
  where
    go : (b : Bool) → pointwise nat_eq y x ≡ b → (b || is_among x ys) ≡ true → (is_among x ys ≡ true → x ∈ ys) → x ∈ (y ∷ ys)
    go true e k f = here (same_text y x (sym e))
    go false e k f = there (f k)

not_among : (x : Text) (xs : List Text) → is_among x xs ≡ false → ¬ (x ∈ xs)
not_among x [] h m = elim m [ ]
not_among x (y ∷ ys) h m = go (pointwise nat_eq y x) refl h m (not_among x ys)
  where
    go : (b : Bool) → pointwise nat_eq y x ≡ b → (b || is_among x ys) ≡ false → x ∈ (y ∷ ys) → (is_among x ys ≡ false → ¬ (x ∈ ys)) → ⊥
    go true e k n f = true≢false k
    go false e k (here d) f = other_text y x (sym e) d
    go false e k (there n) f = f k n

pub in_among : (x : Text) (xs : List Text) → x ∈ xs → is_among x xs ≡ true
in_among x xs m = go (is_among x xs) refl
  where
    go : (b : Bool) → is_among x xs ≡ b → is_among x xs ≡ true
    go true e = e
    go false e = absurd (not_among x xs e m)

-- what differs, and from what
abbrev AreNew : List Text → List Text → Type 0
AreNew before xs = Distinct xs × ((x : Text) → x ∈ xs → ¬ (x ∈ before))

new_more : (before xs : List Text) (x : Text) → ¬ (x ∈ before) → AreNew (before ++ x ∷ []) xs → AreNew before (x ∷ xs)
new_more before xs x fresh h = (((λ m. h.1 x m (in_right before (here refl))), h.0), others)
  where
    others : (y : Text) → y ∈ (x ∷ xs) → ¬ (y ∈ before)
    others y (here e) m = fresh (rw e m)
    others y (there n) m = h.1 y n (in_left (x ∷ []) m)

twice_none_new : (before xs : List Text) → twice_in before xs ≡ None → AreNew before xs
twice_none_new before [] h = (tt, λ x m. elim m [ ])
twice_none_new before (x ∷ xs) h = go (is_among x before) refl h (twice_none_new (before ++ x ∷ []) xs)
  where
    go : (b : Bool) → is_among x before ≡ b → cond b (Some (Bad (DoubleName x))) (twice_in (before ++ x ∷ []) xs) ≡ None → (twice_in (before ++ x ∷ []) xs ≡ None → AreNew (before ++ x ∷ []) xs) → AreNew before (x ∷ xs)
    go true e k f = absurd cc
    go false e k f = new_more before xs x (not_among x before e) (f k)

columns_none_new : (known before xs : List Text) → columns_fault known before xs ≡ None → AreNew before xs × (xs ⊆ known)
columns_none_new known before [] h = ((tt, λ x m. elim m [ ]), λ x m. elim m [ ])
columns_none_new known before (x ∷ xs) h =
    let a = first_none _ _ h in
    let b = first_none _ _ a.1 in
    let r = columns_none_new known (before ++ x ∷ []) xs (none_of _ b.1) in
    (new_more before xs x (not_among x before (if_none _ _ b.0)) r.0, inside r.1 (among_in x known (not_none _ _ a.0)))
  where
    inside : xs ⊆ known → x ∈ known → (x ∷ xs) ⊆ known
    inside s k y (here e) = rw (← e) k
    inside s k y (there m) = s y m

distinct_left : (xs ys : List Text) → Distinct (xs ++ ys) → Distinct xs
distinct_left [] ys d = tt
distinct_left (x ∷ xs) ys d = ((λ m. d.0 (in_left ys m)), distinct_left xs ys d.1)

-- ---- columns

abbrev id_name : Text
id_name = codes "#id"

abbrev up_name : Text
up_name = codes "#up"

distinct_columns : (i : Forest) (p : Option ℕ) (columns rest : List Text) → Distinct (id_name ∷ up_name ∷ (columns ++ rest)) → Distinct (where_has_inner i id_name ++ (where_inner p up_name ++ columns))
distinct_columns none None columns rest d = distinct_left columns rest d.1.1
distinct_columns none (Some p) columns rest d = ((λ m. d.1.0 (in_left rest m)), distinct_left columns rest d.1.1)
distinct_columns (set l i r) None columns rest d = ((λ m. d.0 (there (in_left rest m))), distinct_left columns rest d.1.1)
distinct_columns (set l i r) (Some p) columns rest d = (no_id, ((λ m. d.1.0 (in_left rest m)), distinct_left columns rest d.1.1))
  where
    no_id : ¬ (id_name ∈ (up_name ∷ columns))
    no_id (here e) = d.0 (here e)
    no_id (there m) = d.0 (there (in_left rest m))

declared_inside : (s : NumberedSet) → s.label.columns ⊆ columns_of s
declared_inside s x m = in_right (where_has_inner s.inner id_name) (in_right (where_inner s.parent up_name) m)

id_inside : (s : NumberedSet) → has_sets s.inner ≡ true → id_name ∈ columns_of s
id_inside s h = go s.inner h
  where
    go : (i : Forest) → has_sets i ≡ true → id_name ∈ (where_has_inner i id_name ++ (where_inner s.parent up_name ++ s.label.columns))
    go none e = absurd (false≢true e)
    go (set l i r) e = here refl

up_inside : (s : NumberedSet) (p : ℕ) → s.parent ≡ Some p → up_name ∈ columns_of s
up_inside s p e = in_right (where_has_inner s.inner id_name) (rw e (here refl))

-- ---- numbers of names

number_at : (x : Text) (xs : List Text) → x ∈ xs → get_or xs (number_of_name x xs) [] ≡ x
number_at x [] m = elim m [ ]
number_at x (y ∷ ys) m = go (pointwise nat_eq y x) refl m (number_at x ys)
  where
    go : (b : Bool) → pointwise nat_eq y x ≡ b → x ∈ (y ∷ ys) → (x ∈ ys → get_or ys (number_of_name x ys) [] ≡ x) → get_or (y ∷ ys) (cond b 0 (suc (number_of_name x ys))) [] ≡ x
    go true e n f = same_text y x (sym e)
    go false e (here d) f = absurd (other_text y x (sym e) d)
    go false e (there n) f = f n

distinct_map : (f : Text → ℕ) (xs : List Text) → ((x y : Text) → x ∈ xs → y ∈ xs → f x ≡ f y → x ≡ y) → Distinct xs → Distinct (map f xs)
distinct_map f [] one d = tt
distinct_map f (x ∷ xs) one d = (new, distinct_map f xs (λ y z m n. one y z (there m) (there n)) d.1)
  where
    new : ¬ (f x ∈ map f xs)
    new m = let r = from_map f xs m in d.0 (rw (one x r.0 (here refl) (there r.1) (sym r.2)) r.1)

-- the numbers of distinct names of columns
numbers_fit : (columns names : List Text) → names ⊆ columns → Distinct names → AllInside (numbers_of_names names columns) (length columns) × Distinct (numbers_of_names names columns)
numbers_fit columns names s d = (within, distinct_map (λ x. number_of_name x columns) names one d)
  where
    within : AllInside (numbers_of_names names columns) (length columns)
    within c m =
        let r = from_map (λ x. number_of_name x columns) names {y = c} m in
        rw (← r.2) (among_number r.0 columns (in_among r.0 columns (s r.0 r.1)))

    one : (x y : Text) → x ∈ names → y ∈ names → number_of_name x columns ≡ number_of_name y columns → x ≡ y
    one x y m n e = sym (number_at x columns (s x m)) ∙ ap (λ k. get_or columns k []) e ∙ number_at y columns (s y n)

-- ---- sets, one by one

set_ok : (before : List Text) (s : NumberedSet) → set_fault before s ≡ None
    → (¬ (s.label.name ∈ before)) × (1 ≤ length s.label.columns) × (length (columns_of s) ≤ 64) × Distinct (names_within s)
set_ok before s h =
    let a = first_none _ _ h in
    let b = first_none _ _ a.1 in
    let c = first_none _ _ b.1 in
    (not_among s.label.name before (if_none _ _ a.0), some (length s.label.columns) (if_none _ _ b.0), ltb-false 64 (length (columns_of s)) (if_none _ _ c.0), (twice_none_new [] (names_within s) (none_of _ c.1)).0)
  where
    some : (n : ℕ) → eqb n 0 ≡ false → 1 ≤ n
    some zero e = absurd cc
    some (suc n) e = omega arith

-- each set has no fault after those before it, and their names differ
sets_ok : (before : List Text) (sets : List NumberedSet) → sets_fault before sets ≡ None
    → AreNew before (names_of sets) × ((s : NumberedSet) → s ∈ sets → (b : List Text) × (set_fault b s ≡ None))
sets_ok before [] h = ((tt, λ x m. elim m [ ]), λ x m. elim m [ ])
sets_ok before (s ∷ sets) h =
    let a = first_none _ _ h in
    let r = sets_ok (before ++ s.label.name ∷ []) sets (none_of _ a.1) in
    (new_more before (names_of sets) s.label.name (set_ok before s a.0).0 r.0, each a.0 r.1)
  where
    each : set_fault before s ≡ None → ((t : NumberedSet) → t ∈ sets → (b : List Text) × (set_fault b t ≡ None)) → (t : NumberedSet) → t ∈ (s ∷ sets) → (b : List Text) × (set_fault b t ≡ None)
    each e f t (here d) = (before, rw (← d) e)
    each e f t (there m) = f t m

-- ---- the parents of inner sets

-- the set's parent is one of these sets, of which the first has number n, and has inner sets
abbrev HasParent : ℕ → List NumberedSet → NumberedSet → Type 0
HasParent n sets s = (k : ℕ) × (s.parent ≡ Some (n + k)) × (k < length sets) × (has_sets (get_or sets k s).inner ≡ true)

some_set : (p : Option ℕ) (n : ℕ) (f : Forest) (s : NumberedSet) → s ∈ numbered_sets p n f → has_sets f ≡ true
some_set p n none s m = elim m [ ]
some_set p n (set l i r) s m = refl

parent_here : (p : Option ℕ) (n : ℕ) (l : Label) (i : Forest) (more : List NumberedSet) (s : NumberedSet) → has_sets i ≡ true → s.parent ≡ Some n → HasParent n (record { label = l; number = n; parent = p; inner = i } ∷ more) s
parent_here p n l i more s h e = (0, e ∙ ap Some (omega arith), omega arith, h)

parent_first : (n : ℕ) (first : NumberedSet) (left right : List NumberedSet) (s : NumberedSet) → HasParent (suc n) left s → HasParent n (first ∷ (left ++ right)) s
parent_first n first left right s h =
    let at : get_or (left ++ right) h.0 s ≡ get_or left h.0 s = get_or_append_left left right s h.0 h.2 in
    (suc h.0, h.1 ∙ ap Some (omega arith), omega (arith, h.2, length-append left right), ap (λ (q : NumberedSet). has_sets q.inner) at ∙ h.3)

parent_second : (n m : ℕ) (first : NumberedSet) (left right : List NumberedSet) (s : NumberedSet) → m ≡ suc (n + length left) → HasParent m right s → HasParent n (first ∷ (left ++ right)) s
parent_second n m first left right s e h =
    let at : get_or (left ++ right) (length left + h.0) s ≡ get_or right h.0 s = get_or-append-add left right h.0 s in
    (suc (length left + h.0), h.1 ∙ ap Some (omega (arith, e)), omega (arith, h.2, length-append left right), ap (λ (q : NumberedSet). has_sets q.inner) at ∙ h.3)

parent_of : (p : Option ℕ) (n : ℕ) (f : Forest) (s : NumberedSet) → s ∈ numbered_sets p n f → (s.parent ≡ p) ⊎ HasParent n (numbered_sets p n f) s
parent_of p n none s m = elim m [ ]
parent_of p n (set l i r) s (here e) = inl (rw (← e) refl)
parent_of p n (set l i r) s (there m) =
    elim (from_append (numbered_sets (Some n) (suc n) i) m) [
      | inl a ↦ elim (parent_of (Some n) (suc n) i s a) [
        | inl e ↦ inr (parent_here p n l i _ s (some_set (Some n) (suc n) i s a) e)
        | inr h ↦ inr (parent_first n _ (numbered_sets (Some n) (suc n) i) (numbered_sets p (suc (n + count i)) r) s h)
      ]
      | inr b ↦ elim (parent_of p (suc (n + count i)) r s b) [
        | inl e ↦ inl e
        | inr h ↦ inr (parent_second n (suc (n + count i)) _ (numbered_sets (Some n) (suc n) i) (numbered_sets p (suc (n + count i)) r) s (let e = length_placed (Some n) (suc n) i in omega (arith, e)) h)
      ]
    ]

-- ---- keys and dependencies

-- a set without a fault of its own
record IsSound (s : NumberedSet) : Type 0 where
  some_column : 1 ≤ length s.label.columns
  few_columns : length (columns_of s) ≤ 64
  columns : Distinct (columns_of s)
  no_id : ¬ (id_name ∈ s.label.columns)
  no_up : ¬ (up_name ∈ s.label.columns)

sound_of : (before : List Text) (s : NumberedSet) → set_fault before s ≡ None → IsSound s
sound_of before s h =
    let o = set_ok before s h in
    record {
      some_column = o.1;
      few_columns = o.2;
      columns = distinct_columns s.inner s.parent s.label.columns (level_names s.inner) o.3;
      no_id = λ m. o.3.0 (there (in_left (level_names s.inner) m));
      no_up = λ m. o.3.1.0 (in_left (level_names s.inner) m);
    }

-- names of columns, at least one, and each once
abbrev AreNames : NumberedSet → List Text → Type 0
AreNames s names = (1 ≤ length names) × (names ⊆ columns_of s) × Distinct names

alone : (s : NumberedSet) (x : Text) → x ∈ columns_of s → AreNames s (x ∷ [])
alone s x m = (omega arith, (λ y n. one y n), ((λ n. elim n [ ]), tt))
  where
    one : (y : Text) → y ∈ (x ∷ []) → y ∈ columns_of s
    one y (here e) = rw (← e) m
    one y (there n) = elim n [ ]

-- declared columns, of an inner set with `#up` in front
with_up : (s : NumberedSet) (names : List Text) → IsSound s → 1 ≤ length names → (names ⊆ s.label.columns) → Distinct names → AreNames s (where_inner s.parent up_name ++ names)
with_up s names sound some inside d = go s.parent refl
  where
    at : (p : ℕ) → s.parent ≡ Some p → (x : Text) → x ∈ (up_name ∷ names) → x ∈ columns_of s
    at p e x (here k) = rw (← k) (up_inside s p e)
    at p e x (there m) = declared_inside s x (inside x m)

    go : (p : Option ℕ) → s.parent ≡ p → AreNames s (where_inner p up_name ++ names)
    go None e = (some, (λ x m. declared_inside s x (inside x m)), d)
    go (Some p) e = (omega arith, at p e, ((λ m. sound.no_up (inside up_name m)), d))

columns_fit : (s : NumberedSet) (names : List Text) → AreNames s names → AreColumns (length (columns_of s)) (numbers_of_names names (columns_of s))
columns_fit s names h =
    let n = numbers_fit (columns_of s) names h.1 h.2 in
    record { some = omega (arith, h.0, length-map names (λ x. number_of_name x (columns_of s))); within = n.0; distinct = n.1 }

-- the columns of a key without a fault
key_columns : (s : NumberedSet) (k : KeyDecl) → key_fault s k ≡ None → (1 ≤ length k.columns) × AreNew [] k.columns × (k.columns ⊆ s.label.columns)
key_columns s k h =
    let r = two_none (fault_if (eqb (length k.columns) 0) (Bad (BadLink s.label.name))) (columns_fault s.label.columns [] k.columns) h in
    let c = columns_none_new s.label.columns [] k.columns r.1 in
    (not_empty k.columns (if_none _ _ r.0), c.0, c.1)

keys_fit : (s : NumberedSet) → IsSound s → first_of (map (key_fault s) s.label.keys) ≡ None → (k : Key) → k ∈ keys_in s → AreColumns (length (columns_of s)) k.columns
keys_fit s sound h k m =
    let r = from_map (key_named s) (where_has_inner s.inner (id_name ∷ []) ++ map (λ (d : KeyDecl). where_inner s.parent up_name ++ d.columns) s.label.keys) {y = k} m in
    subst (λ (y : Key). AreColumns (length (columns_of s)) y.columns) r.2 (columns_fit s r.0 (elim (from_append (where_has_inner s.inner (id_name ∷ [])) r.1) [
      | inl a ↦ first s.inner refl r.0 a
      | inr b ↦ declared r.0 b
    ]))
  where
    only : (x : List Text) → id_name ∈ columns_of s → x ∈ ((id_name ∷ []) ∷ []) → AreNames s x
    only x i (here e) = rw (← e) (alone s id_name i)
    only x i (there n) = elim n [ ]

    first : (i : Forest) → s.inner ≡ i → (x : List Text) → x ∈ where_has_inner i (id_name ∷ []) → AreNames s x
    first none e x a = elim a [ ]
    first (set l j r) e x a = only x (id_inside s (ap has_sets e)) a

    declared : (x : List Text) → x ∈ map (λ (d : KeyDecl). where_inner s.parent up_name ++ d.columns) s.label.keys → AreNames s x
    declared x b =
        let d = from_map (λ (d : KeyDecl). where_inner s.parent up_name ++ d.columns) s.label.keys {y = x} b in
        let f = key_columns s d.0 (each_none (key_fault s) s.label.keys h d.0 d.1) in
        subst (AreNames s) d.2 (with_up s d.0.columns sound f.0 f.2 f.1.0)

-- the columns of a dependency without a fault, on both sides
record IsNamedDep (s : NumberedSet) (d : DepDecl) : Type 0 where
  some_columns : 1 ≤ length d.columns
  some_decided : 1 ≤ length d.decides
  columns : AreNew [] d.columns × (d.columns ⊆ s.label.columns)
  decides : AreNew [] d.decides × (d.decides ⊆ s.label.columns)

dep_columns : (s : NumberedSet) (d : DepDecl) → dep_fault s d ≡ None → IsNamedDep s d
dep_columns s d h =
    let f1 = fault_if (eqb (length d.columns) 0 || eqb (length d.decides) 0) (Bad (BadLink s.label.name)) in
    let f2 = columns_fault s.label.columns [] d.columns in
    let f3 = columns_fault s.label.columns [] d.decides in
    let a = first_none f1 (f2 ∷ f3 ∷ []) h in
    let b = two_none f2 f3 a.1 in
    let some = neither (eqb (length d.columns) 0) (eqb (length d.decides) 0) (if_none _ _ a.0) in
    record {
      some_columns = not_empty d.columns some.0;
      some_decided = not_empty d.decides some.1;
      columns = columns_none_new s.label.columns [] d.columns b.0;
      decides = columns_none_new s.label.columns [] d.decides b.1;
    }

deps_fit : (s : NumberedSet) → IsSound s → first_of (map (dep_fault s) s.label.deps) ≡ None → (d : Dep) → d ∈ deps_in s → IsDep (length (columns_of s)) d
deps_fit s sound h d m =
    let r = from_map (dep_named s) s.label.deps {y = d} m in
    let f = dep_columns s r.0 (each_none (dep_fault s) s.label.deps h r.0 r.1) in
    subst (IsDep (length (columns_of s))) r.2 (record {
      columns = columns_fit s (where_inner s.parent up_name ++ r.0.columns) (with_up s r.0.columns sound f.some_columns f.columns.1 f.columns.0.0);
      decides = columns_fit s r.0.decides (f.some_decided, (λ x n. declared_inside s x (f.decides.1 x n)), f.decides.0.0);
    })

-- ---- links

-- the columns of a table are those of its set
pub columns_are : (all sets : List NumberedSet) → map (λ (t : TableOf). t.columns) (map (table_in all) sets) ≡ map columns_of sets
columns_are all [] = refl
columns_are all (s ∷ sets) = ap (λ cs. columns_of s ∷ cs) (columns_are all sets)

names_are : (all sets : List NumberedSet) → map (λ (t : TableOf). t.name) (map (table_in all) sets) ≡ names_of sets
names_are all [] = refl
names_are all (s ∷ sets) = ap (λ ns. s.label.name ∷ ns) (names_are all sets)

columns_at-is : (sets : List NumberedSet) (t : ℕ) (d : NumberedSet) → t < length sets → columns_at sets t ≡ columns_of (get_or sets t d)
columns_at-is sets t d lt = get_or-map columns_of sets t d [] lt

declared_at-is : (sets : List NumberedSet) (t : ℕ) (d : NumberedSet) → t < length sets → declared_at sets t ≡ (get_or sets t d).label.columns
declared_at-is sets t d lt = get_or-map (λ (s : NumberedSet). s.label.columns) sets t d [] lt

-- a link by names
record IsNamedLink (sets : List NumberedSet) (s : NumberedSet) (t : ℕ) (mine theirs : List Text) : Type 0 where
  table : t < length sets
  same_length : length mine ≡ length theirs
  own : AreNames s mine
  inside : theirs ⊆ columns_at sets t
  distinct : Distinct theirs

link_fits : (sets : List NumberedSet) (s : NumberedSet) (t : ℕ) (own referred : List Text) → IsNamedLink sets s t own referred
    → IsLink (map (table_in sets) sets) (length (columns_of s)) (record { from = numbers_of_names own (columns_of s); table = t; to = numbers_of_names referred (columns_at sets t) })
link_fits sets s t own referred h =
    let a = numbers_fit (columns_of s) own h.own.1 h.own.2 in
    let b = numbers_fit (columns_at sets t) referred h.inside h.distinct in
    record {
      table = rw (length-map sets (table_in sets)) h.table;
      some = omega (arith, h.own.0, length-map own (λ x. number_of_name x (columns_of s)));
      same_length = length-map own (λ x. number_of_name x (columns_of s)) ∙ h.same_length ∙ sym (length-map referred (λ x. number_of_name x (columns_at sets t)));
      from = a.0;
      to = rw (columns_are sets sets) b.0;
      from_distinct = a.1;
      to_distinct = b.1;
    }

-- the link of a ref
ref_fits : (sets : List NumberedSet) (s : NumberedSet) (r : RefDecl) → ref_fault sets s r ≡ None → IsNamedLink sets s (number_of_name r.set (names_of sets)) r.columns r.referred
ref_fits sets s r h =
    let t = number_of_name r.set (names_of sets) in
    let f1 = fault_if (eqb (length r.columns) 0 || eqb (length r.referred) 0) (Bad (BadLink s.label.name)) in
    let f2 = columns_fault s.label.columns [] r.columns in
    let f3 = fault_if (not (is_among r.set (names_of sets))) (Bad (UnknownName r.set)) in
    let f4 = columns_fault (declared_at sets t) [] r.referred in
    let f5 = fault_if (not (eqb (length r.columns) (length r.referred))) (Bad (BadLink s.label.name)) in
    let a = first_none f1 (f2 ∷ f3 ∷ f4 ∷ f5 ∷ []) h in
    let b = first_none f2 (f3 ∷ f4 ∷ f5 ∷ []) a.1 in
    let c = first_none f3 (f4 ∷ f5 ∷ []) b.1 in
    let d = first_none f4 (f5 ∷ []) c.1 in
    let some = not_empty r.columns (neither (eqb (length r.columns) 0) (eqb (length r.referred) 0) (if_none _ _ a.0)).0 in
    let own = columns_none_new s.label.columns [] r.columns b.0 in
    let there_is : is_among r.set (names_of sets) ≡ true = not_none (is_among r.set (names_of sets)) (Bad (UnknownName r.set)) c.0 in
    let lt : t < length sets = omega (arith, among_number r.set (names_of sets) there_is, length-map sets (λ (q : NumberedSet). q.label.name)) in
    let to = columns_none_new (declared_at sets t) [] r.referred d.0 in
    record {
      table = lt;
      same_length = eqb-true (length r.columns) (length r.referred) (not_none (eqb (length r.columns) (length r.referred)) (Bad (BadLink s.label.name)) (none_of f5 d.1));
      own = (some, (λ x m. declared_inside s x (own.1 x m)), own.0.0);
      inside = λ x m. rw (columns_at-is sets t s lt) (declared_inside (get_or sets t s) x (rw (← declared_at-is sets t s lt) (to.1 x m)));
      distinct = to.0.0;
    }

-- the link of an inner set to its parent
up_fits : (sets : List NumberedSet) (s : NumberedSet) (p : ℕ) → s.parent ≡ Some p → p < length sets → has_sets (get_or sets p s).inner ≡ true → IsNamedLink sets s p (up_name ∷ []) (id_name ∷ [])
up_fits sets s p e lt h = record {
  table = lt;
  same_length = refl;
  own = alone s up_name (up_inside s p e);
  inside = λ x m. rw (columns_at-is sets p s lt) ((alone (get_or sets p s) id_name (id_inside (get_or sets p s) h)).1 x m);
  distinct = ((λ n. elim n [ ]), tt);
}

-- the links of a set's table and its optional ones are of its refs
abbrev every_ref : List NumberedSet → NumberedSet → List Link
every_ref sets s = link_up sets s s.parent ++ map (link_of sets s) s.label.refs

of_some_refs : (sets : List NumberedSet) (s : NumberedSet) (p : RefDecl → Bool) (l : Link) → l ∈ map (link_of sets s) (filter p s.label.refs) → l ∈ every_ref sets s
of_some_refs sets s p l m =
    let r = from_map (link_of sets s) (filter p s.label.refs) {y = l} m in
    in_right (link_up sets s s.parent) (subst (λ (x : Link). x ∈ map (link_of sets s) s.label.refs) r.2 (in_map (link_of sets s) (from_filter p s.label.refs r.1).0))

of_links : (sets : List NumberedSet) (s : NumberedSet) (l : Link) → l ∈ links_in sets s → l ∈ every_ref sets s
of_links sets s l n = elim (from_append (link_up sets s s.parent) n) [
  | inl a ↦ in_left (map (link_of sets s) s.label.refs) a
  | inr b ↦ of_some_refs sets s (λ r. not r.optional) l b
]

links_fit : (f : Forest) (s : NumberedSet) → s ∈ sets_of f → first_of (map (ref_fault (sets_of f) s) s.label.refs) ≡ None
    → (l : Link) → l ∈ every_ref (sets_of f) s → IsLink (map (table_in (sets_of f)) (sets_of f)) (length (columns_of s)) l
links_fit f s m h l n =
    elim (from_append (link_up (sets_of f) s s.parent) n) [
      | inl a ↦ up s.parent refl a
      | inr b ↦ referring b
    ]
  where
    referring : l ∈ map (link_of (sets_of f) s) s.label.refs → IsLink (map (table_in (sets_of f)) (sets_of f)) (length (columns_of s)) l
    referring b =
        let r = from_map (link_of (sets_of f) s) s.label.refs {y = l} b in
        subst (IsLink (map (table_in (sets_of f)) (sets_of f)) (length (columns_of s))) r.2
        (link_fits (sets_of f) s (number_of_name r.0.set (names_of (sets_of f))) r.0.columns r.0.referred (ref_fits (sets_of f) s r.0 (each_none (ref_fault (sets_of f) s) s.label.refs h r.0 r.1)))

    only : (p : ℕ) → s.parent ≡ Some p → l ∈ link_up (sets_of f) s (Some p) → IsLink (map (table_in (sets_of f)) (sets_of f)) (length (columns_of s)) l
    only p e (there b) = elim b [ ]
    only p e (here k) = subst (IsLink (map (table_in (sets_of f)) (sets_of f)) (length (columns_of s))) k (elim (parent_of None 0 f s m) [
      | inl no_parent ↦ absurd (let w : None ≡ Some p = sym no_parent ∙ e in cc)
      | inr q ↦
          let same : q.0 ≡ p = (let w : Some (0 + q.0) ≡ Some p = sym q.1 ∙ e in let v : 0 + q.0 ≡ p = cc in omega (arith, v)) in
          link_fits (sets_of f) s p (up_name ∷ []) (id_name ∷ []) (up_fits (sets_of f) s p e (rw (← same) q.2) (rw (← same) q.3))
    ])

    up : (p : Option ℕ) → s.parent ≡ p → l ∈ link_up (sets_of f) s p → IsLink (map (table_in (sets_of f)) (sets_of f)) (length (columns_of s)) l
    up None e b = elim b [ ]
    up (Some p) e b = only p e b

-- ---- the whole

rules_none : (sets : List NumberedSet) (s : NumberedSet) → declarations_fault sets s ≡ None
    → (first_of (map (key_fault s) s.label.keys) ≡ None) × (first_of (map (dep_fault s) s.label.deps) ≡ None) × (first_of (map (ref_fault sets s) s.label.refs) ≡ None)
rules_none sets s h =
    let keys = first_of (map (key_fault s) s.label.keys) in
    let deps = first_of (map (dep_fault s) s.label.deps) in
    let refs = first_of (map (ref_fault sets s) s.label.refs) in
    let a = first_none keys (deps ∷ refs ∷ []) h in
    let b = two_none deps refs a.1 in
    (a.0, b.0, b.1)

-- sets without a fault of form make tables as every schema has them
pub are_tables : (f : Forest) → form_fault f ≡ None → AreTables (tables_of f)
are_tables f h =
    let a = first_none _ _ h in
    let b = first_none _ _ a.1 in
    let size = first_none _ _ a.0 in
    let sets = sets_ok [] (sets_of f) b.0 in
    let rules = none_of _ b.1 in
    record {
      few_tables = let l = ltb-false 64 (count f) (if_none _ _ size.0) in omega (arith, l, length-map (sets_of f) (table_in (sets_of f)), length_placed None 0 f);
      distinct_names = rw (names_are (sets_of f) (sets_of f)) sets.0.0;
      each_table = λ t m. of_table (from_map (table_in (sets_of f)) (sets_of f) {y = t} m) sets.1 rules;
    }
  where
    of_table : {t : TableOf} → (s : NumberedSet) × (s ∈ sets_of f) × (table_in (sets_of f) s ≡ t) → ((s : NumberedSet) → s ∈ sets_of f → (b : List Text) × (set_fault b s ≡ None))
        → first_of (map (declarations_fault (sets_of f)) (sets_of f)) ≡ None → IsSchemaTable (tables_of f) t
    of_table q sets rules =
        let o = sets q.0 q.1 in
        let sound = sound_of o.0 q.0 o.1 in
        let r = rules_none (sets_of f) q.0 (each_none (declarations_fault (sets_of f)) (sets_of f) rules q.0 q.1) in
        let wide : 1 ≤ length (columns_of q.0) = omega (arith, sound.some_column, length-append (where_has_inner q.0.inner id_name) (where_inner q.0.parent up_name ++ q.0.label.columns), length-append (where_inner q.0.parent up_name) q.0.label.columns) in
        subst (IsSchemaTable (tables_of f)) q.2 (record {
          some_column = wide;
          few_columns = sound.few_columns;
          distinct_columns = sound.columns;
          keys = keys_fit q.0 sound r.0;
          deps = deps_fit q.0 sound r.1;
          links = λ l n. links_fit f q.0 q.1 r.2 l (of_links (sets_of f) q.0 l n);
          optional = λ l n. links_fit f q.0 q.1 r.2 l (of_some_refs (sets_of f) q.0 (λ d. d.optional) l n);
        })
