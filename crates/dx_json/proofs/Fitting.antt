-- The sets below a root, and that what is said of it fits their tables.
use Rattle.std.proofs.Common.{◌≡◌, ℕ, suc, ◌+◌, ◌<◌, ◌≤◌, List, [], ◌∷◌, ◌++◌, Option, Some, None, Bool, true, false, length, map, get_or, refl, sym, ap, ◌∙◌, subst, arith, inl, inr}
use Rattle.std.specs.Prelude.{⊤, if◌then◌else◌}
use Rattle.std.specs.Fmt.{decimal}
use Rattle.std.proofs.lemmas.List.{get_or-map, length-map}
use Rattle.serde_json.specs.Data.{Data, null, boolean, number, string, array, object, Items, no_items, item, Members, no_members, member}
use Rattle.dx_base.specs.Members.{◌∈◌, here, there}
use Rattle.dx_base.proofs.Members.{from_append, in_at, in_left, in_map, in_right}
use Rattle.dx_model.specs.declared.values.Value.{Value}
use Rattle.dx_model.specs.declared.facts.Fact.{Fact}
use Rattle.dx_model.specs.Tables.{FactFits, IsInstance}
use Rattle.dx_schema.specs.Forest.{Label, Forest, Tree, none, set}
use Rattle.dx_schema.specs.Tables.{NumberedSet, TableOf, as_numbers, columns_of, count, model_tables, nowhere, numbered_sets, schema_widths, sets_of, schema_table, table_in, tables_of, tree_at, tree_of, where_has_inner}
use Rattle.dx_schema.proofs.Preorder.{length_placed}
use Rattle.dx_schema.proofs.Inner.{table_of_set, number_at}
use Rattle.dx_instance.specs.Stored.{TableRows, widths}
use Rattle.dx_instance.specs.Stored.{table_at as stored_at}
use Rattle.dx_json.specs.declared.place.Place.{Place}
use Rattle.dx_json.specs.Said.{DocumentItem, says, wrong_shape, wrong_number, unknown_member, MemberValue, constant, no_integer, no_constant, path_below, column_faults, object_constants, id_of, is_known, items_say, item_says, member_says, object_says, reading_faults, object_row, sets_say, unknown_members, up_cell}
use Rattle.dx_json.specs.Documents.{document_says, tree_says}
use Rattle.dx_json.specs.Laws.{DocumentFactsFit}
use Rattle.dx_json.specs.Nesting.{own_from}
use Rattle.dx_json.specs.Orders.{HasColumns}
use Rattle.dx_json.specs.Standing.{Stand}

-- ---- the sets of a schema

-- the sets of a level, of which the first has this number, are among those of the schema
abbrev pub Within : Forest → Option ℕ → ℕ → Forest → Type 0
Within f p n g = (s : NumberedSet) → s ∈ numbered_sets p n g → s ∈ sets_of f

inner_within : (p : Option ℕ) (n : ℕ) (g : Forest) (s u : NumberedSet) → s ∈ numbered_sets p n g → u ∈ numbered_sets (Some s.number) (suc s.number) s.inner → u ∈ numbered_sets p n g
inner_within p n none s u m v = elim m [ ]
inner_within p n (set l i r) s u (here e) v =
    there (in_left (numbered_sets p (suc (n + count i)) r) (subst (λ (q : NumberedSet). u ∈ numbered_sets (Some q.number) (suc q.number) q.inner) (sym e) v))
inner_within p n (set l i r) s u (there m) v =
    elim (from_append (numbered_sets (Some n) (suc n) i) m) [
      | inl a ↦ there (in_left (numbered_sets p (suc (n + count i)) r) (inner_within (Some n) (suc n) i s u a v))
      | inr b ↦ there (in_right (numbered_sets (Some n) (suc n) i) (inner_within p (suc (n + count i)) r s u b v))
    ]

-- the set with a number
abbrev set_at : Forest → ℕ → NumberedSet
set_at f t = get_or (sets_of f) t nowhere

set_in : (f : Forest) (t : ℕ) → t < length (tables_of f) → set_at f t ∈ sets_of f
set_in f t lt = in_at (sets_of f) t nowhere (omega (arith, lt, length-map (sets_of f) (table_in (sets_of f))))

set_number : (f : Forest) (t : ℕ) → t < length (tables_of f) → (set_at f t).number ≡ t
set_number f t lt = number_at None 0 f t nowhere (omega (arith, lt, length-map (sets_of f) (table_in (sets_of f)), length_placed None 0 f)) ∙ omega arith

-- its inner sets
below_within : (f : Forest) (t : ℕ) → t < length (tables_of f) → Within f (Some t) (suc t) (tree_at f t).inner
below_within f t lt u m =
    inner_within None 0 f (set_at f t) u (set_in f t lt) (subst (λ k. u ∈ numbered_sets (Some k) (suc k) (set_at f t).inner) (sym (set_number f t lt)) m)

-- those of a set of a level, and the sets after it
within_set : (f : Forest) (p : Option ℕ) (n : ℕ) (l : Label) (i r : Forest) → Within f p n (set l i r) → Within f (Some n) (suc n) i
within_set f p n l i r w u m = w u (there (in_left (numbered_sets p (suc (n + count i)) r) m))

within_rest : (f : Forest) (p : Option ℕ) (n : ℕ) (l : Label) (i r : Forest) → Within f p n (set l i r) → Within f p (suc (n + count i)) r
within_rest f p n l i r w u m = w u (there (in_right (numbered_sets (Some n) (suc n) i) m))

-- ---- the tables of an instance

stored_width : (I : List TableRows) (f : Forest) (s : NumberedSet) → widths I ≡ schema_widths f → s ∈ sets_of f → (s.number < length I) × ((stored_at I s.number).width ≡ length (columns_of s))
stored_width I f s e m =
    let t = table_of_set f s m in
    let many : length I ≡ length (tables_of f) = sym (length-map I (λ (t : TableRows). t.width)) ∙ ap length e ∙ length-map (tables_of f) (λ (t : TableOf). length t.columns) in
    let lt : s.number < length I = omega (arith, t.0, many) in
    let mine : get_or (widths I) s.number 0 ≡ (stored_at I s.number).width = get_or-map (λ (t : TableRows). t.width) I s.number _ 0 lt in
    let theirs : get_or (schema_widths f) s.number 0 ≡ length (schema_table f s.number).columns = get_or-map (λ (t : TableOf). length t.columns) (tables_of f) s.number _ 0 t.0 in
    (lt, sym mine ∙ ap (λ ws. get_or ws s.number 0) e ∙ theirs ∙ ap (λ (t : TableOf). length t.columns) t.1)

inner_long : (l : Label) (n p : ℕ) (i : Forest) → own_from i true + length l.columns ≡ length (columns_of (record { label = l; number = n; parent = Some p; inner = i }))
inner_long l n p none = omega arith
inner_long l n p (set m i r) = omega arith

stand : (I : List TableRows) (f : Forest) (p n : ℕ) (g : Forest) → widths I ≡ schema_widths f → Within f (Some p) n g → Stand I n g
stand I f p n none e w = tt
stand I f p n (set l i r) e w =
    let h = stored_width I f (record { label = l; number = n; parent = Some p; inner = i }) e (w _ (here refl)) in
    let u = inner_long l n p i in
    (h.0, omega (arith, h.1, u), stand I f n (suc n) i e (within_set f (Some p) n l i r w), stand I f p (suc (n + count i)) r e (within_rest f (Some p) n l i r w))

own_within : (l : Label) (n : ℕ) (parent : Option ℕ) (i : Forest) → own_from i false + length l.columns ≤ length (columns_of (record { label = l; number = n; parent = parent; inner = i }))
own_within l n None none = omega arith
own_within l n None (set m i r) = omega arith
own_within l n (Some p) none = omega arith
own_within l n (Some p) (set m i r) = omega arith

-- a root's table has its columns
pub root_columns : (I J : List TableRows) (f : Forest) (t : ℕ) (tree : Tree) → widths I ≡ schema_widths f → t < length (tables_of f) → tree ≡ tree_at f t → J ≡ I → HasColumns J t tree
root_columns I J f t tree e lt is j =
    let s = set_at f t in
    let wide = stored_width I f s e (set_in f t lt) in
    let number = set_number f t lt in
    let own = own_within s.label s.number s.parent s.inner in
    rw (j, is) (omega (arith, own, wide.1, ap (λ k. (stored_at I k).width) number))

-- the tables of a root's inner sets are there
pub sets_stand : (I J : List TableRows) (f : Forest) (t next : ℕ) (tree : Tree) (inner : Forest) → widths I ≡ schema_widths f → t < length (tables_of f) → tree ≡ tree_at f t → J ≡ I → inner ≡ tree.inner → next ≡ suc t
    → Stand J next inner
sets_stand I J f t next tree inner e lt is j i n = rw (j, i, n, is) (stand I f t (suc t) (tree_at f t).inner e (below_within f t lt))

-- ---- facts

abbrev Fit : Forest → List DocumentItem → Type 0
Fit f xs = (fact : Fact) → says fact ∈ xs → FactFits (model_tables f) fact

fact_fits : (f : Forest) (s : NumberedSet) (fact : Fact) → s ∈ sets_of f → fact.table ≡ s.number → length fact.row ≡ length (columns_of s) → FactFits (model_tables f) fact
fact_fits f s fact m e long =
    let t = table_of_set f s m in
    let wide : (get_or (model_tables f) s.number _).width ≡ length (schema_table f s.number).columns = ap (λ t. t.width) (get_or-map as_numbers (tables_of f) s.number _ _ t.0) in
    record {
      table = omega (arith, e, t.0, length-map (tables_of f) as_numbers);
      width = rw e (long ∙ sym (wide ∙ ap (λ (t : TableOf). length t.columns) t.1));
    }

fit_both : (f : Forest) (xs ys : List DocumentItem) → Fit f xs → Fit f ys → Fit f (xs ++ ys)
fit_both f xs ys a b fact m = elim (from_append xs m) [ inl l ↦ a fact l | inr r ↦ b fact r ]

fit_more : (f : Forest) (x : Fact) (xs : List DocumentItem) → FactFits (model_tables f) x → Fit f xs → Fit f (says x ∷ xs)
fit_more f x xs a b fact (here e) = let same : x ≡ fact = cc e in subst (FactFits (model_tables f)) same a
fit_more f x xs a b fact (there m) = b fact m

fit_none : (f : Forest) → Fit f []
fit_none f fact m = elim m [ ]

fit_shape : (f : Forest) (path : List ℕ) → Fit f (wrong_shape path ∷ [])
fit_shape f path fact (here e) = absurd (cc e)
fit_shape f path fact (there m) = elim m [ ]

fit_number : (f : Forest) (path : List ℕ) → Fit f (wrong_number path ∷ [])
fit_number f path fact (here e) = absurd (cc e)
fit_number f path fact (there m) = elim m [ ]

fit_reading : (f : Forest) (path : List ℕ) (r : MemberValue) → Fit f (reading_faults path r)
fit_reading f path (constant t) = fit_none f
fit_reading f path no_integer = fit_number f path
fit_reading f path no_constant = fit_shape f path

fit_columns : (f : Forest) (path : List ℕ) (cs : List (List ℕ)) (ms : Members) → Fit f (column_faults path cs ms)
fit_columns f path [] ms = fit_none f
fit_columns f path (c ∷ cs) ms = fit_both f _ _ (fit_reading f (path_below path c) _) (fit_columns f path cs ms)

fit_unknown_one : (f : Forest) (b : Bool) (path : List ℕ) → Fit f (if b then [] else unknown_member path ∷ [])
fit_unknown_one f true path fact m = elim m [ ]
fit_unknown_one f false path fact (here e) = absurd (cc e)
fit_unknown_one f false path fact (there m) = elim m [ ]

fit_unknown : (f : Forest) (path : List ℕ) (l : Label) (inner : Forest) (ms : Members) → Fit f (unknown_members path l inner ms)
fit_unknown f path l inner no_members = fit_none f
fit_unknown f path l inner (member k d ms) = fit_both f _ _ (fit_unknown_one f (is_known l inner k) (path_below path k)) (fit_unknown f path l inner ms)

-- ---- rows are as wide as their tables

constants_long : (cs : List (List ℕ)) (ms : Members) → length (object_constants cs ms) ≡ length cs
constants_long [] ms = refl
constants_long (c ∷ cs) ms = ap suc (constants_long cs ms)

-- objects have an `#up` just if their set has a parent
abbrev Alike : Option ℕ → Option (List ℕ) → Type 0
Alike None None = ⊤
Alike None (Some up) = ⊥
Alike (Some p) None = ⊥
Alike (Some p) (Some up) = ⊤

id_long : (inner : Forest) (x : Value) (y : List ℕ) (vs : List Value) (cs : List (List ℕ)) → length vs ≡ length cs → length (where_has_inner inner x ++ vs) ≡ length (where_has_inner inner y ++ cs)
id_long none x y vs cs e = e
id_long (set l i r) x y vs cs e = ap suc e

row_long : (s : NumberedSet) (up : Option (List ℕ)) (id : List ℕ) (ms : Members) → Alike s.parent up → length (object_row s.label s.inner up id ms) ≡ length (columns_of s)
row_long s up id ms a = id_long s.inner _ _ _ _ (go s.parent up a)
  where
    go : (p : Option ℕ) (up : Option (List ℕ)) → Alike p up → length (up_cell up ++ object_constants s.label.columns ms) ≡ length (columns_of (record { label = s.label; number = 0; parent = p; inner = none }))
    go None None a = constants_long s.label.columns ms
    go None (Some up) a = absurd a
    go (Some p) None a = absurd a
    go (Some p) (Some up) a = ap suc (constants_long s.label.columns ms)

-- ---- objects

-- what inner sets say fits
abbrev Deeper : Forest → ℕ → (Place → Members → List DocumentItem) → Type 0
Deeper f n deeper = (at : Place) (ms : Members) (up : List ℕ) → at.table ≡ n → at.up ≡ Some up → Fit f (deeper at ms)

fit_object : (f : Forest) (s : NumberedSet) (deeper : Place → Members → List DocumentItem) (at : Place) (k : ℕ) (ms : Members) → s ∈ sets_of f → at.table ≡ s.number → Alike s.parent at.up → Deeper f (suc s.number) deeper
    → Fit f (object_says s.label s.inner deeper at k ms)
fit_object f s deeper at k ms m e a d =
    let path = path_below at.path (decimal k) in
    fit_both f (unknown_members path s.label s.inner ms) _ (fit_unknown f path s.label s.inner ms)
    (fit_both f (column_faults path s.label.columns ms) _ (fit_columns f path s.label.columns ms)
    (fit_more f (record { table = at.table; row = object_row s.label s.inner at.up (id_of at.up k) ms }) _
    (fact_fits f s (record { table = at.table; row = object_row s.label s.inner at.up (id_of at.up k) ms }) m e (row_long s at.up (id_of at.up k) ms a))
    (d (record { table = suc at.table; up = Some (id_of at.up k); path = path }) ms (id_of at.up k) (ap suc e) refl)))

fit_item : (f : Forest) (s : NumberedSet) (deeper : Place → Members → List DocumentItem) (at : Place) (k : ℕ) (d : Data) → s ∈ sets_of f → at.table ≡ s.number → Alike s.parent at.up → Deeper f (suc s.number) deeper
    → Fit f (item_says s.label s.inner deeper at k d)
fit_item f s deeper at k null m e a h = fit_shape f (path_below at.path (decimal k))
fit_item f s deeper at k (boolean b) m e a h = fit_shape f (path_below at.path (decimal k))
fit_item f s deeper at k (number n) m e a h = fit_shape f (path_below at.path (decimal k))
fit_item f s deeper at k (string t) m e a h = fit_shape f (path_below at.path (decimal k))
fit_item f s deeper at k (array ds) m e a h = fit_shape f (path_below at.path (decimal k))
fit_item f s deeper at k (object ms) m e a h = fit_object f s deeper at k ms m e a h

fit_items : (f : Forest) (s : NumberedSet) (deeper : Place → Members → List DocumentItem) (at : Place) (k : ℕ) (ds : Items) → s ∈ sets_of f → at.table ≡ s.number → Alike s.parent at.up → Deeper f (suc s.number) deeper
    → Fit f (items_say s.label s.inner deeper at k ds)
fit_items f s deeper at k no_items m e a h = fit_none f
fit_items f s deeper at k (item d ds) m e a h = fit_both f _ _ (fit_item f s deeper at k d m e a h) (fit_items f s deeper at (suc k) ds m e a h)

fit_member : (f : Forest) (s : NumberedSet) (deeper : Place → Members → List DocumentItem) (at : Place) (o : Option Data) → s ∈ sets_of f → at.table ≡ s.number → Alike s.parent at.up → Deeper f (suc s.number) deeper
    → Fit f (member_says s.label s.inner deeper at o)
fit_member f s deeper at None m e a h = fit_none f
fit_member f s deeper at (Some null) m e a h = fit_none f
fit_member f s deeper at (Some (boolean b)) m e a h = fit_shape f at.path
fit_member f s deeper at (Some (number n)) m e a h = fit_shape f at.path
fit_member f s deeper at (Some (string t)) m e a h = fit_shape f at.path
fit_member f s deeper at (Some (array ds)) m e a h = fit_items f s deeper at 0 ds m e a h
fit_member f s deeper at (Some (object ms)) m e a h = fit_shape f at.path

some_alike : (p : ℕ) (o : Option (List ℕ)) (up : List ℕ) → o ≡ Some up → Alike (Some p) o
some_alike p None up e = cc e
some_alike p (Some x) up e = tt

fit_sets : (f : Forest) (p n : ℕ) (g : Forest) → Within f (Some p) n g → Deeper f n (sets_say g)
fit_sets f p n none w at ms up e u = fit_none f
fit_sets f p n (set l i r) w at ms up e u =
    fit_both f _ _
    (fit_member f (record { label = l; number = n; parent = Some p; inner = i }) (sets_say i) _ _ (w _ (here refl)) e (some_alike p at.up up u) (fit_sets f n (suc n) i (within_set f (Some p) n l i r w)))
    (fit_sets f p (suc (n + count i)) r (within_rest f (Some p) n l i r w) (record { table = suc (at.table + count i); up = at.up; path = at.path }) ms up (ap (λ k. suc (k + count i)) e) u)

fit_tree : (f : Forest) (s : NumberedSet) (d : Data) → s ∈ sets_of f → Alike s.parent None → Deeper f (suc s.number) (sets_say s.inner) → Fit f (tree_says (tree_of s) s.number d)
fit_tree f s null m a h = fit_shape f []
fit_tree f s (boolean b) m a h = fit_shape f []
fit_tree f s (number n) m a h = fit_shape f []
fit_tree f s (string t) m a h = fit_shape f []
fit_tree f s (array ds) m a h = fit_items f s (sets_say s.inner) (record { table = s.number; up = None; path = [] }) 0 ds m refl a h
fit_tree f s (object ms) m a h = fit_shape f []

none_alike : (p : Option ℕ) → p ≡ None → Alike p None
none_alike None e = tt
none_alike (Some p) e = cc e

-- the facts that a document says of a root fit the tables of its schema
said_fits : (f : Forest) (t : ℕ) (d : Data) (facts : List Fact) → t < length (tables_of f) → document_says f t d ≡ map says facts → (schema_table f t).parent ≡ None → IsInstance (model_tables f) facts
said_fits f t d facts lt e top fact m =
    let s = set_at f t in
    let number = set_number f t lt in
    let parent : s.parent ≡ None = sym (ap (λ (t : TableOf). t.parent) (table_of_set f s (set_in f t lt)).1) ∙ ap (λ k. (schema_table f k).parent) number ∙ top in
    let deeper : Deeper f (suc s.number) (sets_say s.inner) = fit_sets f s.number (suc s.number) s.inner (λ u v. inner_within None 0 f s u (set_in f t lt) v) in
    let fit = fit_tree f s d (set_in f t lt) (none_alike s.parent parent) deeper in
    let said : tree_says (tree_of s) s.number d ≡ map says facts = ap (λ k. tree_says (tree_of s) k d) number ∙ e in
    subst (Fit f) said fit fact (in_map says m)

pub facts_fit : DocumentFactsFit
facts_fit bytes f t facts lt top s = said_fits f t s.0 facts lt s.2 top
