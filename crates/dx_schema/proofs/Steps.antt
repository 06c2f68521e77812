-- From sets to tables.
use Rattle.std.proofs.Common.{◌≡◌, ℕ, ◌+◌, ◌^◌, ◌<◌, ◌≤◌, List, [], ◌∷◌, Option, Some, None, Bool, true, false, not, is_some, append_assoc, length, map, refl, sym, ap, ◌∙◌, subst, arith, inl, inr, get_or, ◌++◌, ◌||◌, take, codes, nat_eq}
use Rattle.std.specs.Prelude.{IsTrue, nat_lt}
use Rattle.std.proofs.lemmas.Bool.{le-ltb, lt-ltb, cases_lt, false≢true}
use Rattle.std.specs.List.{filter, list_any}
use Rattle.std.specs.Cmp.Lexicographic.{pointwise}
use Rattle.std.proofs.lemmas.List.{get_or_default, get_or-map, take_all, take_more, map-append, length-map, append-nil}
use Rattle.std.proofs.lemmas.List.Elements.{filter-append}
use Rattle.std.proofs.Math.ListN.{get_or-eq_default}
use Rattle.std.proofs.lemmas.Simd.{map-map}
use Rattle.dx_base.specs.declared.file.Count.TheVariants.{Tables, Depth}
use Rattle.dx_base.specs.Members.{◌∈◌, Each}
use Rattle.dx_base.proofs.Members.{from_map, in_map, in_at}
use Rattle.dx_model.specs.declared.tables.Key.{Key}
use Rattle.dx_schema.specs.declared.sets.KeyDecl.{KeyDecl}
use Rattle.dx_schema.specs.declared.nodes.Node.{Node}
use Rattle.dx_schema.specs.declared.fault.SchemaFault.{SchemaFault}
use Rattle.dx_schema.specs.declared.fault.SchemaFault.TheVariants.{Bad, TooMany}
use Rattle.dx_schema.specs.declared.fault.SchemaKind.TheVariants.{CyclicLinks}
use Rattle.dx_schema.specs.Forest.{Forest, none, set, has_sets}
use Rattle.dx_schema.specs.Tables.{TableOf, NumberedSet, count, sets_of, names_of, columns_of, key_named, keys_in, where_has_inner, where_inner, table_in, tables_of, schema_table, no_table, as_numbers, AreTables}
use Rattle.dx_base.specs.Texts.{Text}
use Rattle.dx_base.specs.Firsts.{first_of}
use Rattle.dx_schema.specs.Faults.{depth, is_among, sets_fault, declarations_fault, form_fault}
use Rattle.dx_schema.specs.Links.{IsAcyclic, IsFirstCycle, IsFaultless, IsFirstSchemaFault}
use Rattle.dx_schema.specs.Nodes.{node_view, ListsNodes}
use Rattle.dx_schema.specs.Making.{IsOverview, IsOwnList, IsReadyForTables}
use Rattle.dx_schema.proofs.Preorder.{length_placed, numbers_bound}
use Rattle.dx_schema.proofs.Loops.{one_left, shown_in, shown_is, taken}
use Rattle.dx_schema.proofs.Valid.{are_tables, columns_are}

-- whether a name is among names
pub any_named : (name : Text) (names : List Text) → list_any (λ x. pointwise nat_eq x name) names ≡ is_among name names
any_named name [] = refl
any_named name (x ∷ xs) = ap (λ b. pointwise nat_eq x name || b) (any_named name xs)

pub too_many_fault : (f : Forest) → 64 < count f → form_fault f ≡ Some (TooMany (record { what = Tables; number = 64 }))
too_many_fault f h = rw (lt-ltb 64 (count f) h) refl

pub flattened : (f : Forest) (before after : List Node) → before ≡ [] → map node_view after ≡ sets_of f → length after ≤ 64 → ListsNodes f after
flattened f before after e sets few = record { sets = sets; few = few }

-- no more sets than nodes
pub few_sets : (f : Forest) (nodes : List Node) → ListsNodes f nodes → count f ≤ 64
few_sets f nodes h = omega (arith, h.few, length-map nodes node_view, ap length h.sets, length_placed None 0 f)

pub few_names : (f : Forest) (nodes : List Node) (names : List Text) → ListsNodes f nodes → names ≡ names_of (sets_of f) → length names ≤ 64
few_names f nodes names h e = omega (arith, few_sets f nodes h, ap length e, length-map (sets_of f) (λ (s : NumberedSet). s.label.name), length_placed None 0 f)

pub names_seen : (f : Forest) (nodes : List Node) (names : List Text) → ListsNodes f nodes → names ≡ names_of (sets_of f) → names ≡ names_of (map node_view nodes)
names_seen f nodes names h e = e ∙ ap names_of (sym h.sets)

pub form_at_depth : (f : Forest) (nodes : List Node) → ListsNodes f nodes → 16 < depth f → form_fault f ≡ Some (TooMany (record { what = Depth; number = 16 }))
form_at_depth f nodes h deep = rw (le-ltb 64 (count f) (few_sets f nodes h), lt-ltb 16 (depth f) deep) refl

shallow : (f : Forest) (b : Bool) → b ≡ false → (16 < depth f → IsTrue b) → nat_lt 16 (depth f) ≡ false
shallow f b off g = elim (cases_lt 16 (depth f)) [ inl l ↦ absurd (false≢true (sym off ∙ g l)) | inr ge ↦ le-ltb 16 (depth f) ge ]

pub form_at_sets : (f : Forest) (nodes : List Node) (b : Bool) (e : SchemaFault) → ListsNodes f nodes → b ≡ false → (16 < depth f → IsTrue b) → Some e ≡ sets_fault [] (map node_view nodes) → Some e ≡ form_fault f
form_at_sets f nodes b e h off g at =
    let s : sets_fault [] (sets_of f) ≡ Some e = ap (sets_fault []) (sym h.sets) ∙ sym at in
    rw (le-ltb 64 (count f) (few_sets f nodes h), shallow f b off g, s) refl

pub form_at_rules : (f : Forest) (nodes : List Node) (b : Bool) → ListsNodes f nodes → b ≡ false → (16 < depth f → IsTrue b) → None ≡ sets_fault [] (map node_view nodes)
    → first_of (map (declarations_fault (map node_view nodes)) (map node_view nodes)) ≡ form_fault f
form_at_rules f nodes b h off g at =
    let s : sets_fault [] (sets_of f) ≡ None = ap (sets_fault []) (sym h.sets) ∙ sym at in
    rw (le-ltb 64 (count f) (few_sets f nodes h), shallow f b off g, s, h.sets) (sym (one_left (first_of (map (declarations_fault (sets_of f)) (sets_of f)))))

-- no table is too wide
pub narrow : (f : Forest) (nodes : List Node) → ListsNodes f nodes → form_fault f ≡ None → Each (map columns_of (map node_view nodes)) (λ (c : List Text). length c ≤ 64)
narrow f nodes h none_so c m =
    let inside : c ∈ map (λ (t : TableOf). t.columns) (tables_of f) = rw (columns_are (sets_of f) (sets_of f), ← h.sets) m in
    let r = from_map (λ (t : TableOf). t.columns) (tables_of f) {y = c} inside in
    let w = ((are_tables f none_so).each_table r.0 r.1).few_columns in
    rw (← r.2) w

pub tables_are : (f : Forest) (nodes : List Node) (tables : List TableOf) → ListsNodes f nodes → tables ≡ map (table_in (map node_view nodes)) (map node_view nodes) → tables ≡ tables_of f
tables_are f nodes tables h e = e ∙ ap (λ sets. map (table_in sets) sets) h.sets

pub fine : (f : Forest) (tables : List TableOf) → tables ≡ tables_of f → form_fault f ≡ None → AreTables tables
fine f tables e none_so = rw e (are_tables f none_so)

pub faultless : (f : Forest) (tables : List TableOf) → tables ≡ tables_of f → form_fault f ≡ None → IsAcyclic (map as_numbers tables) → IsFaultless f
faultless f tables e none_so a = record { form = none_so; acyclic = subst (λ (ts : List TableOf). IsAcyclic (map as_numbers ts)) e a }

pub cycle_within : (tables : List TableOf) (t : ℕ) → IsFirstCycle (map as_numbers tables) t → t < length tables
cycle_within tables t h = rw (← length-map tables as_numbers) h.within

pub cycle_fault : (f : Forest) (tables : List TableOf) (t : ℕ) (table : TableOf) (name : Text) → tables ≡ tables_of f → form_fault f ≡ None → IsFirstCycle (map as_numbers tables) t
    → table ≡ get_or tables t table → name ≡ table.name → IsFirstSchemaFault f (Bad (CyclicLinks name))
cycle_fault f tables t table name e none_so h is named =
    let lt : t < length tables = cycle_within tables t h in
    let at : name ≡ (schema_table f t).name = named ∙ ap (λ (x : TableOf). x.name) (is ∙ get_or_default tables t table no_table lt ∙ ap (λ (ts : List TableOf). get_or ts t no_table) e) in
    inr (none_so, (t, subst (λ (ts : List TableOf). IsFirstCycle (map as_numbers ts) t) e h, ap (λ n. Bad (CyclicLinks n)) at))

-- ---- tables of sets

pub keys_done : (s : NumberedSet) (first keys : List Key) (items : List KeyDecl) (i : ℕ) → length items ≤ i → items ≡ s.label.keys
    → first ≡ map (key_named s) (where_has_inner s.inner (codes "#id" ∷ [])) → keys ≡ first ++ map (λ (k : KeyDecl). key_named s (where_inner s.parent (codes "#up") ++ k.columns)) (take i items) → keys ≡ keys_in s
keys_done s first keys items i past same e is =
    rw (is, e, take_all i items past, same) (sym (map-append (key_named s) (where_has_inner s.inner (codes "#id" ∷ [])) (map (λ (k : KeyDecl). where_inner s.parent (codes "#up") ++ k.columns) s.label.keys)
    ∙ ap (λ ks. map (key_named s) (where_has_inner s.inner (codes "#id" ∷ [])) ++ ks) (map-map (key_named s) (λ (k : KeyDecl). where_inner s.parent (codes "#up") ++ k.columns) s.label.keys)))

-- no list of columns is too long, nor is none
pub few_at : (columns : List (List Text)) (n : ℕ) → Each columns (λ (c : List Text). length c ≤ 64) → length (get_or columns n []) < 2 ^ 32
few_at columns n few = elim (cases_lt n (length columns)) [ inl lt ↦ let s = few (get_or columns n []) (in_at columns n [] lt) in omega (arith, s) | inr ge ↦ rw (get_or-eq_default columns [] ge) (omega arith) ]

pub own_is : (nodes : List Node) (columns : List (List Text)) (i : ℕ) (node : Node) (own : List Text) → columns ≡ map columns_of (map node_view nodes) → i < length nodes → node ≡ get_or nodes i node → own ≡ get_or columns i own → own ≡ columns_of (node_view node)
own_is nodes columns i node own e lt is at =
    at ∙ ap (λ (cs : List (List Text)). get_or cs i own) e ∙ get_or-map columns_of (map node_view nodes) i (node_view node) own (shown_in node_view nodes i lt) ∙ ap columns_of (sym (shown_is node_view nodes i node lt is))

pub own_few : (nodes : List Node) (i : ℕ) (node : Node) (own : List Text) → own ≡ columns_of (node_view node) → i < length nodes → node ≡ get_or nodes i node → Each (map columns_of (map node_view nodes)) (λ (c : List Text). length c ≤ 64) → length own ≤ 64
own_few nodes i node own e lt is few =
    let m : node_view node ∈ map node_view nodes = in_map node_view {x = node} {xs = nodes} (rw is (in_at nodes i node lt)) in
    rw e (few (columns_of (node_view node)) (in_map columns_of {x = node_view node} {xs = map node_view nodes} m))

pub table_more : (all : List NumberedSet) (nodes : List Node) (i : ℕ) (node : Node) (before after : List TableOf) (table : TableOf) → i < length nodes → node ≡ get_or nodes i node
    → before ≡ map (table_in all) (map node_view (take i nodes)) → after ≡ before ++ table ∷ [] → table ≡ table_in all (node_view node) → after ≡ map (table_in all) (map node_view (take (i + 1) nodes))
table_more all nodes i node before after table lt is e pushed made =
    rw (pushed, e, made, taken nodes i node lt is, map-append node_view (take i nodes) (node ∷ []), map-append (table_in all) (map node_view (take i nodes)) (node_view node ∷ [])) refl

-- a set's number and its inner sets are among 64
pub bounded : (f : Forest) (nodes : List Node) → ListsNodes f nodes → Each (map node_view nodes) (λ (s : NumberedSet). s.number + count s.inner < 64)
bounded f nodes h s m = let b = numbers_bound None 0 f s (rw (← h.sets) m) in omega (arith, b, few_sets f nodes h)

-- the tables of the sets of a forest without a fault of form can be made
pub ready : (f : Forest) (nodes : List Node) (names : List Text) → ListsNodes f nodes → names ≡ names_of (sets_of f) → form_fault f ≡ None → IsReadyForTables nodes names
ready f nodes names h e none_so = record { named = names_seen f nodes names h e; few = few_names f nodes names h e; narrow = narrow f nodes h none_so; bounded = bounded f nodes h }

pub overview : (nodes : List Node) (names : List Text) (columns : List (List Text)) → IsReadyForTables nodes names → columns ≡ map columns_of (map node_view nodes) → IsOverview nodes names columns
overview nodes names columns h e = record { named = h.named; few = h.few; lists = record { are = e; narrow = rw e h.narrow } }

pub own_list : (nodes : List Node) (names : List Text) (columns : List (List Text)) (i : ℕ) (node : Node) (own : List Text) → IsReadyForTables nodes names → columns ≡ map columns_of (map node_view nodes) → i < length nodes → node ≡ get_or nodes i node
    → own ≡ get_or columns i own → IsOwnList node own
own_list nodes names columns i node own h e lt is at =
    let a = own_is nodes columns i node own e lt is at in
    record { are = a; few = own_few nodes i node own a lt is h.narrow }

pub bounded_at : (nodes : List Node) (i : ℕ) (node : Node) → Each (map node_view nodes) (λ (s : NumberedSet). s.number + count s.inner < 64) → i < length nodes → node ≡ get_or nodes i node
    → (node_view node).number + count (node_view node).inner < 64
bounded_at nodes i node b lt is = b (node_view node) (in_map node_view {x = node} {xs = nodes} (rw is (in_at nodes i node lt)))

-- ---- the columns of a set's table

-- the names in front, and then the declared columns
pub columns_ended : (node : Node) (front with all items : List Text) (i : ℕ) → length items ≤ i → all ≡ with ++ take i items → items ≡ node.tree.now.label.columns
    → front ≡ where_has_inner node.tree.now.inner (codes "#id") → with ≡ front ++ where_inner node.parent (codes "#up") → all ≡ columns_of (node_view node)
columns_ended node front with all items i past is e a b =
    is ∙ ap (λ xs. with ++ xs) (take_all i items past ∙ e) ∙ ap (λ xs. xs ++ node.tree.now.label.columns) (b ∙ ap (λ xs. xs ++ where_inner node.parent (codes "#up")) a)
    ∙ append_assoc (where_has_inner node.tree.now.inner (codes "#id")) (where_inner node.parent (codes "#up")) node.tree.now.label.columns

pub with_front : {X : Type 0} (f : Forest) (x : X) → not (has_sets f) ≡ false → where_has_inner f x ≡ x ∷ []
with_front none x e = absurd cc
with_front (set l i r) x e = refl

pub no_front : {X : Type 0} (f : Forest) (x : X) → not (has_sets f) ≡ true → where_has_inner f x ≡ []
no_front none x e = refl
no_front (set l i r) x e = absurd cc

pub with_up : {X : Type 0} (p : Option ℕ) (x : X) → is_some p ≡ true → where_inner p x ≡ x ∷ []
with_up None x e = absurd cc
with_up (Some p) x e = refl

pub no_up : {X : Type 0} (p : Option ℕ) (x : X) → is_some p ≡ false → where_inner p x ≡ []
no_up None x e = refl
no_up (Some p) x e = absurd cc

-- ---- links

-- what a test leaves of one more
pub one_more_kept : {X : Type 0} (p : X → Bool) (xs : List X) (i : ℕ) (x : X) → i < length xs → x ≡ get_or xs i x → p x ≡ true → filter p (take (i + 1) xs) ≡ filter p (take i xs) ++ x ∷ []
one_more_kept p xs i x lt is t = rw (take_more xs i x lt, ← is, filter-append p (take i xs) (x ∷ []), t) refl

pub one_more_left : {X : Type 0} (p : X → Bool) (xs : List X) (i : ℕ) (x : X) → i < length xs → x ≡ get_or xs i x → p x ≡ false → filter p (take (i + 1) xs) ≡ filter p (take i xs)
one_more_left p xs i x lt is t = rw (take_more xs i x lt, ← is, filter-append p (take i xs) (x ∷ []), t) (append-nil (filter p (take i xs)))
