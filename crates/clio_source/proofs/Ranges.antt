-- The facts that a document says of a root are of the root's table and of those of its inner sets.
use Rattle.std.proofs.Common.{◌≡◌, ℕ, suc, ◌+◌, ◌<◌, ◌≤◌, List, [], ◌∷◌, ◌++◌, Option, Some, None, Bool, true, false, refl, ap, subst, arith, inl, inr}
use Rattle.std.specs.Prelude.{if◌then◌else◌}
use Rattle.std.specs.Fmt.{decimal}
use Rattle.serde_json.specs.Data.{Data, null, boolean, number, string, array, object, Items, no_items, item, Members, no_members, member}
use Rattle.dx_base.specs.Members.{◌∈◌, here, there, Each}
use Rattle.dx_base.proofs.Members.{from_append, in_map}
use Rattle.dx_model.specs.declared.facts.Fact.{Fact}
use Rattle.dx_schema.specs.Forest.{Label, Forest, Tree, none, set}
use Rattle.dx_schema.specs.Tables.{count, tree_at}
use Rattle.dx_json.specs.declared.place.Place.{Place}
use Rattle.dx_json.specs.Said.{DocumentItem, says, wrong_shape, unknown_member, MemberValue, constant, no_integer, no_constant, path_below, column_faults, id_of, is_known, items_say, item_says, member_says, object_says, reading_faults, object_row, sets_say, unknown_members}
use Rattle.dx_json.specs.Documents.{SaysFacts, tree_says}

-- the facts among what is said are of tables from a on, below b
abbrev Are : ℕ → ℕ → List DocumentItem → Type 0
Are a b xs = (fact : Fact) → says fact ∈ xs → (a ≤ fact.table) × (fact.table < b)

both : (a b : ℕ) (xs ys : List DocumentItem) → Are a b xs → Are a b ys → Are a b (xs ++ ys)
both a b xs ys p q fact m = elim (from_append xs m) [ inl l ↦ p fact l | inr r ↦ q fact r ]

wider : (a b c d : ℕ) (xs : List DocumentItem) → c ≤ a → b ≤ d → Are a b xs → Are c d xs
wider a b c d xs low high p fact m = let h = p fact m in (omega (arith, h, low), omega (arith, h, high))

nothing : (a b : ℕ) → Are a b []
nothing a b fact m = elim m [ ]

shape : (a b : ℕ) (path : List ℕ) → Are a b (wrong_shape path ∷ [])
shape a b path fact (here e) = absurd (cc e)
shape a b path fact (there m) = elim m [ ]

of_reading : (a b : ℕ) (path : List ℕ) (r : MemberValue) → Are a b (reading_faults path r)
of_reading a b path (constant t) fact m = elim m [ ]
of_reading a b path no_integer fact (here e) = absurd (cc e)
of_reading a b path no_integer fact (there m) = elim m [ ]
of_reading a b path no_constant fact (here e) = absurd (cc e)
of_reading a b path no_constant fact (there m) = elim m [ ]

of_columns : (a b : ℕ) (path : List ℕ) (cs : List (List ℕ)) (ms : Members) → Are a b (column_faults path cs ms)
of_columns a b path [] ms = nothing a b
of_columns a b path (c ∷ cs) ms = both a b _ _ (of_reading a b (path_below path c) _) (of_columns a b path cs ms)

of_unknown : (a b : ℕ) (known : Bool) (path : List ℕ) → Are a b (if known then [] else unknown_member path ∷ [])
of_unknown a b true path fact m = elim m [ ]
of_unknown a b false path fact (here e) = absurd (cc e)
of_unknown a b false path fact (there m) = elim m [ ]

of_members : (a b : ℕ) (path : List ℕ) (l : Label) (inner : Forest) (ms : Members) → Are a b (unknown_members path l inner ms)
of_members a b path l inner no_members = nothing a b
of_members a b path l inner (member k d ms) = both a b _ _ (of_unknown a b (is_known l inner k) (path_below path k)) (of_members a b path l inner ms)

of_fact : (a b : ℕ) (x : Fact) (xs : List DocumentItem) → (a ≤ x.table) × (x.table < b) → Are a b xs → Are a b (says x ∷ xs)
of_fact a b x xs p q fact (here e) = let same : x ≡ fact = cc e in subst (λ (y : Fact). (a ≤ y.table) × (y.table < b)) same p
of_fact a b x xs p q fact (there m) = q fact m

-- what the inner sets of the objects of a table say is of the tables after it
abbrev Deeper : ℕ → ℕ → (Place → Members → List DocumentItem) → Type 0
Deeper n b deeper = (at : Place) (ms : Members) → at.table ≡ suc n → Are (suc n) b (deeper at ms)

of_object : (l : Label) (inner : Forest) (deeper : Place → Members → List DocumentItem) (at : Place) (k : ℕ) (ms : Members) (n b : ℕ) → at.table ≡ n → n < b → Deeper n b deeper
    → Are n b (object_says l inner deeper at k ms)
of_object l inner deeper at k ms n b e lt d =
    let path = path_below at.path (decimal k) in
    let id = id_of at.up k in
    both n b (unknown_members path l inner ms) _ (of_members n b path l inner ms)
    (both n b (column_faults path l.columns ms) _ (of_columns n b path l.columns ms)
    (of_fact n b (record { table = at.table; row = object_row l inner at.up id ms }) _ (omega (arith, e), omega (arith, e, lt))
    (wider (suc n) b n b _ (omega arith) (omega arith) (d (record { table = suc at.table; up = Some id; path = path }) ms (ap suc e)))))

of_item : (l : Label) (inner : Forest) (deeper : Place → Members → List DocumentItem) (at : Place) (k : ℕ) (d : Data) (n b : ℕ) → at.table ≡ n → n < b → Deeper n b deeper
    → Are n b (item_says l inner deeper at k d)
of_item l inner deeper at k null n b e lt h = shape n b (path_below at.path (decimal k))
of_item l inner deeper at k (boolean x) n b e lt h = shape n b (path_below at.path (decimal k))
of_item l inner deeper at k (number x) n b e lt h = shape n b (path_below at.path (decimal k))
of_item l inner deeper at k (string x) n b e lt h = shape n b (path_below at.path (decimal k))
of_item l inner deeper at k (array ds) n b e lt h = shape n b (path_below at.path (decimal k))
of_item l inner deeper at k (object ms) n b e lt h = of_object l inner deeper at k ms n b e lt h

of_items : (l : Label) (inner : Forest) (deeper : Place → Members → List DocumentItem) (at : Place) (k : ℕ) (ds : Items) (n b : ℕ) → at.table ≡ n → n < b → Deeper n b deeper
    → Are n b (items_say l inner deeper at k ds)
of_items l inner deeper at k no_items n b e lt h = nothing n b
of_items l inner deeper at k (item d ds) n b e lt h = both n b _ _ (of_item l inner deeper at k d n b e lt h) (of_items l inner deeper at (suc k) ds n b e lt h)

of_member : (l : Label) (inner : Forest) (deeper : Place → Members → List DocumentItem) (at : Place) (o : Option Data) (n b : ℕ) → at.table ≡ n → n < b → Deeper n b deeper
    → Are n b (member_says l inner deeper at o)
of_member l inner deeper at None n b e lt h = nothing n b
of_member l inner deeper at (Some null) n b e lt h = nothing n b
of_member l inner deeper at (Some (boolean x)) n b e lt h = shape n b at.path
of_member l inner deeper at (Some (number x)) n b e lt h = shape n b at.path
of_member l inner deeper at (Some (string x)) n b e lt h = shape n b at.path
of_member l inner deeper at (Some (array ds)) n b e lt h = of_items l inner deeper at 0 ds n b e lt h
of_member l inner deeper at (Some (object ms)) n b e lt h = shape n b at.path

of_sets : (g : Forest) (n b : ℕ) (at : Place) (ms : Members) → at.table ≡ n → n + count g ≤ b → Are n b (sets_say g at ms)
of_sets none n b at ms e le = nothing n b
of_sets (set l i r) n b at ms e le =
    both n b _ _
    (of_member l i (sets_say i) _ _ n b e (omega (arith, le)) (λ deep more is. of_sets i (suc n) b deep more is (omega (arith, le))))
    (wider (suc (n + count i)) b n b _ (omega arith) (omega arith)
    (of_sets r (suc (n + count i)) b (record { table = suc (at.table + count i); up = at.up; path = at.path }) ms (ap (λ k. suc (k + count i)) e) (omega (arith, le))))

of_tree : (t : Tree) (n b : ℕ) (d : Data) → n + 1 + count t.inner ≤ b → Are n b (tree_says t n d)
of_tree t n b null le = shape n b []
of_tree t n b (boolean x) le = shape n b []
of_tree t n b (number x) le = shape n b []
of_tree t n b (string x) le = shape n b []
of_tree t n b (array ds) le =
    of_items t.label t.inner (sets_say t.inner) (record { table = n; up = None; path = [] }) 0 ds n b refl (omega (arith, le)) (λ deep more is. of_sets t.inner (suc n) b deep more is (omega (arith, le)))
of_tree t n b (object ms) le = shape n b []

pub between : (f : Forest) (root last : ℕ) (bytes : List ℕ) (facts : List Fact) → root + 1 + count (tree_at f root).inner ≤ last → SaysFacts bytes f root facts
    → Each facts (λ fact. (root ≤ fact.table) × (fact.table < last))
between f root last bytes facts le s fact m = subst (Are root last) s.2 (of_tree (tree_at f root) root last s.0 le) fact (in_map says m)
