-- The members of objects in the order of their names.
use Rattle.std.proofs.Common.{◌≡◌, ℕ, zero, suc, ◌+◌, ◌<◌, ◌≤◌, List, [], ◌∷◌, ◌++◌, length, get_or, drop, Bool, true, false, append_assoc, append-nil, refl, sym, ap, ◌∙◌, subst, arith, Ordering, Less, Equal, Greater, nat_cmp, String, Global, BTreeMap, string_bytes, string_cmp}
use Rattle.std.specs.BTreeMap.{insert_entry}
use Rattle.std.specs.Cmp.Lexicographic.{slice_cmp}
use Rattle.std.specs.Ordering.{match_ordering}
use Rattle.std.proofs.Math.Seq.{get_or-append_seam}
use Rattle.std.proofs.lemmas.List.{drop_all, drop_more, get_or-map, length-append, length-map, map-append}
use Rattle.serde_json.specs.Data.{Data, array, put}
use Rattle.dx_model.specs.declared.values.Value.{Value}
use Rattle.dx_model.specs.Tables.{cell}
use Rattle.dx_schema.specs.Forest.{Label, Forest, Tree, none, set, forest_of}
use Rattle.dx_schema.specs.Tables.{count}
use Rattle.dx_instance.specs.Stored.{TableRows}
use Rattle.dx_json.specs.declared.orders.Source.{Source}
use Rattle.dx_json.specs.declared.orders.Source.TheVariants.{Cell, Inner}
use Rattle.dx_json.specs.Nesting.{object_of, objects_below, own_from, with_columns, with_sets}
use Rattle.dx_json.specs.Orders.{Fit, TreeIsReady, IsReadyRoot, Ready, Slots, SourceFits, all_slots, members_with_values, level_length, order_of, orders_of, slot_put, slots_of, source_data, tree_in, with_cells, with_inner}
use Rattle.dx_json.specs.Standing.{Stand}
use Rattle.dx_schema.proofs.Numbered.{dropped_here}

-- ---- a map's members

slots_of-match : (o : Ordering) (a b c : List (String Global × Source)) → slots_of (match_ordering o a b c) ≡ match_ordering o (slots_of a) (slots_of b) (slots_of c)
slots_of-match Less a b c = refl
slots_of-match Equal a b c = refl
slots_of-match Greater a b c = refl

pub slots_of-insert : (es : List (String Global × Source)) (k : String Global) (s : Source) → slots_of (insert_entry string_cmp es k s) ≡ slot_put (string_bytes k) s (slots_of es)
slots_of-insert [] k s = refl
slots_of-insert (e ∷ es) k s = slots_of-match (string_cmp k e.0) _ _ _ ∙ rw (slots_of-insert es k s)

-- ---- members with their values

filled-match : (value : Source → Data) (o : Ordering) (a b c : Slots) → members_with_values value (match_ordering o a b c) ≡ match_ordering o (members_with_values value a) (members_with_values value b) (members_with_values value c)
filled-match value Less a b c = refl
filled-match value Equal a b c = refl
filled-match value Greater a b c = refl

filled-put : (value : Source → Data) (k : List ℕ) (s : Source) (ms : Slots) → members_with_values value (slot_put k s ms) ≡ put k (value s) (members_with_values value ms)
filled-put value k s [] = refl
filled-put value k s (m ∷ ms) = filled-match value (slice_cmp nat_cmp k m.0) _ _ _ ∙ rw (filled-put value k s ms)

filled-cells : (I : List TableRows) (inner : Forest) (row : List Value) (cs : List (List ℕ)) (c : ℕ) (ms : Slots) → c + length cs ≤ length row
    → members_with_values (source_data I inner row) (with_cells cs c ms) ≡ with_columns cs (drop c row) (members_with_values (source_data I inner row) ms)
filled-cells I inner row [] c ms h = refl
filled-cells I inner row (x ∷ cs) c ms h =
    let value = source_data I inner row in
    let s : c + 1 ≡ suc c = omega arith in
    let next : drop c row ≡ cell row c ∷ drop (suc c) row = drop_more row c _ (omega (arith, h)) ∙ ap (λ n. cell row c ∷ drop n row) s in
    filled-cells I inner row cs (suc c) (slot_put x (Cell c) ms) (omega (arith, h)) ∙ ap (with_columns cs (drop (suc c) row)) (filled-put value x (Cell c) ms) ∙ ap (λ vs. with_columns (x ∷ cs) vs (members_with_values value ms)) (sym next)

-- the sets from a place on are these
abbrev From : Forest → ℕ → Forest → Type 0
From inner k rest = (j : ℕ) → tree_in inner (k + j) ≡ tree_in rest j

from_here : (inner : Forest) (k : ℕ) (l : Label) (i r : Forest) → From inner k (set l i r) → tree_in inner k ≡ record { label = l; inner = i }
from_here inner k l i r f = let z : k ≡ k + 0 = omega arith in ap (tree_in inner) z ∙ f 0

from_next : (inner : Forest) (k : ℕ) (l : Label) (i r : Forest) → From inner k (set l i r) → From inner (suc k) r
from_next inner k l i r f j = let s : suc k + j ≡ k + suc j = omega arith in ap (tree_in inner) s ∙ f (suc j)

from_all : (inner : Forest) → From inner 0 inner
from_all inner j = let z : 0 + j ≡ j = omega arith in ap (tree_in inner) z

filled-inner : (I : List TableRows) (inner : Forest) (row : List Value) (rest : Forest) (k table : ℕ) (ms : Slots) → From inner k rest
    → members_with_values (source_data I inner row) (with_inner rest k table ms) ≡ with_sets I rest table (cell row 0) (members_with_values (source_data I inner row) ms)
filled-inner I inner row none k table ms f = refl
filled-inner I inner row (set l i r) k table ms f =
    let value = source_data I inner row in
    let here = from_here inner k l i r f in
    let shown : value (Inner k table) ≡ array (objects_below I (record { label = l; inner = i }) table (cell row 0)) = ap (λ t. array (objects_below I t table (cell row 0))) here in
    filled-inner I inner row r (suc k) (suc (table + count i)) (slot_put l.name (Inner k table) ms) (from_next inner k l i r f)
    ∙ ap (with_sets I r (suc (table + count i)) (cell row 0)) (filled-put value l.name (Inner k table) ms ∙ ap (λ d. put l.name d (members_with_values value ms)) shown)

-- an object is its members in their order, with their values
pub filled-order : (I : List TableRows) (l : Label) (inner : Forest) (is_inner : Bool) (table : ℕ) (row : List Value) → own_from inner is_inner + length l.columns ≤ length row
    → members_with_values (source_data I inner row) (order_of l inner is_inner table) ≡ object_of l inner (with_sets I inner (suc table)) is_inner row
filled-order I l inner is_inner table row h =
    filled-inner I inner row inner 0 (suc table) (with_cells l.columns (own_from inner is_inner) []) (from_all inner)
    ∙ ap (with_sets I inner (suc table) (cell row 0)) (filled-cells I inner row l.columns (own_from inner is_inner) [] h)

-- ---- sources fit

module _ (I : List TableRows) (orders : List Slots) (width : ℕ) (inner : Forest) where
  abbrev Fits : Slots → Type 0
  Fits = Fit I orders width inner

  fit-match : (o : Ordering) (a b c : Slots) → Fits a → Fits b → Fits c → Fits (match_ordering o a b c)
  fit-match Less a b c x y z = x
  fit-match Equal a b c x y z = y
  fit-match Greater a b c x y z = z

  fit-put : (k : List ℕ) (s : Source) (ms : Slots) → SourceFits I orders width inner s → Fits ms → Fits (slot_put k s ms)
  fit-put k s [] f fs = (f, tt)
  fit-put k s (m ∷ ms) f fs = fit-match (slice_cmp nat_cmp k m.0) _ _ _ (f, fs) (f, fs.1) (fs.0, fit-put k s ms f fs.1)

  fit-cells : (cs : List (List ℕ)) (c : ℕ) (ms : Slots) → c + length cs ≤ width → Fits ms → Fits (with_cells cs c ms)
  fit-cells [] c ms h fs = fs
  fit-cells (x ∷ cs) c ms h fs = fit-cells cs (suc c) (slot_put x (Cell c) ms) (omega (arith, h)) (fit-put x (Cell c) ms (omega (arith, h)) fs)

  fit-inner : (rest : Forest) (k table : ℕ) (ms : Slots) → From inner k rest → level_length inner ≡ k + level_length rest → Ready I orders table rest → Fits ms → Fits (with_inner rest k table ms)
  fit-inner none k table ms f e r fs = fs
  fit-inner (set l i rest) k table ms f e r fs =
      let ready : TreeIsReady I orders table (tree_in inner k) = subst (TreeIsReady I orders table) (sym (from_here inner k l i rest f)) (r.0, r.1, r.2, r.3, r.4, tt) in
      fit-inner rest (suc k) (suc (table + count i)) (slot_put l.name (Inner k table) ms) (from_next inner k l i rest f) (omega (arith, e)) r.5 (fit-put l.name (Inner k table) ms (omega (arith, e), ready) fs)

-- those of the objects of a set do
pub order_fits : (I : List TableRows) (orders : List Slots) (width : ℕ) (l : Label) (inner : Forest) (is_inner : Bool) (table : ℕ) → own_from inner is_inner + length l.columns ≤ width → Ready I orders (suc table) inner
    → Fit I orders width inner (order_of l inner is_inner table)
order_fits I orders width l inner is_inner table h r =
    fit-inner I orders width inner inner 0 (suc table) _ (from_all inner) (omega arith) r (fit-cells I orders width inner l.columns (own_from inner is_inner) [] h tt)

-- ---- orders stand at the numbers of their tables

length-orders : (f : Forest) (n : ℕ) → length (orders_of f n) ≡ count f
length-orders none n = refl
length-orders (set l i r) n =
    let a = length-orders i (suc n) in
    let b = length-orders r (suc (n + count i)) in
    let c = length-append (orders_of i (suc n)) (orders_of r (suc (n + count i))) in
    omega (arith, a, b, c)

at_seam : (whole before more : List Slots) (o : Slots) (n : ℕ) → whole ≡ before ++ o ∷ more → length before ≡ n → (n < length whole) × (get_or whole n [] ≡ o)
at_seam whole before more o n e h =
    let c = length-append before (o ∷ more) in
    (omega (arith, ap length e, c, h), ap (λ xs. get_or xs n []) e ∙ ap (λ m. get_or (before ++ o ∷ more) m []) (sym h) ∙ get_or-append_seam before o more [])

ready : (I : List TableRows) (whole before after : List Slots) (n : ℕ) (f : Forest) → whole ≡ before ++ (orders_of f n ++ after) → length before ≡ n → Stand I n f → Ready I whole n f
ready I whole before after n none e h s = tt
ready I whole before after n (set l i r) e h s =
    let o = order_of l i true n in
    let below = orders_of i (suc n) in
    let later = orders_of r (suc (n + count i)) in
    let here = at_seam whole before ((below ++ later) ++ after) o n e h in
    let first : whole ≡ (before ++ o ∷ []) ++ (below ++ (later ++ after)) = e ∙ sym (append_assoc before (o ∷ []) ((below ++ later) ++ after)) ∙ ap (λ xs. (before ++ o ∷ []) ++ xs) (append_assoc below later after) in
    let second : whole ≡ ((before ++ o ∷ []) ++ below) ++ (later ++ after) = first ∙ sym (append_assoc (before ++ o ∷ []) below (later ++ after)) in
    let long = length-append before (o ∷ []) in
    let longer = length-append (before ++ o ∷ []) below in
    let deep = length-orders i (suc n) in (
      s.0,
      s.1,
      here.0,
      here.1,
      ready I whole (before ++ o ∷ []) (later ++ after) (suc n) i first (omega (arith, long, h)) s.2,
      ready I whole ((before ++ o ∷ []) ++ below) after (suc (n + count i)) r second (omega (arith, long, h, longer, deep)) s.3,
    )

-- a root's, and then those of its inner sets
pub ready_root : (I : List TableRows) (before one all : List Slots) (t : Tree) (inner : Forest) (o : Slots) (root next : ℕ) → length before ≡ root → inner ≡ t.inner → next ≡ suc root → o ≡ order_of t.label t.inner false root → one ≡ before ++ o ∷ []
    → all ≡ one ++ orders_of inner next → Stand I (suc root) t.inner → IsReadyRoot I all root t
ready_root I before one all t inner o root next h i n is e a s =
    let below = orders_of t.inner (suc root) in
    let same : all ≡ (before ++ o ∷ []) ++ below = rw (a, e, i, n) refl in
    let here = at_seam all before below o root (same ∙ append_assoc before (o ∷ []) below) h in
    let long = length-append before (o ∷ []) in
    let none_after : all ≡ (before ++ o ∷ []) ++ (below ++ []) = same ∙ ap (λ xs. (before ++ o ∷ []) ++ xs) (sym (append-nil below)) in
    record { within = here.0; order = here.1 ∙ is; inner = ready I all (before ++ o ∷ []) [] (suc root) t.inner none_after (omega (arith, long, h)) s }

-- the order at the number of a table
pub order_there : (orders : List (BTreeMap (String Global) Source)) (n : ℕ) (o : BTreeMap (String Global) Source) (s : Slots) → n < length (all_slots orders) → get_or (all_slots orders) n [] ≡ s → slots_of (get_or orders n o).entries ≡ s
order_there orders n o s lt e =
    let long : length (all_slots orders) ≡ length orders = length-map orders (λ o. slots_of o.entries) in
    sym (get_or-map (λ o. slots_of o.entries) orders n o [] (omega (arith, long, lt))) ∙ e

-- ---- a level, by its list

pub level_long : (ts : List Tree) → level_length (forest_of ts) ≡ length ts
level_long [] = refl
level_long (t ∷ ts) = ap suc (level_long ts)

pub tree_there : (ts : List Tree) (k : ℕ) (d : Tree) → k < length ts → tree_in (forest_of ts) k ≡ get_or ts k d
tree_there [] k d h = absurd (omega (arith, h))
tree_there (t ∷ ts) zero d h = refl
tree_there (t ∷ ts) (suc k) d h = tree_there ts k d (omega (arith, h))

-- ---- one member more

pub cell_put : (cs : List (List ℕ)) (k n next : ℕ) (x : List ℕ) (all before after : Slots) → k < length cs → x ≡ get_or cs k x → all ≡ with_cells (drop k cs) n before → after ≡ slot_put x (Cell n) before → next ≡ suc n
    → all ≡ with_cells (drop (k + 1) cs) next after
cell_put cs k n next x all before after lt is e a s =
    let here : drop k cs ≡ x ∷ drop (k + 1) cs = drop_more cs k x lt ∙ ap (λ y. y ∷ drop (k + 1) cs) (sym is) in
    e ∙ ap (λ xs. with_cells xs n before) here ∙ rw (s, a) refl

pub cells_put : (cs : List (List ℕ)) (k n : ℕ) (all now : Slots) → length cs ≤ k → all ≡ with_cells (drop k cs) n now → now ≡ all
cells_put cs k n all now h e = sym (e ∙ ap (λ xs. with_cells xs n now) (drop_all k cs h))

pub set_put : (ts : List Tree) (k : ℕ) (t : Tree) (place after_place table next : ℕ) (name : List ℕ) (all before after : Slots) → k < length ts → t ≡ get_or ts k t → all ≡ with_inner (forest_of (drop k ts)) place table before
    → name ≡ t.label.name → after ≡ slot_put name (Inner place table) before → after_place ≡ suc place → next ≡ suc (table + count t.inner) → all ≡ with_inner (forest_of (drop (k + 1) ts)) after_place next after
set_put ts k t place after_place table next name all before after lt is e n a p s =
    e ∙ ap (λ f. with_inner f place table before) (dropped_here ts k t lt is) ∙ rw (s, p, a, n) refl

pub sets_put : (ts : List Tree) (k place table : ℕ) (all now : Slots) → length ts ≤ k → all ≡ with_inner (forest_of (drop k ts)) place table now → now ≡ all
sets_put ts k place table all now h e = sym (e ∙ ap (λ us. with_inner (forest_of us) place table now) (drop_all k ts h))

-- ---- one order more

pub one_more : (orders more : List (BTreeMap (String Global) Source)) (o : BTreeMap (String Global) Source) → more ≡ orders ++ o ∷ [] → all_slots more ≡ all_slots orders ++ slots_of o.entries ∷ []
one_more orders more o e = ap all_slots e ∙ map-append (λ o. slots_of o.entries) orders (o ∷ [])

pub order_pushed : (ts : List Tree) (k : ℕ) (t : Tree) (inner : Forest) (table next below : ℕ) (o : Slots) (was mid now all : List Slots) → k < length ts → t ≡ get_or ts k t → was ++ orders_of (forest_of (drop k ts)) table ≡ all
    → inner ≡ t.inner → o ≡ order_of t.label t.inner true table → mid ≡ was ++ o ∷ [] → now ≡ mid ++ orders_of inner below → below ≡ suc table → next ≡ suc (table + count t.inner)
    → now ++ orders_of (forest_of (drop (k + 1) ts)) next ≡ all
order_pushed ts k t inner table next below o was mid now all lt is e i n m w b s =
    let later = orders_of (forest_of (drop (k + 1) ts)) (suc (table + count t.inner)) in
    let deep = orders_of t.inner (suc table) in
    let a : now ++ orders_of (forest_of (drop (k + 1) ts)) next ≡ ((was ++ o ∷ []) ++ deep) ++ later = rw (s, w, m, i, b) refl in
    a ∙ append_assoc (was ++ o ∷ []) deep later ∙ append_assoc was (o ∷ []) (deep ++ later) ∙ ap (λ x. was ++ x ∷ (deep ++ later)) n
    ∙ ap (λ f. was ++ orders_of f table) (sym (dropped_here ts k t lt is)) ∙ e

pub orders_pushed : (ts : List Tree) (k table : ℕ) (now all : List Slots) → length ts ≤ k → now ++ orders_of (forest_of (drop k ts)) table ≡ all → now ≡ all
orders_pushed ts k table now all h e = sym (append-nil now) ∙ ap (λ us. now ++ orders_of (forest_of us) table) (sym (drop_all k ts h)) ∙ e
