-- Going through what a document says.
use Rattle.std.proofs.Common.{◌≡◌, ℕ, suc, ◌+◌, ◌<◌, List, [], ◌∷◌, ◌++◌, length, get_or, drop, map, Option, Some, None, refl, sym, ap, ◌∙◌, append_assoc, add-one, drop-cons, Result, Ok, Err, IfErr, option_map, Bool, ◌||◌, bytes_eq}
use Rattle.std.specs.List.{list_any}
use Rattle.std.specs.Result.{IsErrAnd}
use Rattle.std.specs.Fmt.{decimal}
use Rattle.serde_json.specs.Data.{Data, null, boolean, number, string, array, object, Members}
use Rattle.serde_json.specs.Find.{as_object, get_member}
use Rattle.dx_json.specs.View.{view, items_view}
use Rattle.dx_json.specs.declared.tree.Json.{Json}
use Rattle.dx_schema.specs.Faults.{is_among, level_names}
use Rattle.dx_schema.specs.Forest.{Label, Forest, Tree, forest_of}
use Rattle.dx_model.specs.declared.facts.Fact.{Fact}
use Rattle.dx_json.specs.declared.fault.JsonKind.{JsonKind}
use Rattle.dx_json.specs.declared.fault.JsonKind.TheVariants as kind
use Rattle.dx_json.specs.declared.fault.JsonFault.{JsonFault}
use Rattle.dx_json.specs.declared.fault.JsonFault.TheVariants as fault
use Rattle.dx_json.specs.declared.place.Place.{Place}
use Rattle.dx_json.specs.Said.{DocumentItem, says, wrong_shape, wrong_number, unknown_member, unknown_members, column_faults, reading_faults, reading_of, path_below, item_says, items_say, object_says, member_says, sets_say}
use Rattle.dx_schema.specs.Tables.{count}
use Rattle.dx_schema.proofs.Numbered.{dropped_here}
use Rattle.dx_json.specs.Documents.{first_fault, TellsFirstFault, HasDocumentFault, IsDocument, document_says}

-- whether a name is among columns, and among the names of inner sets
pub among_columns : (name : List ℕ) (columns : List (List ℕ)) → list_any (λ x. bytes_eq x name) columns ≡ is_among name columns
among_columns name [] = refl
among_columns name (x ∷ xs) = ap (λ (b : Bool). bytes_eq x name || b) (among_columns name xs)

pub among_inner : (name : List ℕ) (ts : List Tree) → list_any (λ (t : Tree). bytes_eq t.label.name name) ts ≡ is_among name (level_names (forest_of ts))
among_inner name [] = refl
among_inner name (t ∷ ts) = ap (λ (b : Bool). bytes_eq t.label.name name || b) (among_inner name ts)

-- a fault stays the first, whatever follows
pub first_fault-more : (k : JsonKind) (xs ys : List DocumentItem) → first_fault xs ≡ Some k → first_fault (xs ++ ys) ≡ Some k
first_fault-more k [] ys e = cc e
first_fault-more k (says f ∷ xs) ys e = first_fault-more k xs ys e
first_fault-more k (wrong_shape p ∷ xs) ys e = e
first_fault-more k (wrong_number p ∷ xs) ys e = e
first_fault-more k (unknown_member p ∷ xs) ys e = e

-- no fault that is met is that there is no value
pub never_unread : (xs : List DocumentItem) → first_fault xs ≡ Some kind.NotJson → ⊥
never_unread [] e = cc e
never_unread (says f ∷ xs) e = never_unread xs e
never_unread (wrong_shape p ∷ xs) e = cc e
never_unread (wrong_number p ∷ xs) e = cc e
never_unread (unknown_member p ∷ xs) e = cc e

-- what is told of a value is told of its bytes
pub refused_document : (bytes : List ℕ) (schema : Forest) (root : ℕ) (d : Data) (e : JsonFault) → IsDocument bytes d → TellsFirstFault (document_says schema root d) e → HasDocumentFault bytes schema root e
refused_document bytes schema root d (fault.Bad kind.NotJson) doc f = absurd (never_unread (document_says schema root d) f)
refused_document bytes schema root d (fault.Bad (kind.Shape path)) doc f = (d, doc, f)
refused_document bytes schema root d (fault.Bad (kind.Number path)) doc f = (d, doc, f)
refused_document bytes schema root d (fault.Bad (kind.Unknown path)) doc f = (d, doc, f)
refused_document bytes schema root d fault.Memory doc f = tt

-- facts in front change no fault
pub first_fault-past : (fs : List Fact) (xs : List DocumentItem) → first_fault (map says fs ++ xs) ≡ first_fault xs
first_fault-past [] xs = refl
first_fault-past (f ∷ fs) xs = first_fault-past fs xs

-- the first fault of what is left is the first of all
pub first_fault-left : (k : JsonKind) (before now : List Fact) (all left here rest : List DocumentItem)
    → map says before ++ all ≡ map says now ++ left → left ≡ here ++ rest → first_fault here ≡ Some k → first_fault all ≡ Some k
first_fault-left k before now all left here rest e is h =
    sym (first_fault-past before all) ∙ ap first_fault e ∙ first_fault-past now left ∙ ap first_fault is ∙ first_fault-more k here rest h

-- so a refusal at what is left is one of all
pub fails_left : (e : JsonFault) (before now : List Fact) (all left here rest : List DocumentItem)
    → map says before ++ all ≡ map says now ++ left → left ≡ here ++ rest → TellsFirstFault here e → TellsFirstFault all e
fails_left (fault.Bad k) before now all left here rest e is h = first_fault-left k before now all left here rest e is h
fails_left fault.Memory before now all left here rest e is h = tt

pub fails_more : (e : JsonFault) (here rest : List DocumentItem) → TellsFirstFault here e → TellsFirstFault (here ++ rest) e
fails_more (fault.Bad k) here rest h = first_fault-more k here rest h
fails_more fault.Memory here rest h = tt

pub count_at : (ts : List Tree) (k : ℕ) (t : Tree) (inner : Forest) → k < length ts → t ≡ get_or ts k t → inner ≡ t.inner → count (forest_of (drop k ts)) ≡ suc (count inner + count (forest_of (drop (k + 1) ts)))
count_at ts k t inner lt is same = rw (dropped_here ts k t lt is, same) refl

-- the members of an array that are left, from the k-th on
pub items_left : (l : Label) (inner : Forest) (deeper : Place → Members → List DocumentItem) (at : Place) (vs : List Json) (k : ℕ) (v : Json) → k < length vs → v ≡ get_or vs k v
    → items_say l inner deeper at k (items_view (drop k vs)) ≡ item_says l inner deeper at k (view v) ++ items_say l inner deeper at (k + 1) (items_view (drop (k + 1) vs))
items_left l inner deeper at vs k v lt is =
    let e : drop k vs ≡ v ∷ drop (suc k) vs = drop-cons vs k v lt ∙ ap (λ x. x ∷ drop (suc k) vs) (sym is) in
    rw add-one (ap (λ xs. items_say l inner deeper at k (items_view xs)) e)

-- the inner sets that are left, from the k-th on
pub sets_left : (at : Place) (ms : Members) (ts : List Tree) (k : ℕ) (t : Tree) → k < length ts → t ≡ get_or ts k t
    → sets_say (forest_of (drop k ts)) at ms
    ≡ member_says t.label t.inner (sets_say t.inner) (record { table = at.table; up = at.up; path = path_below at.path t.label.name }) (get_member t.label.name ms)
    ++ sets_say (forest_of (drop (k + 1) ts)) (record { table = suc (at.table + count t.inner); up = at.up; path = at.path }) ms
sets_left at ms ts k t lt is = ap (λ f. sets_say f at ms) (dropped_here ts k t lt is)

pub none_there : {X : Type 0} (o : Option X) (f : X → Members) (p : Option Members) → ((x : X) → o ≡ Some x → ⊥) → option_map f o ≡ p → None ≡ p
none_there None f p n e = e
none_there (Some x) f p n e = absurd (n x refl)

-- a refusal that is passed on
pub refused : {A : Type 0} (r : Result A JsonFault) (e : JsonFault) (met : List DocumentItem) → IsErrAnd r (λ x. x ≡ e) → TellsFirstFault met e → IfErr r (TellsFirstFault met)
refused (Ok x) e met h f = tt
refused (Err x) e met h f = rw h f

pub no_object : (l : Label) (inner : Forest) (deeper : Place → Members → List DocumentItem) (at : Place) (k : ℕ) (d : Data) → None ≡ as_object d → item_says l inner deeper at k d ≡ wrong_shape (path_below at.path (decimal k)) ∷ []
no_object l inner deeper at k null e = refl
no_object l inner deeper at k (boolean b) e = refl
no_object l inner deeper at k (number n) e = refl
no_object l inner deeper at k (string s) e = refl
no_object l inner deeper at k (array ds) e = refl
no_object l inner deeper at k (object ms) e = cc e

pub is_object : (l : Label) (inner : Forest) (deeper : Place → Members → List DocumentItem) (at : Place) (k : ℕ) (d : Data) (ms : Members) → Some ms ≡ as_object d → item_says l inner deeper at k d ≡ object_says l inner deeper at k ms
is_object l inner deeper at k null ms e = cc e
is_object l inner deeper at k (boolean b) ms e = cc e
is_object l inner deeper at k (number n) ms e = cc e
is_object l inner deeper at k (string s) ms e = cc e
is_object l inner deeper at k (array ds) ms e = cc e
is_object l inner deeper at k (object ns) ms e = ap (λ x. object_says l inner deeper at k x) (sym (some_is ms ns e))
  where
    some_is : (a b : Members) → Some a ≡ Some b → a ≡ b
    some_is a b e = cc e

-- one step: what is added next was said next
pub added_more : (before now then : List Fact) (all left here rest : List DocumentItem) → map says before ++ all ≡ map says now ++ left → left ≡ here ++ rest → map says then ≡ map says now ++ here
    → map says before ++ all ≡ map says then ++ rest
added_more before now then all left here rest e is more = e ∙ ap (λ xs. map says now ++ xs) is ∙ sym (append_assoc (map says now) here rest) ∙ ap (λ xs. xs ++ rest) (sym more)

pub fails_after : (e : JsonFault) (done rest : List DocumentItem) → done ≡ [] → TellsFirstFault rest e → TellsFirstFault (done ++ rest) e
fails_after e done rest is h = rw is h

-- an object's first faults are of its members that the schema doesn't have
pub unknown_first : (l : Label) (inner : Forest) (deeper : Place → Members → List DocumentItem) (at : Place) (k : ℕ) (ms : Members) (path : List ℕ) (e : JsonFault) → path ≡ path_below at.path (decimal k)
    → TellsFirstFault (unknown_members path l inner ms) e → TellsFirstFault (object_says l inner deeper at k ms) e
unknown_first l inner deeper at k ms path e is h = fails_more e (unknown_members (path_below at.path (decimal k)) l inner ms) _ (rw is at h)

-- its next are of its columns
pub columns_next : (l : Label) (inner : Forest) (deeper : Place → Members → List DocumentItem) (at : Place) (k : ℕ) (ms : Members) (path : List ℕ) (e : JsonFault) → path ≡ path_below at.path (decimal k)
    → unknown_members path l inner ms ≡ [] → TellsFirstFault (column_faults path l.columns ms) e → TellsFirstFault (object_says l inner deeper at k ms) e
columns_next l inner deeper at k ms path e is clear h =
    fails_after e (unknown_members (path_below at.path (decimal k)) l inner ms) _ (rw is at clear) (fails_more e (column_faults (path_below at.path (decimal k)) l.columns ms) _ (rw is at h))

-- what an inner set's member says
pub set_says : (ms : Members) (t : Tree) (at : Place) (table : ℕ) (up : Option (List ℕ)) (path : List ℕ) (member : Option Data) → member ≡ get_member t.label.name ms → up ≡ at.up → path ≡ path_below at.path t.label.name
    → member_says t.label t.inner (sets_say t.inner) (record { table = table; up = at.up; path = path_below at.path t.label.name }) (get_member t.label.name ms)
    ≡ member_says t.label t.inner (sets_say t.inner) (record { table = table; up = up; path = path }) member
set_says ms t at table up path member m u p = rw (u, p, m) refl

-- a fault of the next column is one of the columns
pub column_fails : (path : List ℕ) (cs : List (List ℕ)) (k : ℕ) (x : List ℕ) (ms : Members) (all : List DocumentItem) (e : JsonFault) → k < length cs → x ≡ get_or cs k x → all ≡ column_faults path (drop k cs) ms
    → TellsFirstFault (reading_faults (path_below path x) (reading_of (get_member x ms))) e → TellsFirstFault all e
column_fails path cs k x ms all e lt is a f =
    let next : drop k cs ≡ x ∷ drop (suc k) cs = drop-cons cs k x lt ∙ ap (λ y. y ∷ drop (suc k) cs) (sym is) in
    rw (a, next) (fails_more e (reading_faults (path_below path x) (reading_of (get_member x ms))) (column_faults path (drop (suc k) cs) ms) f)
