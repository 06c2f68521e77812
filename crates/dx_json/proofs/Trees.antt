-- A tree, level by level, and a map of members beside the members that it stands for.
use Rattle.std.proofs.Common.{◌≡◌, ℕ, zero, suc, ◌+◌, ◌<◌, List, [], ◌∷◌, length, get_or, drop, Bool, true, false, true≢false, Option, None, Some, Vec, Global, Bor, Ordering, Less, Equal, Greater, nat_cmp, is_eq, bytes_eq, refl, sym, subst, ◌∙◌, ap, arith, rules, add-one, drop-cons}
use Rattle.std.specs.List.{AllWithin, HoldsAt}
use Rattle.std.specs.Option.{MatchOption}
use Rattle.std.specs.Cmp.Lexicographic.{slice_cmp}
use Rattle.std.specs.Ordering.{match_ordering}
use Rattle.std.specs.BTreeMap.{insert_entry}
use Rattle.std.proofs.lemmas.Map.Text.{is_eq-slice_cmp}
use Rattle.std.proofs.lemmas.Slice.Eq.{bytes_eq-Decides}
use Rattle.serde_json.specs.Data.{Data, array, object, member, put}
use Rattle.serde_json.specs.Find.{get_member}
use Rattle.dx_json.specs.declared.tree.Json.{Json, Array, Object, the_lemmas}
use Rattle.dx_json.specs.View.{view, items_view, members_view}

abbrev pub Entry : Type 0
Entry = Bor (List ℕ) × Json

pub view-Array : (v : Vec Json Global) → view (Array v) ≡ array (items_view v.items)
view-Array v = search (rules, the_lemmas)

pub view-Object : (v : Vec Entry Global) → view (Object v) ≡ object (members_view v.items)
view-Object v = search (rules, the_lemmas)

members_view-match_ordering : (o : Ordering) (a b c : List Entry) → members_view (match_ordering o a b c) ≡ match_ordering o (members_view a) (members_view b) (members_view c)
members_view-match_ordering Less a b c = refl
members_view-match_ordering Equal a b c = refl
members_view-match_ordering Greater a b c = refl

pub members_view-insert_entry : (es : List Entry) (k : Bor (List ℕ)) (v : Json) → members_view (insert_entry (λ x y. slice_cmp nat_cmp x.now y.now) es k v) ≡ put k.now (view v) (members_view es)
members_view-insert_entry [] k v = refl
members_view-insert_entry (e ∷ es) k v = members_view-match_ordering (slice_cmp nat_cmp k.now e.0.now) _ _ _ ∙ rw (members_view-insert_entry es k v)

-- ---- the member of a name, from the k-th member on

found_here : (o : Ordering) (a b : Option Data) → is_eq o ≡ true → match_ordering o a b a ≡ b
found_here Less a b e = absurd (true≢false (sym e))
found_here Equal a b e = refl
found_here Greater a b e = absurd (true≢false (sym e))

found_later : (o : Ordering) (a b : Option Data) → is_eq o ≡ false → match_ordering o a b a ≡ a
found_later Less a b e = refl
found_later Equal a b e = absurd (true≢false e)
found_later Greater a b e = refl

from_here : (es : List Entry) (k : ℕ) (e : Entry) → k < length es → e ≡ get_or es k e → members_view (drop k es) ≡ member e.0.now (view e.1) (members_view (drop (k + 1) es))
from_here es k e lt is =
    let next : drop k es ≡ e ∷ drop (k + 1) es = rw add-one (drop-cons es k e lt ∙ ap (λ x. x ∷ drop (suc k) es) (sym is)) in
    ap members_view next

bytes_eq-comm : (xs ys : List ℕ) → bytes_eq xs ys ≡ bytes_eq ys xs
bytes_eq-comm xs ys = go (bytes_eq xs ys) (bytes_eq ys xs) refl refl
  where
    go : (a b : Bool) → bytes_eq xs ys ≡ a → bytes_eq ys xs ≡ b → a ≡ b
    go true true e f = refl
    go false false e f = refl
    go true false e f = sym ((bytes_eq-Decides ys xs).1 (sym ((bytes_eq-Decides xs ys).0 e))) ∙ f
    go false true e f = sym e ∙ (bytes_eq-Decides xs ys).1 (sym ((bytes_eq-Decides ys xs).0 f))

pub member_here : (name : List ℕ) (es : List Entry) (k : ℕ) (e : Entry) → k < length es → e ≡ get_or es k e → bytes_eq e.0.now name ≡ true → Some (view e.1) ≡ get_member name (members_view (drop k es))
member_here name es k e lt is same =
    let equal : is_eq (slice_cmp nat_cmp name e.0.now) ≡ true = is_eq-slice_cmp name e.0.now ∙ bytes_eq-comm name e.0.now ∙ same in
    sym (found_here (slice_cmp nat_cmp name e.0.now) _ _ equal) ∙ ap (get_member name) (sym (from_here es k e lt is))

pub member_past : (name : List ℕ) (es : List Entry) (k : ℕ) (e : Entry) → k < length es → e ≡ get_or es k e → bytes_eq e.0.now name ≡ false
    → get_member name (members_view (drop k es)) ≡ get_member name (members_view (drop (k + 1) es))
member_past name es k e lt is other =
    let apart : is_eq (slice_cmp nat_cmp name e.0.now) ≡ false = is_eq-slice_cmp name e.0.now ∙ bytes_eq-comm name e.0.now ∙ other in
    ap (get_member name) (from_here es k e lt is) ∙ found_later (slice_cmp nat_cmp name e.0.now) _ _ apart

-- what the first member of a name, or that there is none, says of the object
abbrev pub Unnamed : List ℕ → List Entry → ℕ → Type 0
Unnamed name es n = AllWithin (λ (e : Entry). bytes_eq e.0.now name ≡ false) es 0 n

abbrev pub IsFirstNamed : List ℕ → List Entry → Entry → Type 0
IsFirstNamed name es x = (bytes_eq x.0.now name ≡ true) × (i : ℕ) × (i < length es) × HoldsAt (λ (e : Entry). e ≡ x) es i × Unnamed name es i

none_named : (name : List ℕ) (es : List Entry) → Unnamed name es (length es) → None ≡ get_member name (members_view es)
none_named name [] h = refl
none_named name (e ∷ es) h = none_named name es (λ k d l u. h (suc k) d (omega arith) (omega (arith, u))) ∙ sym (member_past name (e ∷ es) 0 e (omega arith) refl (h 0 e (omega arith) (omega arith)))

first_named : (name : List ℕ) (es : List Entry) (x : Entry) (i : ℕ) → i < length es → HoldsAt (λ (e : Entry). e ≡ x) es i → bytes_eq x.0.now name ≡ true → Unnamed name es i
    → Some (view x.1) ≡ get_member name (members_view es)
first_named name [] x i h is same none = absurd (omega (arith, h))
first_named name (e ∷ es) x zero h is same none = member_here name (e ∷ es) 0 x (omega arith) (sym (is x)) same
first_named name (e ∷ es) x (suc i) h is same none =
    first_named name es x i (omega (arith, h)) (λ d. is d) same (λ k d l u. none (suc k) d (omega arith) (omega (arith, u))) ∙ sym (member_past name (e ∷ es) 0 e (omega arith) refl (none 0 e (omega arith) (omega arith)))

pub none_found : (name : List ℕ) (es : List Entry) (o : Option (Bor Entry)) → o ≡ None → MatchOption o (Unnamed name es (length es)) (λ x. IsFirstNamed name es x.now) → None ≡ get_member name (members_view es)
none_found name es o e h = none_named name es (subst (λ (p : Option (Bor Entry)). MatchOption p (Unnamed name es (length es)) (λ x. IsFirstNamed name es x.now)) e h)

pub some_found : (name : List ℕ) (es : List Entry) (o : Option (Bor Entry)) (x : Bor Entry) → o ≡ Some x → MatchOption o (Unnamed name es (length es)) (λ y. IsFirstNamed name es y.now) → Some (view x.now.1) ≡ get_member name (members_view es)
some_found name es o x e h =
    let f : IsFirstNamed name es x.now = subst (λ (p : Option (Bor Entry)). MatchOption p (Unnamed name es (length es)) (λ y. IsFirstNamed name es y.now)) e h in
    first_named name es x.now f.1 f.2 f.3 f.0 f.4
