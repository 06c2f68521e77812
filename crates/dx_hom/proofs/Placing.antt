-- Rows at places, and null maps made of what was found.
use Rattle.std.proofs.Common.{◌≡◌, ◌∙◌, ℕ, ◌+◌, ◌<◌, ◌≤◌, Bool, true, cond, List, [], ◌∷◌, ◌++◌, refl, sym, ap, arith}
use Rattle.std.proofs.Common.{length, get_or, take, drop, Vec, Global}
use Rattle.std.proofs.Math.ListN.{set}
use Rattle.std.specs.Prelude.{◌↔◌, IsTrue, Option, Some, None, map}
use Rattle.std.specs.FinMap as finite
use Rattle.std.proofs.lemmas.List.{drop_more, get_or-map, map-set, take_more, take_all}
use Rattle.dx_base.specs.Members.{Each}
use Rattle.dx_base.proofs.Members.{in_at}
use Rattle.dx_base.proofs.Lists.{drop_past}
use Rattle.dx_model.specs.declared.values.NullId.{NullId}
use Rattle.dx_model.specs.declared.values.Value.{Value}
use Rattle.dx_model.specs.Instances.{given, same_null}
use Rattle.dx_instance.specs.NullMaps.{ByNull, becomes, or_itself, pairs_of, with_value}
use Rattle.dx_model.specs.Values.{null_cmp}
use Rattle.dx_instance.specs.Stored.{TableRows, rows_of, table_at}
use Rattle.dx_instance.specs.Places.{row_at}
use Rattle.dx_instance.proofs.AfterFacts.{becomes_set, pairs_give}
use Rattle.dx_hom.specs.declared.matching.Found.{Found}
use Rattle.dx_hom.specs.View.{marked}
use Rattle.dx_hom.specs.Homs.{found_pairs}
use Rattle.dx_hom.specs.Narrowing.{Allows, null_value}

-- rows are as wide as their table
pub row_wide : (I : List TableRows) (t p : ℕ) → t < length I → p < length (rows_of I t)
    → Each I (λ u. Each u.rows (λ (r : List Value). length r ≡ u.width)) → length (row_at I t p) ≡ (table_at I t).width
row_wide I t p h b wide = wide (table_at I t) (in_at I t (record { width = 0; rows = [] }) h) (row_at I t p) (in_at (rows_of I t) p [] b)

-- a row that was gone through
pub rows_same : (xs ys : List Value) (i : ℕ) → length xs ≤ i → length ys ≡ length xs → take i xs ≡ take i ys → xs ≡ ys
rows_same xs ys i h l e = sym (take_all i xs h) ∙ (e ∙ take_all i ys (omega (arith, h, l)))

pub rows_more : (xs ys : List Value) (i : ℕ) (x y : Value) → i < length xs → length ys ≡ length xs → x ≡ get_or xs i x
    → y ≡ get_or ys i y → y ≡ x → take i xs ≡ take i ys → take (i + 1) xs ≡ take (i + 1) ys
rows_more xs ys i x y h l p q d e =
    let z : get_or xs i x ≡ get_or ys i y = sym p ∙ (sym d ∙ q) in
    let both : take i xs ++ get_or xs i x ∷ [] ≡ take i ys ++ get_or ys i y ∷ [] = cc in
    take_more xs i x h ∙ (both ∙ sym (take_more ys i y (omega (arith, h, l))))

-- what is fixed, or not
pub allows_none : (m : ByNull) (n : NullId) (v : Value) → finite.get m n ≡ None → Allows m n v
allows_none m n v e x f = let d : ◌≡◌ {A = Option Value} None (Some x) = sym e ∙ f in cc d

pub allows_some : (m : ByNull) (n : NullId) (v w : Value) (r : Bool) → finite.get m n ≡ Some w → (IsTrue r ↔ (w ≡ v))
    → IsTrue r ↔ Allows m n v
allows_some m n v w r e s = (
  (λ t x f. let d : ◌≡◌ {A = Option Value} (Some w) (Some x) = sym e ∙ f in let k : w ≡ x = cc d in sym k ∙ s.0 t),
  (λ a. s.1 (a w e)),
)

-- ---- null maps, from the last that was found to the first

abbrev pub MadeFrom : List TableRows → List Found → ℕ → ByNull → Type 0
MadeFrom I found i m = (n : NullId) → becomes m n ≡ given (found_pairs I (drop i found)) n

pub made_more : (I : List TableRows) (found : List Found) (i : ℕ) (b : Found) (old new : ByNull) (v : Value) → i < length found
    → b ≡ get_or found i b → v ≡ null_value I b → new ≡ with_value old b.null v → MadeFrom I found (i + 1) old → MadeFrom I found i new
made_more I found i b old new v h e d w m n =
    let rest = found_pairs I (drop (i + 1) found) in
    let s : drop i found ≡ b ∷ drop (i + 1) found = drop_more found i b h ∙ ap (λ (x : Found). x ∷ drop (i + 1) found) (sym e) in
    let is = ap (λ (x : ByNull). becomes x n) w ∙ becomes_set old b.null v n in
    let cell = ap (λ (x : Value). cond (same_null b.null n) x (becomes old n)) d in
    let others = ap (λ (x : Value). cond (same_null b.null n) (null_value I b) x) (m n) in
    let k : becomes new n ≡ cond (same_null b.null n) (null_value I b) (given rest n) = is ∙ (cell ∙ others) in
    rw s k

-- ---- marks of what is taken out

abbrev pub seen : List (Vec Bool Global) → List (List Bool)
seen ts = map (λ (v : Vec Bool Global). v.items) ts

pub marked_seen : (ts : List (Vec Bool Global)) (t p : ℕ) (w x : Vec Bool Global) → t < length ts → w ≡ get_or ts t w
    → x.items ≡ set w.items p true → seen (set ts t x) ≡ marked (seen ts) t p
marked_seen ts t p w x h e d =
    let items = λ (v : Vec Bool Global). v.items in
    let row : get_or (seen ts) t [] ≡ w.items = get_or-map items ts t w [] h ∙ ap items (sym e) in
    map-set items ts t x ∙ ap (set (seen ts) t) (d ∙ ap (λ l. set l p true) (sym row))

-- ---- the first and the last of a null map that is made

drop_none : {X : Type 0} (xs : List X) → drop 0 xs ≡ xs
drop_none [] = refl
drop_none (x ∷ xs) = refl

pub made_none : (I : List TableRows) (found : List Found) (i : ℕ) (m : ByNull) → length found ≤ i → m ≡ finite.empty → MadeFrom I found i m
made_none I found i m h e n =
    let none = sym (ap (λ (l : List Found). given (found_pairs I l) n) (drop_past found i h)) in
    ap (λ (x : ByNull). becomes x n) e ∙ (ap (or_itself n) (finite.get-empty null_cmp n) ∙ none)

pub made_all : (I : List TableRows) (found all : List Found) (i : ℕ) (m : ByNull) → i ≡ 0 → found ≡ all → MadeFrom I found i m
    → (n : NullId) → given (pairs_of m) n ≡ given (found_pairs I all) n
made_all I found all i m z e k n =
    let start = ap (λ (j : ℕ). given (found_pairs I (drop j found)) n) z in
    let whole = ap (λ (l : List Found). given (found_pairs I l) n) (drop_none found ∙ e) in
    pairs_give m n ∙ (k n ∙ (start ∙ whole))
