-- Marks of rows.
use Rattle.std.proofs.Common.{◌≡◌, ◌∙◌, ℕ, zero, suc, ◌+◌, ◌<◌, Bool, false, List, [], ◌∷◌, ◌++◌, refl, sym, ap}
use Rattle.std.proofs.Common.{length, get_or, take, Vec, Global}
use Rattle.std.specs.Prelude.{map, replicate}
use Rattle.std.proofs.Math.ListN.{set, length-set}
use Rattle.std.proofs.lemmas.List.{length-map, map-append, map-set, take_more, get_or-map}
use Rattle.dx_base.proofs.Lists.{none_in}
use Rattle.dx_instance.specs.Cells.{NumberTable}
use Rattle.dx_instance.specs.Shown.{numbers_of_table}
use Rattle.dx_solver.specs.Marks.{is_out, none_out, with_mark}

-- nothing is taken out at first
pub none_taken : (ts : List NumberTable) (t p : ℕ) → is_out (none_out ts) t p ≡ false
none_taken [] t p = refl
none_taken (x ∷ ts) zero p = none_in (length x.rows) p
none_taken (x ∷ ts) (suc t) p = none_taken ts t p

-- there are as many after one was changed
pub tables_stay : (out : List (List Bool)) (t p : ℕ) (m : Bool) → length (with_mark out t p m) ≡ length out
tables_stay out t p m = simp length-set

item_stays : (out : List (List Bool)) (t u : ℕ) (x : List Bool) → length x ≡ length (get_or out t [])
    → length (get_or (set out t x) u []) ≡ length (get_or out u [])
item_stays [] t u x e = refl
item_stays (g ∷ out) zero zero x e = e
item_stays (g ∷ out) zero (suc u) x e = refl
item_stays (g ∷ out) (suc t) zero x e = refl
item_stays (g ∷ out) (suc t) (suc u) x e = item_stays out t u x e

pub places_stay : (out : List (List Bool)) (t p u : ℕ) (m : Bool)
    → length (get_or (with_mark out t p m) u []) ≡ length (get_or out u [])
places_stay out t p u m = item_stays out t u _ (simp length-set)

-- the marks of one more table
abbrev pub seen : List (Vec Bool Global) → List (List Bool)
seen ts = map (λ (v : Vec Bool Global). v.items) ts

pub marks_more : (ts : List NumberTable) (t : ℕ) (old : List (Vec Bool Global)) (marks : Vec Bool Global) → t < length ts
    → marks.items ≡ replicate (length (numbers_of_table ts t).rows) false → seen old ≡ take t (none_out ts)
    → seen (old ++ marks ∷ []) ≡ take (t + 1) (none_out ts)
marks_more ts t old marks h e d =
    let k : t < length (none_out ts) = rw (length-map ts (λ (u : NumberTable). replicate (length u.rows) false)) h in
    let m : get_or (none_out ts) t [] ≡ replicate (length (numbers_of_table ts t).rows) false =
    get_or-map (λ (u : NumberTable). replicate (length u.rows) false) ts t (record { width = 0; rows = [] }) [] h in
    let both : seen old ++ marks.items ∷ [] ≡ take t (none_out ts) ++ get_or (none_out ts) t [] ∷ [] = cc in
    map-append (λ (v : Vec Bool Global). v.items) old (marks ∷ []) ∙ (both ∙ sym (take_more (none_out ts) t [] k))

-- a mark that is set
pub mark_seen : (ts : List (Vec Bool Global)) (t p : ℕ) (m : Bool) (w x : Vec Bool Global) → t < length ts → w ≡ get_or ts t w
    → x.items ≡ set w.items p m → seen (set ts t x) ≡ with_mark (seen ts) t p m
mark_seen ts t p m w x h e d =
    let items = λ (v : Vec Bool Global). v.items in
    let row : get_or (seen ts) t [] ≡ w.items = get_or-map items ts t w [] h ∙ ap items (sym e) in
    map-set items ts t x ∙ ap (set (seen ts) t) (d ∙ ap (λ l. set l p m) (sym row))
