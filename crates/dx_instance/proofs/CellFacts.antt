-- Rows of numbers that lie one after the other.
use Rattle.std.proofs.Common.{◌≡◌, ◌∙◌, ◌+◌, ◌*◌, ◌<◌, ◌≤◌, ◌-◌, ◌++◌, ◌∷◌, ℕ, zero, suc, List, [], refl, sym, ap, subst, arith, length, get_or, take, drop, map, inl, inr, add-one, below_more, true, set}
use Rattle.std.specs.Ordering.{is_lt}
use Rattle.std.specs.declared.cmp.Ordering.{Ordering}
use Rattle.std.specs.declared.cmp.Ordering.TheVariants.{Less, Equal, Greater}
use Rattle.std.proofs.lemmas.Bool.{cases_lt}
use Rattle.std.proofs.lemmas.Cmp.{nat_list_cmp_total}
use Rattle.std.proofs.lemmas.List.{ext_get_or, get_or-map, get_or-set_other, get_or-set_same, length-map, length-set, length-drop, length-take-le, get_or-take, get_or-drop, get_or_default, take-map, drop-map, take_more, drop-drop, take_all, take-append-le, drop-append-le, nil_from_length}
use Rattle.dx_base.specs.Members.{◌∈◌, here, there, Each}
use Rattle.dx_base.proofs.Members.{from_append, in_at}
use Rattle.dx_instance.specs.Cells.{NumberTable, NumbersAscend, rows_of_cells, numbers_at}
use Rattle.dx_instance.specs.Shown.{NumbersBelow, renumbered}
use Rattle.dx_instance.proofs.TableFacts.{numbers_cmp}

pub length_rows : (n w : ℕ) (cells : List ℕ) → length (rows_of_cells n w cells) ≡ n
length_rows zero w cells = refl
length_rows (suc n) w cells = ap suc (length_rows n w (drop w cells))

pub row_is : (n w : ℕ) (cells : List ℕ) (p d : ℕ) → p < n → d ≡ p * w → numbers_at (rows_of_cells n w cells) p ≡ take w (drop d cells)
row_is zero w cells p d h e = absurd (omega arith)
row_is (suc n) w cells zero d h e = let z : d ≡ 0 = omega (arith, e) in rw z refl
row_is (suc n) w cells (suc p) d h e =
    let s : w + p * w ≡ d = omega (arith, e) in
    row_is n w (drop w cells) p (p * w) (omega arith) refl ∙ ap (λ (l : List ℕ). take w l) (drop-drop (p * w) w cells ∙ ap (λ (m : ℕ). drop m cells) s)

rows_more : (n w : ℕ) (cells row : List ℕ) → length cells ≡ n * w → length row ≡ w → rows_of_cells (suc n) w (cells ++ row) ≡ rows_of_cells n w cells ++ row ∷ []
rows_more zero w cells row e l =
    let none : cells ≡ [] = nil_from_length cells (omega (arith, e)) in
    rw none (ap (λ (r : List ℕ). r ∷ []) (take_all w row (omega (arith, l))))
rows_more (suc n) w cells row e l =
    let long : w ≤ length cells = omega (arith, e) in
    let rest : length (drop w cells) ≡ n * w = omega (arith, e, length-drop w cells) in
    rw (take-append-le w cells row long, drop-append-le w cells row long) (ap (λ (rs : List (List ℕ)). take w cells ∷ rs) (rows_more n w (drop w cells) row rest l))

pub rows_push : (n w : ℕ) (cells row : List ℕ) → length cells ≡ n * w → length row ≡ w → rows_of_cells (n + 1) w (cells ++ row) ≡ rows_of_cells n w cells ++ row ∷ []
rows_push n w cells row e l = rw add-one (rows_more n w cells row e l)

-- each row has as many cells as the width
pub rows_wide : (n w : ℕ) (cells : List ℕ) → length cells ≡ n * w → Each (rows_of_cells n w cells) (λ (r : List ℕ). length r ≡ w)
rows_wide zero w cells e r m = elim m [ ]
rows_wide (suc n) w cells e r (here q) = rw (← q) (length-take-le w cells (omega (arith, e)))
rows_wide (suc n) w cells e r (there m) = rows_wide n w (drop w cells) (omega (arith, e, length-drop w cells)) r m

-- a cell stands in some row
in_rows : (n w : ℕ) (cells : List ℕ) (i x : ℕ) → length cells ≡ n * w → i < length cells → x ≡ get_or cells i x → (r : List ℕ) × (r ∈ rows_of_cells n w cells) × (x ∈ r)
in_rows zero w cells i x e h q = absurd (omega (arith, e))
in_rows (suc n) w cells i x e h q = elim (cases_lt i w) [
  | inl b ↦
      let l = length-take-le w cells (omega (arith, e)) in
      (take w cells, here refl, subst (λ (y : ℕ). y ∈ take w cells) (get_or-take w cells i x b ∙ sym q) (in_at (take w cells) i x (omega (arith, l))))
  | inr b ↦
      let s : w + (i - w) ≡ i = omega (arith, b) in
      let k : x ≡ get_or (drop w cells) (i - w) x = q ∙ sym (get_or-drop w cells (i - w) x ∙ ap (λ (j : ℕ). get_or cells j x) s) in
      let r = in_rows n w (drop w cells) (i - w) x (omega (arith, e, length-drop w cells)) (omega (arith, h, length-drop w cells)) k in
      (r.0, there r.1, r.2)
]

pub cell_below : (t : NumberTable) (n w : ℕ) (cells : List ℕ) (i x b : ℕ) → ◌≡◌ {A = NumberTable} (record { width = w; rows = rows_of_cells n w cells }) t → length cells ≡ n * w → Each t.rows (NumbersBelow b) → i < length cells → x ≡ get_or cells i x → x < b
cell_below t n w cells i x b v e f h q =
    let r = in_rows n w cells i x e h q in
    f r.0 (subst (λ (u : NumberTable). r.0 ∈ u.rows) v r.1) x r.2

from_take : (n : ℕ) (xs : List ℕ) {x : ℕ} → x ∈ take n xs → x ∈ xs
from_take zero xs m = elim m [ ]
from_take (suc n) [] m = elim m [ ]
from_take (suc n) (y ∷ xs) (here e) = here e
from_take (suc n) (y ∷ xs) (there m) = there (from_take n xs m)

from_drop : (n : ℕ) (xs : List ℕ) {x : ℕ} → x ∈ drop n xs → x ∈ xs
from_drop zero xs m = m
from_drop (suc n) [] m = elim m [ ]
from_drop (suc n) (y ∷ xs) m = there (from_drop n xs m)

-- one cell more below a bound
pub below_one_more : (cells : List ℕ) (i b c : ℕ) → i < length cells → b ≤ c → get_or cells i 0 < c → NumbersBelow b (take i cells) → NumbersBelow c (take (i + 1) cells)
below_one_more cells i b c h up last f x m = elim (from_append (take i cells) (subst (λ (l : List ℕ). x ∈ l) (take_more cells i 0 h) m)) [
  | inl k ↦ let l = f x k in omega (arith, l, up)
  | inr (here e) ↦ rw (← e) last
  | inr (there k) ↦ elim k [ ]
]

-- what holds of all cells holds of the cells of each row
pub rows_below : (n w b : ℕ) (cells : List ℕ) → NumbersBelow b cells → Each (rows_of_cells n w cells) (NumbersBelow b)
rows_below zero w b cells f r m = elim m [ ]
rows_below (suc n) w b cells f r (here e) = rw (← e) (λ x h. f x (from_take w cells h))
rows_below (suc n) w b cells f r (there m) = rows_below n w b (drop w cells) (λ x h. f x (from_drop w cells h)) r m

rows_map : (f : ℕ → ℕ) (n w : ℕ) (cells : List ℕ) → rows_of_cells n w (map f cells) ≡ map (λ (r : List ℕ). map f r) (rows_of_cells n w cells)
rows_map f zero w cells = refl
rows_map f (suc n) w cells =
    let rest = ap (λ (l : List ℕ). rows_of_cells n w l) (drop-map f w cells) ∙ rows_map f n w (drop w cells) in
    let first = take-map f w cells in
    cc (first, rest)

pub renumbered_is : (t : NumberTable) (n w : ℕ) (cells ranks : List ℕ) → ◌≡◌ {A = NumberTable} (record { width = w; rows = rows_of_cells n w cells }) t
    → ◌≡◌ {A = NumberTable} (record { width = w; rows = rows_of_cells n w (map (λ (x : ℕ). get_or ranks x 0) cells) }) (renumbered ranks t)
renumbered_is t n w cells ranks v =
    rw (← v) (ap (λ (rs : List (List ℕ)). let u : NumberTable = record { width = w; rows = rs } in u) (rows_map (λ (x : ℕ). get_or ranks x 0) n w cells))

-- the first n cells are replaced, the others are as they were
pub record AreReplaced (f : ℕ → ℕ) (cells new : List ℕ) (n : ℕ) : Type 0 where
  pub many : length new ≡ length cells
  pub done : (k : ℕ) → k < n → get_or new k 0 ≡ f (get_or cells k 0)
  pub left : (k : ℕ) → n ≤ k → get_or new k 0 ≡ get_or cells k 0

pub replaced_more : (f : ℕ → ℕ) (cells new : List ℕ) (i x : ℕ) → i < length new → x ≡ f (get_or new i 0) → AreReplaced f cells new i → AreReplaced f cells (set new i x) (i + 1)
replaced_more f cells new i x h e a = record {
  many = length-set new i x ∙ a.many;
  done = below_more _ _ (λ k b. get_or-set_other new i k x 0 (λ q. omega (arith, b, q)) ∙ a.done k b) (get_or-set_same new i x 0 h ∙ e ∙ ap f (a.left i (omega arith)));
  left = λ k b. get_or-set_other new i k x 0 (λ q. omega (arith, b, q)) ∙ a.left k (omega (arith, b));
}

pub replaced_all : (f : ℕ → ℕ) (cells new : List ℕ) (n : ℕ) → length cells ≤ n → AreReplaced f cells new n → new ≡ map f cells
replaced_all f cells new n h a =
    ext_get_or 0 new (map f cells) (a.many ∙ sym (length-map cells f)) (λ k b. a.done k (omega (arith, b, h, a.many)) ∙ sym (get_or-map f cells k 0 0 (omega (arith, b, a.many))))

-- rows of which each is below the next ascend
pub ascends_by_steps : (rows : List (List ℕ)) → ((k : ℕ) → 1 ≤ k → k < length rows → true ≡ is_lt (numbers_cmp (numbers_at rows (k - 1)) (numbers_at rows k))) → NumbersAscend rows
ascends_by_steps rows up i j d low h = rw (get_or_default rows i d [] (omega (arith, low, h)), get_or_default rows j d [] h) (under i j low h)
  where
    less : (o : Ordering) → true ≡ is_lt o → o ≡ Less
    less Less e = refl
    less Equal e = absurd (cc e)
    less Greater e = absurd (cc e)

    under : (i j : ℕ) → i < j → j < length rows → numbers_cmp (numbers_at rows i) (numbers_at rows j) ≡ Less
    under i zero l c = absurd (omega (arith, l))
    under i (suc j) l c =
        let s : suc j - 1 ≡ j = omega arith in
        let next : numbers_cmp (numbers_at rows j) (numbers_at rows (suc j)) ≡ Less = rw s at (less (numbers_cmp (numbers_at rows (suc j - 1)) (numbers_at rows (suc j))) (up (suc j) (omega arith) c)) in
        elim (cases_lt i j) [
          | inl b ↦ nat_list_cmp_total.trans (numbers_at rows i) (numbers_at rows j) (numbers_at rows (suc j)) (under i j b (omega (arith, c))) next
          | inr b ↦ let q : i ≡ j = omega (arith, b, l) in rw q next
        ]
