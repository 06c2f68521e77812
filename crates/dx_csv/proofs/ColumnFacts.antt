-- Cells that get the numbers of their constants, column by column.
use Rattle.std.proofs.Common.{◌≡◌, ◌∙◌, ◌⊎◌, ◌+◌, ◌*◌, ◌%◌, ◌<◌, ◌≤◌, ◌∷◌, ℕ, zero, suc, List, [], Bool, true, false, refl, sym, ap, subst, arith, length, take, drop, get_or, set, map, replicate, inl, inr, Some, Result, Ok, Err}
use Rattle.std.specs.Prelude.{OnOk, cond}
use Rattle.std.proofs.Math.Nat.{mul-le-mul_right}
use Rattle.std.proofs.lemmas.Bool.{cases_eq, cases_lt}
use Rattle.std.proofs.lemmas.Nat.{mod-mul-add, mul-add-lt}
use Rattle.std.proofs.lemmas.List.{ext_get_or, get_or-drop, get_or-map, get_or-replicate, get_or-set_other, get_or-set_same, get_or-take, length-drop, length-map, length-take-le}
use Rattle.dx_base.specs.Members.{Each, here, there}
use Rattle.dx_base.proofs.Members.{contains_from_in}
use Rattle.dx_model.specs.declared.values.Value.{Value}
use Rattle.dx_model.specs.declared.values.Value.TheVariants.{Const}
use Rattle.dx_instance.specs.Cells.{rows_of_cells}
use Rattle.dx_instance.specs.Numbers.{Extends, IsNumberOf, value_of}
use Rattle.dx_instance.specs.Shown.{NumbersBelow, shown_row}
use Rattle.dx_instance.proofs.ShownFacts.{grown_value, longer}
use Rattle.dx_used.proofs.Blanking.{blanked_length}
use Rattle.dx_csv.specs.Blanks.{NumbersOfTexts, ColumnsSettled, HasBlank, OthersStay, constants_used, is_used}
use Rattle.dx_csv.specs.Fields.{records_in}
use Rattle.dx_model.specs.Values.{constants}
use Rattle.dx_csv.proofs.BlankFacts.{unused_in, value_at}

-- a value keeps its number
number_kept : (S T : List Value) (v : Value) (n : ℕ) → Extends S T → IsNumberOf S v (Some n) → IsNumberOf T v (Some n)
number_kept S T v n e b = let l = longer S T e in let k = b.0 in (omega (arith, l, k), grown_value S T n e b.0 ∙ b.1)

-- two facts of an answer that is Ok give a third
pub on_both : {X E P Q R S : Type 0} (r : Result X E) → (P → Q → R → S) → R → OnOk r P → OnOk r Q → OnOk r S
on_both (Ok x) f z p q = f p q z
on_both (Err e) f z p q = tt

-- ---- the places of cells

same_column : (w r s c d : ℕ) → c < w → d < w → r * w + c ≡ s * w + d → c ≡ d
same_column w r s c d h k e = sym (mod-mul-add r w c h) ∙ ap (λ (n : ℕ). n % w) e ∙ mod-mul-add s w d k

rows_apart : (w r s c : ℕ) → c < w → r < s → r * w + c ≡ s * w + c → ⊥
rows_apart w r s c h k e =
    let above : r + 1 ≤ s = omega (arith, k) in
    let t = mul-le-mul_right w above in
    omega (arith, t, e, h)

-- ---- one row more of a column

pub column_more : (S T : List Value) (texts : List (List ℕ)) (w c i n : ℕ) (old new : List ℕ) → c < w → i * w + c < length old → new ≡ set old (i * w + c) n → Extends S T
    → IsNumberOf T (Const (get_or texts (i * w + c) [])) (Some n) → NumbersOfTexts S texts w c old i → NumbersOfTexts T texts w c new (i + 1)
column_more S T texts w c i n old new h b e g x a r k = rw e (elim (cases_lt r i) [
  | inl l ↦ let o = get_or-set_other old (i * w + c) (r * w + c) n 0 (λ q. rows_apart w r i c h l q) in rw o (number_kept S T _ _ g (a r l))
  | inr l ↦ let s : r ≡ i = omega (arith, k, l) in rw (s, get_or-set_same old (i * w + c) n 0 b) x
])

pub others_more : (w c i n : ℕ) (first old new : List ℕ) → c < w → new ≡ set old (i * w + c) n → OthersStay w c first old → OthersStay w c first new
others_more w c i n first old new h e o r d k m = rw e (get_or-set_other old (i * w + c) (r * w + d) n 0 (λ q. m (same_column w r i d c k h q)) ∙ o r d k m)

-- ---- one column more

pub settled_used : (used : List Bool) (S T : List Value) (texts : List (List ℕ)) (w count c : ℕ) (old new : List ℕ) → is_used used c ≡ true → Extends S T → NumbersOfTexts T texts w c new count → OthersStay w c old new
    → ColumnsSettled used S texts w count old (c + 1) → ColumnsSettled used T texts w count new c
settled_used used S T texts w count c old new u g a o s r d hr hd either = elim (cases_eq d c) [
  | inl e ↦ rw (e, u) (a r hr)
  | inr n ↦ rw (o r d hd n) (number_kept S T _ _ g (s r d hr hd (later n either)))
]
  where
    later : (d ≡ c → ⊥) → (c ≤ d) ⊎ (is_used used d ≡ false) → (c + 1 ≤ d) ⊎ (is_used used d ≡ false)
    later n (inl l) = inl (omega (arith, n, l))
    later n (inr f) = inr f

pub settled_unused : (used : List Bool) (S : List Value) (texts : List (List ℕ)) (w count c : ℕ) (cells : List ℕ) → is_used used c ≡ false → ColumnsSettled used S texts w count cells (c + 1) → ColumnsSettled used S texts w count cells c
settled_unused used S texts w count c cells f s r d hr hd either = s r d hr hd (later either)
  where
    later : (c ≤ d) ⊎ (is_used used d ≡ false) → (c + 1 ≤ d) ⊎ (is_used used d ≡ false)
    later (inl l) = elim (cases_eq d c) [ inl e ↦ inr (rw e f) | inr n ↦ inl (omega (arith, n, l)) ]
    later (inr g) = inr g

-- at first all cells are blank
pub settled_none : (used : List Bool) (S : List Value) (texts : List (List ℕ)) (w count many blank : ℕ) (cells : List ℕ) → cells ≡ replicate many blank → many ≡ count * w → HasBlank used S blank → ColumnsSettled used S texts w count cells w
settled_none used S texts w count many blank cells e m b r c hr hc either = by either
  where
    within : r * w + c < many
    within = let t = mul-add-lt r w c count hr hc in omega (arith, t, m)

    at : get_or cells (r * w + c) 0 ≡ blank
    at = rw e (get_or-replicate many (r * w + c) blank 0 within)

    by : (w ≤ c) ⊎ (is_used used c ≡ false) → IsNumberOf S (cond (is_used used c) (Const (get_or texts (r * w + c) [])) (Const [])) (Some (get_or cells (r * w + c) 0))
    by (inl l) = absurd (omega (arith, l, hc))
    by (inr u) = rw (u, at) (b (unused_in used c u))

-- ---- the rows of the cells

abbrev AllNumbered : List Bool → List Value → List (List ℕ) → ℕ → List ℕ → ℕ → Type 0
AllNumbered used S texts w cells n = (r c : ℕ) → r < n → c < w → IsNumberOf S (cond (is_used used c) (Const (get_or texts (r * w + c) [])) (Const [])) (Some (get_or cells (r * w + c) 0))

first_cell : (used : List Bool) (S : List Value) (texts : List (List ℕ)) (w : ℕ) (cells : List ℕ) (n c : ℕ) → AllNumbered used S texts w cells (suc n) → c < w
    → IsNumberOf S (cond (is_used used c) (Const (get_or texts c [])) (Const [])) (Some (get_or cells c 0))
first_cell used S texts w cells n c a h = let z : 0 * w + c ≡ c = omega arith in rw z at (a 0 c (omega arith) h)

first_shown : (used : List Bool) (S : List Value) (texts : List (List ℕ)) (w : ℕ) (cells : List ℕ) (n : ℕ) → w ≤ length texts → w ≤ length cells → AllNumbered used S texts w cells (suc n)
    → shown_row S (take w cells) ≡ constants_used used (take w texts)
first_shown used S texts w cells n t l a =
    let wide = length-take-le w cells l in
    let many = length-take-le w texts t in
    let left = length-map (take w cells) (value_of S) in
    let right = blanked_length used (constants (take w texts)) ∙ length-map (take w texts) Const in
    ext_get_or (Const []) (shown_row S (take w cells)) (constants_used used (take w texts)) (left ∙ wide ∙ sym (right ∙ many)) (λ i h.
    let b : i < w = omega (arith, h, left, wide) in
    get_or-map (value_of S) (take w cells) i 0 (Const []) (omega (arith, b, wide))
    ∙ ap (value_of S) (get_or-take w cells i 0 b)
    ∙ (first_cell used S texts w cells n i a b).1
    ∙ ap (λ (x : List ℕ). cond (is_used used i) (Const x) (Const [])) (sym (get_or-take w texts i [] b))
    ∙ sym (value_at used (take w texts) i (Const []) (omega (arith, b, many))))

first_below : (used : List Bool) (S : List Value) (texts : List (List ℕ)) (w : ℕ) (cells : List ℕ) (n : ℕ) → w ≤ length cells → AllNumbered used S texts w cells (suc n) → NumbersBelow (length S) (take w cells)
first_below used S texts w cells n l a x m =
    let at = contains_from_in m in
    let b : at.0 < w = omega (arith, at.1, length-take-le w cells l) in
    let f = (first_cell used S texts w cells n at.0 a b).0 in
    let e : get_or cells at.0 0 ≡ x = sym (get_or-take w cells at.0 0 b) ∙ get_or_any (take w cells) at.0 0 x at.1 ∙ at.2 in
    omega (arith, f, e)
  where
    get_or_any : (xs : List ℕ) (i d e : ℕ) → i < length xs → get_or xs i d ≡ get_or xs i e
    get_or_any [] i d e h = absurd (omega arith)
    get_or_any (y ∷ xs) zero d e h = refl
    get_or_any (y ∷ xs) (suc i) d e h = get_or_any xs i d e (omega arith)

rest_numbered : (used : List Bool) (S : List Value) (texts : List (List ℕ)) (w : ℕ) (cells : List ℕ) (n : ℕ) → AllNumbered used S texts w cells (suc n) → AllNumbered used S (drop w texts) w (drop w cells) n
rest_numbered used S texts w cells n a r c hr hc =
    let next : suc r * w + c ≡ w + (r * w + c) = omega arith in
    let one = rw next at (a (suc r) c (omega (arith, hr)) hc) in
    rw (get_or-drop w texts (r * w + c) [], get_or-drop w cells (r * w + c) 0) one

pub rows_shown : (used : List Bool) (S : List Value) (w n : ℕ) (texts : List (List ℕ)) (cells : List ℕ) → length texts ≡ n * w → length cells ≡ n * w → AllNumbered used S texts w cells n
    → map (shown_row S) (rows_of_cells n w cells) ≡ map (constants_used used) (records_in n w texts)
rows_shown used S w zero texts cells t l a = refl
rows_shown used S w (suc n) texts cells t l a =
    let first = first_shown used S texts w cells n (omega (arith, t)) (omega (arith, l)) a in
    let rest = rows_shown used S w n (drop w texts) (drop w cells) (omega (arith, t, length-drop w texts)) (omega (arith, l, length-drop w cells)) (rest_numbered used S texts w cells n a) in
    cc (first, rest)

pub rows_below : (used : List Bool) (S : List Value) (w n : ℕ) (texts : List (List ℕ)) (cells : List ℕ) → length cells ≡ n * w → AllNumbered used S texts w cells n → Each (rows_of_cells n w cells) (NumbersBelow (length S))
rows_below used S w zero texts cells l a r m = elim m [ ]
rows_below used S w (suc n) texts cells l a r (here e) = subst (NumbersBelow (length S)) e (first_below used S texts w cells n (omega (arith, l)) a)
rows_below used S w (suc n) texts cells l a r (there m) = rows_below used S w n (drop w texts) (drop w cells) (omega (arith, l, length-drop w cells)) (rest_numbered used S texts w cells n a) r m

pub all_settled : (used : List Bool) (S : List Value) (texts : List (List ℕ)) (w count c : ℕ) (cells : List ℕ) → c ≡ 0 → ColumnsSettled used S texts w count cells c → AllNumbered used S texts w cells count
all_settled used S texts w count c cells z s r d hr hd = s r d hr hd (inl (omega (arith, z)))
