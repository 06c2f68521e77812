-- Rows that are one number each, put in order by these numbers and read again.
use Rattle.std.proofs.Common.{◌≡◌, ◌∙◌, ◌+◌, ◌-◌, ◌*◌, ◌/◌, ◌%◌, ◌^◌, ◌<◌, ◌≤◌, ◌++◌, ◌∷◌, ℕ, zero, suc, List, [], refl, sym, ap, subst, arith, length, get_or, map, take, IsPermutation}
use Rattle.std.specs.Prelude.{nat_eq}
use Rattle.std.specs.List.{AllPairs, dedup}
use Rattle.std.specs.List.Sorted.{IsSorted}
use Rattle.std.specs.List.Retain.{IsFiltered, DiffersFromLast}
use Rattle.std.specs.Ordering.{nat_cmp, ordering_reverse}
use Rattle.std.specs.declared.cmp.Ordering.{Ordering}
use Rattle.std.specs.declared.cmp.Ordering.TheVariants.{Less, Equal, Greater}
use Rattle.std.proofs.Math.Nat.{add-mul, add_assoc, mul_assoc, mul_comm, pow-suc, pow-zero}
use Rattle.std.proofs.Math.Pow.{pow_mono}
use Rattle.std.proofs.lemmas.Cmp.{nat_list_cmp_total}
use Rattle.std.proofs.lemmas.List.{append_assoc, get_or-map, length-append, length-map, map_more, take_all}
use Rattle.std.proofs.lemmas.List.Filters.{dedup_is}
use Rattle.std.proofs.lemmas.List.Kept.{AllPairs-from_increasing, Contains-dedup_nat, Contains-from_dedup}
use Rattle.std.proofs.lemmas.List.Sorted.{Contains-permutation, IsPermutation-sym}
use Rattle.std.proofs.lemmas.Map.Keys.{IsStrictlyIncreasing-dedup}
use Rattle.std.proofs.lemmas.Nat.{mod_low, mul-add-lt, pow-add, pow_pos, shr_high}
use Rattle.dx_base.specs.Members.{◌∈◌, ◌⊆◌, here, there, Each}
use Rattle.dx_base.proofs.Members.{contains_from_in, from_map, in_at, in_from_contains, in_map}
use Rattle.dx_instance.specs.Cells.{IsOrderOf, NumberTable, NumbersAscend, rows_of_cells}
use Rattle.dx_instance.specs.Keys.{HasBits, DigitsFit, packed, unpacked}
use Rattle.dx_instance.specs.Shown.{NumbersBelow}
use Rattle.dx_instance.proofs.CellFacts.{rows_push}
use Rattle.dx_instance.proofs.KeyFacts.{below_more_bound, below_small, rises}
use Rattle.dx_instance.proofs.TableFacts.{numbers_cmp, numbers_exact}

-- one number more takes so many bits more
bits_more : (c n : ℕ) → 2 ^ (c * suc n) ≡ 2 ^ (c * n) * 2 ^ c
bits_more c n = let e : c * suc n ≡ c * n + c = omega arith in ap (λ (m : ℕ). 2 ^ m) e ∙ pow-add 2 (c * n) c

power_of_power : (c n : ℕ) → (2 ^ c) ^ n ≡ 2 ^ (c * n)
power_of_power c zero = let z : c * 0 ≡ 0 = omega arith in pow-zero (2 ^ c) ∙ sym (pow-zero 2) ∙ ap (λ (m : ℕ). 2 ^ m) (sym z)
power_of_power c (suc n) = pow-suc (2 ^ c) n ∙ ap (λ (m : ℕ). m * 2 ^ c) (power_of_power c n) ∙ sym (bits_more c n)

pub bits_room : (c n : ℕ) → HasBits c n → DigitsFit (2 ^ c) n
bits_room c n h = record {
  some = pow_pos c;
  fits = let m : 2 ^ (c * n) ≤ 2 ^ 64 = pow_mono h.fits in let e = power_of_power c n in omega (arith, m, e);
}

-- the number that was there before its last n digits, and what these come to
record HasRest (c n p key : ℕ) : Type 0 where
  pub rest : ℕ
  pub below : rest < 2 ^ (c * n)
  pub is : key ≡ p * 2 ^ (c * n) + rest

rest_more : (b t p x r key : ℕ) → key ≡ (p * b + x) * t + r → key ≡ p * (t * b) + (x * t + r)
rest_more b t p x r key e =
    let one : (p * b + x) * t ≡ p * b * t + x * t = add-mul (p * b) x t in
    let two : p * b * t ≡ p * (t * b) = mul_assoc p b t ∙ ap (λ (m : ℕ). p * m) (mul_comm b t) in
    e ∙ ap (λ (m : ℕ). m + r) (one ∙ ap (λ (m : ℕ). m + x * t) two) ∙ add_assoc (p * (t * b)) (x * t) r

has_rest : (c n p : ℕ) (xs : List ℕ) → length xs ≡ n → NumbersBelow (2 ^ c) xs → HasRest c n p (packed (2 ^ c) n p xs)
has_rest c zero p [] l b = let z : c * 0 ≡ 0 = omega arith in record { rest = 0; below = pow_pos (c * 0); is = rw z (omega arith) }
has_rest c zero p (x ∷ xs) l b = absurd (omega (arith, l))
has_rest c (suc n) p [] l b = absurd (omega (arith, l))
has_rest c (suc n) p (x ∷ xs) l b =
    let r = has_rest c n (p * 2 ^ c + x) xs (omega (arith, l)) (λ y m. b y (there m)) in
    let k = bits_more c n in
    record {
      rest = x * 2 ^ (c * n) + r.rest;
      below = rw k (mul-add-lt x (2 ^ (c * n)) r.rest (2 ^ c) (b x (here refl)) r.below);
      is = rw k (rest_more (2 ^ c) (2 ^ (c * n)) p x r.rest (packed (2 ^ c) n (p * 2 ^ c + x) xs) r.is);
    }

-- a packed row is read again
pub unpacked_packed : (c n p : ℕ) (xs : List ℕ) → length xs ≡ n → NumbersBelow (2 ^ c) xs → unpacked c n (packed (2 ^ c) n p xs) ≡ xs
unpacked_packed c zero p [] l b = refl
unpacked_packed c zero p (x ∷ xs) l b = absurd (omega (arith, l))
unpacked_packed c (suc n) p [] l b = absurd (omega (arith, l))
unpacked_packed c (suc n) p (x ∷ xs) l b =
    let r = has_rest c n (p * 2 ^ c + x) xs (omega (arith, l)) (λ y m. b y (there m)) in
    let high = ap (λ (k : ℕ). k / 2 ^ (c * n)) r.is ∙ shr_high (p * 2 ^ c + x) (c * n) r.rest r.below in
    let first = ap (λ (k : ℕ). k % 2 ^ c) high ∙ mod_low p c x (b x (here refl)) in
    let others = unpacked_packed c n (p * 2 ^ c + x) xs (omega (arith, l)) (λ y m. b y (there m)) in
    cc (first, others)

-- rows compare as their numbers
less_of_keys : (c n : ℕ) (r s : List ℕ) → NumbersBelow (2 ^ c) r → NumbersBelow (2 ^ c) s → packed (2 ^ c) n 0 r < packed (2 ^ c) n 0 s → numbers_cmp r s ≡ Less
less_of_keys c n r s a b h = by (numbers_cmp r s) refl
  where
    by : (o : Ordering) → numbers_cmp r s ≡ o → numbers_cmp r s ≡ Less
    by Less e = e
    by Equal e = let q = ap (packed (2 ^ c) n 0) (numbers_exact r s e) in absurd (omega (arith, q, h))
    by Greater e =
        let t : numbers_cmp s r ≡ Less = nat_list_cmp_total.antisymm s r ∙ ap ordering_reverse e in
        let q = rises (2 ^ c) n 0 s r (below_small (2 ^ c) n s (pow_pos c) b) t in
        absurd (omega (arith, q, h))

-- one number more that was read
pub unpacked_more : (c n i key digit : ℕ) (before cells more : List ℕ) → i < n → digit ≡ key / 2 ^ (c * (n - 1 - i)) % 2 ^ c → more ≡ cells ++ digit ∷ [] → cells ++ unpacked c (n - i) key ≡ before ++ unpacked c n key
    → more ++ unpacked c (n - (i + 1)) key ≡ before ++ unpacked c n key
unpacked_more c n i key digit before cells more h d m e =
    let k : n - i ≡ suc (n - (i + 1)) = omega (arith, h) in
    let j : n - 1 - i ≡ n - (i + 1) = omega arith in
    let head : key / 2 ^ (c * (n - (i + 1))) % 2 ^ c ≡ digit = ap (λ (m : ℕ). key / 2 ^ (c * m) % 2 ^ c) (sym j) ∙ sym d in
    let whole : unpacked c (n - i) key ≡ digit ∷ unpacked c (n - (i + 1)) key = ap (λ (m : ℕ). unpacked c m key) k ∙ ap (λ (x : ℕ). x ∷ unpacked c (n - (i + 1)) key) head in
    rw m (append_assoc cells (digit ∷ []) (unpacked c (n - (i + 1)) key)) ∙ ap (λ (l : List ℕ). cells ++ l) (sym whole) ∙ e

pub length_unpacked : (c n key : ℕ) → length (unpacked c n key) ≡ n
length_unpacked c zero key = refl
length_unpacked c (suc n) key = ap suc (length_unpacked c n key)

-- the numbers stand for the same rows
module _ (c w : ℕ) (old : List (List ℕ)) (wide : Each old (λ (r : List ℕ). length r ≡ w)) (below : Each old (NumbersBelow (2 ^ c))) where
  row_of : (r : List ℕ) → r ∈ old → unpacked c w (packed (2 ^ c) w 0 r) ≡ r
  row_of r m = unpacked_packed c w 0 r (wide r m) (below r m)

  -- what the rows are that are read again
  pub record AreReadAgain (new : List (List ℕ)) : Type 0 where
    pub ascend : NumbersAscend new
    pub kept : old ⊆ new
    pub only : new ⊆ old

  pub read_again : (found sorted keys : List ℕ) → found ≡ map (packed (2 ^ c) w 0) old → IsPermutation found sorted → IsSorted nat_cmp sorted → IsFiltered (DiffersFromLast nat_eq) [] sorted keys → AreReadAgain (map (unpacked c w) keys)
  read_again found sorted keys f p s d = record { ascend = ascend; kept = kept; only = only }
    where
      is : keys ≡ dedup nat_eq sorted
      is = dedup_is nat_eq sorted keys d

      into : (k : ℕ) → k ∈ map (packed (2 ^ c) w 0) old → k ∈ keys
      into k m = rw is (in_from_contains (dedup nat_eq sorted) k (Contains-dedup_nat sorted k (Contains-permutation found sorted k p (contains_from_in (rw f m)))))

      from : (k : ℕ) → k ∈ keys → (r : List ℕ) × (r ∈ old) × (packed (2 ^ c) w 0 r ≡ k)
      from k m =
          let q = in_from_contains found k (Contains-permutation sorted found k (IsPermutation-sym found sorted p) (Contains-from_dedup nat_eq sorted k (contains_from_in (rw is at m)))) in
          from_map (packed (2 ^ c) w 0) old (rw f at q)

      kept : old ⊆ map (unpacked c w) keys
      kept r m = subst (λ (x : List ℕ). x ∈ map (unpacked c w) keys) (row_of r m) (in_map (unpacked c w) (into (packed (2 ^ c) w 0 r) (in_map (packed (2 ^ c) w 0) m)))

      only : map (unpacked c w) keys ⊆ old
      only x m =
          let k = from_map (unpacked c w) keys m in
          let r = from k.0 k.1 in
          let e : r.0 ≡ x = sym (row_of r.0 r.1) ∙ ap (unpacked c w) r.2 ∙ k.2 in
          subst (λ (y : List ℕ). y ∈ old) e r.1

      up : AllPairs (λ (x y : ℕ). x < y) keys
      up = rw is (AllPairs-from_increasing (dedup nat_eq sorted) (IsStrictlyIncreasing-dedup sorted s))

      rise : (j k : ℕ) → j ∈ keys → k ∈ keys → j < k → numbers_cmp (unpacked c w j) (unpacked c w k) ≡ Less
      rise j k a b h =
          let q = from j a in
          let r = from k b in
          let e : unpacked c w j ≡ q.0 = ap (unpacked c w) (sym q.2) ∙ row_of q.0 q.1 in
          let g : unpacked c w k ≡ r.0 = ap (unpacked c w) (sym r.2) ∙ row_of r.0 r.1 in
          let l : packed (2 ^ c) w 0 q.0 < packed (2 ^ c) w 0 r.0 = rw (q.2, r.2) h in
          rw (e, g) (less_of_keys c w q.0 r.0 (below q.0 q.1) (below r.0 r.1) l)

      ascend : NumbersAscend (map (unpacked c w) keys)
      ascend i j x h b =
          let m = length-map keys (unpacked c w) in
          let k : j < length keys = omega (arith, b, m) in
          let g : i < length keys = omega (arith, h, k) in
          rw (get_or-map (unpacked c w) keys i 0 x g, get_or-map (unpacked c w) keys j 0 x k) (rise (get_or keys i 0) (get_or keys j 0) (in_at keys i 0 g) (in_at keys j 0 k) (up i j 0 h k))

-- the rows that are read again are in order
pub order_by_keys : (c w : ℕ) (old new : NumberTable) (found sorted keys : List ℕ) → w ≡ old.width → Each old.rows (λ (r : List ℕ). length r ≡ old.width) → Each old.rows (NumbersBelow (2 ^ c)) → found ≡ map (packed (2 ^ c) w 0) old.rows → IsPermutation found sorted → IsSorted nat_cmp sorted
    → IsFiltered (DiffersFromLast nat_eq) [] sorted keys → ◌≡◌ {A = NumberTable} new (record { width = old.width; rows = map (unpacked c w) keys }) → IsOrderOf old new
order_by_keys c w old new found sorted keys e wide below f p s d is =
    let a = read_again c w old.rows (λ r m. wide r m ∙ sym e) below found sorted keys f p s d in
    rw is (record { width = refl; ascend = a.ascend; kept = a.kept; only = a.only })

-- what is below a bound is below a higher one
pub each_below : (b c : ℕ) (rows : List (List ℕ)) → b ≤ c → Each rows (NumbersBelow b) → Each rows (NumbersBelow c)
each_below b c rows h f r m = below_more_bound b c r h (f r m)

-- the first i rows lie in the cells
pub record AreUnpacked (c w : ℕ) (keys cells : List ℕ) (i : ℕ) : Type 0 where
  pub many : length cells ≡ i * w
  pub rows : rows_of_cells i w cells ≡ map (unpacked c w) (take i keys)

pub are_unpacked_more : (c w : ℕ) (keys cells more : List ℕ) (i key : ℕ) → i < length keys → key ≡ get_or keys i 0 → more ≡ cells ++ unpacked c w key → AreUnpacked c w keys cells i → AreUnpacked c w keys more (i + 1)
are_unpacked_more c w keys cells more i key h k m a =
    let l = length_unpacked c w key in
    rw m (record {
      many = length-append cells (unpacked c w key) ∙ omega (arith, a.many, l);
      rows = rows_push i w cells (unpacked c w key) a.many l ∙ ap (λ (rs : List (List ℕ)). rs ++ unpacked c w key ∷ []) a.rows ∙ sym (rw k (map_more (unpacked c w) keys i 0 h));
    })

-- all rows lie in the cells
pub all_unpacked : (c w u v i : ℕ) (keys cells : List ℕ) (t : NumberTable) → i ≡ length keys → w ≡ u → u ≡ v → rows_of_cells i w cells ≡ map (unpacked c w) (take i keys) → ◌≡◌ {A = NumberTable} t (record { width = u; rows = rows_of_cells (length keys) u cells })
    → ◌≡◌ {A = NumberTable} t (record { width = v; rows = map (unpacked c w) keys })
all_unpacked c w u v i keys cells t k e f r q =
    let rows : rows_of_cells (length keys) u cells ≡ map (unpacked c w) keys =
    ap (λ (n : ℕ). rows_of_cells n u cells) (sym k) ∙ ap (λ (n : ℕ). rows_of_cells i n cells) (sym e) ∙ r ∙ ap (λ (l : List ℕ). map (unpacked c w) l) (take_all i keys (omega (arith, k))) in
    q ∙ ap (λ (n : ℕ). let x : NumberTable = record { width = n; rows = rows_of_cells (length keys) u cells } in x) f ∙ ap (λ (rs : List (List ℕ)). let x : NumberTable = record { width = v; rows = rs } in x) rows
