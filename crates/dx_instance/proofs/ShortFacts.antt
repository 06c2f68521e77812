-- Texts of at most eight bytes, which their keys tell.
use Rattle.std.proofs.Common.{◌≡◌, ◌∙◌, ◌+◌, ◌*◌, ◌<◌, ◌≤◌, ◌∷◌, ◌++◌, ℕ, zero, suc, List, [], refl, sym, ap, arith, length, get_or, take, drop, inl, inr, below_more}
use Rattle.std.specs.Int.{from_be_bytes, to_be_bytes, w64}
use Rattle.std.specs.Ordering.{nat_cmp}
use Rattle.std.specs.declared.cmp.Ordering.TheVariants.{Less, Equal}
use Rattle.std.proofs.lemmas.Bool.{cases_lt}
use Rattle.std.proofs.lemmas.Nat.{be_bytes_8}
use Rattle.std.proofs.lemmas.List.{get_or_append_left, get_or_push, length_push}
use Rattle.dx_model.specs.declared.values.Value.{Value}
use Rattle.dx_model.specs.declared.values.Value.TheVariants.{Const, Null}
use Rattle.dx_model.specs.Values.{value_cmp}
use Rattle.dx_base.proofs.Ranges.{nat_self}
use Rattle.dx_instance.specs.Keys.{AllSmall, IsSmallValue, packed, value_key}
use Rattle.dx_instance.specs.Numbers.{value_of}
use Rattle.dx_instance.specs.Ranks.{ShortLengths, HasBytes, IsLong, IsShortLength, text_of_value}
use Rattle.dx_instance.proofs.TableFacts.{numbers_cmp}

-- the first n numbers of a list, with zeros after a shorter one
abbrev padded : ℕ → List ℕ → List ℕ
padded zero t = []
padded (suc n) [] = 0 ∷ padded n []
padded (suc n) (x ∷ t) = x ∷ padded n t

padded_long : (n : ℕ) (t : List ℕ) → length (padded n t) ≡ n
padded_long zero t = refl
padded_long (suc n) [] = ap suc (padded_long n [])
padded_long (suc n) (x ∷ t) = ap suc (padded_long n t)

padded_small : (b n : ℕ) (t : List ℕ) → 0 < b → AllSmall b n t → (i : ℕ) → get_or (padded n t) i 0 < b
padded_small b zero t z s i = z
padded_small b (suc n) [] z s zero = z
padded_small b (suc n) [] z s (suc i) = padded_small b n [] z (λ j h. z) i
padded_small b (suc n) (x ∷ t) z s zero = s 0 (omega arith)
padded_small b (suc n) (x ∷ t) z s (suc i) = padded_small b n t z (λ j h. s (suc j) (omega (arith, h))) i

padded_packed : (b n p : ℕ) (t : List ℕ) → packed b n p (padded n t) ≡ packed b n p t
padded_packed b zero p t = refl
padded_packed b (suc n) p [] = let z : p * b + 0 ≡ p * b = omega arith in rw z (padded_packed b n (p * b) [])
padded_packed b (suc n) p (x ∷ t) = padded_packed b n (p * b + x) t

padded_take : (n : ℕ) (t : List ℕ) → length t ≤ n → take (length t) (padded n t) ≡ t
padded_take n [] h = refl
padded_take zero (x ∷ t) h = absurd (omega (arith, h))
padded_take (suc n) (x ∷ t) h = ap (λ (l : List ℕ). x ∷ l) (padded_take n t (omega (arith, h)))

-- eight digits to the base 256 are a number's bytes
as_bytes : (t : List ℕ) → length t ≡ 8 → packed 256 8 0 t ≡ from_be_bytes w64 t
as_bytes (a ∷ b ∷ c ∷ d ∷ e ∷ f ∷ g ∷ h ∷ []) l = omega arith
as_bytes [] l = absurd (omega (arith, l))
as_bytes (a ∷ []) l = absurd (omega (arith, l))
as_bytes (a ∷ b ∷ []) l = absurd (omega (arith, l))
as_bytes (a ∷ b ∷ c ∷ []) l = absurd (omega (arith, l))
as_bytes (a ∷ b ∷ c ∷ d ∷ []) l = absurd (omega (arith, l))
as_bytes (a ∷ b ∷ c ∷ d ∷ e ∷ []) l = absurd (omega (arith, l))
as_bytes (a ∷ b ∷ c ∷ d ∷ e ∷ f ∷ []) l = absurd (omega (arith, l))
as_bytes (a ∷ b ∷ c ∷ d ∷ e ∷ f ∷ g ∷ []) l = absurd (omega (arith, l))
as_bytes (a ∷ b ∷ c ∷ d ∷ e ∷ f ∷ g ∷ h ∷ i ∷ t) l = absurd (omega (arith, l))

-- the bytes of a text's key
key_bytes : (t : List ℕ) (key : ℕ) → AllSmall 256 8 t → key ≡ packed 256 8 0 t → to_be_bytes w64 key ≡ padded 8 t
key_bytes t key s e = be_bytes_8 (padded 8 t) key (padded_long 8 t) (padded_small 256 8 t (omega arith) s) (e ∙ sym (padded_packed 256 8 0 t) ∙ as_bytes (padded 8 t) (padded_long 8 t))

-- the first bytes of the key of a short text are the text
pub short_text : (t : List ℕ) (key n : ℕ) → n ≡ length t → n ≤ 8 → AllSmall 256 8 t → key ≡ packed 256 8 0 t → take n (to_be_bytes w64 key) ≡ t
short_text t key n l h s e =
    let small : length t ≤ 8 = omega (arith, l, h) in
    ap (λ (m : ℕ). take m (to_be_bytes w64 key)) l ∙ ap (λ (b : List ℕ). take (length t) b) (key_bytes t key s e) ∙ padded_take 8 t small

pub short_value : (v : Value) (key n : ℕ) → IsShortLength v n → n ≤ 8 → IsSmallValue v → key ≡ value_key v → take n (to_be_bytes w64 key) ≡ text_of_value v
short_value (Const t) key n l h s e = short_text t key n (l.short h) h s.0 e
short_value (Null m) key n l h s e = absurd (l.short h)

-- one length more
pub lengths_more : (S : List Value) (lengths new : List ℕ) (i n : ℕ) → new ≡ lengths ++ n ∷ [] → IsShortLength (value_of S i) n → ShortLengths S lengths i → ShortLengths S new (i + 1)
lengths_more S lengths new i n e l a = rw e (record {
  many = length_push lengths n ∙ ap (λ (m : ℕ). m + 1) a.many;
  all = below_more _ _ (λ j h. let g = get_or_append_left lengths (n ∷ []) 0 j (omega (arith, h, a.many)) in rw g (a.all j h)) (let g = get_or_push lengths n 0 i a.many in rw g l);
})

-- of texts that begin alike, a lower one is not longer than a short one
rises_short : (n : ℕ) (t u : List ℕ) → padded n t ≡ padded n u → numbers_cmp t u ≡ Less → length u ≤ n → length t ≤ length u
rises_short n [] u e h l = omega arith
rises_short zero (x ∷ t) [] e h l = absurd (cc h)
rises_short zero (x ∷ t) (y ∷ u) e h l = absurd (omega (arith, l))
rises_short (suc n) (x ∷ t) [] e h l = absurd (cc h)
rises_short (suc n) (x ∷ t) (y ∷ u) e h l =
    let head : x ≡ y = ap (λ (b : List ℕ). get_or b 0 0) e in
    let rest : padded n t ≡ padded n u = ap (λ (b : List ℕ). drop 1 b) e in
    let q : nat_cmp x y ≡ Equal = rw head (nat_self y) in
    let r = rises_short n t u rest (rw q at h) (omega (arith, l)) in
    omega (arith, r)

-- where the keys are equal, the length of a lower value is not greater
pub lengths_rise : (x y : Value) (l m : ℕ) → IsShortLength x l → IsShortLength y m → IsSmallValue x → IsSmallValue y → value_key x ≡ value_key y → value_cmp x y ≡ Less → l ≤ m
lengths_rise (Const t) (Const u) l m p q a b e h = elim (cases_lt 8 m) [
  | inl k ↦ omega (arith, k, p.most)
  | inr k ↦
      let short : m ≤ 8 = omega (arith, k) in
      let bytes : m ≡ length u = q.short short in
      let r = rises_short 8 t u (sym (key_bytes t (packed 256 8 0 t) a.0 refl) ∙ key_bytes u (packed 256 8 0 t) b.0 e) h (omega (arith, bytes, short)) in
      elim (cases_lt 8 l) [
        | inl j ↦ let long : 8 < length t = p.long j in absurd (omega (arith, long, r, bytes, short))
        | inr j ↦ let mine : l ≡ length t = p.short (omega (arith, j)) in omega (arith, mine, r, bytes)
      ]
]
lengths_rise (Const t) (Null n) l m p q a b e h = elim (cases_lt 8 m) [ inl k ↦ omega (arith, k, p.most) | inr k ↦ absurd (q.short (omega (arith, k))) ]
lengths_rise (Null n) (Const u) l m p q a b e h = absurd (cc h)
lengths_rise (Null n) (Null o) l m p q a b e h = elim (cases_lt 8 m) [ inl k ↦ omega (arith, k, p.most) | inr k ↦ absurd (q.short (omega (arith, k))) ]

not_both : (x : Value) (l : ℕ) → l ≤ 8 → HasBytes x l → ¬ (IsLong x)
not_both (Const t) l h b i = omega (arith, h, b, i)
not_both (Null n) l h b i = b

one_length : (x : Value) (l m : ℕ) → HasBytes x l → HasBytes x m → l ≡ m
one_length (Const t) l m a b = a ∙ sym b
one_length (Null n) l m a b = absurd a

-- a value has one short length
pub lengths_same : (x : Value) (l m : ℕ) → IsShortLength x l → IsShortLength x m → l ≡ m
lengths_same x l m p q = elim (cases_lt 8 l) [
  | inl h ↦ elim (cases_lt 8 m) [
    | inl k ↦ omega (arith, h, k, p.most, q.most)
    | inr k ↦ let s : m ≤ 8 = omega (arith, k) in absurd (not_both x m s (q.short s) (p.long h))
  ]
  | inr h ↦
      let s : l ≤ 8 = omega (arith, h) in
      elim (cases_lt 8 m) [
        | inl k ↦ absurd (not_both x l s (p.short s) (q.long k))
        | inr k ↦ one_length x l m (p.short s) (q.short (omega (arith, k)))
      ]
]

-- short texts of one key and one length are the same
pub shorts_same : (x y : Value) (l : ℕ) → l ≤ 8 → IsShortLength x l → IsShortLength y l → IsSmallValue x → IsSmallValue y → value_key x ≡ value_key y → x ≡ y
shorts_same (Const t) (Const u) l h p q a b e =
    ap (λ (w : List ℕ). Const w) (sym (short_text t (packed 256 8 0 t) l (p.short h) h a.0 refl) ∙ short_text u (packed 256 8 0 t) l (q.short h) h b.0 e)
shorts_same (Const t) (Null n) l h p q a b e = absurd (q.short h)
shorts_same (Null n) y l h p q a b e = absurd (p.short h)
