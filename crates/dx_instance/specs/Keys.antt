-- Numbers that compare as the first items of a list: lists are sorted by these first.
use Rattle.std.specs.Prelude.{◌≡◌, ℕ, zero, suc, ◌+◌, ◌-◌, ◌*◌, ◌/◌, ◌%◌, ◌^◌, ◌<◌, ◌≤◌, ◌⊎◌}
use Rattle.std.specs.Prelude.{List, [], ◌∷◌, drop, length, map, slice_index, slice_index_or}
use Rattle.std.specs.Ordering.{nat_cmp, ordering_then}
use Rattle.std.specs.declared.cmp.Ordering.{Ordering}
use Rattle.std.specs.declared.cmp.Ordering.TheVariants.{Less, Equal, Greater}
use Rattle.dx_base.specs.Members.{◌∈◌}
use Rattle.dx_model.specs.declared.values.Value.{Value}
use Rattle.dx_model.specs.declared.values.Value.TheVariants.{Const, Null}
use Rattle.dx_model.specs.Values.{value_cmp}
use Rattle.dx_instance.specs.Cells.{numbers_at}
use Rattle.dx_instance.specs.Numbers.{value_of}

-- the first n numbers of a list as digits to the base b, after the digits of p
abbrev pub packed : ℕ → ℕ → ℕ → List ℕ → ℕ
packed b zero p xs = p
packed b (suc n) p [] = packed b n (p * b) []
packed b (suc n) p (x ∷ xs) = packed b n (p * b + x) xs

-- the first n numbers are below b
abbrev pub AllSmall : ℕ → ℕ → List ℕ → Type 0
AllSmall b n xs = (i : ℕ) → i < n → slice_index xs i < b

-- the places of keys
abbrev pub places_of : List (ℕ × ℕ) → List ℕ
places_of keys = map (λ (k : ℕ × ℕ). k.1) keys

-- n digits to the base b make a number of 64 bits
pub record DigitsFit (b n : ℕ) : Type 0 where
  pub some : 0 < b
  pub fits : b ^ n ≤ 2 ^ 64

-- n numbers of so many bits each have room in 64 bits
pub record HasBits (bits n : ℕ) : Type 0 where
  pub some : 0 < bits
  pub short : bits ≤ 32
  pub fits : bits * n ≤ 64

-- the n numbers of so many bits each that make a number
abbrev pub unpacked : ℕ → ℕ → ℕ → List ℕ
unpacked bits zero key = []
unpacked bits (suc n) key = key / 2 ^ (bits * n) % 2 ^ bits ∷ unpacked bits n key

-- the first eight bytes of a constant in one; nulls come last
abbrev pub value_key : Value → ℕ
value_key (Const t) = packed 256 8 0 t
value_key (Null n) = 2 ^ 64 - 1

abbrev pub IsSmallValue : Value → Type 0
IsSmallValue (Const t) = AllSmall 256 8 t × (packed 256 8 0 t < 2 ^ 64)
IsSmallValue (Null n) = Unit {0}

-- the next eight bytes of a constant in one
abbrev pub second_key : Value → ℕ
second_key (Const t) = packed 256 8 0 (drop 8 t)
second_key (Null n) = 2 ^ 64 - 1

abbrev pub IsSmallSecond : Value → Type 0
IsSmallSecond (Const t) = AllSmall 256 8 (drop 8 t) × (packed 256 8 0 (drop 8 t) < 2 ^ 64)
IsSmallSecond (Null n) = Unit {0}

pub record IsSecondOf (v : Value) (k : ℕ) : Type 0 where
  pub key_is : k ≡ second_key v
  pub small : IsSmallSecond v

-- the second keys of the first n values
pub record SecondKeys (symbols : List Value) (seconds : List ℕ) (n : ℕ) : Type 0 where
  pub many : length seconds ≡ n
  pub all : (k : ℕ) → k < n → IsSecondOf (value_of symbols k) (slice_index seconds k)

-- the second keys of all values, or none at all: then values are compared in their place
abbrev pub SecondKeysOrNone : List Value → List ℕ → Type 0
SecondKeysOrNone symbols seconds = (seconds ≡ []) ⊎ SecondKeys symbols seconds (length symbols)

-- how the values at two places compare, by their second keys first
abbrev pub long_cmp : List Value → List ℕ → Value → ℕ → ℕ → Ordering
long_cmp symbols seconds blank m n =
    ordering_then (nat_cmp (slice_index seconds m) (slice_index seconds n))
    (value_cmp (slice_index_or symbols m blank) (slice_index_or symbols n blank))

-- x if the length of a text says that it is short, and else y
abbrev pub if_less : {X : Type 0} → Ordering → X → X → X
if_less Less x y = x
if_less Equal x y = y
if_less Greater x y = y

-- what stands at a place if the text is long, and else the same for all
abbrev pub if_long : {X : Type 0} → List ℕ → X → (ℕ → X) → ℕ → X
if_long lengths same at n = if_less (nat_cmp (slice_index lengths n) 9) same (at n)

-- how the values at two places compare whose keys are equal: by the lengths of their texts,
-- and by the rest if these are long
abbrev pub tie_cmp : List Value → List ℕ → List ℕ → Value → ℕ → ℕ → Ordering
tie_cmp symbols lengths seconds blank m n =
    ordering_then (nat_cmp (slice_index lengths m) (slice_index lengths n))
    (ordering_then (nat_cmp (if_long lengths 0 (slice_index seconds) m) (if_long lengths 0 (slice_index seconds) n))
    (value_cmp (if_long lengths blank (λ k. slice_index_or symbols k blank) m)
    (if_long lengths blank (λ k. slice_index_or symbols k blank) n)))

-- the key of the item at a place, and the place
pub record IsKeyAndPlace {X : Type 0} (at : ℕ → X) (key : X → ℕ) (Small : X → Type 0) (p : ℕ) (k : ℕ × ℕ) : Type 0 where
  pub key_is : k.0 ≡ key (at p)
  pub place_is : k.1 ≡ p
  pub small : Small (at p)

-- the keys of the first n items
pub record KeysOfFirst {X : Type 0} (at : ℕ → X) (key : X → ℕ) (Small : X → Type 0) (keys : List (ℕ × ℕ))
    (n : ℕ) : Type 0 where
  pub many : length keys ≡ n
  pub all : (k : ℕ) → k < n → IsKeyAndPlace at key Small k (slice_index_or keys k (0, 0))

-- the keys of rows: their first n numbers, as digits to the base b
abbrev pub RowsAreKeyed : ℕ → ℕ → List (List ℕ) → List (ℕ × ℕ) → ℕ → Type 0
RowsAreKeyed b n rows keys many = KeysOfFirst (numbers_at rows) (packed b n 0) (AllSmall b n) keys many

abbrev pub ValuesAreKeyed : List Value → List (ℕ × ℕ) → ℕ → Type 0
ValuesAreKeyed symbols keys n = KeysOfFirst (value_of symbols) value_key IsSmallValue keys n

-- the numbers of these keys have values of which they are the keys
abbrev pub NumbersAreKeyed : List Value → List (ℕ × ℕ) → Type 0
NumbersAreKeyed symbols keys =
    (k : ℕ) → k < length keys → IsKeyAndPlace (value_of symbols) value_key IsSmallValue
    (slice_index_or keys k (0, 0)).1 (slice_index_or keys k (0, 0))

-- a number below that of all, with the key of its value
pub record IsKeyIn (symbols : List Value) (k : ℕ × ℕ) : Type 0 where
  pub below : k.1 < length symbols
  pub keyed : IsKeyAndPlace (value_of symbols) value_key IsSmallValue k.1 k

-- all numbers, of which none stands after one with a higher value
pub record SortsNumbers (symbols : List Value) (numbers : List ℕ) : Type 0 where
  pub many : length numbers ≡ length symbols
  pub within : (k : ℕ) → k < length numbers → slice_index numbers k < length symbols
  pub all : (n : ℕ) → n < length symbols → n ∈ numbers
  pub rise : (k : ℕ) → k + 1 < length numbers
      → ¬ (value_cmp (value_of symbols (slice_index numbers (k + 1)))
      (value_of symbols (slice_index numbers k)) ≡ Less)

-- the value of a number is above that of the number before it, if there is one
abbrev pub IsRise : List Value → List ℕ → ℕ → Type 0
IsRise symbols numbers k =
    0 < k → value_cmp (value_of symbols (slice_index numbers (k - 1)))
    (value_of symbols (slice_index numbers k)) ≡ Less

-- there is a number before it, and the value is the same
abbrev pub IsRepeat : List Value → List ℕ → ℕ → Type 0
IsRepeat symbols numbers k =
    (0 < k) × (value_of symbols (slice_index numbers k) ≡ value_of symbols (slice_index numbers (k - 1)))
