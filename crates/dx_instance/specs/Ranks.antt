-- Numbers and their places in a list, and the texts of values one after the other.
use Rattle.std.specs.Prelude.{◌≡◌, ℕ, ◌+◌, ◌-◌, ◌<◌, ◌≤◌, List, [], ◌∷◌, ◌++◌, IsUtf8}
use Rattle.std.specs.Prelude.{drop, length, map, slice_index, slice_index_or, take}
use Rattle.dx_base.specs.Members.{Each}
use Rattle.dx_model.specs.declared.values.Value.{Value}
use Rattle.dx_model.specs.declared.values.Value.TheVariants.{Const, Null}
use Rattle.dx_instance.specs.Keys.{SecondKeysOrNone, NumbersAreKeyed, places_of}
use Rattle.dx_instance.specs.Numbers.{ValuesAscend, value_of}

-- a number is ranked by a place at which a key of its value stands
pub record HasRank (symbols : List Value) (firsts : List (ℕ × ℕ)) (ranks : List ℕ) (n : ℕ) : Type 0 where
  pub within : slice_index ranks n < length firsts
  pub is : value_of symbols (slice_index (places_of firsts) (slice_index ranks n)) ≡ value_of symbols n

-- keys of distinct values in order
pub record DistinctKeys (symbols : List Value) (firsts : List (ℕ × ℕ)) : Type 0 where
  pub ascend : ValuesAscend (map (value_of symbols) (places_of firsts))
  pub below : Each (places_of firsts) (λ n. n < length symbols)
  pub keyed : NumbersAreKeyed symbols firsts

-- the first keys of each value among i numbers, and the ranks of these numbers: the last number has the last value
pub record RankFirsts (symbols : List Value) (numbers : List ℕ) (firsts : List (ℕ × ℕ))
    (ranks : List ℕ) (i : ℕ) : Type 0 where
  pub fewer : length firsts ≤ i
  pub many : length ranks ≡ length symbols
  pub keys : DistinctKeys symbols firsts
  pub last : 0 < i → (0 < length firsts)
      × (value_of symbols (slice_index (places_of firsts) (length firsts - 1))
      ≡ value_of symbols (slice_index numbers (i - 1)))
  pub ranked : (k : ℕ) → k < i → HasRank symbols firsts ranks (slice_index numbers k)

-- the keys of the distinct values in order, and the rank of each number
pub record DistinctRanks (symbols : List Value) (firsts : List (ℕ × ℕ)) (ranks : List ℕ) : Type 0 where
  pub fewer : length firsts ≤ length symbols
  pub many : length ranks ≡ length symbols
  pub keys : DistinctKeys symbols firsts
  pub ranked : (n : ℕ) → n < length symbols → HasRank symbols firsts ranks n

-- the text of a constant; a null has none
abbrev pub text_of_value : Value → List ℕ
text_of_value (Const t) = t
text_of_value (Null n) = []

-- the text of a constant has n bytes
abbrev pub HasBytes : Value → ℕ → Type 0
HasBytes (Const t) n = n ≡ length t
HasBytes (Null m) n = ⊥

-- a text has more than eight bytes, or there is none
abbrev pub IsLong : Value → Type 0
IsLong (Const t) = 8 < length t
IsLong (Null m) = Unit {0}

-- how many bytes the text of a value has, and 9 if it has more than eight or there is none; the text is UTF-8
pub record IsShortLength (v : Value) (n : ℕ) : Type 0 where
  pub most : n ≤ 9
  pub short : n ≤ 8 → HasBytes v n
  pub long : 8 < n → IsLong v
  pub utf8 : IsUtf8 (text_of_value v)

-- the short lengths of the texts of the first n values
pub record ShortLengths (symbols : List Value) (lengths : List ℕ) (n : ℕ) : Type 0 where
  pub many : length lengths ≡ n
  pub all : (k : ℕ) → k < n → IsShortLength (value_of symbols k) (slice_index lengths k)

abbrev pub joined_texts : List Value → List ℕ
joined_texts [] = []
joined_texts (v ∷ vs) = text_of_value v ++ joined_texts vs

-- the texts of the values under the numbers of the first i keys, one after the other
abbrev pub texts_before : List Value → List (ℕ × ℕ) → ℕ → List ℕ
texts_before symbols keys i = joined_texts (map (value_of symbols) (places_of (take i keys)))

-- where the texts of the values under the numbers of the first i keys end
pub record EndsOfTexts (symbols : List Value) (keys : List (ℕ × ℕ)) (ends : List ℕ) (i : ℕ) : Type 0 where
  pub many : length ends ≡ i
  pub at : (k : ℕ) → k < i → slice_index ends k ≡ length (texts_before symbols keys (k + 1))
  pub utf8 : (k : ℕ) → k < i → IsUtf8 (text_of_value (value_of symbols (slice_index_or keys k (0, 0)).1))

-- a text lies in a buffer from one place up to another
pub record LiesInBuffer (buffer : List ℕ) (start end : ℕ) (text : List ℕ) : Type 0 where
  pub many : end ≡ start + length text
  pub within : end ≤ length buffer
  pub is : take (end - start) (drop start buffer) ≡ text
  pub utf8 : IsUtf8 text

-- the short lengths of the texts of values, and their second keys or none at all
pub record TieKeys (symbols : List Value) (lengths seconds : List ℕ) : Type 0 where
  pub lengths_are : ShortLengths symbols lengths (length symbols)
  pub seconds_are : SecondKeysOrNone symbols seconds
