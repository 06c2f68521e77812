-- The texts of values one after the other.
use Rattle.std.proofs.Common.{◌≡◌, ◌∙◌, ◌+◌, ◌-◌, ◌<◌, ◌++◌, ◌∷◌, ℕ, List, [], refl, sym, ap, arith, length, get_or, take, drop, map, below_more}
use Rattle.std.specs.Prelude.{IsUtf8}
use Rattle.std.proofs.lemmas.List.{append_assoc, append-nil, length-append, drop_more, get_or_append_left, get_or_push, length_push, map_more, map-append, length-map, take-append-drop}
use Rattle.std.proofs.lemmas.Str.{IsUtf8-append, IsUtf8-nil}
use Rattle.std.proofs.Math.Seq.{drop-append_seam, take-append_seam}
use Rattle.dx_model.specs.declared.values.Value.{Value}
use Rattle.dx_model.specs.declared.values.Value.TheVariants.{Const, Null}
use Rattle.dx_base.specs.Members.{Each, here, there}
use Rattle.dx_base.proofs.Members.{in_at}
use Rattle.dx_instance.specs.Numbers.{value_of}
use Rattle.dx_instance.specs.Keys.{places_of}
use Rattle.dx_instance.specs.Ranks.{EndsOfTexts, LiesInBuffer, joined_texts, text_of_value, texts_before}
use Rattle.dx_instance.proofs.RankFacts.{number_read}

joined_more : (vs : List Value) (v : Value) → joined_texts (vs ++ v ∷ []) ≡ joined_texts vs ++ text_of_value v
joined_more [] v = append-nil (text_of_value v)
joined_more (w ∷ vs) v = ap (λ (t : List ℕ). text_of_value w ++ t) (joined_more vs v) ∙ sym (append_assoc (text_of_value w) (joined_texts vs) (text_of_value v))

abbrev pub values_at : List Value → List (ℕ × ℕ) → List Value
values_at S keys = map (value_of S) (places_of keys)

abbrev pub key_at : List (ℕ × ℕ) → ℕ → ℕ × ℕ
key_at keys i = get_or keys i (0, 0)

-- the value of one key more
pub value_more : (S : List Value) (keys : List (ℕ × ℕ)) (i : ℕ) (v : Value) → i < length keys → v ≡ value_of S (key_at keys i).1 → values_at S (take (i + 1) keys) ≡ values_at S (take i keys) ++ v ∷ []
value_more S keys i v h w =
    let one : map (λ (k : ℕ × ℕ). k.1) (take (i + 1) keys) ≡ map (λ (k : ℕ × ℕ). k.1) (take i keys) ++ (key_at keys i).1 ∷ [] = map_more (λ (k : ℕ × ℕ). k.1) keys i (0, 0) h in
    ap (λ (l : List ℕ). map (value_of S) l) one ∙ map-append (value_of S) (places_of (take i keys)) ((key_at keys i).1 ∷ []) ∙ ap (λ (x : Value). values_at S (take i keys) ++ x ∷ []) (sym w)

pub text_more : (S : List Value) (keys : List (ℕ × ℕ)) (i : ℕ) (v : Value) (buffer new : List ℕ) → i < length keys → v ≡ value_of S (key_at keys i).1
    → buffer ≡ joined_texts (values_at S (take i keys)) → new ≡ buffer ++ text_of_value v → new ≡ joined_texts (values_at S (take (i + 1) keys))
text_more S keys i v buffer new h w b n =
    n ∙ ap (λ (t : List ℕ). t ++ text_of_value v) b ∙ sym (joined_more (values_at S (take i keys)) v) ∙ ap joined_texts (sym (value_more S keys i v h w))

-- the place of a key is a number
pub key_below : (n : ℕ) (keys : List (ℕ × ℕ)) (i : ℕ) → Each (places_of keys) (λ (x : ℕ). x < n) → i < length keys → (key_at keys i).1 < n
key_below n keys i f h =
    let many = length-map keys (λ (k : ℕ × ℕ). k.1) in
    let r = number_read keys i (0, 0) h in
    let b = f (get_or (places_of keys) i 0) (in_at (places_of keys) i 0 (omega (arith, h, many))) in
    omega (arith, b, r)

-- one end more
pub ends_more : (S : List Value) (keys : List (ℕ × ℕ)) (ends new : List ℕ) (i e : ℕ) → new ≡ ends ++ e ∷ [] → e ≡ length (texts_before S keys (i + 1)) → IsUtf8 (text_of_value (value_of S (key_at keys i).1))
    → EndsOfTexts S keys ends i → EndsOfTexts S keys new (i + 1)
ends_more S keys ends new i e n q u a = rw n (record {
  many = length_push ends e ∙ ap (λ (m : ℕ). m + 1) a.many;
  at = below_more _ _ (λ k h. let g = get_or_append_left ends (e ∷ []) 0 k (omega (arith, h, a.many)) in rw g (a.at k h)) (let g = get_or_push ends e 0 i a.many in rw g q);
  utf8 = below_more _ _ a.utf8 u;
})

joined_append : (vs ws : List Value) → joined_texts (vs ++ ws) ≡ joined_texts vs ++ joined_texts ws
joined_append [] ws = refl
joined_append (v ∷ vs) ws = ap (λ (t : List ℕ). text_of_value v ++ t) (joined_append vs ws) ∙ sym (append_assoc (text_of_value v) (joined_texts vs) (joined_texts ws))

values_append : (S : List Value) (a b : List (ℕ × ℕ)) → values_at S (a ++ b) ≡ values_at S a ++ values_at S b
values_append S a b = ap (λ (l : List ℕ). map (value_of S) l) (map-append (λ (k : ℕ × ℕ). k.1) a b) ∙ map-append (value_of S) (places_of a) (places_of b)

-- all texts: those before a key, its own, and those after it
split_at : (S : List Value) (keys : List (ℕ × ℕ)) (i : ℕ) → i < length keys
    → joined_texts (values_at S keys) ≡ texts_before S keys i ++ (text_of_value (value_of S (key_at keys i).1) ++ joined_texts (values_at S (drop (i + 1) keys)))
split_at S keys i h =
    ap (λ (l : List (ℕ × ℕ)). joined_texts (values_at S l)) (sym (take-append-drop i keys))
    ∙ ap joined_texts (values_append S (take i keys) (drop i keys))
    ∙ joined_append (values_at S (take i keys)) (values_at S (drop i keys))
    ∙ ap (λ (l : List (ℕ × ℕ)). texts_before S keys i ++ joined_texts (values_at S l)) (drop_more keys i (0, 0) h)

-- where the text of the next value lies in the buffer
pub lies_next : (S : List Value) (keys : List (ℕ × ℕ)) (ends : List ℕ) (i start : ℕ) (buffer : List ℕ) → i < length keys → buffer ≡ joined_texts (values_at S keys) → start ≡ length (texts_before S keys i)
    → EndsOfTexts S keys ends (length keys) → LiesInBuffer buffer start (get_or ends i 0) (text_of_value (value_of S (key_at keys i).1))
lies_next S keys ends i start buffer h b s a =
    let v = value_of S (key_at keys i).1 in
    let t = text_of_value v in
    let before = texts_before S keys i in
    let after = joined_texts (values_at S (drop (i + 1) keys)) in
    let whole : buffer ≡ before ++ (t ++ after) = b ∙ split_at S keys i h in
    let up : texts_before S keys (i + 1) ≡ before ++ t = ap joined_texts (value_more S keys i v h refl) ∙ joined_more (values_at S (take i keys)) v in
    let e : get_or ends i 0 ≡ start + length t = a.at i h ∙ ap length up ∙ length-append before t ∙ ap (λ (n : ℕ). n + length t) (sym s) in
    let size : length buffer ≡ length before + (length t + length after) = ap length whole ∙ length-append before (t ++ after) ∙ ap (λ (n : ℕ). length before + n) (length-append t after) in
    let d : get_or ends i 0 - start ≡ length t = omega (arith, e) in
    record {
      many = e;
      within = omega (arith, e, size, s);
      is =
          ap (λ (n : ℕ). take n (drop start buffer)) d
          ∙ ap (λ (n : ℕ). take (length t) (drop n buffer)) s
          ∙ ap (λ (l : List ℕ). take (length t) (drop (length before) l)) whole
          ∙ ap (λ (l : List ℕ). take (length t) l) (drop-append_seam before (t ++ after))
          ∙ take-append_seam t after;
      utf8 = a.utf8 i h;
    }

-- a value that has bytes is a constant
pub has_bytes : (v : Value) → 0 < length (text_of_value v) → v ≡ Const (text_of_value v)
has_bytes (Const t) h = refl
has_bytes (Null n) h = absurd (omega (arith, h))

pub constant_is : (v : Value) (t : List ℕ) → v ≡ Const t → v ≡ Const (text_of_value v)
constant_is v t e = e ∙ ap (λ (x : List ℕ). Const x) (ap text_of_value (sym e))

-- texts one after the other are UTF-8, if each text is
pub joined_utf8 : (S : List Value) (keys : List (ℕ × ℕ)) → ((n : ℕ) → n < length S → IsUtf8 (text_of_value (value_of S n))) → Each (places_of keys) (λ (n : ℕ). n < length S) → IsUtf8 (joined_texts (values_at S keys))
joined_utf8 S [] u f = IsUtf8-nil
joined_utf8 S (k ∷ keys) u f =
    IsUtf8-append (text_of_value (value_of S k.1)) (joined_texts (values_at S keys)) (u k.1 (f k.1 (here refl))) (joined_utf8 S keys u (λ n m. f n (there m)))
