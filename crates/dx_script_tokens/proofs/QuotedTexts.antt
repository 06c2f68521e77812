-- A text in single quotes is read as that text.
use Rattle.std.proofs.Common.{◌≡◌, ◌≢◌, ◌⊎◌, inl, inr, ℕ, suc, ◌+◌, ◌<◌, ◌≤◌, true, List, [], ◌∷◌, ◌++◌, length, drop, refl, sym, ap, ◌∙◌, arith, append_assoc, append-nil, IsUtf8, le-ltb, lt-ltb}
use Rattle.std.specs.Prelude.{Bool, encode_utf8, ◌==◌}
use Rattle.std.proofs.Math.Utf8.{scalar, scalars, encodes}
use Rattle.std.proofs.lemmas.Bool.{and_parts, cases_eq, cases_lt, ne_eqb}
use Rattle.std.proofs.lemmas.List.{length-append}
use Rattle.std.proofs.lemmas.Str.{encode_ascii, inside_one}
use Rattle.std.proofs.Math.Seq.{drop-append_seam}
use Rattle.dx_tokens.specs.declared.pieces.Item.TheVariants as items
use Rattle.dx_tokens.specs.Tokens.{item_at}
use Rattle.dx_tokens.specs.Lexing.{IsCharacter}
use Rattle.dx_tokens.proofs.Encoded.{character_item}
use Rattle.dx_tokens.proofs.Lexed.{StopsAt}
use Rattle.dx_script_tokens.specs.declared.pieces.Shape.TheVariants as shapes
use Rattle.dx_script_tokens.specs.declared.pieces.Piece.TheVariants as pieces
use Rattle.dx_script_tokens.specs.Pieces.{text_item, text_from}
use Rattle.dx_script_tokens.specs.Scan.{undoubled}
use Rattle.dx_script_tokens.proofs.Passing.{text_goes_on}
use Rattle.dx_script_tokens.proofs.Utf8.{undoubled-plain}
use Rattle.dx_script_tokens.specs.Quoted.{doubled}
use Rattle.dx_script_tokens.proofs.Doubled.{doubled-append, plain_character}

-- the byte is a single quote
abbrev pub is_quote : ℕ → Bool
is_quote b = b == 39

pub undoubled-doubled : (t : List ℕ) → undoubled (doubled t) ≡ t
undoubled-doubled [] = refl
undoubled-doubled (b ∷ bs) = go (undoubled-doubled bs) (cases_eq b 39) where
  go : undoubled (doubled bs) ≡ bs → (b ≡ 39) ⊎ (b ≢ 39) → undoubled (doubled (b ∷ bs)) ≡ b ∷ bs
  go rest (inl e) = rw e (ap (λ (zs : List ℕ). 39 ∷ zs) rest)
  go rest (inr n) = rw (ne_eqb b 39 n) (undoubled-plain b (doubled bs) n ∙ ap (λ (zs : List ℕ). b ∷ zs) rest)

pub quote_ends : (n : ℕ) (tail : List ℕ) → StopsAt is_quote tail → text_from 0 n (39 ∷ tail) ≡ pieces.Token shapes.Text (n + 1)
unfolding text_from text_item
quote_ends n [] s = refl
quote_ends n (c ∷ tail) s = rw s refl

pub quote_doubled : (n : ℕ) (more : List ℕ) → text_from 0 n (39 ∷ 39 ∷ more) ≡ text_from 0 (n + 2) more
unfolding text_from text_item
quote_doubled n more = ap (λ k. text_from 0 k more) (omega arith)

-- an item goes on after its bytes
item_passed : (n b : ℕ) (others more : List ℕ) → text_item b (others ++ more) ≡ items.Whole (1 + length others) → text_from 0 n (b ∷ (others ++ more)) ≡ text_from 0 (n + (1 + length others)) more
item_passed n b others more e =
    let all : List ℕ = b ∷ (others ++ more) in
    let left : drop (1 + length others) all ≡ more = ap (λ k. drop k all) (one_more (length others)) ∙ drop-append_seam others more in
    sym (text_goes_on n b (1 + length others) (others ++ more) all (drop (1 + length others) all) (text_from 0 n all) refl (sym e) (omega arith) (omega (arith, length-append others more)) refl refl)
    ∙ ap (text_from 0 (n + (1 + length others))) left
  where
    one_more : (k : ℕ) → 1 + k ≡ suc k
    one_more k = omega arith

pub small_item : (b : ℕ) (rest : List ℕ) → b ≢ 39 → b < 128 → text_item b rest ≡ items.Whole 1
unfolding text_item
small_item b rest n l = rw (ne_eqb b 39 n, lt-ltb b 128 l) refl

pub wide_is : (b : ℕ) (rest : List ℕ) → 128 ≤ b → text_item b rest ≡ item_at b rest
unfolding text_item item_at
wide_is b rest h = rw (ne_eqb b 39 (λ e. omega (arith, e)), le-ltb b 128 h, ne_eqb b 34 (λ e. omega (arith, e)), ne_eqb b 92 (λ e. omega (arith, e)), le-ltb b 32 (omega arith)) refl

-- a character other than a single quote goes on after its bytes
pub character_passed : (n x : ℕ) (more : List ℕ) → scalar x ≡ true → x ≢ 39 → text_from 0 n (encode_utf8 x ++ more) ≡ text_from 0 (n + length (encode_utf8 x)) more
character_passed n x more ok ne = go (cases_lt x 128) where
  go : (x < 128) ⊎ (128 ≤ x) → text_from 0 n (encode_utf8 x ++ more) ≡ text_from 0 (n + length (encode_utf8 x)) more
  go (inl small) = rw (encode_ascii x small) (item_passed n x [] more (small_item x more ne small))
  go (inr big) =
      let is : IsCharacter (encode_utf8 x) = inr (record { character = x; scalar = ok; not_low = omega (arith, big); no_quote = λ e. omega (arith, big, e); no_backslash = λ e. omega (arith, big, e); encoded = refl }) in
      let i = character_item (encode_utf8 x) more is in
      let high : 128 ≤ i.first = first_high i.first i.others i.splits (cases_lt i.first 128) in
      let size : 1 + length i.others ≡ length (encode_utf8 x) = omega (arith, ap length i.splits) in
      ap (λ (w : List ℕ). text_from 0 n (w ++ more)) i.splits ∙ item_passed n i.first i.others more (wide_is i.first (i.others ++ more) high ∙ i.item) ∙ ap (λ k. text_from 0 (n + k) more) size
    where
      first_high : (b : ℕ) (others : List ℕ) → encode_utf8 x ≡ b ∷ others → (b < 128) ⊎ (128 ≤ b) → 128 ≤ b
      first_high b others e (inr h) = h
      first_high b others e (inl l) =
          let same : x ≡ b = inside_one x [] (b ∷ others) 0 (sym e ∙ sym (append-nil (encode_utf8 x))) (rw e (omega arith)) l in
          omega (arith, big, same)

-- characters are read one after the other
characters_passed : (cs : List ℕ) → scalars cs ≡ true → (n : ℕ) (more : List ℕ) → text_from 0 n (doubled (encodes cs) ++ more) ≡ text_from 0 (n + length (doubled (encodes cs))) more
characters_passed [] ok n more = ap (λ k. text_from 0 k more) (omega arith)
characters_passed (x ∷ xs) ok n more =
    let p = and_parts (scalar x) (scalars xs) ok in
    let rest : List ℕ = doubled (encodes xs) in
    let parts : doubled (encode_utf8 x ++ encodes xs) ++ more ≡ doubled (encode_utf8 x) ++ (rest ++ more) = ap (λ (zs : List ℕ). zs ++ more) (doubled-append (encode_utf8 x) (encodes xs)) ∙ append_assoc (doubled (encode_utf8 x)) rest more in
    let first : text_from 0 n (doubled (encode_utf8 x) ++ (rest ++ more)) ≡ text_from 0 (n + length (doubled (encode_utf8 x))) (rest ++ more) = one (rest ++ more) p.0 (cases_eq x 39) in
    let size : n + length (doubled (encode_utf8 x)) + length rest ≡ n + length (doubled (encode_utf8 x ++ encodes xs)) =
    omega (arith, ap length (doubled-append (encode_utf8 x) (encodes xs)), length-append (doubled (encode_utf8 x)) rest) in
    ap (text_from 0 n) parts ∙ first ∙ characters_passed xs p.1 (n + length (doubled (encode_utf8 x))) more ∙ ap (λ k. text_from 0 k more) size
  where
    one : (after : List ℕ) → scalar x ≡ true → (x ≡ 39) ⊎ (x ≢ 39) → text_from 0 n (doubled (encode_utf8 x) ++ after) ≡ text_from 0 (n + length (doubled (encode_utf8 x))) after
    one after ok' (inl e) =
        let two : doubled (encode_utf8 x) ≡ 39 ∷ 39 ∷ [] = ap doubled (ap encode_utf8 e ∙ encode_ascii 39 (omega arith)) in
        rw two (quote_doubled n after)
    one after ok' (inr ne) = rw (plain_character x ne) (character_passed n x after ok' ne)

-- the bytes of a text with doubled quotes are passed over
pub text_passed : (t : List ℕ) → IsUtf8 t → (n : ℕ) (more : List ℕ) → text_from 0 n (doubled t ++ more) ≡ text_from 0 (n + length (doubled t)) more
text_passed t u n more =
    ap (λ (w : List ℕ). text_from 0 n (doubled w ++ more)) (sym u.1.1) ∙ characters_passed u.0 u.1.0 n more ∙ ap (λ (w : List ℕ). text_from 0 (n + length (doubled w)) more) u.1.1

-- the bytes of a text with doubled quotes, up to the quote that ends it
pub quoted_read : (t : List ℕ) → IsUtf8 t → (tail : List ℕ) → StopsAt is_quote tail → text_from 0 1 (doubled t ++ 39 ∷ tail) ≡ pieces.Token shapes.Text (1 + suc (length (doubled t)))
quoted_read t u tail s =
    text_passed t u 1 (39 ∷ tail) ∙ quote_ends (1 + length (doubled t)) tail s ∙ ap (λ (k : ℕ). pieces.Token shapes.Text k) (omega arith)
