-- How a text in single quotes ends: whole, cut, or with a byte that can't stand there.
use Rattle.std.proofs.Common.{◌≡◌, ◌≢◌, ◌⊎◌, ℕ, zero, suc, ◌+◌, ◌<◌, ◌≤◌, List, [], ◌∷◌, ◌++◌, length, take, drop, refl, sym, ap, ◌∙◌, subst, inl, inr, arith, lit<, append_assoc, append-nil, IsUtf8}
use Rattle.std.specs.Prelude.{encode_utf8}
use Rattle.std.specs.Char.{IsScalar}
use Rattle.std.proofs.lemmas.Bool.{cases_eq, cases_lt, ne_eqb}
use Rattle.std.proofs.lemmas.Bool.Decides.{nat_tests}
use Rattle.std.proofs.lemmas.List.{take-append-drop, length-drop, length-append}
use Rattle.std.proofs.lemmas.Str.{IsUtf8-append, IsUtf8-nil, IsUtf8-encode, encode_ascii, inside_one}
use Rattle.dx_tokens.specs.declared.pieces.Item.{Item}
use Rattle.dx_tokens.specs.declared.pieces.Item.TheVariants as items
use Rattle.dx_tokens.specs.Tokens.{item_at}
use Rattle.dx_tokens.specs.Lexing.{IsCharacter, bad_byte}
use Rattle.dx_tokens.proofs.Encoded.{character_item}
use Rattle.dx_tokens.proofs.Forms.{item_quote, item_whole}
use Rattle.dx_tokens.proofs.Lexed.{StopsAt}
use Rattle.dx_tokens.proofs.Unfinished.{item_bad, item_cut}
use Rattle.dx_script_tokens.specs.declared.pieces.Piece.TheVariants as pieces
use Rattle.dx_script_tokens.specs.Pieces.{text_item, text_from}
use Rattle.dx_script_tokens.specs.Quoted.{doubled}
use Rattle.dx_script_tokens.specs.Lexing.{BeginsNoCharacter}
use Rattle.dx_script_tokens.proofs.Doubled.{doubled-append, plain_character}
use Rattle.dx_script_tokens.proofs.QuotedTexts.{is_quote, small_item, wide_is}

-- ---- characters

-- the first byte of a character of more than one byte is high
first_high : (x b : ℕ) (others : List ℕ) → 128 ≤ x → encode_utf8 x ≡ b ∷ others → 128 ≤ b
first_high x b others big e = go (cases_lt b 128)
  where
    go : (b < 128) ⊎ (128 ≤ b) → 128 ≤ b
    go (inr h) = h
    go (inl l) =
        let same : x ≡ b = inside_one x [] (b ∷ others) 0 (sym e ∙ sym (append-nil (encode_utf8 x))) (rw e (omega arith)) l in
        omega (arith, big, same)

wide_is_character : (x : ℕ) → IsScalar x → 128 ≤ x → IsCharacter (encode_utf8 x)
wide_is_character x ok big = inr (record { character = x; scalar = ok; not_low = omega (arith, big); no_quote = λ e. omega (arith, big, e); no_backslash = λ e. omega (arith, big, e); encoded = refl })

-- what stands at the front of a text that begins with a character
data Begins (b : ℕ) (rest w : List ℕ) : Type 0 where
  quote : b ≡ 39 → w ≡ 39 ∷ [] → Begins b rest w
  small : b ≢ 39 → b < 128 → w ≡ b ∷ [] → Begins b rest w
  wide : 128 ≤ b → item_at b rest ≡ items.Whole (length w) → Begins b rest w

begins : (x : ℕ) (more : List ℕ) (b : ℕ) (rest : List ℕ) → IsScalar x → b ∷ rest ≡ encode_utf8 x ++ more → Begins b rest (encode_utf8 x)
begins x more b rest ok e = go (cases_lt x 128) (cases_eq x 39)
  where
    low : x < 128 → b ≡ x
    low l = let both : b ∷ rest ≡ x ∷ more = e ∙ ap (λ (w : List ℕ). w ++ more) (encode_ascii x l) in cc

    go : (x < 128) ⊎ (128 ≤ x) → (x ≡ 39) ⊎ (x ≢ 39) → Begins b rest (encode_utf8 x)
    go (inl l) (inl q) = quote (low l ∙ q) (encode_ascii x l ∙ ap (λ (y : ℕ). y ∷ []) q)
    go (inl l) (inr n) =
        let s = low l in
        small (λ q. n (sym s ∙ q)) (omega (arith, s, l)) (encode_ascii x l ∙ ap (λ (y : ℕ). y ∷ []) (sym s))
    go (inr h) s =
        let i = character_item (encode_utf8 x) more (wide_is_character x ok h) in
        let both : b ∷ rest ≡ i.first ∷ (i.others ++ more) = e ∙ ap (λ (w : List ℕ). w ++ more) i.splits in
        let first : b ≡ i.first = cc in
        let others : rest ≡ i.others ++ more = cc in
        let size : 1 + length i.others ≡ length (encode_utf8 x) = omega (arith, ap length i.splits) in
        wide (rw first (first_high x i.first i.others h i.splits)) (rw (first, others) (i.item ∙ ap (λ (k : ℕ). items.Whole k) size))

-- a single quote, doubled or not
pub quote_or_two : (rest : List ℕ) → (StopsAt is_quote rest × (text_item 39 rest ≡ items.Quote)) ⊎ ((more : List ℕ) × (rest ≡ 39 ∷ more) × (text_item 39 rest ≡ items.Whole 2))
unfolding text_item
quote_or_two [] = inl (tt, refl)
quote_or_two (c ∷ rest) = elim (cases_eq c 39) [
  | inl e ↦ inr (rest, ap (λ (x : ℕ). x ∷ rest) e, rw e refl)
  | inr n ↦ inl (ne_eqb c 39 n, rw (ne_eqb c 39 n) refl)
]

-- where a character begins, no byte is at fault and nothing is cut
no_fault_begins : (b : ℕ) (rest w : List ℕ) → Begins b rest w → ((k : ℕ) → ¬ (text_item b rest ≡ items.Bad k)) × ¬ (text_item b rest ≡ items.Cut)
no_fault_begins b rest w (quote e f) = rw e (elim (quote_or_two rest) [
  | inl q ↦ ((λ k h. (let s = q.1 in absurd (cc))), (λ h. (let s = q.1 in absurd (cc))))
  | inr q ↦ ((λ k h. (let s = q.2 in absurd (cc))), (λ h. (let s = q.2 in absurd (cc))))
])
no_fault_begins b rest w (small n l f) = ((λ k h. (let s = small_item b rest n l in absurd (cc))), (λ h. (let s = small_item b rest n l in absurd (cc))))
no_fault_begins b rest w (wide h i) = ((λ k g. (let s = wide_is b rest h in absurd (cc))), (λ g. (let s = wide_is b rest h in absurd (cc))))

-- ---- what is next in a text

-- what stands next: the end, a character, a byte that can't stand there, or a character that is cut
data Next (b : ℕ) (rest : List ℕ) : Type 0 where
  ends : b ≡ 39 → StopsAt is_quote rest → Next b rest
  goes : (x k : ℕ) → IsScalar x → 1 ≤ k → k ≤ 1 + length rest → take k (b ∷ rest) ≡ doubled (encode_utf8 x) → text_item b rest ≡ items.Whole k → Next b rest
  bad : text_item b rest ≡ items.Bad 0 → BeginsNoCharacter (b ∷ rest) → Next b rest
  cut : (x : ℕ) (more : List ℕ) → IsScalar x → (b ∷ rest) ++ more ≡ encode_utf8 x → more ≢ [] → text_item b rest ≡ items.Cut → Next b rest

scalar_quote : IsScalar 39
scalar_quote = refl

scalar_small : (b : ℕ) → b < 128 → IsScalar b
scalar_small b l = grind (arith, nat_tests)

quote_next : (rest : List ℕ) → Next 39 rest
quote_next rest = elim (quote_or_two rest) [
  | inl q ↦ ends refl q.0
  | inr q ↦
      let two : doubled (encode_utf8 39) ≡ 39 ∷ 39 ∷ [] = ap doubled (encode_ascii 39 (lit< tt)) in
      goes 39 2 scalar_quote (omega arith) (omega (arith, ap length q.1)) (ap (λ (r : List ℕ). take 2 (39 ∷ r)) q.1 ∙ sym two) q.2
]

small_next : (b : ℕ) (rest : List ℕ) → b ≢ 39 → b < 128 → Next b rest
small_next b rest n l =
    let said : doubled (encode_utf8 b) ≡ b ∷ [] = plain_character b n ∙ encode_ascii b l in
    goes b 1 (scalar_small b l) (omega arith) (omega arith) (sym said) (small_item b rest n l)

-- the bytes of a character with a high first byte
record IsEncoded (b : ℕ) (others : List ℕ) : Type 0 where
  character : ℕ
  scalar : IsScalar character
  other : character ≢ 39
  encoded : b ∷ others ≡ encode_utf8 character

high_encoded : (b : ℕ) (others : List ℕ) → 128 ≤ b → IsCharacter (b ∷ others) → IsEncoded b others
high_encoded b others h (inl (inl e)) = let f : b ≡ 92 = cc in absurd (omega (arith, f, h))
high_encoded b others h (inl (inr e)) = let f : b ≡ 92 = cc in absurd (omega (arith, f, h))
high_encoded b others h (inr p) = record {
  character = p.character;
  scalar = p.scalar;
  other = λ e. (let both : b ∷ others ≡ 39 ∷ [] = p.encoded ∙ (ap encode_utf8 e ∙ encode_ascii 39 (lit< tt)) in let f : b ≡ 39 = cc in absurd (omega (arith, f, h)));
  encoded = p.encoded;
}

whole_next : (b : ℕ) (rest : List ℕ) (k : ℕ) → 128 ≤ b → item_at b rest ≡ items.Whole k → Next b rest
whole_next b rest zero h e = let w = item_whole b rest 0 e in let l = w.low in absurd (omega (arith, l))
whole_next b rest (suc k) h e =
    let w = item_whole b rest (suc k) e in
    let c = high_encoded b (take k rest) h w.character in
    let high = w.high in
    goes c.character (suc k) c.scalar w.low (omega (arith, high)) (c.encoded ∙ sym (plain_character c.character c.other)) (wide_is b rest h ∙ e)

bad_next : (b : ℕ) (rest : List ℕ) (k : ℕ) → 128 ≤ b → item_at b rest ≡ items.Bad k → Next b rest
bad_next b rest k h e =
    let s = item_bad b rest k e in
    let zero_off : k ≡ 0 = s.offset ∙ high_first b rest h in
    let t : text_item b rest ≡ items.Bad k = wide_is b rest h ∙ e in
    bad (t ∙ ap (λ (n : ℕ). items.Bad n) zero_off) (record {
      no_character = λ c more ok q. absurd ((no_fault_begins b rest (encode_utf8 c) (begins c more b rest ok q)).0 k t);
      not_cut = λ c more ok q. (
          let on : text_item b (rest ++ more) ≡ items.Bad k = wide_is b (rest ++ more) h ∙ s.stays more in
          absurd ((no_fault_begins b (rest ++ more) (encode_utf8 c) (begins c [] b (rest ++ more) ok (q ∙ sym (append-nil (encode_utf8 c))))).0 k on));
    })
  where
    high_first : (x : ℕ) (xs : List ℕ) → 128 ≤ x → bad_byte (x ∷ xs) ≡ 0
    high_first x xs g = rw (ne_eqb x 92 (λ e. omega (arith, e, g))) refl

cut_next : (b : ℕ) (rest : List ℕ) → 128 ≤ b → item_at b rest ≡ items.Cut → Next b rest
cut_next b rest h e =
    let c = item_cut b rest e in
    let x = high_encoded b (rest ++ c.0) h c.1 in
    let t : text_item b rest ≡ items.Cut = wide_is b rest h ∙ e in
    cut x.character c.0 x.scalar x.encoded
    (λ none. absurd ((no_fault_begins b rest (encode_utf8 x.character) (begins x.character [] b rest x.scalar
    (sym (ap (λ (m : List ℕ). b ∷ m) (ap (λ (m : List ℕ). rest ++ m) none ∙ append-nil rest)) ∙ (x.encoded ∙ sym (append-nil (encode_utf8 x.character)))))).1 t)) t

wide_next : (b : ℕ) (rest : List ℕ) → 128 ≤ b → Next b rest
wide_next b rest h = go (item_at b rest) refl
  where
    go : (i : Item) → i ≡ item_at b rest → Next b rest
    go items.Quote is = let f = item_quote b rest (sym is) in absurd (omega (arith, f, h))
    go (items.Whole k) is = whole_next b rest k h (sym is)
    go (items.Bad k) is = bad_next b rest k h (sym is)
    go items.Cut is = cut_next b rest h (sym is)

next : (b : ℕ) (rest : List ℕ) → Next b rest
next b rest = elim (cases_eq b 39) [
  | inl q ↦ subst (λ (x : ℕ). Next x rest) (sym q) (quote_next rest)
  | inr n ↦ elim (cases_lt b 128) [ inl l ↦ small_next b rest n l | inr h ↦ wide_next b rest h ]
]

-- ---- whole texts

-- how a text goes on after its first single quote
pub data TextMeans (rest : List ℕ) : Type 0 where
  whole : (text after : List ℕ) → IsUtf8 text → StopsAt is_quote after → rest ≡ doubled text ++ 39 ∷ after → TextMeans rest
  faulty : (text behind : List ℕ) → IsUtf8 text → rest ≡ doubled text ++ behind → BeginsNoCharacter behind → TextMeans rest
  cut_off : (text behind more : List ℕ) (c : ℕ) → IsUtf8 text → rest ≡ doubled text ++ behind → IsScalar c → behind ++ more ≡ encode_utf8 c → more ≢ [] → TextMeans rest

put_back : (x : ℕ) (text front behind bs rest : List ℕ) → bs ≡ front ++ rest → front ≡ doubled (encode_utf8 x) → rest ≡ doubled text ++ behind → bs ≡ doubled (encode_utf8 x ++ text) ++ behind
put_back x text front behind bs rest e f g =
    e ∙ (ap (λ (y : List ℕ). y ++ rest) f ∙ (ap (λ (y : List ℕ). doubled (encode_utf8 x) ++ y) g
    ∙ (sym (append_assoc (doubled (encode_utf8 x)) (doubled text) behind) ∙ ap (λ (y : List ℕ). y ++ behind) (sym (doubled-append (encode_utf8 x) text)))))

more_utf8 : (x : ℕ) (text : List ℕ) → IsScalar x → IsUtf8 text → IsUtf8 (encode_utf8 x ++ text)
more_utf8 x text ok u = IsUtf8-append (encode_utf8 x) text (IsUtf8-encode x ok) u

behind_character : (x k : ℕ) (bs : List ℕ) → IsScalar x → take k bs ≡ doubled (encode_utf8 x) → TextMeans (drop k bs) → TextMeans bs
behind_character x k bs ok e (whole text after u s f) =
    whole (encode_utf8 x ++ text) after (more_utf8 x text ok u) s (put_back x text (take k bs) (39 ∷ after) bs (drop k bs) (sym (take-append-drop k bs)) e f)
behind_character x k bs ok e (faulty text behind u f none) =
    faulty (encode_utf8 x ++ text) behind (more_utf8 x text ok u) (put_back x text (take k bs) behind bs (drop k bs) (sym (take-append-drop k bs)) e f) none
behind_character x k bs ok e (cut_off text behind more c u f sc m n) =
    cut_off (encode_utf8 x ++ text) behind more c (more_utf8 x text ok u) (put_back x text (take k bs) behind bs (drop k bs) (sym (take-append-drop k bs)) e f) sc m n

-- the text ends between two characters
ends_here : TextMeans []
ends_here = cut_off [] [] (39 ∷ []) 39 IsUtf8-nil refl scalar_quote (sym (encode_ascii 39 (lit< tt))) (λ e. absurd (cc))

means_from : (fuel : ℕ) (rest : List ℕ) → length rest ≤ fuel → TextMeans rest
means_from zero [] le = ends_here
means_from (suc fuel) [] le = ends_here
means_from zero (b ∷ rest) le = absurd (omega arith)
means_from (suc fuel) (b ∷ rest) le = go (λ bs. means_from fuel bs) (next b rest)
  where
    go : ((bs : List ℕ) → length bs ≤ fuel → TextMeans bs) → Next b rest → TextMeans (b ∷ rest)
    go further (ends e s) = whole [] rest IsUtf8-nil s (ap (λ (x : ℕ). x ∷ rest) e)
    go further (goes x k ok low high e t) = behind_character x k (b ∷ rest) ok e (further (drop k (b ∷ rest)) (omega (arith, length-drop k (b ∷ rest))))
    go further (bad t none) = faulty [] (b ∷ rest) IsUtf8-nil refl none
    go further (cut x more ok e n t) = cut_off [] (b ∷ rest) more x IsUtf8-nil refl ok e n

pub text_means : (rest : List ℕ) → TextMeans rest
text_means rest = means_from (length rest) rest (omega arith)

-- ---- what is read there

stops_bad : (n b : ℕ) (rest : List ℕ) → text_item b rest ≡ items.Bad 0 → text_from 0 n (b ∷ rest) ≡ pieces.Fault n
unfolding text_from
stops_bad n b rest e = rw e (ap (λ (k : ℕ). pieces.Fault k) (omega arith))

stops_cut : (n b : ℕ) (rest : List ℕ) → text_item b rest ≡ items.Cut → text_from 0 n (b ∷ rest) ≡ pieces.Cut
unfolding text_from
stops_cut n b rest e = rw e refl

stops_end : (n : ℕ) → text_from 0 n [] ≡ pieces.Cut
unfolding text_from
stops_end n = refl

-- where no character begins, the text is at fault
pub none_is_fault : (n : ℕ) (rest : List ℕ) → BeginsNoCharacter rest → text_from 0 n rest ≡ pieces.Fault n
none_is_fault n [] none = absurd (none.not_cut 39 (39 ∷ []) scalar_quote (sym (encode_ascii 39 (lit< tt))))
none_is_fault n (b ∷ rest) none = go (next b rest)
  where
    go : Next b rest → text_from 0 n (b ∷ rest) ≡ pieces.Fault n
    go (ends e s) = absurd (none.no_character 39 rest scalar_quote (ap (λ (x : ℕ). x ∷ rest) e ∙ ap (λ (w : List ℕ). w ++ rest) (sym (encode_ascii 39 (lit< tt)))))
    go (goes x k ok low high e t) = absurd (some_character (cases_eq x 39))
      where
        cut_here : b ∷ rest ≡ doubled (encode_utf8 x) ++ drop k (b ∷ rest)
        cut_here = sym (take-append-drop k (b ∷ rest)) ∙ ap (λ (y : List ℕ). y ++ drop k (b ∷ rest)) e

        some_character : (x ≡ 39) ⊎ (x ≢ 39) → ⊥
        some_character (inl q) =
            let two : doubled (encode_utf8 x) ≡ 39 ∷ 39 ∷ [] = ap (λ (y : ℕ). doubled (encode_utf8 y)) q ∙ ap doubled (encode_ascii 39 (lit< tt)) in
            none.no_character 39 (39 ∷ drop k (b ∷ rest)) scalar_quote
            (cut_here ∙ (ap (λ (y : List ℕ). y ++ drop k (b ∷ rest)) two ∙ ap (λ (w : List ℕ). w ++ 39 ∷ drop k (b ∷ rest)) (sym (encode_ascii 39 (lit< tt)))))
        some_character (inr m) = none.no_character x (drop k (b ∷ rest)) ok (cut_here ∙ ap (λ (y : List ℕ). y ++ drop k (b ∷ rest)) (plain_character x m))
    go (bad t nothing) = stops_bad n b rest t
    go (cut x more ok e m t) = absurd (none.not_cut x more ok e)

-- where the end of the text cuts a character, or stands before one, the text is cut
pub cut_is_cut : (n c : ℕ) (rest more : List ℕ) → IsScalar c → rest ++ more ≡ encode_utf8 c → more ≢ [] → text_from 0 n rest ≡ pieces.Cut
cut_is_cut n c [] more ok e m = stops_end n
cut_is_cut n c (b ∷ rest) more ok e m = go (cases_lt c 128)
  where
    full : Begins b (rest ++ more) (encode_utf8 c)
    full = begins c [] b (rest ++ more) ok (e ∙ sym (append-nil (encode_utf8 c)))

    longer_than : length (encode_utf8 c) ≡ suc (length rest + length more)
    longer_than = sym (ap length e) ∙ (ap suc (length-append rest more))

    some_more : (xs : List ℕ) → xs ≢ [] → 1 ≤ length xs
    some_more [] n = absurd (n refl)
    some_more (x ∷ xs) n = omega arith

    go : (c < 128) ⊎ (128 ≤ c) → text_from 0 n (b ∷ rest) ≡ pieces.Cut
    go (inl l) =
        let one : length (encode_utf8 c) ≡ 1 = ap length (encode_ascii c l) in
        let p = some_more more m in
        let s = longer_than in
        absurd (omega (arith, one, p, s))
    go (inr h) =
        let high : 128 ≤ b = first_high c b (rest ++ more) h (sym e) in
        inside high (next b rest) full
      where
        inside : 128 ≤ b → Next b rest → Begins b (rest ++ more) (encode_utf8 c) → text_from 0 n (b ∷ rest) ≡ pieces.Cut
        inside high (ends q s) f = absurd (omega (arith, q, high))
        inside high (goes x k sc low up t i) f = absurd (too_short f)
          where
            front : (x ≡ 39) ⊎ (x ≢ 39) → b ∷ (rest ++ more) ≡ encode_utf8 x ++ (drop k (b ∷ rest) ++ more)
            front (inl q) =
                let two : doubled (encode_utf8 x) ≡ 39 ∷ 39 ∷ [] = ap (λ (y : ℕ). doubled (encode_utf8 y)) q ∙ ap doubled (encode_ascii 39 (lit< tt)) in
                let all : b ∷ rest ≡ 39 ∷ (39 ∷ drop k (b ∷ rest)) = sym (take-append-drop k (b ∷ rest)) ∙ ap (λ (y : List ℕ). y ++ drop k (b ∷ rest)) (t ∙ two) in
                let first : b ≡ 39 = cc in
                absurd (omega (arith, first, high))
            front (inr ne) =
                ap (λ (y : List ℕ). y ++ more) (sym (take-append-drop k (b ∷ rest)) ∙ ap (λ (y : List ℕ). y ++ drop k (b ∷ rest)) (t ∙ plain_character x ne))
                ∙ append_assoc (encode_utf8 x) (drop k (b ∷ rest)) more

            too_short : Begins b (rest ++ more) (encode_utf8 c) → ⊥
            too_short (quote q w) = omega (arith, q, high)
            too_short (small q l w) = omega (arith, l, high)
            too_short (wide g whole_c) = same_size (begins x (drop k (b ∷ rest) ++ more) b (rest ++ more) sc (front (cases_eq x 39)))
              where
                same_size : Begins b (rest ++ more) (encode_utf8 x) → ⊥
                same_size (quote q w) = omega (arith, q, high)
                same_size (small q l w) = omega (arith, l, high)
                same_size (wide g2 whole_x) =
                    let size : length (encode_utf8 c) ≡ length (encode_utf8 x) = cc in
                    let parts = ap length (front (cases_eq x 39)) in
                    let p = some_more more m in
                    let s = longer_than in
                    let a = length-append (encode_utf8 x) (drop k (b ∷ rest) ++ more) in
                    let d = length-append (drop k (b ∷ rest)) more in
                    let r = length-append rest more in
                    omega (arith, size, parts, p, s, a, d, r)
        inside high (bad t none) f = absurd ((none.not_cut c more ok e))
        inside high (cut x extra sc w mm t) f = stops_cut n b rest t
