-- What names and texts say is UTF-8.
use Rattle.std.proofs.Common.{◌≡◌, ◌≢◌, ℕ, zero, suc, ◌+◌, ◌-◌, ◌<◌, ◌≤◌, List, [], ◌∷◌, ◌++◌, length, take, drop, get_or, refl, sym, ap, ◌∙◌, subst, inl, inr, arith, lit<, IsUtf8, append_assoc, append-nil}
use Rattle.std.specs.Prelude.{◌||◌, ◌==◌, nat_lt}
use Rattle.std.specs.Char.{encode_utf8}
use Rattle.std.proofs.lemmas.Bool.{eqb-true, eqb-false, ne_eqb, or_cases}
use Rattle.std.proofs.lemmas.Bool.Decides.{nat_tests}
use Rattle.std.proofs.lemmas.List.{take-append-drop, length-drop, length-append, length-take-le}
use Rattle.std.proofs.lemmas.Str.{IsUtf8-append, IsUtf8-nil, IsUtf8-encode, encode_ascii, inside_one}
use Rattle.std.proofs.Math.Seq.{drop-append_seam}
use Rattle.dx_base.proofs.Members.{each_cons}
use Rattle.dx_tokens.specs.declared.pieces.Item.{Item}
use Rattle.dx_tokens.specs.declared.pieces.Item.TheVariants as items
use Rattle.dx_tokens.specs.Tokens.{is_blank, is_digit, is_word_start, is_word_byte, run, wide_at}
use Rattle.dx_tokens.specs.Lexing.{IsCharacter}
use Rattle.dx_tokens.proofs.Characters.{wide_character, wide_no_quote}
use Rattle.dx_tokens.proofs.Forms.{taken, IsRun, prefix_split, word_byte_small, small_utf8}
use Rattle.dx_script_tokens.specs.declared.pieces.Shape.{Shape}
use Rattle.dx_script_tokens.specs.declared.pieces.Shape.TheVariants as shapes
use Rattle.dx_script_tokens.specs.declared.pieces.Piece.{Piece}
use Rattle.dx_script_tokens.specs.declared.pieces.Piece.TheVariants as pieces
use Rattle.dx_script_tokens.specs.Numbers.{number_at}
use Rattle.dx_script_tokens.specs.Kinds.{is_script_mark}
use Rattle.dx_script_tokens.specs.Pieces.{name_end, name_at, quote_at, text_item, text_step, text_from, script_piece_at}
use Rattle.dx_script_tokens.specs.Scan.{but_last, between_quotes, undoubled, SaysUtf8}
use Rattle.dx_script_tokens.proofs.Passing.{text_goes_on}

-- ---- bytes

pub but_last_end : (xs : List ℕ) (d : ℕ) → but_last (xs ++ d ∷ []) ≡ xs
but_last_end [] d = refl
but_last_end (x ∷ []) d = refl
but_last_end (x ∷ y ∷ xs) d = ap (λ (zs : List ℕ). x ∷ zs) (but_last_end (y ∷ xs) d)

-- what stands between the first byte and the last, as a part
but_last_take : (xs : List ℕ) → take (length xs - 1) xs ≡ but_last xs
but_last_take [] = refl
but_last_take (x ∷ []) = refl
but_last_take (x ∷ y ∷ xs) =
    let more : suc (suc (length xs)) - 1 ≡ suc (suc (length xs) - 1) = omega arith in
    ap (λ (n : ℕ). take n (x ∷ y ∷ xs)) more ∙ ap (λ (zs : List ℕ). x ∷ zs) (but_last_take (y ∷ xs))

pub inside_part : (bs : List ℕ) → 2 ≤ length bs → take (length bs - 1 - 1) (drop 1 bs) ≡ between_quotes bs
inside_part [] le = absurd (omega arith)
inside_part (b ∷ rest) le =
    let less : suc (length rest) - 1 - 1 ≡ length rest - 1 = omega arith in
    ap (λ (n : ℕ). take n rest) less ∙ but_last_take rest

pub take_front : (front : List ℕ) (d : ℕ) (more : List ℕ) → take (suc (length front)) (front ++ d ∷ more) ≡ front ++ d ∷ []
take_front [] d more = refl
take_front (x ∷ front) d more = ap (λ (zs : List ℕ). x ∷ zs) (take_front front d more)

-- ---- names

abbrev shape_in : Piece → Shape
shape_in pieces.Blank = shapes.Word
shape_in (pieces.Token shape len) = shape
shape_in (pieces.Fault n) = shapes.Word
shape_in pieces.Cut = shapes.Word

abbrev size_in : Piece → ℕ
size_in pieces.Blank = 0
size_in (pieces.Token shape len) = len
size_in (pieces.Fault n) = 0
size_in pieces.Cut = 0

-- a name that is read: its characters, and what is after it
pub record IsNameOf (rest : List ℕ) (shape : Shape) (len : ℕ) : Type 0 where
  pub inner : List ℕ
  pub behind : List ℕ
  pub splits : rest ≡ inner ++ 34 ∷ behind
  pub utf8 : IsUtf8 inner
  pub is_name : shape ≡ shapes.Name
  pub size : len ≡ suc (suc (length inner))

name_ends : (c : ℕ) (rest : List ℕ) (r : IsRun is_word_byte rest) (after : List ℕ) (shape : Shape) (len : ℕ) → c < 128 → after ≡ r.after → name_end (2 + length r.front) after ≡ pieces.Token shape len → IsNameOf (c ∷ rest) shape len
name_ends c rest r [] shape len small is e = absurd cc
name_ends c rest r (d ∷ more) shape len small is e =
    elim (taken (d == 34) (pieces.Token shapes.Name (2 + length r.front + 1)) (pieces.Fault (2 + length r.front)) (pieces.Token shape len) e) [
      | inl t ↦ record {
        inner = c ∷ r.front;
        behind = more;
        splits = ap (λ (zs : List ℕ). c ∷ zs) (r.splits ∙ ap (λ (zs : List ℕ). r.front ++ zs) (sym is ∙ ap (λ (x : ℕ). x ∷ more) (eqb-true d 34 t.0)));
        utf8 = small_utf8 (c ∷ r.front) (each_cons c r.front small (λ x m. word_byte_small x (r.pass x m)));
        is_name = sym (ap shape_in t.1);
        size = sym (ap size_in t.1) ∙ (omega arith);
      }
      | inr f ↦ absurd cc
    ]

pub name_read : (rest : List ℕ) (shape : Shape) (len : ℕ) → name_at rest ≡ pieces.Token shape len → IsNameOf rest shape len
name_read [] shape len e = absurd cc
name_read (c ∷ rest) shape len e =
    let r = prefix_split is_word_byte rest in
    elim (taken (c == 35 || is_word_byte c) (name_end (2 + run is_word_byte rest) (drop (run is_word_byte rest) rest)) (pieces.Fault 1) (pieces.Token shape len) e) [
      | inl t ↦
          let small : c < 128 = elim (or_cases (c == 35) (is_word_byte c) t.0) [ inl a ↦ omega (arith, eqb-true c 35 a) | inr b ↦ word_byte_small c b ] in
          let after : drop (run is_word_byte rest) rest ≡ r.after = ap (λ (n : ℕ). drop n rest) r.size ∙ ap (drop (length r.front)) r.splits ∙ drop-append_seam r.front r.after in
          name_ends c rest r (drop (run is_word_byte rest) rest) shape len small after (ap (λ (n : ℕ). name_end (2 + n) (drop (run is_word_byte rest) rest)) (sym r.size) ∙ t.1)
      | inr f ↦ absurd cc
    ]

-- ---- texts

pub undoubled-plain : (b : ℕ) (bs : List ℕ) → b ≢ 39 → undoubled (b ∷ bs) ≡ b ∷ undoubled bs
undoubled-plain b [] n = refl
undoubled-plain b (c ∷ bs) n = rw (ne_eqb b 39 n) refl

pub undoubled-append : (w x : List ℕ) → ((k : ℕ) → k < length w → get_or w k 0 ≢ 39) → undoubled (w ++ x) ≡ w ++ undoubled x
undoubled-append [] x h = refl
undoubled-append (b ∷ w) x h = undoubled-plain b (w ++ x) (h 0 (omega arith)) ∙ ap (λ (zs : List ℕ). b ∷ zs) (undoubled-append w x (λ k l. h (suc k) (omega arith)))

-- no byte of another character is a single quote
pub no_quote_inside : (x : ℕ) → x ≢ 39 → (k : ℕ) → k < length (encode_utf8 x) → get_or (encode_utf8 x) k 0 ≢ 39
no_quote_inside x n k l = other 39 (lit< tt) n
  where
    other : (d : ℕ) → d < 128 → x ≢ d → get_or (encode_utf8 x) k 0 ≢ d
    other d small ne e = ne (inside_one x [] (encode_utf8 x) k (sym (append-nil (encode_utf8 x))) l (rw e small) ∙ e)

-- an item that is whole, and what it says
pub record IsItem (b : ℕ) (rest : List ℕ) (len : ℕ) : Type 0 where
  pub low : 1 ≤ len
  pub high : len ≤ 1 + length rest
  pub said : List ℕ
  pub utf8 : IsUtf8 said
  pub says : (x : List ℕ) → undoubled (take len (b ∷ rest) ++ x) ≡ said ++ undoubled x

abbrev len_in : Item → ℕ
len_in items.Quote = 0
len_in (items.Whole n) = n
len_in (items.Bad n) = 0
len_in items.Cut = 0

doubled_item : (rest : List ℕ) (len : ℕ) → quote_at rest ≡ items.Whole len → IsItem 39 rest len
doubled_item [] len e = absurd cc
doubled_item (c ∷ rest) len e =
    elim (taken (c == 39) (items.Whole 2) items.Quote (items.Whole len) e) [
      | inl t ↦
          let two : len ≡ 2 = cc in
          record {
            low = omega (arith, two);
            high = omega (arith, two);
            said = 39 ∷ [];
            utf8 = small_utf8 (39 ∷ []) (each_cons 39 [] (lit< tt) (λ y m. elim m [ ]));
            says = λ x. rw two refl;
          }
      | inr f ↦ absurd cc
    ]

plain_item : (b : ℕ) (rest : List ℕ) (len : ℕ) → b ≢ 39 → b < 128 → len ≡ 1 → IsItem b rest len
plain_item b rest len n small one = record {
  low = omega (arith, one);
  high = omega (arith, one);
  said = b ∷ [];
  utf8 = small_utf8 (b ∷ []) (each_cons b [] small (λ y m. elim m [ ]));
  says = λ x. rw one (undoubled-plain b x n);
}

-- bytes say themselves
abbrev SayThemselves : List ℕ → Type 0
SayThemselves w = IsUtf8 w × ((x : List ℕ) → undoubled (w ++ x) ≡ w ++ undoubled x)

-- the bytes of a character, of which the first is no single quote
character_said : (b : ℕ) (others : List ℕ) → b ≢ 39 → IsCharacter (b ∷ others) → SayThemselves (b ∷ others)
character_said b others n (inl (inl e)) = subst SayThemselves (sym e) (small_utf8 (92 ∷ 34 ∷ []) (each_cons 92 (34 ∷ []) (lit< tt) (each_cons 34 [] (lit< tt) (λ y m. elim m [ ]))), λ x. ap (λ (zs : List ℕ). 92 ∷ zs) (undoubled-plain 34 x (λ h. omega (arith, h))))
character_said b others n (inl (inr e)) = subst SayThemselves (sym e) (small_utf8 (92 ∷ 92 ∷ []) (each_cons 92 (92 ∷ []) (lit< tt) (each_cons 92 [] (lit< tt) (λ y m. elim m [ ]))), λ x. ap (λ (zs : List ℕ). 92 ∷ zs) (undoubled-plain 92 x (λ h. omega (arith, h))))
character_said b others n (inr p) =
    let other : p.character ≢ 39 = λ e. n (first (p.encoded ∙ ap encode_utf8 e ∙ encode_ascii 39 (lit< tt))) in
    subst SayThemselves (sym p.encoded) (IsUtf8-encode p.character p.scalar, λ x. undoubled-append (encode_utf8 p.character) x (no_quote_inside p.character other))
  where
    first : b ∷ others ≡ 39 ∷ [] → b ≡ 39
    first e = cc

wide_item : (b : ℕ) (rest : List ℕ) (len : ℕ) → b ≢ 39 → wide_at b rest ≡ items.Whole len → IsItem b rest len
wide_item b rest zero n e = let w = wide_character b rest 0 e in absurd (omega (arith, w.0))
wide_item b rest (suc k) n e =
    let w = wide_character b rest (suc k) e in
    let s = character_said b (take k rest) n w.2 in
    record { low = w.0; high = omega (arith, w.1); said = b ∷ take k rest; utf8 = s.0; says = s.1 }

item_read : (b : ℕ) (rest : List ℕ) (len : ℕ) → text_item b rest ≡ items.Whole len → IsItem b rest len
unfolding text_item
item_read b rest len h =
    elim (taken (b == 39) (quote_at rest) _ (items.Whole len) h) [
      | inl t ↦ let e : 39 ≡ b = sym (eqb-true b 39 t.0) in subst (λ x. IsItem x rest len) e (doubled_item rest len t.1)
      | inr f ↦ elim (taken (nat_lt b 128) (items.Whole 1) (wide_at b rest) (items.Whole len) f.1) [
        | inl t ↦ plain_item b rest len (eqb-false b 39 f.0) (grind (arith, nat_tests)) (sym (ap len_in t.1))
        | inr w ↦ wide_item b rest len (eqb-false b 39 f.0) w.1
      ]
    ]

quote_byte : (b : ℕ) (rest : List ℕ) → text_item b rest ≡ items.Quote → b ≡ 39
unfolding text_item
quote_byte b rest h =
    elim (taken (b == 39) (quote_at rest) _ items.Quote h) [
      | inl t ↦ eqb-true b 39 t.0
      | inr f ↦ elim (taken (nat_lt b 128) (items.Whole 1) (wide_at b rest) items.Quote f.1) [ inl t ↦ absurd cc | inr w ↦ absurd (wide_no_quote b rest w.1) ]
    ]

-- a text that is read from its byte n on: what stands before the quote that ends it, and what is after
pub record IsTextOf (n : ℕ) (rest : List ℕ) (shape : Shape) (len : ℕ) : Type 0 where
  pub inner : List ℕ
  pub behind : List ℕ
  pub splits : rest ≡ inner ++ 39 ∷ behind
  pub utf8 : IsUtf8 (undoubled inner)
  pub is_text : shape ≡ shapes.Text
  pub size : len ≡ n + suc (length inner)

more_text : (n k b : ℕ) (rest : List ℕ) (shape : Shape) (len : ℕ) → IsItem b rest k → IsTextOf (n + k) (drop k (b ∷ rest)) shape len → IsTextOf n (b ∷ rest) shape len
more_text n k b rest shape len i t =
    let w = take k (b ∷ rest) in
    let long : length w ≡ k = length-take-le k (b ∷ rest) (omega (arith, i.high)) in
    record {
      inner = w ++ t.inner;
      behind = t.behind;
      splits = sym (take-append-drop k (b ∷ rest)) ∙ ap (λ (zs : List ℕ). w ++ zs) t.splits ∙ sym (append_assoc w t.inner (39 ∷ t.behind));
      utf8 = subst IsUtf8 (sym (i.says t.inner)) (IsUtf8-append i.said (undoubled t.inner) i.utf8 t.utf8);
      is_text = t.is_text;
      size = t.size ∙ omega (arith, long, length-append w t.inner);
    }

text_stops : (n b : ℕ) (rest : List ℕ) (i : Item) → i ≡ text_item b rest → text_from 0 n (b ∷ rest) ≡ text_step i n (λ left. text_from left (n + 1) rest)
unfolding text_from
text_stops n b rest i is = rw is refl

pub text_read : (fuel n : ℕ) (rest : List ℕ) (shape : Shape) (len : ℕ) → length rest ≤ fuel → text_from 0 n rest ≡ pieces.Token shape len → IsTextOf n rest shape len
unfolding text_from
text_read fuel n [] shape len le e = absurd cc
text_read zero n (b ∷ rest) shape len le e = absurd (omega arith)
text_read (suc fuel) n (b ∷ rest) shape len le e = go (text_item b rest) refl (λ m bs. text_read fuel m bs shape len)
  where
    go : (i : Item) → i ≡ text_item b rest → ((m : ℕ) (bs : List ℕ) → length bs ≤ fuel → text_from 0 m bs ≡ pieces.Token shape len → IsTextOf m bs shape len) → IsTextOf n (b ∷ rest) shape len
    go items.Quote is further =
        let ends : pieces.Token shapes.Text (n + 1) ≡ pieces.Token shape len = sym (text_stops n b rest items.Quote is) ∙ e in
        record {
          inner = [];
          behind = rest;
          splits = ap (λ (x : ℕ). x ∷ rest) (quote_byte b rest (sym is));
          utf8 = IsUtf8-nil;
          is_text = sym (ap shape_in ends);
          size = sym (ap size_in ends);
        }
    go (items.Whole k) is further =
        let i = item_read b rest k (sym is) in
        let low : 1 ≤ k = i.low in
        more_text n k b rest shape len i (further (n + k) (drop k (b ∷ rest)) (omega (arith, length-drop k (b ∷ rest))) (text_goes_on n b k rest (b ∷ rest) (drop k (b ∷ rest)) _ refl is i.low i.high refl e))
    go (items.Bad k) is further = let ends : pieces.Fault (n + k) ≡ pieces.Token shape len = sym (text_stops n b rest (items.Bad k) is) ∙ e in absurd cc
    go items.Cut is further = let ends : pieces.Cut ≡ pieces.Token shape len = sym (text_stops n b rest items.Cut is) ∙ e in absurd cc

-- ---- all pieces

name_says : (rest : List ℕ) (shape : Shape) (len : ℕ) → IsNameOf rest shape len → SaysUtf8 shape (take len (34 ∷ rest))
name_says rest shape len r =
    let w : take len (34 ∷ rest) ≡ 34 ∷ (r.inner ++ 34 ∷ []) = rw (r.size, r.splits) (ap (λ (zs : List ℕ). 34 ∷ zs) (take_front r.inner 34 r.behind)) in
    rw (r.is_name, w, but_last_end r.inner 34) r.utf8

text_says : (rest : List ℕ) (shape : Shape) (len : ℕ) → IsTextOf 1 rest shape len → SaysUtf8 shape (take len (39 ∷ rest))
text_says rest shape len r =
    let size : len ≡ suc (suc (length r.inner)) = omega (arith, r.size) in
    let w : take len (39 ∷ rest) ≡ 39 ∷ (r.inner ++ 39 ∷ []) = rw (size, r.splits) (ap (λ (zs : List ℕ). 39 ∷ zs) (take_front r.inner 39 r.behind)) in
    rw (r.is_text, w, but_last_end r.inner 39) r.utf8

plain_says : (w : List ℕ) (shape : Shape) (p : Piece) (len : ℕ) → SaysUtf8 (shape_in p) w → p ≡ pieces.Token shape len → SaysUtf8 shape w
plain_says w shape p len h e = subst (λ (s : Shape). SaysUtf8 s w) (ap shape_in e) h

pub piece_utf8 : (b : ℕ) (rest : List ℕ) (shape : Shape) (len : ℕ) → script_piece_at b rest ≡ pieces.Token shape len → SaysUtf8 shape (take len (b ∷ rest))
unfolding script_piece_at
piece_utf8 b rest shape len h =
    let w = take len (b ∷ rest) in
    elim (taken (is_blank b) pieces.Blank _ (pieces.Token shape len) h) [
      | inl t ↦ absurd cc
      | inr blank ↦ elim (taken (is_word_start b) (pieces.Token shapes.Word (1 + run is_word_byte rest)) _ (pieces.Token shape len) blank.1) [
        | inl t ↦ plain_says w shape (pieces.Token shapes.Word (1 + run is_word_byte rest)) len tt t.1
        | inr word ↦ elim (taken (is_digit b) (pieces.Token shapes.Number (number_at b rest).0) _ (pieces.Token shape len) word.1) [
          | inl t ↦ plain_says w shape (pieces.Token shapes.Number (number_at b rest).0) len tt t.1
          | inr digit ↦ elim (taken (is_script_mark b) (pieces.Token shapes.Mark 1) _ (pieces.Token shape len) digit.1) [
            | inl t ↦ plain_says w shape (pieces.Token shapes.Mark 1) len tt t.1
            | inr mark ↦ elim (taken (b == 34) (name_at rest) _ (pieces.Token shape len) mark.1) [
              | inl t ↦ rw (eqb-true b 34 t.0) (name_says rest shape len (name_read rest shape len t.1))
              | inr name ↦ elim (taken (b == 39) (text_from 0 1 rest) (pieces.Fault 0) (pieces.Token shape len) name.1) [
                | inl t ↦ rw (eqb-true b 39 t.0) (text_says rest shape len (text_read (length rest) 1 rest shape len (omega arith) t.1))
                | inr none ↦ absurd cc
              ]
            ]
          ]
        ]
      ]
    ]
