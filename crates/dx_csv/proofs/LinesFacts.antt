-- What is printed, field by field.
use Rattle.std.proofs.Common.{rules, ◌≡◌, take, get_or, ◌++◌, ◌∷◌, ◌==◌, ◌<◌, ◌^◌, ◌+◌, ◌∙◌, ℕ, List, [], Bool, true, false, refl, sym, ap, subst, length, arith, append_assoc, append-nil, inl, inr}
use Rattle.std.specs.Prelude.{if◌then◌else◌, ◌||◌}
use Rattle.std.specs.Fmt.{decimal}
use Rattle.std.proofs.lemmas.Bool.{cases_Bool, eqb-true, eq-eqb}
use Rattle.std.proofs.lemmas.List.{take_more}
use Rattle.std.proofs.lemmas.List.Folds.{list_any-append}
use Rattle.std.proofs.lemmas.Fmt.{decimal_is_IsNumeral}
use Rattle.std.specs.Char.{digit_value}
use Rattle.std.specs.Str.Parse.{AllDigits}
use Rattle.dx_model.specs.declared.values.NullId.{NullId}
use Rattle.dx_instance.specs.ValueText.{const_text, null_text, NullFits}
use Rattle.std.proofs.lemmas.Grind.{flat_map-append}
use Rattle.csv.specs.Writing.{default_writer, escaped, field_text, fields_text, is_blank, needs_byte, needs_quotes, quoted, row_body, row_text}
use Rattle.dx_csv.specs.declared.lines.Lines.{Lines}
use Rattle.dx_csv.specs.declared.lines.OpenLine.TheVariants.{NoField, NoByte, Bytes}
use Rattle.dx_csv.specs.Print.{records_text}
use Rattle.dx_csv.specs.Lines.{HavePrinted, NeedsNoQuotes, before_field, line_end, line_with, open_line}

-- ---- one field more

fields-more : (fields : List (List ℕ)) (field : List ℕ)
    → fields_text default_writer (fields ++ field ∷ []) ≡ fields_text default_writer fields ++ (44 ∷ field_text default_writer field)
unfolding fields_text
fields-more [] field = ap (λ (t : List ℕ). 44 ∷ t) (append-nil (field_text default_writer field))
fields-more (f ∷ fields) field =
    ap (λ (t : List ℕ). 44 ∷ t) (
    ap (λ (t : List ℕ). field_text default_writer f ++ t) (fields-more fields field)
    ∙ sym (append_assoc (field_text default_writer f) (fields_text default_writer fields) (44 ∷ field_text default_writer field))
    )

-- a field shows a byte where it has one
some-byte : (b : ℕ) (rest : List ℕ) → (length (b ∷ rest) == 0) ≡ false
some-byte b rest = search rules

no-byte : (field : List ℕ) → (length (field_text default_writer field) == 0) ≡ (length field == 0)
no-byte [] = refl
no-byte (b ∷ rest) = by (needs_quotes default_writer (b ∷ rest))
  where
    by : (q : Bool) → (length (if q then quoted default_writer (b ∷ rest) else b ∷ rest) == 0) ≡ (length (b ∷ rest) == 0)
    by true = some-byte 34 (escaped default_writer (b ∷ rest) ++ 34 ∷ []) ∙ sym (some-byte b rest)
    by false = refl

shown : (x : List ℕ) (fields : List (List ℕ)) → before_field (open_line (x ∷ fields)) ≡ 44 ∷ []
shown x fields = by (is_blank default_writer (x ∷ fields))
  where
    by : (b : Bool) → before_field (if b then NoByte else Bytes) ≡ 44 ∷ []
    by true = refl
    by false = refl

body-more : (fields : List (List ℕ)) (field : List ℕ)
    → row_body default_writer (fields ++ field ∷ []) ≡ row_body default_writer fields ++ (before_field (open_line fields) ++ field_text default_writer field)
unfolding fields_text
body-more [] field = append-nil (field_text default_writer field)
body-more (x ∷ fields) field =
    rw (shown x fields)
    (ap (λ (t : List ℕ). field_text default_writer x ++ t) (fields-more fields field)
    ∙ sym (append_assoc (field_text default_writer x) (fields_text default_writer fields) (44 ∷ field_text default_writer field)))

line-more : (fields : List (List ℕ)) (field : List ℕ) → open_line (fields ++ field ∷ []) ≡ line_with (open_line fields) field
unfolding is_blank
line-more [] field = ap (λ b. if b then NoByte else Bytes) (no-byte field)
line-more (x ∷ []) field = sym (by (is_blank default_writer (x ∷ [])))
  where
    by : (b : Bool) → line_with (if b then NoByte else Bytes) field ≡ Bytes
    by true = refl
    by false = refl
line-more (x ∷ y ∷ fields) field = refl

pub field-printed : (old new : Lines) (field : List ℕ) → new.bytes.items ≡ old.bytes.items ++ (before_field old.line ++ field_text default_writer field)
    → new.line ≡ line_with old.line field
    → (records : List (List (List ℕ))) (fields : List (List ℕ)) → HavePrinted old records fields → HavePrinted new records (fields ++ field ∷ [])
field-printed old new field text line records fields h = record {
  text =
      text
      ∙ ap (λ l. old.bytes.items ++ (before_field l ++ field_text default_writer field)) h.line
      ∙ ap (λ (t : List ℕ). t ++ (before_field (open_line fields) ++ field_text default_writer field)) h.text
      ∙ append_assoc (records_text records) (row_body default_writer fields) (before_field (open_line fields) ++ field_text default_writer field)
      ∙ ap (λ (t : List ℕ). records_text records ++ t) (sym (body-more fields field));
  line = line ∙ ap (λ l. line_with l field) h.line ∙ sym (line-more fields field);
}

pub pushed-after : (xs ys zs ws us : List ℕ) → ws ≡ xs ++ ys → us ≡ ws ++ zs → us ≡ xs ++ (ys ++ zs)
pushed-after xs ys zs ws us a b = b ∙ ap (λ (t : List ℕ). t ++ zs) a ∙ append_assoc xs ys zs

-- ---- the end of a line

end-is : (fields : List (List ℕ)) → row_text default_writer fields ≡ row_body default_writer fields ++ line_end (open_line fields)
unfolding is_blank
end-is [] = refl
end-is (x ∷ rest) = by (is_blank default_writer (x ∷ rest))
  where
    by : (b : Bool) → row_body default_writer (x ∷ rest) ++ ((if b then 34 ∷ 34 ∷ [] else []) ++ 10 ∷ []) ≡ row_body default_writer (x ∷ rest) ++ line_end (if b then NoByte else Bytes)
    by true = refl
    by false = refl

lines-one-more : (records : List (List (List ℕ))) (fields : List (List ℕ)) → records_text (records ++ fields ∷ []) ≡ records_text records ++ row_text default_writer fields
lines-one-more records fields = flat_map-append (row_text default_writer) records (fields ∷ []) ∙ ap (λ (t : List ℕ). records_text records ++ t) (append-nil (row_text default_writer fields))

pub line-ended : (old new : Lines) → new.bytes.items ≡ old.bytes.items ++ line_end old.line → new.line ≡ NoField
    → (records : List (List (List ℕ))) (fields : List (List ℕ)) → HavePrinted old records fields → HavePrinted new (records ++ fields ∷ []) []
line-ended old new text line records fields h = record {
  text =
      text
      ∙ ap (λ l. old.bytes.items ++ line_end l) h.line
      ∙ ap (λ (t : List ℕ). t ++ line_end (open_line fields)) h.text
      ∙ append_assoc (records_text records) (row_body default_writer fields) (line_end (open_line fields))
      ∙ ap (λ (t : List ℕ). records_text records ++ t) (sym (end-is fields))
      ∙ sym (lines-one-more records fields)
      ∙ sym (append-nil (records_text (records ++ fields ∷ [])));
  line = line;
}

pub none-printed : (new : Lines) → new.bytes.items ≡ [] → new.line ≡ NoField → HavePrinted new [] []
none-printed new text line = record { text = text; line = line }

pub all-printed : (old : Lines) (records : List (List (List ℕ))) → HavePrinted old records [] → old.bytes.items ≡ records_text records
all-printed old records h = h.text ∙ append-nil (records_text records)

-- ---- quotes

escape-step : (b : Bool) (x : ℕ) (whole front back : List ℕ) → whole ≡ front ++ back
    → (if b then 34 ∷ x ∷ whole else x ∷ whole) ≡ (if b then 34 ∷ x ∷ front else x ∷ front) ++ back
escape-step true x whole front back e = ap (λ (t : List ℕ). 34 ∷ x ∷ t) e
escape-step false x whole front back e = ap (λ (t : List ℕ). x ∷ t) e

pub escaped-append : (xs ys : List ℕ) → escaped default_writer (xs ++ ys) ≡ escaped default_writer xs ++ escaped default_writer ys
unfolding escaped
escaped-append [] ys = refl
escaped-append (x ∷ xs) ys = escape-step (x == 34) x (escaped default_writer (xs ++ ys)) (escaped default_writer xs) (escaped default_writer ys) (escaped-append xs ys)

pub escaped-none : escaped default_writer [] ≡ []
unfolding escaped
escaped-none = refl

-- the bytes of one byte between quotes
abbrev pub twice : ℕ → List ℕ
twice b = if b == 34 then 34 ∷ b ∷ [] else b ∷ []

escaped-one : (b : ℕ) → escaped default_writer (b ∷ []) ≡ twice b
unfolding escaped
escaped-one b = refl

pub escaped-more : (field : List ℕ) (i b : ℕ) → i < length field → b ≡ get_or field i b
    → escaped default_writer (take (i + 1) field) ≡ escaped default_writer (take i field) ++ twice b
escaped-more field i b h is =
    ap (λ (t : List ℕ). escaped default_writer t) (take_more field i b h ∙ ap (λ x. take i field ++ x ∷ []) (sym is))
    ∙ escaped-append (take i field) (b ∷ []) ∙ ap (λ (t : List ℕ). escaped default_writer (take i field) ++ t) (escaped-one b)

plain-head : (x : ℕ) (others : Bool) → (needs_byte default_writer x || others) ≡ false → ((x == 34) ≡ false) × (others ≡ false)
plain-head x others n = by (x == 44) (x == 34) (x == 13) (x == 10) others n
  where
    by : (p q r s o : Bool) → ((p || q || (r || s) || false || false) || o) ≡ false → (q ≡ false) × (o ≡ false)
    by true q r s o e = cc e
    by false true r s o e = cc e
    by false false true s o e = cc e
    by false false false true o e = cc e
    by false false false false o e = (refl, e)

pub twice-quote : (b : ℕ) (start mid new : List ℕ) → b ≡ 34 → mid ≡ start ++ 34 ∷ [] → new ≡ mid ++ b ∷ [] → new ≡ start ++ twice b
twice-quote b start mid new is m n =
    n ∙ ap (λ (t : List ℕ). t ++ b ∷ []) m ∙ append_assoc start (34 ∷ []) (b ∷ [])
    ∙ sym (ap (λ q. start ++ (if q then 34 ∷ b ∷ [] else b ∷ [])) (eq-eqb b 34 is))

pub twice-other : (b : ℕ) (start new : List ℕ) → (b ≡ 34 → ⊥) → new ≡ start ++ b ∷ [] → new ≡ start ++ twice b
twice-other b start new other n = n ∙ elim (cases_Bool (b == 34)) [
  | inl t ↦ absurd (other (eqb-true b 34 t))
  | inr f ↦ sym (ap (λ q. start ++ (if q then 34 ∷ b ∷ [] else b ∷ [])) f)
]

-- what calls for no quotes stays as it is between quotes
escaped-plain : (xs : List ℕ) → needs_quotes default_writer xs ≡ false → escaped default_writer xs ≡ xs
unfolding escaped
escaped-plain [] n = refl
escaped-plain (x ∷ xs) n = let q = plain-head x (needs_quotes default_writer xs) n in rw (q.0, escaped-plain xs q.1) refl

-- a mark that calls for no quotes, and a field
marked-quotes : (mark field : List ℕ) → needs_quotes default_writer mark ≡ false → needs_quotes default_writer (mark ++ field) ≡ needs_quotes default_writer field
marked-quotes mark field n = list_any-append (needs_byte default_writer) mark field ∙ ap (λ b. b || needs_quotes default_writer field) n

pub marked-quoted : (mark field : List ℕ) → needs_quotes default_writer mark ≡ false → needs_quotes default_writer field ≡ true
    → field_text default_writer (mark ++ field) ≡ 34 ∷ ((mark ++ escaped default_writer field) ++ 34 ∷ [])
marked-quoted mark field n q =
    ap (λ b. if b then quoted default_writer (mark ++ field) else mark ++ field) (marked-quotes mark field n ∙ q)
    ∙ ap (λ (t : List ℕ). 34 ∷ (t ++ 34 ∷ [])) (escaped-append mark field ∙ ap (λ (t : List ℕ). t ++ escaped default_writer field) (escaped-plain mark n))

pub marked-plain : (mark field : List ℕ) → needs_quotes default_writer mark ≡ false → needs_quotes default_writer field ≡ false
    → field_text default_writer (mark ++ field) ≡ mark ++ field
marked-plain mark field n q = ap (λ b. if b then quoted default_writer (mark ++ field) else mark ++ field) (marked-quotes mark field n ∙ q)

pub between-quotes : (start mark field one two three four : List ℕ) → one ≡ start ++ 34 ∷ [] → two ≡ one ++ mark → three ≡ two ++ field → four ≡ three ++ 34 ∷ []
    → four ≡ start ++ 34 ∷ ((mark ++ field) ++ 34 ∷ [])
between-quotes start mark field one two three four a b d e =
    e ∙ rw (d, b, a) (simp append_assoc)

-- ---- constants

pub const-byte : (text : List ℕ) → (length text == 0) ≡ (length (const_text text) == 0)
const-byte [] = refl
const-byte (b ∷ rest) = by (b == 63)
  where
    by : (m : Bool) → (length (b ∷ rest) == 0) ≡ (length (if m then 63 ∷ b ∷ rest else b ∷ rest) == 0)
    by true = some-byte b rest ∙ sym (some-byte 63 (b ∷ rest))
    by false = refl

-- ---- nulls

pub null-byte : (n : NullId) → false ≡ (length (null_text n) == 0)
null-byte n = sym (some-byte 63 (decimal n.rule ++ 46 ∷ (decimal n.var ++ 46 ∷ decimal n.row)))

digit-plain : (c : ℕ) → digit_value c < 10 → needs_byte default_writer c ≡ false
digit-plain c d = by (c == 44) (c == 34) (c == 13) (c == 10) (other 44 (λ l. omega (arith, l))) (other 34 (λ l. omega (arith, l))) (other 13 (λ l. omega (arith, l))) (other 10 (λ l. omega (arith, l)))
  where
    other : (m : ℕ) → (digit_value m < 10 → ⊥) → (c == m) ≡ false
    other m n = elim (cases_Bool (c == m)) [ inl t ↦ absurd (n (subst (λ x. digit_value x < 10) (eqb-true c m t) d)) | inr f ↦ f ]

    by : (p q r s : Bool) → p ≡ false → q ≡ false → r ≡ false → s ≡ false → (p || q || (r || s) || false || false) ≡ false
    by p q r s a b d e = rw (a, b, d, e) refl

digits-plain : (ds : List ℕ) → AllDigits 10 ds → needs_quotes default_writer ds ≡ false
digits-plain [] a = refl
digits-plain (d ∷ ds) a = rw (digit-plain d a.0) (digits-plain ds a.1)

decimal-plain : (n : ℕ) → n < 2 ^ 32 → needs_quotes default_writer (decimal n) ≡ false
decimal-plain n h = digits-plain (decimal n) (decimal_is_IsNumeral n (omega arith)).0.1

both-plain : (xs ys : List ℕ) → needs_quotes default_writer xs ≡ false → needs_quotes default_writer ys ≡ false → needs_quotes default_writer (xs ++ ys) ≡ false
both-plain xs ys a b = marked-quotes xs ys a ∙ b

pub null-calls : (n : NullId) → NullFits n → NeedsNoQuotes (null_text n)
null-calls n f =
    let rest = both-plain (decimal n.var) (46 ∷ decimal n.row) (decimal-plain n.var f.var) (decimal-plain n.row f.row) in
    both-plain (decimal n.rule) (46 ∷ (decimal n.var ++ 46 ∷ decimal n.row)) (decimal-plain n.rule f.rule) rest

pub plain-stays : (field : List ℕ) → NeedsNoQuotes field → field_text default_writer field ≡ field
plain-stays field p = ap (λ b. if b then quoted default_writer field else field) p

pub null-plain : (n : NullId) → NullFits n → field_text default_writer (null_text n) ≡ null_text n
null-plain n f = plain-stays (null_text n) (null-calls n f)

-- ---- a letter and a number

pub numbered-byte : (b n : ℕ) → false ≡ (length (b ∷ decimal n) == 0)
numbered-byte b n = sym (some-byte b (decimal n))

pub numbered-plain : (b n : ℕ) → NeedsNoQuotes (b ∷ []) → n < 2 ^ 32 → field_text default_writer (b ∷ decimal n) ≡ b ∷ decimal n
numbered-plain b n p h = plain-stays (b ∷ decimal n) (both-plain (b ∷ []) (decimal n) p (decimal-plain n h))
