-- What is printed of texts is a text.
use Rattle.std.proofs.Common.{◌≡◌, ◌<◌, ◌+◌, ◌++◌, ◌∷◌, ◌==◌, ◌∙◌, ℕ, suc, ◌^◌, List, [], Bool, true, false, refl, sym, ap, subst, map, length, arith, get_or, take, drop, append_assoc, append-nil}
use Rattle.std.specs.Prelude.{All, Err, IsUtf8, Ok, OnOk, Result, if◌then◌else◌}
use Rattle.std.specs.Fmt.{decimal}
use Rattle.std.proofs.Math.Seq.{take-append_seam, drop-append-add, get_or-append_seam}
use Rattle.std.proofs.lemmas.Bool.{cases_Bool, eqb-true}
use Rattle.std.proofs.lemmas.Fmt.{IsAscii-decimal}
use Rattle.std.proofs.lemmas.List.{length-append}
use Rattle.std.proofs.lemmas.Str.{IsCharBoundary-after_ascii, IsCharBoundary-before_ascii, IsUtf8-append, IsUtf8-drop, IsUtf8-from_ascii, IsUtf8-nil, IsUtf8-take}
use Rattle.std.proofs.lemmas.Str.Ascii.{IsAscii-cons, IsAscii-nil}
use Rattle.csv.specs.Records.{AllText}
use Rattle.csv.specs.Writing.{default_writer, escaped, field_text, fields_text, is_blank, needs_quotes, quoted, row_body, row_text}
use Rattle.dx_model.specs.declared.values.NullId.{NullId}
use Rattle.dx_instance.specs.ValueText.{NullFits, const_text, null_text, starts_with_question_mark}
use Rattle.dx_csv.specs.Print.{records_text}

-- one byte of ASCII
utf8-byte : (b : ℕ) → b < 128 → IsUtf8 (b ∷ [])
utf8-byte b h = IsUtf8-from_ascii (b ∷ []) (IsAscii-cons b [] h IsAscii-nil)

-- what holds is so after a call too
pub on-ok : {T E : Type 0} (r : Result T E) (P : Type 0) → P → OnOk r P
on-ok (Ok x) P p = p
on-ok (Err e) P p = tt

-- ---- a text before a byte of ASCII, and after it

seam : (pre bs : List ℕ) (b : ℕ) → length pre < length (pre ++ b ∷ bs)
seam pre bs b = omega (arith, length-append pre (b ∷ bs))

utf8-before : (pre bs : List ℕ) (b : ℕ) → b < 128 → IsUtf8 (pre ++ b ∷ bs) → IsUtf8 pre
utf8-before pre bs b h u =
    let low : get_or (pre ++ b ∷ bs) (length pre) 0 < 128 = rw (get_or-append_seam pre b bs 0) h in
    subst IsUtf8 (take-append_seam pre (b ∷ bs)) (IsUtf8-take (pre ++ b ∷ bs) (length pre) u (IsCharBoundary-before_ascii (pre ++ b ∷ bs) (length pre) (seam pre bs b) low))

utf8-after : (pre bs : List ℕ) (b : ℕ) → b < 128 → IsUtf8 (pre ++ b ∷ bs) → IsUtf8 bs
utf8-after pre bs b h u =
    let low : get_or (pre ++ b ∷ bs) (length pre) 0 < 128 = rw (get_or-append_seam pre b bs 0) h in
    subst IsUtf8 (drop-append-add pre (b ∷ bs) 1)
    (IsUtf8-drop (pre ++ b ∷ bs) (length pre + 1) u (IsCharBoundary-after_ascii (pre ++ b ∷ bs) (length pre) u (seam pre bs b) low))

-- ---- a field between its quotes

utf8-escaped : (bs pre : List ℕ) → IsUtf8 (pre ++ bs) → IsUtf8 (pre ++ escaped default_writer bs)
unfolding escaped
utf8-escaped [] pre u = u
utf8-escaped (b ∷ bs) pre u =
    by (b == 34) refl (utf8-escaped bs []) (utf8-escaped bs (pre ++ b ∷ []) (subst IsUtf8 (sym (append_assoc pre (b ∷ []) bs)) u))
  where
    by : (q : Bool) → (b == 34) ≡ q → (IsUtf8 bs → IsUtf8 (escaped default_writer bs)) → IsUtf8 ((pre ++ b ∷ []) ++ escaped default_writer bs)
        → IsUtf8 (pre ++ (if q then 34 ∷ b ∷ escaped default_writer bs else b ∷ escaped default_writer bs))
    by true e rest more =
        let is : b ≡ 34 = eqb-true b 34 e in
        let low : b < 128 = omega (arith, is) in
        IsUtf8-append pre _ (utf8-before pre bs b low u)
        (IsUtf8-append (34 ∷ []) _ (utf8-byte 34 (omega arith)) (IsUtf8-append (b ∷ []) _ (utf8-byte b low) (rest (utf8-after pre bs b low u))))
    by false e rest more = subst IsUtf8 (append_assoc pre (b ∷ []) (escaped default_writer bs)) more

utf8-field : (field : List ℕ) → IsUtf8 field → IsUtf8 (field_text default_writer field)
utf8-field field u = by (needs_quotes default_writer field)
  where
    by : (q : Bool) → IsUtf8 (if q then quoted default_writer field else field)
    by true = IsUtf8-append (34 ∷ []) _ (utf8-byte 34 (omega arith)) (IsUtf8-append (escaped default_writer field) _ (utf8-escaped field [] u) (utf8-byte 34 (omega arith)))
    by false = u

utf8-fields : (fields : List (List ℕ)) → AllText fields → IsUtf8 (fields_text default_writer fields)
unfolding AllText fields_text
utf8-fields [] t = IsUtf8-nil
utf8-fields (f ∷ fields) t =
    IsUtf8-append (44 ∷ []) _ (utf8-byte 44 (omega arith)) (IsUtf8-append (field_text default_writer f) _ (utf8-field f t.0) (utf8-fields fields t.1))

utf8-body : (fields : List (List ℕ)) → AllText fields → IsUtf8 (row_body default_writer fields)
unfolding AllText
utf8-body [] t = IsUtf8-nil
utf8-body (f ∷ fields) t = IsUtf8-append (field_text default_writer f) _ (utf8-field f t.0) (utf8-fields fields t.1)

utf8-row : (fields : List (List ℕ)) → AllText fields → IsUtf8 (row_text default_writer fields)
utf8-row fields t = IsUtf8-append (row_body default_writer fields) _ (utf8-body fields t) (by (is_blank default_writer fields))
  where
    by : (b : Bool) → IsUtf8 ((if b then 34 ∷ 34 ∷ [] else []) ++ 10 ∷ [])
    by true = IsUtf8-append (34 ∷ []) _ (utf8-byte 34 (omega arith)) (IsUtf8-append (34 ∷ []) _ (utf8-byte 34 (omega arith)) (utf8-byte 10 (omega arith)))
    by false = utf8-byte 10 (omega arith)

-- ---- records

pub utf8-records : (records : List (List (List ℕ))) → All AllText records → IsUtf8 (records_text records)
utf8-records [] t = IsUtf8-nil
utf8-records (fields ∷ records) t =
    IsUtf8-append (row_text default_writer fields) _ (utf8-row fields (t 0 fields (omega arith))) (utf8-records records (λ k d h. t (suc k) d (omega (arith, h))))

-- ---- values

pub utf8-const : (text : List ℕ) → IsUtf8 text → IsUtf8 (const_text text)
utf8-const text u = by (starts_with_question_mark text)
  where
    by : (b : Bool) → IsUtf8 (if b then 63 ∷ text else text)
    by true = IsUtf8-append (63 ∷ []) text (utf8-byte 63 (omega arith)) u
    by false = u

utf8-number : (n : ℕ) → n < 2 ^ 32 → IsUtf8 (decimal n)
utf8-number n h = IsUtf8-from_ascii (decimal n) (IsAscii-decimal n (omega arith))

pub utf8-null : (n : NullId) → NullFits n → IsUtf8 (null_text n)
utf8-null n fits =
    IsUtf8-append (63 ∷ []) _ (utf8-byte 63 (omega arith))
    (IsUtf8-append (decimal n.rule) _ (utf8-number n.rule fits.rule)
    (IsUtf8-append (46 ∷ []) _ (utf8-byte 46 (omega arith))
    (IsUtf8-append (decimal n.var) _ (utf8-number n.var fits.var)
    (IsUtf8-append (46 ∷ []) _ (utf8-byte 46 (omega arith)) (utf8-number n.row fits.row)))))
