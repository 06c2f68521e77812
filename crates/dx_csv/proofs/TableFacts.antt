-- Steps of a load: the fields met so far, and the records met so far.
use Rattle.std.proofs.Common.{◌≡◌, ◌≢◌, ◌∙◌, ◌+◌, ◌<◌, ◌++◌, ◌∷◌, ℕ, zero, suc, List, [], Some, None, refl, sym, ap, arith, length, take, get_or, map, append_assoc, append-nil}
use Rattle.std.specs.Prelude.{All}
use Rattle.std.specs.List.{slice_get}
use Rattle.std.proofs.lemmas.List.{take_more, take_all, length-take, length-append, map-append}
use Rattle.std.proofs.lemmas.List.Elements.{All-append, All-nil, All-cons}
use Rattle.std.proofs.lemmas.Option.{none-some, same_Some, slice_get_past, slice_get-get_or, get_or_from_slice_get, slice_get_within, slice_get_read}
use Rattle.csv.specs.Records.{field_at}
use Rattle.dx_model.specs.declared.values.Value.{Value}
use Rattle.dx_model.specs.declared.values.Value.TheVariants.{Const}
use Rattle.dx_csv.specs.declared.fields.Fields.{Fields}
use Rattle.dx_csv.specs.Fields.{AreFields, HaveFields, fields_in, flat}
use Rattle.dx_csv.specs.Table.{IsWholeRecord, FirstDifference, AreTableRecords, FirstFaulty}
use Rattle.dx_model.specs.Values.{constants}

pub field_at-slice_get : (xs : List (List ℕ)) (i : ℕ) → field_at xs i ≡ slice_get xs i
unfolding field_at
field_at-slice_get [] i = refl
field_at-slice_get (x ∷ xs) zero = refl
field_at-slice_get (x ∷ xs) (suc i) = field_at-slice_get xs i

-- ---- two lists that agree so far
pub agree-more : (xs ys : List (List ℕ)) (i : ℕ) → i < length xs → i < length ys → take i xs ≡ take i ys → get_or xs i [] ≡ get_or ys i []
    → take (i + 1) xs ≡ take (i + 1) ys
agree-more xs ys i h g e f = take_more xs i [] h ∙ (rw (e, f) (sym (take_more ys i [] g)))

pub agree-all : (xs ys : List (List ℕ)) → length xs ≡ length ys → take (length ys) xs ≡ take (length ys) ys → xs ≡ ys
agree-all xs ys n e = sym (take_all (length ys) xs (omega arith)) ∙ (e ∙ take_all (length ys) ys (omega arith))

pub differ-ended : (xs ys : List (List ℕ)) (i : ℕ) → i < length ys → take i xs ≡ take i ys → None ≡ field_at xs i → FirstDifference xs ys i
differ-ended xs ys i h e n = record {
  before = e;
  here = λ same. none-some (get_or ys i []) (n ∙ (field_at-slice_get xs i ∙ (same ∙ slice_get-get_or ys i [] h)));
}

pub differ-here : (xs ys : List (List ℕ)) (i : ℕ) (x : List ℕ) → i < length ys → take i xs ≡ take i ys → Some x ≡ field_at xs i → x ≢ get_or ys i [] → FirstDifference xs ys i
differ-here xs ys i x h e f n = record {
  before = e;
  here = λ same. n (same_Some x (get_or ys i []) (f ∙ (field_at-slice_get xs i ∙ (same ∙ slice_get-get_or ys i [] h))));
}

pub differ-after : (xs ys : List (List ℕ)) → length xs ≢ length ys → take (length ys) xs ≡ take (length ys) ys → FirstDifference xs ys (length ys)
differ-after xs ys n e =
    let l = length-take (length ys) xs in
    let m = length-take (length ys) ys in
    let k = ap length e in
    let more : length ys < length xs = omega arith in
    record {
      before = e;
      here = λ same. none-some (get_or xs (length ys) []) (sym (slice_get_past ys (length ys) (omega arith)) ∙ (sym same ∙ slice_get-get_or xs (length ys) [] more));
    }

pub agree-next : (xs ys : List (List ℕ)) (i : ℕ) (x : List ℕ) → i < length ys → take i xs ≡ take i ys → Some x ≡ field_at xs i → x ≡ get_or ys i [] → take (i + 1) xs ≡ take (i + 1) ys
agree-next xs ys i x h e f same =
    let at = sym (f ∙ field_at-slice_get xs i) in
    agree-more xs ys i (slice_get_within xs i x at) h e (get_or_from_slice_get xs i x [] at ∙ same)

-- ---- the records so far
pub record Loaded (records : List (List (List ℕ))) (columns : List (List ℕ)) (rows : List (List Value)) (left : List (List (List ℕ))) (number : ℕ) : Type 0 where
  pub under : List (List (List ℕ))
  pub header : records ≡ columns ∷ (under ++ left)
  pub whole : All (IsWholeRecord columns) under
  pub values : rows ≡ map constants under
  pub count : number ≡ length under + 1

pub loaded-start : (records : List (List (List ℕ))) (columns : List (List ℕ)) (left : List (List (List ℕ))) → records ≡ columns ∷ left → Loaded records columns [] left 1
loaded-start records columns left e = record { under = []; header = e; whole = All-nil (IsWholeRecord columns); values = refl; count = refl }

pub loaded-more : (records : List (List (List ℕ))) (columns : List (List ℕ)) (rows : List (List Value)) (left rest : List (List (List ℕ))) (number : ℕ) (fields : List (List ℕ)) (row : List Value)
    → Loaded records columns rows left number → left ≡ fields ∷ rest → IsWholeRecord columns fields → row ≡ constants fields
    → Loaded records columns (rows ++ row ∷ []) rest (number + 1)
loaded-more records columns rows left rest number fields row l e w r = record {
  under = l.under ++ fields ∷ [];
  header = rw (append_assoc l.under (fields ∷ []) rest, ← e) l.header;
  whole = All-append (IsWholeRecord columns) l.under (fields ∷ []) l.whole (All-cons (IsWholeRecord columns) fields [] w (All-nil (IsWholeRecord columns)));
  values = rw (map-append constants l.under (fields ∷ []), l.values, r) refl;
  count = omega (arith, l.count, length-append l.under (fields ∷ []));
}

-- the fields so far
pub record Collected (records : List (List (List ℕ))) (columns : List (List ℕ)) (fields : Fields) (left : List (List (List ℕ))) (number : ℕ) : Type 0 where
  pub under : List (List (List ℕ))
  pub header : records ≡ columns ∷ (under ++ left)
  pub whole : All (IsWholeRecord columns) under
  pub have : HaveFields fields (flat under)
  pub count : number ≡ length under + 1

pub collected-start : (records : List (List (List ℕ))) (columns : List (List ℕ)) (fields : Fields) (left : List (List (List ℕ))) → records ≡ columns ∷ left → HaveFields fields []
    → Collected records columns fields left 1
collected-start records columns fields left e h = record { under = []; header = e; whole = All-nil (IsWholeRecord columns); have = h; count = refl }

pub flat-more : (under : List (List (List ℕ))) (fields : List (List ℕ)) → flat (under ++ fields ∷ []) ≡ flat under ++ fields
flat-more [] fields = append-nil fields
flat-more (u ∷ under) fields = ap (λ (l : List (List ℕ)). u ++ l) (flat-more under fields) ∙ sym (append_assoc u (flat under) fields)

pub collected-more : (records : List (List (List ℕ))) (columns : List (List ℕ)) (old new : Fields) (left rest : List (List (List ℕ))) (number : ℕ) (fields : List (List ℕ))
    → (c : Collected records columns old left number) → left ≡ fields ∷ rest → IsWholeRecord columns fields → HaveFields new (flat c.under ++ fields)
    → Collected records columns new rest (number + 1)
collected-more records columns old new left rest number fields c e w h = record {
  under = c.under ++ fields ∷ [];
  header = rw (append_assoc c.under (fields ∷ []) rest, ← e) c.header;
  whole = All-append (IsWholeRecord columns) c.under (fields ∷ []) c.whole (All-cons (IsWholeRecord columns) fields [] w (All-nil (IsWholeRecord columns)));
  have = rw (flat-more c.under fields) h;
  count = omega (arith, c.count, length-append c.under (fields ∷ []));
}

pub collected-faulty : (records : List (List (List ℕ))) (columns : List (List ℕ)) (old : Fields) (left rest : List (List (List ℕ))) (number : ℕ) (fields : List (List ℕ))
    → Collected records columns old left number → left ≡ fields ∷ rest → FirstFaulty records columns number fields
collected-faulty records columns old left rest number fields l e = record {
  good = l.under;
  rest = rest;
  header = rw (← e) l.header;
  whole = l.whole;
  place = l.count;
}

-- fields that stand in a buffer stand in it as its own
pub have-own : (f : Fields) (fields : List (List ℕ)) → HaveFields f fields → HaveFields f (fields_in f)
have-own f fields h = record { rising = h.rising; last = h.last; is = refl; text = rw h.is h.text }

pub collected-end : (records : List (List (List ℕ))) (columns : List (List ℕ)) (old : Fields) (left : List (List (List ℕ))) (number count : ℕ) (texts : List (List ℕ))
    → Collected records columns old left number → left ≡ [] → texts ≡ fields_in old → count + 1 ≡ number → AreFields records columns texts count
collected-end records columns old left number count texts l e t n = record {
  under = l.under;
  header = l.header ∙ rw (e, append-nil l.under) refl;
  whole = l.whole;
  is = t ∙ l.have.is;
  many = omega (arith, n, l.count);
}

pub loaded-end : (records : List (List (List ℕ))) (columns : List (List ℕ)) (rows : List (List Value)) (left : List (List (List ℕ))) (number : ℕ)
    → Loaded records columns rows left number → left ≡ [] → AreTableRecords records columns rows
loaded-end records columns rows left number l e = record {
  under = l.under;
  header = l.header ∙ rw (e, append-nil l.under) refl;
  whole = l.whole;
  values = l.values;
}

pub loaded-faulty : (records : List (List (List ℕ))) (columns : List (List ℕ)) (rows : List (List Value)) (left rest : List (List (List ℕ))) (number : ℕ) (fields : List (List ℕ))
    → Loaded records columns rows left number → left ≡ fields ∷ rest → FirstFaulty records columns number fields
loaded-faulty records columns rows left rest number fields l e = record {
  good = l.under;
  rest = rest;
  header = rw (← e) l.header;
  whole = l.whole;
  place = l.count;
}

pub constants-more : (fields : List (List ℕ)) (i : ℕ) (field : List ℕ) (row : List Value) (text : List ℕ) → i < length fields → get_or fields i [] ≡ field → text ≡ field → row ≡ constants (take i fields)
    → row ++ Const text ∷ [] ≡ constants (take (i + 1) fields)
constants-more fields i field row text h at same r =
    rw (take_more fields i [] h, map-append Const (take i fields) (get_or fields i [] ∷ []), at, r, same) refl

-- an element that was read is the one at its place
pub read-at : (xs : List (List ℕ)) (i : ℕ) (x y : List ℕ) → i < length xs → y ≡ x → x ≡ get_or xs i x → y ≡ get_or xs i []
read-at xs i x y h e f = e ∙ sym (get_or_from_slice_get xs i x [] (slice_get_read xs (length xs) i x refl h f))
