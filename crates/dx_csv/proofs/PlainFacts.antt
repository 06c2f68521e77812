-- Records whose fields stand as they are or whole in quotes: one field after the other, and one record after the other.
use Rattle.std.proofs.Common.{◌≡◌, ◌≢◌, ◌<◌, ◌≤◌, ◌+◌, ◌++◌, ◌∷◌, ◌∙◌, ℕ, suc, List, [], false, Some, refl, sym, ap, arith, drop, get_or, length, append_assoc, append-nil, ◌⊎◌, inl, inr, true}
use Rattle.std.specs.Prelude.{All}
use Rattle.std.proofs.Math.Seq.{drop-cons, drop-length}
use Rattle.std.proofs.lemmas.Bool.Decides.{eqb_tells}
use Rattle.std.proofs.lemmas.List.{length-append}
use Rattle.std.proofs.lemmas.List.Elements.{All-append, All-cons, All-nil}
use Rattle.csv.specs.Machine.{ends_at_end, next_record, step}
use Rattle.csv.specs.Reading.{default_config, strip_bom}
use Rattle.csv.specs.Records.{AllText}
use Rattle.csv.specs.declared.parser.State.{State}
use Rattle.csv.specs.declared.parser.State.TheVariants as st
use Rattle.dx_csv.specs.declared.fields.Fields.{Fields}
use Rattle.dx_csv.specs.Fields.{GrowsBy, HaveFields, flat}
use Rattle.dx_csv.specs.Left.{left_from}
use Rattle.dx_csv.specs.Plain.{FieldAt, HasRecords, IsOver, IsRecordOf, RecordStandsAt, ends_line}
use Rattle.dx_csv.specs.Table.{table_records}
use Rattle.dx_csv.proofs.LeftFacts.{left-line, left-next, left-none, left-return}
use Rattle.dx_csv.proofs.OneField.{differs, drop-at}
use Rattle.dx_csv.proofs.TableFacts.{flat-more}

-- ---- the record so far

-- of the record at a place these parts are read; the rest of it begins at `start`
pub record Begun (bytes : List ℕ) (from start number : ℕ) (old new : Fields) : Type 0 where
  pub parts : List (List ℕ)
  pub within : start ≤ length bytes
  pub many : length parts ≡ number
  pub read : next_record default_config st.StartRecord [] [] (drop from bytes) ≡ next_record default_config st.StartField parts [] (drop start bytes)
  pub have : (before : List (List ℕ)) → HaveFields old before → HaveFields new (before ++ parts)

same-step : (s t : State) (b : ℕ) (xs : List ℕ) → step default_config s b ≡ step default_config t b
    → next_record default_config s [] [] (b ∷ xs) ≡ next_record default_config t [] [] (b ∷ xs)
unfolding next_record
same-step s t b xs e = rw e refl

start-step : (b : ℕ) → ends_line b ≡ false → step default_config st.StartRecord b ≡ step default_config st.StartField b
start-step b n = rw n refl

pub begun-start : (bytes : List ℕ) (from : ℕ) (fields : Fields) → from < length bytes → ends_line (get_or bytes from 0) ≡ false → Begun bytes from from 0 fields fields
begun-start bytes from fields h n = record {
  parts = [];
  within = omega arith;
  many = refl;
  read = rw (drop-cons bytes from 0 h) (same-step st.StartRecord st.StartField (get_or bytes from 0) (drop (suc from) bytes) (start-step (get_or bytes from 0) n));
  have = λ before h. rw (append-nil before) h;
}

-- the parts with one field more, which ends at `end`
record Longer (bytes : List ℕ) (from end number : ℕ) (old new : Fields) (parts : List (List ℕ)) (field : List ℕ) (state : State) : Type 0 where
  read : next_record default_config st.StartRecord [] [] (drop from bytes) ≡ next_record default_config state parts field (drop end bytes)
  have : (before : List (List ℕ)) → HaveFields old before → HaveFields new (before ++ (parts ++ field ∷ []))
  many : length (parts ++ field ∷ []) ≡ number + 1

longer : (bytes : List ℕ) (from start end number : ℕ) (old middle new : Fields) (field : List ℕ) (b : Begun bytes from start number old middle)
    → (f : FieldAt bytes start end field) → GrowsBy middle new field → Longer bytes from end number old new b.parts field f.state
longer bytes from start end number old middle new field b f p = record {
  read = b.read ∙ f.read b.parts;
  have = λ before g. rw (← append_assoc before b.parts (field ∷ [])) (p (before ++ b.parts) (b.have before g));
  many = omega (arith, b.many, length-append b.parts (field ∷ []));
}

-- what a byte or the end makes of a field that is over
on-comma : (state : State) (fields : List (List ℕ)) (field more : List ℕ) → IsOver state
    → next_record default_config state fields field (44 ∷ more) ≡ next_record default_config st.StartField (fields ++ field ∷ []) [] more
unfolding next_record
on-comma state fields field more o = rw o.comma refl

on-feed : (state : State) (fields : List (List ℕ)) (field more : List ℕ) → IsOver state
    → next_record default_config state fields field (10 ∷ more) ≡ Some (fields ++ field ∷ [], st.StartRecord, more)
unfolding next_record
on-feed state fields field more o = rw o.feed refl

on-return : (state : State) (fields : List (List ℕ)) (field more : List ℕ) → IsOver state
    → next_record default_config state fields field (13 ∷ more) ≡ Some (fields ++ field ∷ [], st.AfterCr, more)
unfolding next_record
on-return state fields field more o = rw o.carriage refl

on-end : (state : State) (fields : List (List ℕ)) (field : List ℕ) → IsOver state
    → next_record default_config state fields field [] ≡ Some (fields ++ field ∷ [], st.StartRecord, [])
unfolding next_record
on-end state fields field o = rw o.end refl

-- a field that a comma ends
pub begun-more : (bytes : List ℕ) (from start end number : ℕ) (old middle new : Fields) (field : List ℕ) → Begun bytes from start number old middle
    → FieldAt bytes start end field → GrowsBy middle new field → end < length bytes → get_or bytes end 0 ≡ 44 → Begun bytes from (end + 1) (number + 1) old new
begun-more bytes from start end number old middle new field b f p w comma =
    let l = longer bytes from start end number old middle new field b f p in
    record {
      parts = b.parts ++ field ∷ [];
      within = omega arith;
      many = l.many;
      read = l.read ∙ rw (drop-at bytes end 44 w comma) (on-comma f.state b.parts field (drop (end + 1) bytes) f.over);
      have = l.have;
    }

-- the texts after others are texts
text-rest : (before parts : List (List ℕ)) → AllText (before ++ parts) → AllText parts
unfolding AllText
text-rest [] parts t = t
text-rest (f ∷ before) parts t = text-rest before parts t.1

-- a whole record
pub record Whole (bytes : List ℕ) (from after width : ℕ) (new : Fields) (before : List (List ℕ)) : Type 0 where
  pub found : List (List ℕ)
  pub stands : RecordStandsAt bytes from after found
  pub wide : IsRecordOf width found
  pub have : HaveFields new (before ++ found)

whole-of : (bytes : List ℕ) (from end after number width : ℕ) (old new : Fields) (parts : List (List ℕ)) (field : List ℕ) (state between : State)
    → Longer bytes from end number old new parts field state → after ≤ length bytes → ends_at_end between ≡ false
    → next_record default_config state parts field (drop end bytes) ≡ Some (parts ++ field ∷ [], between, drop after bytes)
    → left_from between (drop after bytes) ≡ left_from st.StartRecord (drop after bytes)
    → number + 1 ≡ width → (before : List (List ℕ)) → HaveFields old before → Whole bytes from after width new before
whole-of bytes from end after number width old new parts field state between l w n e same many before g = record {
  found = parts ++ field ∷ [];
  stands = record {
    within = w;
    read = left-next st.StartRecord (drop from bytes) (parts ++ field ∷ [], between, drop after bytes) refl (l.read ∙ e) ∙ ap (λ (left : List (List (List ℕ))). (parts ++ field ∷ []) ∷ left) same;
  };
  wide = record { width = l.many ∙ many; text = text-rest before _ (l.have before g).text };
  have = l.have before g;
}

-- a field that a line feed ends
whole-feed : (bytes : List ℕ) (from start end number width : ℕ) (old middle new : Fields) (field : List ℕ) → Begun bytes from start number old middle
    → FieldAt bytes start end field → GrowsBy middle new field → end < length bytes → get_or bytes end 0 ≡ 10
    → number + 1 ≡ width → (before : List (List ℕ)) → HaveFields old before → Whole bytes from (end + 1) width new before
whole-feed bytes from start end number width old middle new field b f p w feed many before g =
    let l = longer bytes from start end number old middle new field b f p in
    whole-of bytes from end (end + 1) number width old new b.parts field f.state st.StartRecord l (omega arith) refl
    (rw (drop-at bytes end 10 w feed) (on-feed f.state b.parts field (drop (end + 1) bytes) f.over)) refl many before g

-- a field that a carriage return ends
whole-return : (bytes : List ℕ) (from start end number width : ℕ) (old middle new : Fields) (field : List ℕ) → Begun bytes from start number old middle
    → FieldAt bytes start end field → GrowsBy middle new field → end < length bytes → get_or bytes end 0 ≡ 13
    → number + 1 ≡ width → (before : List (List ℕ)) → HaveFields old before → Whole bytes from (end + 1) width new before
whole-return bytes from start end number width old middle new field b f p w return many before g =
    let l = longer bytes from start end number old middle new field b f p in
    whole-of bytes from end (end + 1) number width old new b.parts field f.state st.AfterCr l (omega arith) refl
    (rw (drop-at bytes end 13 w return) (on-return f.state b.parts field (drop (end + 1) bytes) f.over)) (left-return (drop (end + 1) bytes)) many before g

-- a field that the end of a line ends
pub whole-line : (bytes : List ℕ) (from start end number width : ℕ) (old middle new : Fields) (field : List ℕ) → Begun bytes from start number old middle
    → FieldAt bytes start end field → GrowsBy middle new field → end < length bytes → (get_or bytes end 0 ≡ 10) ⊎ (get_or bytes end 0 ≡ 13)
    → number + 1 ≡ width → (before : List (List ℕ)) → HaveFields old before → Whole bytes from (end + 1) width new before
whole-line bytes from start end number width old middle new field b f p w (inl feed) many before g =
    whole-feed bytes from start end number width old middle new field b f p w feed many before g
whole-line bytes from start end number width old middle new field b f p w (inr return) many before g =
    whole-return bytes from start end number width old middle new field b f p w return many before g

-- a field that the end ends
pub whole-end : (bytes : List ℕ) (from start end number width : ℕ) (old middle new : Fields) (field : List ℕ) → Begun bytes from start number old middle
    → FieldAt bytes start end field → GrowsBy middle new field → end ≡ length bytes
    → number + 1 ≡ width → (before : List (List ℕ)) → HaveFields old before → Whole bytes from end width new before
whole-end bytes from start end number width old middle new field b f p w many before g =
    let l = longer bytes from start end number old middle new field b f p in
    let at : drop end bytes ≡ [] = rw w (drop-length bytes) in
    whole-of bytes from end end number width old new b.parts field f.state st.StartRecord l (omega arith) refl
    (rw at (on-end f.state b.parts field f.over)) refl many before g

-- ---- the records so far

pub record Rows (bytes : List ℕ) (from at width count turn : ℕ) (fields : Fields) : Type 0 where
  pub rows : List (List (List ℕ))
  pub within : at ≤ length bytes
  pub are : left_from st.StartRecord (drop from bytes) ≡ rows ++ left_from st.StartRecord (drop at bytes)
  pub wide : All (IsRecordOf width) rows
  pub have : HaveFields fields (flat rows)
  pub many : count ≡ length rows
  pub few : count ≤ turn

pub rows-start : (bytes : List ℕ) (from width : ℕ) (fields : Fields) → from ≤ length bytes → HaveFields fields [] → Rows bytes from from width 0 0 fields
rows-start bytes from width fields h g = record { rows = []; within = h; are = refl; wide = All-nil (IsRecordOf width); have = g; many = refl; few = omega arith }

-- the end of a line between two records
pub rows-line : (bytes : List ℕ) (from at width count turn : ℕ) (fields : Fields) → Rows bytes from at width count turn fields → at < length bytes
    → ends_line (get_or bytes at 0) ≡ true → Rows bytes from (at + 1) width count (turn + 1) fields
rows-line bytes from at width count turn fields r h e =
    let here : drop at bytes ≡ get_or bytes at 0 ∷ drop (at + 1) bytes = drop-at bytes at (get_or bytes at 0) h refl in
    record {
      rows = r.rows;
      within = omega arith;
      are = r.are ∙ ap (λ (l : List (List (List ℕ))). r.rows ++ l) (rw here (left-line (get_or bytes at 0) (drop (at + 1) bytes) e));
      wide = r.wide;
      have = r.have;
      many = r.many;
      few = omega (arith, r.few);
    }

pub rows-more : (bytes : List ℕ) (from at after width count turn : ℕ) (old new : Fields) → (r : Rows bytes from at width count turn old)
    → Whole bytes at after width new (flat r.rows) → Rows bytes from after width (count + 1) (turn + 1) new
rows-more bytes from at after width count turn old new r w =
    record {
      rows = r.rows ++ w.found ∷ [];
      within = w.stands.within;
      are = r.are ∙ (ap (λ (l : List (List (List ℕ))). r.rows ++ l) w.stands.read ∙ sym (append_assoc r.rows (w.found ∷ []) (left_from st.StartRecord (drop after bytes))));
      wide = All-append (IsRecordOf width) r.rows (w.found ∷ []) r.wide (All-cons (IsRecordOf width) w.found [] w.wide (All-nil (IsRecordOf width)));
      have = rw (flat-more r.rows w.found) w.have;
      many = omega (arith, r.many, length-append r.rows (w.found ∷ []));
      few = omega (arith, r.few);
    }

-- all records are read
pub record AllRead (bytes : List ℕ) (from width count : ℕ) (fields : Fields) : Type 0 where
  pub rows : List (List (List ℕ))
  pub has : HasRecords bytes from width rows
  pub have : HaveFields fields (flat rows)
  pub many : count ≡ length rows

pub rows-all : (bytes : List ℕ) (from at width count turn : ℕ) (fields : Fields) → Rows bytes from at width count turn fields → length bytes ≤ at
    → AllRead bytes from width count fields
unfolding next_record
rows-all bytes from at width count turn fields r h =
    let e : at ≡ length bytes = omega (arith, r.within) in
    let none : left_from st.StartRecord (drop at bytes) ≡ [] = rw (e, drop-length bytes) (left-none st.StartRecord [] refl) in
    record {
      rows = r.rows;
      has = record { are = r.are ∙ (ap (λ (l : List (List (List ℕ))). r.rows ++ l) none ∙ append-nil r.rows); wide = r.wide };
      have = r.have;
      many = r.many;
    }

-- ---- all of a table

not-mark : (a b c : ℕ) (rest : List ℕ) → a ≢ 239 → strip_bom (a ∷ b ∷ c ∷ rest) ≡ a ∷ b ∷ c ∷ rest
unfolding strip_bom
not-mark a b c rest n = rw (differs a 239 (eqb_tells a 239) n) refl

no-mark : (bytes : List ℕ) → get_or bytes 0 0 ≢ 239 → strip_bom bytes ≡ bytes
unfolding strip_bom
no-mark [] n = refl
no-mark (a ∷ []) n = refl
no-mark (a ∷ b ∷ []) n = refl
no-mark (a ∷ b ∷ c ∷ rest) n = not-mark a b c rest n

pub record Table (bytes : List ℕ) (width count : ℕ) (fields : Fields) : Type 0 where
  pub header : List (List ℕ)
  pub rows : List (List (List ℕ))
  pub records : table_records bytes ≡ header ∷ rows
  pub wide : All (IsRecordOf width) rows
  pub have : HaveFields fields (flat rows)
  pub many : count ≡ length rows

pub table-read : (bytes : List ℕ) (after width count : ℕ) (header : List (List ℕ)) (fields : Fields) → get_or bytes 0 0 ≢ 239 → RecordStandsAt bytes 0 after header
    → AllRead bytes after width count fields → Table bytes width count fields
table-read bytes after width count header fields n s r = record {
  header = header;
  rows = r.rows;
  records = rw (no-mark bytes n) (s.read ∙ ap (λ (l : List (List (List ℕ))). header ∷ l) r.has.are);
  wide = r.has.wide;
  have = r.have;
  many = r.many;
}
