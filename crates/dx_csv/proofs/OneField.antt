-- One field, as it stands or whole in quotes: what the machine makes of its bytes.
use Rattle.std.proofs.Common.{◌≡◌, ◌≢◌, ◌<◌, ◌≤◌, ◌+◌, ◌-◌, ◌++◌, ◌∷◌, ◌∙◌, ℕ, zero, suc, List, [], Bool, true, false, refl, sym, ap, subst, arith, drop, get_or, length, take, add-one, append_assoc, ◌⊎◌, eqb, inl, inr}
use Rattle.std.specs.Prelude.{not, ◌==◌, ◌&&◌, IfOk, IfSome, Option, Some, None, Result, Ok, Err}
use Rattle.std.proofs.Math.Seq.{drop-cons}
use Rattle.std.proofs.lemmas.Bool.{eqb-true}
use Rattle.std.proofs.lemmas.Bool.Decides.{eqb_tells}
use Rattle.std.proofs.lemmas.List.{get_or-drop, length-drop, take_more}
use Rattle.std.proofs.lemmas.List.Folds.{drop_split}
use Rattle.csv.specs.Machine.{Runs, next_record, step}
use Rattle.csv.specs.Reading.{default_config}
use Rattle.csv.specs.declared.parser.State.{State}
use Rattle.csv.specs.declared.parser.State.TheVariants as st
use Rattle.csv.specs.declared.parser.Action.TheVariants as act
use Rattle.csv.proofs.ReadFacts.{run-copies}
use Rattle.dx_csv.specs.declared.fields.Fields.{Fields}
use Rattle.dx_csv.specs.Fields.{GrowsBy, HaveFields, HaveOpen}
use Rattle.dx_csv.specs.Plain.{FieldAt, FirstQuote, IsOver, is_quote, joins}
use Rattle.dx_csv.proofs.FieldFacts.{none-open}

-- ---- bytes that join

pub differs : (a b : ℕ) → ((eqb a b ≡ true) × (a ≡ b)) ⊎ ((eqb a b ≡ false) × (a ≢ b)) → a ≢ b → (a == b) ≡ false
differs a b (inl p) n = absurd (n p.1)
differs a b (inr p) n = p.0

record Apart (comma quote feed return : Bool) : Type 0 where
  no_comma : comma ≡ false
  no_quote : quote ≡ false
  no_feed : feed ≡ false
  no_return : return ≡ false

apart : (a b c d : Bool) → (not a && (not b && (not c && not d))) ≡ true → Apart a b c d
apart false false false false e = record { no_comma = refl; no_quote = refl; no_feed = refl; no_return = refl }
apart false false false true e = cc e
apart false false true d e = cc e
apart false true c d e = cc e
apart true b c d e = cc e

in-field : (b : ℕ) → joins b ≡ true → step default_config st.InField b ≡ (st.InField, act.Copy)
in-field b j =
    let a = apart (b == 44) (b == 34) (b == 10) (b == 13) j in
    rw (a.no_comma, a.no_return, a.no_feed) refl

at-start : (b : ℕ) → joins b ≡ true → step default_config st.StartField b ≡ (st.InField, act.Copy)
at-start b j =
    let a = apart (b == 44) (b == 34) (b == 10) (b == 13) j in
    rw (a.no_quote, a.no_comma, a.no_return, a.no_feed) refl

-- so many bytes from a place on join
abbrev pub JoinFrom : List ℕ → ℕ → ℕ → Type 0
JoinFrom bytes from end = (i : ℕ) → from ≤ i → i < end → joins (get_or bytes i 0) ≡ true

runs : (bytes : List ℕ) (from n : ℕ) → from + n ≤ length bytes → JoinFrom bytes from (from + n) → Runs default_config st.InField (take n (drop from bytes))
unfolding Runs
runs bytes from zero h j = tt
runs bytes from (suc n) h j =
    rw (drop-cons bytes from 0 (omega arith))
    (in-field (get_or bytes from 0) (j from (omega arith) (omega arith)), runs bytes (suc from) n (omega arith) (λ i l g. j i (omega arith) (omega arith)))

-- what stands from a byte on
pub drop-at : (bytes : List ℕ) (at b : ℕ) → at < length bytes → get_or bytes at 0 ≡ b → drop at bytes ≡ b ∷ drop (at + 1) bytes
drop-at bytes at b h e = rw add-one (drop-cons bytes at 0 h ∙ rw e refl)

-- ---- a field that stands as it is

start-over : IsOver st.StartField
start-over = record { comma = refl; feed = refl; carriage = refl; end = refl }

field-over : IsOver st.InField
field-over = record { comma = refl; feed = refl; carriage = refl; end = refl }

quote-over : IsOver st.AfterQuote
quote-over = record { comma = refl; feed = refl; carriage = refl; end = refl }

-- what is read of a field and what stands after it, is read of what stands after it with the field at hand
record Open (field rest : List ℕ) : Type 0 where
  state : State
  over : IsOver state
  read : (fields : List (List ℕ)) → next_record default_config st.StartField fields [] (field ++ rest) ≡ next_record default_config state fields field rest

open-at : (bytes : List ℕ) (from n : ℕ) (rest : List ℕ) → from + n ≤ length bytes → JoinFrom bytes from (from + n) → Open (take n (drop from bytes)) rest
unfolding next_record
open-at bytes from zero rest h j = record { state = st.StartField; over = start-over; read = λ fields. refl }
open-at bytes from (suc n) rest h j =
    let b = get_or bytes from 0 in
    let r = take n (drop (suc from) bytes) in
    rw (drop-cons bytes from 0 (omega arith)) (record {
      state = st.InField;
      over = field-over;
      read = λ fields. rw (at-start b (j from (omega arith) (omega arith)))
          (run-copies default_config st.InField fields (b ∷ []) r rest (runs bytes (suc from) n (omega arith) (λ i l g. j i (omega arith) (omega arith))));
    })

pub plain-field : (bytes : List ℕ) (start end : ℕ) (field : List ℕ) → start ≤ end → end ≤ length bytes → JoinFrom bytes start end
    → field ≡ take (end - start) (drop start bytes) → FieldAt bytes start end field
plain-field bytes start end field h w j e =
    let n : start + (end - start) ≡ end = omega arith in
    let o = open-at bytes start (end - start) (drop end bytes) (rw n w) (rw n j) in
    record {
      within = w;
      state = o.state;
      over = o.over;
      read = λ fields. rw e (ap (λ (xs : List ℕ). next_record default_config st.StartField fields [] xs) (drop_split bytes start end h) ∙ o.read fields);
    }

-- ---- a field in quotes

in-quotes : (b : ℕ) → b ≢ 34 → step default_config st.InQuoted b ≡ (st.InQuoted, act.Copy)
in-quotes b n = rw (differs b 34 (eqb_tells b 34) n) refl

runs-quoted : (bytes : List ℕ) (from n : ℕ) → from + n ≤ length bytes → ((i : ℕ) → from ≤ i → i < from + n → get_or bytes i 0 ≢ 34)
    → Runs default_config st.InQuoted (take n (drop from bytes))
unfolding Runs
runs-quoted bytes from zero h j = tt
runs-quoted bytes from (suc n) h j =
    rw (drop-cons bytes from 0 (omega arith))
    (in-quotes (get_or bytes from 0) (j from (omega arith) (omega arith)), runs-quoted bytes (suc from) n (omega arith) (λ i l g. j i (omega arith) (omega arith)))

-- a quote opens a field, closes it, and stands for itself where it is doubled
opens : (fields : List (List ℕ)) (xs : List ℕ) → next_record default_config st.StartField fields [] (34 ∷ xs) ≡ next_record default_config st.InQuoted fields [] xs
unfolding next_record
opens fields xs = refl

closes : (fields : List (List ℕ)) (part xs : List ℕ) → next_record default_config st.InQuoted fields part (34 ∷ xs) ≡ next_record default_config st.AfterQuote fields part xs
unfolding next_record
closes fields part xs = refl

doubles : (fields : List (List ℕ)) (part xs : List ℕ)
    → next_record default_config st.AfterQuote fields part (34 ∷ xs) ≡ next_record default_config st.InQuoted fields (part ++ 34 ∷ []) xs
unfolding next_record
doubles fields part xs = refl

-- of the field in quotes at a place this part is read; the rest of it begins at `from`
pub record InQuotes (bytes : List ℕ) (start from : ℕ) (old new : Fields) : Type 0 where
  pub part : List ℕ
  pub within : from ≤ length bytes
  pub read : (fields : List (List ℕ)) → next_record default_config st.StartField fields [] (drop start bytes) ≡ next_record default_config st.InQuoted fields part (drop from bytes)
  pub have : (fields : List (List ℕ)) → HaveFields old fields → HaveOpen new fields part

-- where a quote stands
pub quote-within : (bytes : List ℕ) (place : ℕ) → is_quote bytes place ≡ true → place < length bytes
quote-within [] place q = cc q
quote-within (b ∷ bytes) zero q = omega arith
quote-within (b ∷ bytes) (suc place) q = let w = quote-within bytes place q in omega (arith, w)

pub quote-is : (bytes : List ℕ) (place : ℕ) → is_quote bytes place ≡ true → get_or bytes place 0 ≡ 34
quote-is bytes place q = eqb-true (get_or bytes place 0) 34 q

pub quoted-start : (bytes : List ℕ) (start : ℕ) (fields : Fields) → is_quote bytes start ≡ true → InQuotes bytes start (start + 1) fields fields
quoted-start bytes start fields q =
    let w = quote-within bytes start q in
    let at = drop-at bytes start 34 w (quote-is bytes start q) in
    record {
      part = [];
      within = omega (arith, w);
      read = λ fields. rw at (opens fields (drop (start + 1) bytes));
      have = none-open fields;
    }

-- what is read up to the next quote
pub to-quote : (bytes : List ℕ) (start from quote : ℕ) (old new : Fields) → (i : InQuotes bytes start from old new) → FirstQuote bytes from quote → (fields : List (List ℕ))
    → next_record default_config st.StartField fields [] (drop start bytes)
    ≡ next_record default_config st.AfterQuote fields (i.part ++ take (quote - from) (drop from bytes)) (drop (quote + 1) bytes)
to-quote bytes start from quote old new i q fields =
    let n : from + (quote - from) ≡ quote = omega (arith, q.order) in
    let run = take (quote - from) (drop from bytes) in
    let joined = runs-quoted bytes from (quote - from) (omega (arith, q.within, n)) (λ j l g. q.before j l (omega (arith, n))) in
    i.read fields
    ∙ ap (λ (xs : List ℕ). next_record default_config st.InQuoted fields i.part xs) (drop_split bytes from quote q.order)
    ∙ run-copies default_config st.InQuoted fields i.part run (drop quote bytes) joined
    ∙ rw (drop-at bytes quote 34 q.within q.here) (closes fields (i.part ++ run) (drop (quote + 1) bytes))

-- the field is closed
quoted-end : (bytes : List ℕ) (start from quote after : ℕ) (old middle new : Fields) → InQuotes bytes start from old middle → FirstQuote bytes from quote
    → after ≡ quote + 1
    → ((fields : List (List ℕ)) (part : List ℕ) → HaveOpen middle fields part → HaveFields new (fields ++ (part ++ take (quote - from) (drop from bytes)) ∷ []))
    → (field : List ℕ) × FieldAt bytes start after field × GrowsBy old new field
quoted-end bytes start from quote after old middle new i q e ends =
    rw e (
      i.part ++ take (quote - from) (drop from bytes),
      record {
        within = omega (arith, q.within);
        state = st.AfterQuote;
        over = quote-over;
        read = to-quote bytes start from quote old middle i q;
      },
      λ fields h. ends fields i.part (i.have fields h),
    )

-- the same of what a call that closes the field answers
pub quoted-answer : {E : Type 0} (answer : Result (Option ℕ) E) (bytes : List ℕ) (start from quote : ℕ) (old middle new : Fields) → InQuotes bytes start from old middle
    → FirstQuote bytes from quote → IfOk answer (λ o. IfSome o (λ after. after ≡ quote + 1))
    → ((fields : List (List ℕ)) (part : List ℕ) → HaveOpen middle fields part
    → IfOk answer (λ o. IfSome o (λ after. HaveFields new (fields ++ (part ++ take (quote - from) (drop from bytes)) ∷ []))))
    → IfOk answer (λ o. IfSome o (λ after. (field : List ℕ) × FieldAt bytes start after field × GrowsBy old new field))
quoted-answer (Err e) bytes start from quote old middle new i q at ends = tt
quoted-answer (Ok None) bytes start from quote old middle new i q at ends = tt
quoted-answer (Ok (Some after)) bytes start from quote old middle new i q at ends = quoted-end bytes start from quote after old middle new i q at ends

-- a part of the text with the byte after it
one-more : (bytes : List ℕ) (from quote : ℕ) → from ≤ quote → quote < length bytes → get_or bytes quote 0 ≡ 34
    → take (quote + 1 - from) (drop from bytes) ≡ take (quote - from) (drop from bytes) ++ 34 ∷ []
one-more bytes from quote h w e =
    let n : quote + 1 - from ≡ quote - from + 1 = omega arith in
    let at : from + (quote - from) ≡ quote = omega arith in
    let size = length-drop from bytes in
    rw n (take_more (drop from bytes) (quote - from) 0 (omega (arith, size)) ∙ rw (get_or-drop from bytes (quote - from) 0, at, e) refl)

-- what is read up to a doubled quote
to-doubled : (bytes : List ℕ) (start from quote : ℕ) (old new : Fields) (part : List ℕ) → (i : InQuotes bytes start from old new) → FirstQuote bytes from quote
    → is_quote bytes (quote + 1) ≡ true → part ≡ take (quote + 1 - from) (drop from bytes) → (fields : List (List ℕ))
    → next_record default_config st.StartField fields [] (drop start bytes) ≡ next_record default_config st.InQuoted fields (i.part ++ part) (drop (quote + 2) bytes)
to-doubled bytes start from quote old new part i q d e fields =
    let run = take (quote - from) (drop from bytes) in
    let next : quote + 1 + 1 ≡ quote + 2 = omega arith in
    let here : drop (quote + 1) bytes ≡ 34 ∷ drop (quote + 2) bytes =
    subst (λ (k : ℕ). drop (quote + 1) bytes ≡ 34 ∷ drop k bytes) next (drop-at bytes (quote + 1) 34 (quote-within bytes (quote + 1) d) (quote-is bytes (quote + 1) d)) in
    let same : run ++ 34 ∷ [] ≡ part = sym (e ∙ one-more bytes from quote q.order q.within q.here) in
    let doubled : next_record default_config st.AfterQuote fields (i.part ++ run) (drop (quote + 1) bytes)
    ≡ next_record default_config st.InQuoted fields ((i.part ++ run) ++ 34 ∷ []) (drop (quote + 2) bytes) =
    ap (λ (xs : List ℕ). next_record default_config st.AfterQuote fields (i.part ++ run) xs) here ∙ doubles fields (i.part ++ run) (drop (quote + 2) bytes) in
    to-quote bytes start from quote old new i q fields
    ∙ (doubled ∙ ap (λ (field : List ℕ). next_record default_config st.InQuoted fields field (drop (quote + 2) bytes)) (append_assoc i.part run (34 ∷ []) ∙ ap (λ (more : List ℕ). i.part ++ more) same))

-- two quotes stand for one, and the field goes on
pub quoted-more : (bytes : List ℕ) (start from quote : ℕ) (old middle new : Fields) (part : List ℕ) → InQuotes bytes start from old middle → FirstQuote bytes from quote
    → is_quote bytes (quote + 1) ≡ true → part ≡ take (quote + 1 - from) (drop from bytes)
    → ((fields : List (List ℕ)) (begun : List ℕ) → HaveOpen middle fields begun → HaveOpen new fields (begun ++ part))
    → InQuotes bytes start (quote + 2) old new
quoted-more bytes start from quote old middle new part i q d e more =
    let w = quote-within bytes (quote + 1) d in
    record {
      part = i.part ++ part;
      within = omega (arith, w);
      read = to-doubled bytes start from quote old middle part i q d e;
      have = λ fields h. more fields i.part (i.have fields h);
    }
