-- Records whose fields stand as they are or whole in quotes, as they stand in a text.
use Rattle.std.specs.Prelude.{◌≡◌, ◌≢◌, ◌≤◌, ◌<◌, ◌==◌, ◌&&◌, ◌||◌, ◌∷◌, Bool, true, not, ℕ}
use Rattle.std.specs.Prelude.{List, [], All, drop, length, slice_index, slice_index_or}
use Rattle.csv.specs.Machine.{ends_at_end, next_record, step}
use Rattle.csv.specs.Reading.{default_config}
use Rattle.csv.specs.Records.{AllText}
use Rattle.csv.specs.declared.parser.State.{State}
use Rattle.csv.specs.declared.parser.State.TheVariants as st
use Rattle.csv.specs.declared.parser.Action.TheVariants as act
use Rattle.dx_csv.specs.Left.{left_from}

-- whether a byte joins the field in which it stands: it is no comma, no quote, no line feed and no carriage return
abbrev pub joins : ℕ → Bool
joins b = not (b == 44) && (not (b == 34) && (not (b == 10) && not (b == 13)))

-- whether a byte ends a line
abbrev pub ends_line : ℕ → Bool
ends_line b = (b == 13) || (b == 10)

-- whether a quote stands at a place
abbrev pub is_quote : List ℕ → ℕ → Bool
is_quote bytes place = slice_index_or bytes place 0 == 34

-- the first quote from a place on
pub record FirstQuote (bytes : List ℕ) (from quote : ℕ) : Type 0 where
  pub order : from ≤ quote
  pub within : quote < length bytes
  pub here : slice_index bytes quote ≡ 34
  pub before : (i : ℕ) → from ≤ i → i < quote → slice_index bytes i ≢ 34

-- a field is over: a comma ends it, and the end of a line or of the text ends its record
pub record IsOver (state : State) : Type 0 where
  pub comma : step default_config state 44 ≡ (st.StartField, act.EndField)
  pub feed : step default_config state 10 ≡ (st.StartRecord, act.EndRecord)
  pub carriage : step default_config state 13 ≡ (st.AfterCr, act.EndRecord)
  pub end : ends_at_end state ≡ true

-- the field that begins at a place of the bytes, and the place after it
pub record FieldAt (bytes : List ℕ) (place after : ℕ) (field : List ℕ) : Type 0 where
  pub within : after ≤ length bytes
  pub state : State
  pub over : IsOver state
  pub read : (fields : List (List ℕ))
      → next_record default_config st.StartField fields [] (drop place bytes)
      ≡ next_record default_config state fields field (drop after bytes)

-- a record of so many texts
pub record IsRecordOf (many : ℕ) (fields : List (List ℕ)) : Type 0 where
  pub width : length fields ≡ many
  pub text : AllText fields

-- the record that begins at a place of the bytes, and the place after it
pub record RecordStandsAt (bytes : List ℕ) (place after : ℕ) (fields : List (List ℕ)) : Type 0 where
  pub within : after ≤ length bytes
  pub read : left_from st.StartRecord (drop place bytes) ≡ fields ∷ left_from st.StartRecord (drop after bytes)

-- from a place on the bytes have these records, all of so many texts
pub record HasRecords (bytes : List ℕ) (place width : ℕ) (records : List (List (List ℕ))) : Type 0 where
  pub are : left_from st.StartRecord (drop place bytes) ≡ records
  pub wide : All (IsRecordOf width) records
