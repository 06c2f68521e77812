-- The records that a reader of a table has left.
use Rattle.std.specs.Prelude.{◌≡◌, ◌+◌, ℕ, List, [], true, false, Option, Some, None, length}
use Rattle.csv.specs.Machine.{ends_at_end}
use Rattle.csv.specs.Reading.{default_config, is_flexible, reader_config, reader_state}
use Rattle.csv.specs.Reading.{reader_trim, records_from, source_of, Ready}
use Rattle.csv.specs.declared.parser.State.{State}
use Rattle.csv.specs.declared.reader.Reader.{Reader}
use Rattle.csv.specs.declared.reader.Trim.TheVariants as trim

-- the records of a text, read from a state between two records
abbrev pub left_from : State → List ℕ → List (List (List ℕ))
left_from s xs = records_from default_config (length xs + 1) s xs

-- the records of what is unread, none if that is not known
abbrev pub left_known : State → Option (List ℕ) → List (List (List ℕ))
left_known s None = []
left_known s (Some xs) = left_from s xs

-- the records that a reader has left, none if it has failed
abbrev pub records_left : {R : Type 0} → (R → Option (List ℕ)) → Reader R → List (List (List ℕ))
records_left rem r = left_known (reader_state r) (source_of rem r)

-- a reader between two records, that takes rows of any length and no header row
pub record IsBetween {R : Type 0} (rem : R → Option (List ℕ)) (r : Reader R) : Type 0 where
  pub plain : reader_trim r ≡ trim.None
  pub ready : Ready r
  pub config : reader_config r ≡ default_config
  pub flexible : is_flexible r ≡ true
  pub between : ends_at_end (reader_state r) ≡ false
  pub unread : List ℕ
  pub source : source_of rem r ≡ Some unread
