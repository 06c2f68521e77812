-- Why a read of records fails.
use Rattle.std.proofs.Common.{◌≡◌, ◌∙◌, ℕ, List, Option, Bool, true, false, true≢false, refl, sym}
use Rattle.csv.specs.Reading.{ExplainsRead, is_flexible, is_io, stops_reader}
use Rattle.csv.specs.declared.error.ErrorKind.{ErrorKind}
use Rattle.csv.specs.declared.error.ErrorKind.TheVariants as kind
use Rattle.csv.specs.declared.reader.Reader.{Reader}

-- a reader of bytes that takes records of any length fails for what it reads from, or for memory
pub stopped : {R : Type 0} (rem : R → Option (List ℕ)) (old new : Reader R) (k : ErrorKind) → is_flexible old ≡ true → ExplainsRead rem old new false k → stops_reader k ≡ true
stopped rem old new (kind.Io e) any h = refl
stopped rem old new kind.OutOfMemory any h = refl
stopped rem old new (kind.UnequalLengths pos expected len) any h = absurd (true≢false (sym any ∙ h.0))
stopped rem old new (kind.Utf8 pos err) any h = absurd (true≢false (sym h.0))
stopped rem old new (kind.Serialize why) any h = absurd h
stopped rem old new (kind.Deserialize pos err) any h = absurd h

-- what stops a reader is no third thing
pub no-third : (k : ErrorKind) → is_io k ≡ false → ¬ (k ≡ kind.OutOfMemory) → stops_reader k ≡ true → ⊥
no-third (kind.Io e) io memory stops = true≢false io
no-third kind.OutOfMemory io memory stops = memory refl
no-third (kind.UnequalLengths pos expected len) io memory stops = true≢false (sym stops)
no-third (kind.Utf8 pos err) io memory stops = true≢false (sym stops)
no-third (kind.Serialize why) io memory stops = true≢false (sym stops)
no-third (kind.Deserialize pos err) io memory stops = true≢false (sym stops)
