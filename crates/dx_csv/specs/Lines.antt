-- Records that are printed field by field.
use Rattle.std.specs.Prelude.{◌≡◌, ◌++◌, ◌==◌, false, ℕ, List, [], ◌∷◌, length, if◌then◌else◌}
use Rattle.std.specs.Fmt.{decimal}
use Rattle.csv.specs.Writing.{comma, default_writer, is_blank, needs_quotes, quote_mark, row_body}
use Rattle.dx_instance.specs.ValueText.{full_stop, question_mark}
use Rattle.dx_csv.specs.declared.lines.Lines.{Lines}
use Rattle.dx_csv.specs.declared.lines.OpenLine.{OpenLine}
use Rattle.dx_csv.specs.declared.lines.OpenLine.TheVariants.{NoField, NoByte, Bytes}
use Rattle.dx_csv.specs.Print.{records_text}

-- a field that calls for no quotes
abbrev pub NeedsNoQuotes : List ℕ → Type 0
NeedsNoQuotes field = needs_quotes default_writer field ≡ false

-- what the line of these fields shows
abbrev pub open_line : List (List ℕ) → OpenLine
open_line [] = NoField
open_line (field ∷ rest) = if is_blank default_writer (field ∷ rest) then NoByte else Bytes

-- these records are printed whole, and of the next one these fields
pub record HavePrinted (lines : Lines) (records : List (List (List ℕ))) (fields : List (List ℕ)) : Type 0 where
  pub text : lines.bytes.items ≡ records_text records ++ row_body default_writer fields
  pub line : lines.line ≡ open_line fields

-- what stands before the next field of a line
abbrev pub before_field : OpenLine → List ℕ
before_field NoField = []
before_field NoByte = comma ∷ []
before_field Bytes = comma ∷ []

-- what a line shows with one field more
abbrev pub line_with : OpenLine → List ℕ → OpenLine
line_with NoField field = if length field == 0 then NoByte else Bytes
line_with NoByte field = Bytes
line_with Bytes field = Bytes

-- what ends a line
abbrev pub line_end : OpenLine → List ℕ
line_end NoField = quote_mark ∷ quote_mark ∷ 10 ∷ []
line_end NoByte = quote_mark ∷ quote_mark ∷ 10 ∷ []
line_end Bytes = 10 ∷ []

-- the text of a null up to its row
abbrev pub before_row : ℕ → ℕ → List ℕ
before_row rule var = question_mark ∷ (decimal rule ++ full_stop ∷ (decimal var ++ full_stop ∷ []))
