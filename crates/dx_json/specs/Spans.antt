-- Parts of a list.
use Rattle.std.specs.Prelude.{◌≤◌, ◌-◌, ℕ, List, IsUtf8, length, take, drop}

-- the text of a buffer that begins and ends so
abbrev pub span_text : List ℕ → ℕ × ℕ → List ℕ
span_text buffer span = take (span.1 - span.0) (drop span.0 buffer)

-- it is one
pub record IsSpan (buffer : List ℕ) (span : ℕ × ℕ) : Type 0 where
  pub order : span.0 ≤ span.1
  pub within : span.1 ≤ length buffer
  pub utf8 : IsUtf8 (span_text buffer span)
