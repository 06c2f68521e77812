-- What a query text says, and its first fault as a text.
use Rattle.std.specs.Prelude.{◌≡◌, ℕ, zero, suc, ◌-◌, List, length, Option, Some, None, Result, Ok, Err}
use Rattle.dx_grammar.specs.Faults.{IsStoppedAt, IsUnexpectedAt}
use Rattle.dx_grammar.specs.Readers.{whole}
use Rattle.dx_tokens.specs.declared.faults.TextFault.{TextFault}
use Rattle.dx_tokens.specs.declared.faults.TextFault.TheVariants.{At}
use Rattle.dx_tokens.specs.declared.faults.TextKind.{TextKind}
use Rattle.dx_tokens.specs.declared.faults.TextKind.TheVariants.{Expected, Ended}
use Rattle.dx_tokens.specs.declared.scanner.Lexeme.{Lexeme}
use Rattle.dx_tokens.specs.Judged.{IsFaultBy, stop_fault}
use Rattle.dx_tokens.specs.Scan.{scan_of}
use Rattle.dx_schema_text.specs.Texts.{fault_in, judged_tokens, token_place}
use Rattle.dx_query_text.specs.declared.texts.PartText.{PartText}
use Rattle.dx_query_text.specs.Grammar.{query}
use Rattle.dx_query_text.specs.Reading.{query_reader}
use Rattle.dx_query_text.specs.Spelling.{SpellsQuery}

-- The text says these parts: all of it is tokens, which spell the parts.
pub record IsQueryText (text : List ℕ) (parts : List PartText) : Type 0 where
  pub no_stop : (scan_of text).stop ≡ None
  pub spelled : SpellsQuery parts (scan_of text).lexemes

-- The token that stands at this place is the first that can't stand.
abbrev pub IsUnexpectedInQuery : List ℕ → ℕ → Type 0
IsUnexpectedInQuery text place = IsUnexpectedAt query (λ (x : Lexeme). x.place) (judged_tokens text) place

-- All tokens can stand, and the text stops at a token fault or ends too early.
abbrev pub QueryStops : List ℕ → ℕ → TextKind → Type 0
QueryStops text place kind =
    IsStoppedAt query (judged_tokens text) (fault_in (scan_of text).stop) (length text) Ended place kind

-- The first fault of a text; no token is ever too deep.
abbrev pub IsQueryTextFault : List ℕ → TextFault → Type 0
IsQueryTextFault text e = IsFaultBy (IsUnexpectedInQuery text) (λ place. ⊥) (QueryStops text) e

-- ---- the answer, as it is computed

-- what is answered of tokens, if the text has so many bytes and its tokens stop so
abbrev pub query_outcome : ℕ → Option (ℕ × TextKind) → List Lexeme → Result (List PartText) ℕ
    → Result (List PartText) TextFault
query_outcome end stop xs (Err zero) = Err (stop_fault end stop)
query_outcome end stop xs (Err (suc left)) = Err (At (token_place xs (length xs - suc left)) Expected)
query_outcome end (Some p) xs (Ok parts) = Err (At p.0 p.1)
query_outcome end None xs (Ok parts) = Ok parts

-- the same of tokens that are read
unfoldable pub query_of_tokens : ℕ → Option (ℕ × TextKind) → List Lexeme → Result (List PartText) TextFault
query_of_tokens end stop xs = query_outcome end stop xs (whole query_reader xs)

-- what is answered of a text
abbrev pub query_of_text : List ℕ → Result (List PartText) TextFault
query_of_text text = query_of_tokens (length text) (fault_in (scan_of text).stop) (judged_tokens text)
