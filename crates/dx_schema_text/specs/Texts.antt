-- What a mapping text says, and its first fault.
use Rattle.std.specs.Prelude.{◌≡◌, ◌⊎◌, ℕ, zero, suc, ◌-◌, List, [], ◌∷◌, ◌++◌, length, take, codes, Option}
use Rattle.std.specs.Prelude.{Some, None, Result, Ok, Err, Bool, true, false, nat_le, slice_index_or}
use Rattle.dx_base.specs.declared.limits.TheConstants.{DEPTH}
use Rattle.dx_schema.specs.Forest.{Forest, Tree}
use Rattle.dx_grammar.specs.Forms.{Form, Starts}
use Rattle.dx_grammar.specs.Faults.{IsUnexpectedAt, IsStoppedAt}
use Rattle.dx_grammar.specs.Readers.{Many, whole}
use Rattle.dx_tokens.specs.declared.faults.TextFault.{TextFault}
use Rattle.dx_tokens.specs.declared.faults.TextFault.TheVariants.{At, TooDeep, Memory}
use Rattle.dx_tokens.specs.declared.faults.TextKind.{TextKind}
use Rattle.dx_tokens.specs.declared.faults.TextKind.TheVariants.{Expected, Ended}
use Rattle.dx_tokens.specs.declared.tokenizer.TokenKind.TheVariants.{Word}
use Rattle.dx_tokens.specs.declared.scanner.Lexeme.{Lexeme}
use Rattle.dx_tokens.specs.declared.scanner.Stop.{Stop}
use Rattle.dx_tokens.specs.Judged.{IsFaultBy, stop_fault, Reads}
use Rattle.dx_tokens.specs.Scan.{scan_of}
use Rattle.dx_schema_text.specs.declared.clauses.Clause.{Clause}
use Rattle.dx_schema_text.specs.declared.texts.MappingText.{MappingText}
use Rattle.dx_schema_text.specs.Grammar.{mapping}
use Rattle.dx_schema_text.specs.Reading.{mapping_reader}
use Rattle.dx_schema_text.specs.Spelling.{IsKeyword, IsMarkToken, IsVersion, SpellsHead}
use Rattle.dx_schema_text.specs.Spelling.{SpellsSet, SpellsClauses, SpellsSide, SpellsMapping}

-- a set stands at depth DEPTH at most: a root has one level less of inner sets
abbrev pub deepest : ℕ
deepest = DEPTH - 1

-- the form of a mapping text
abbrev pub mapping_form : Form Lexeme
mapping_form = mapping deepest

-- the same if sets may be nested one level deeper
abbrev pub deeper_form : Form Lexeme
deeper_form = mapping DEPTH

-- what was begun where the tokens stop
abbrev pub begun_in : Option Stop → List Lexeme
begun_in None = []
begun_in (Some s) = begun_token s.begun where
  begun_token : Option Lexeme → List Lexeme
  begun_token None = []
  begun_token (Some x) = x ∷ []

-- the tokens that are judged one after the other: those up to the first token fault,
-- and the string or arrow that was begun there
abbrev pub judged_tokens : List ℕ → List Lexeme
judged_tokens text = (scan_of text).lexemes ++ begun_in (scan_of text).stop

-- The text says this mapping: all of it is tokens, which spell the mapping.
pub record IsMappingText (text : List ℕ) (m : MappingText) : Type 0 where
  pub no_stop : (scan_of text).stop ≡ None
  pub spelled : SpellsMapping deepest m (scan_of text).lexemes

-- the place and the kind of a token fault
abbrev pub fault_in : Option Stop → Option (ℕ × TextKind)
fault_in None = None
fault_in (Some s) = Some (s.place, s.kind)

-- The token that stands at this place is the first that can't stand.
abbrev pub IsUnexpectedInMapping : List ℕ → ℕ → Type 0
IsUnexpectedInMapping text place = IsUnexpectedAt mapping_form (λ (x : Lexeme). x.place) (judged_tokens text) place

-- The token could stand if sets might be nested one level deeper.
abbrev pub StandsDeeper : List ℕ → ℕ → Type 0
StandsDeeper text number = Starts deeper_form (take (suc number) (judged_tokens text))

-- The token at this place is the first that can't stand, and it couldn't one level deeper either.
abbrev pub StandsNowhere : List ℕ → ℕ → Type 0
StandsNowhere text place = (u : IsUnexpectedInMapping text place) × ¬ (StandsDeeper text u.number)

-- The token at this place is the first that can't stand, and it could one level deeper.
abbrev pub StandsTooDeep : List ℕ → ℕ → Type 0
StandsTooDeep text place = (u : IsUnexpectedInMapping text place) × StandsDeeper text u.number

-- So many sets are open after these tokens, which begin with the word `set` of the outermost: of each stand the head
-- and whole clauses there, with as many levels of inner sets as it has room for.
pub data OpenSets : ℕ → ℕ → List Lexeme → Type 0 where
  one_set : {version : ℕ} {name : List ℕ} {columns : List (List ℕ)} {cs : List Clause}
      {u v : List Lexeme} → SpellsHead name columns u → SpellsClauses version 0 cs v → OpenSets version 1 (u ++ v)
  and_inner : {version n : ℕ} {name : List ℕ} {columns : List (List ℕ)} {cs : List Clause}
      {u v w : List Lexeme} → SpellsHead name columns u → SpellsClauses version n cs v
      → OpenSets version n w → OpenSets version (suc n) (u ++ (v ++ w))

-- A side is open after these tokens: its name, an opening brace, whole sets, and so many open ones.
pub data OpenSide : ℕ → List ℕ → ℕ → List Lexeme → Type 0 where
  open_side : {version : ℕ} {name : List ℕ} {n : ℕ} {trees : List Tree} {u w : List Lexeme}
      (k o : Lexeme) → IsKeyword name k → IsMarkToken (codes "{") o
      → Many (SpellsSet version deepest) trees u → OpenSets version n w
      → OpenSide version name n (k ∷ o ∷ (u ++ w))

-- So many sets of a mapping are open after these tokens.
pub data OpenMapping : ℕ → List Lexeme → Type 0 where
  in_source : {version n : ℕ} {u : List Lexeme} (k v e : Lexeme) → IsKeyword (codes "mapping") k
      → IsVersion version v → IsMarkToken (codes ";") e → OpenSide version (codes "source") n u
      → OpenMapping n (k ∷ v ∷ e ∷ u)
  in_target : {version n : ℕ} {from : Forest} {u w : List Lexeme} (k v e : Lexeme)
      → IsKeyword (codes "mapping") k → IsVersion version v → IsMarkToken (codes ";") e
      → SpellsSide version (codes "source") deepest from u
      → OpenSide version (codes "target") n w → OpenMapping n (k ∷ v ∷ e ∷ (u ++ w))

-- The token of this number is the word `set` of a set that is too deep: DEPTH sets are open before it.
pub record IsSetTooDeep (text : List ℕ) (number : ℕ) : Type 0 where
  pub front : List Lexeme
  pub token : Lexeme
  pub back : List Lexeme
  pub are : judged_tokens text ≡ front ++ token ∷ back
  pub at : number ≡ length front
  pub word : IsKeyword (codes "set") token
  pub inside : OpenMapping DEPTH front

-- All tokens can stand, and the text stops at a token fault or ends too early.
abbrev pub MappingStops : List ℕ → ℕ → TextKind → Type 0
MappingStops text place kind =
    IsStoppedAt mapping_form (judged_tokens text) (fault_in (scan_of text).stop) (length text) Ended place kind

-- The first fault of a text.
abbrev pub IsMappingTextFault : List ℕ → TextFault → Type 0
IsMappingTextFault text e = IsFaultBy (StandsNowhere text) (StandsTooDeep text) (MappingStops text) e

-- ---- the answer, as it is computed: the tokens are read with `deepest` levels of inner sets,
-- and if one can't stand, with one more

-- whether a reader stops at the token with which so many are left, or before it
abbrev pub stops_by : {A : Type 0} → ℕ → Result A ℕ → Bool
stops_by left (Ok a) = false
stops_by left (Err n) = nat_le left n

-- the place of a token
abbrev pub token_place : List Lexeme → ℕ → ℕ
token_place xs k = (slice_index_or xs k (record { place = 0; kind = Word; text = [] })).place

-- the fault at the token with which so many are left: it can't stand with one level more either, or it can
abbrev pub unexpected : List Lexeme → ℕ → Bool → TextFault
unexpected xs left true = At (token_place xs (length xs - left)) Expected
unexpected xs left false = TooDeep (token_place xs (length xs - left))

-- what is answered of tokens, if the text has so many bytes and its tokens stop so
abbrev pub mapping_outcome : ℕ → Option (ℕ × TextKind) → List Lexeme → Result MappingText ℕ
    → Result MappingText ℕ → Result MappingText TextFault
mapping_outcome end stop xs (Err zero) deeper = Err (stop_fault end stop)
mapping_outcome end stop xs (Err (suc left)) deeper = Err (unexpected xs (suc left) (stops_by (suc left) deeper))
mapping_outcome end (Some p) xs (Ok m) deeper = Err (At p.0 p.1)
mapping_outcome end None xs (Ok m) deeper = Ok m

-- what is answered of tokens that are read with `deepest` levels of inner sets, and then with one more
unfoldable pub mapping_of_tokens : ℕ → Option (ℕ × TextKind) → List Lexeme → Result MappingText TextFault
mapping_of_tokens end stop xs =
    mapping_outcome end stop xs (whole (mapping_reader deepest) xs) (whole (mapping_reader DEPTH) xs)

-- what is answered of a text
abbrev pub mapping_of_text : List ℕ → Result MappingText TextFault
mapping_of_text text = mapping_of_tokens (length text) (fault_in (scan_of text).stop) (judged_tokens text)

-- a fault that is told is the text's first, unless memory ran out
abbrev pub IsMappingFaultOrMemory : List ℕ → TextFault → Type 0
IsMappingFaultOrMemory text e = (e ≡ Memory) ⊎ IsMappingTextFault text e

-- whatever mapping the text says is answered, and whatever first fault it has
abbrev pub AnswersMapping : List ℕ → Result MappingText TextFault → Type 0
AnswersMapping text r = (m : MappingText) → IsMappingText text m → Reads r (Ok m)

abbrev pub AnswersMappingFault : List ℕ → Result MappingText TextFault → Type 0
AnswersMappingFault text r = (e : TextFault) → IsMappingTextFault text e → Reads r (Err e)
