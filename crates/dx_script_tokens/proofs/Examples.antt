-- The scans of small texts, computed.
use Rattle.std.proofs.Common.{◌≡◌, ℕ, List, [], ◌∷◌, Option, Some, None, codes, refl}
use Rattle.dx_tokens.specs.declared.faults.TextKind.{TextKind}
use Rattle.dx_tokens.specs.declared.faults.TextKind.TheVariants.{Character, Ended}
use Rattle.dx_tokens.specs.Tokens.{wide_at}
use Rattle.dx_script_tokens.specs.declared.kinds.ScriptKind.{ScriptKind}
use Rattle.dx_script_tokens.specs.declared.kinds.ScriptKind.TheVariants as kinds
use Rattle.dx_script_tokens.specs.declared.scanner.ScriptToken.{ScriptToken}
use Rattle.dx_script_tokens.specs.declared.scanner.ScriptScan.{ScriptScan}
use Rattle.dx_script_tokens.specs.Numbers.{more_digits, numeral_of}
use Rattle.dx_script_tokens.specs.Kinds.{numbered_word, small_word, inner_word, word_says}
use Rattle.dx_script_tokens.specs.Pieces.{text_item, text_from, script_piece_at}
use Rattle.dx_script_tokens.specs.Scan.{script_scan_from, script_scan_of}

-- a word or a mark without a number, one with a number, and a name or a text
abbrev plain : ℕ → ScriptKind → ScriptToken
plain place kind = record { place = place; kind = kind; number = 0; text = [] }

abbrev numbered : ℕ → ScriptKind → ℕ → ScriptToken
numbered place kind number = record { place = place; kind = kind; number = number; text = [] }

abbrev said : ℕ → ScriptKind → List ℕ → ScriptToken
said place kind text = record { place = place; kind = kind; number = 0; text = text }

abbrev whole : List ScriptToken → ScriptScan
whole tokens = record { tokens = tokens; stop = None }

abbrev faulty : List ScriptToken → ℕ → TextKind → Option ScriptToken → ScriptScan
faulty tokens place kind begun = record { tokens = tokens; stop = Some (record { place = place; kind = kind; begun = begun }) }

-- the scan of a text
scanned : List ℕ → ScriptScan
unfolding script_scan_from script_piece_at text_from text_item wide_at word_says inner_word small_word numbered_word numeral_of more_digits
scanned text = script_scan_of text

-- ---- words, marks and numbers

-- a letter and a number alone have a number, and words are told by their case
words : scanned (codes "m0 k12 m0x TEXT text") ≡ whole (numbered 0 kinds.Match 0 ∷ numbered 3 kinds.Keep 12 ∷ plain 7 kinds.Word ∷ plain 11 kinds.Type ∷ plain 16 kinds.Word ∷ [])
unfolding scanned
words = refl

-- a letter alone is a word, and so are letters that no number follows
letters_alone : scanned (codes "c as k1m") ≡ whole (plain 0 kinds.Word ∷ plain 2 kinds.Word ∷ plain 5 kinds.Word ∷ [])
unfolding scanned
letters_alone = refl

marks : scanned (codes "m.c1=n.c0;") ≡ whole (plain 0 kinds.Own ∷ plain 1 kinds.Dot ∷ numbered 2 kinds.Column 1 ∷ plain 4 kinds.Equal ∷ plain 5 kinds.Other ∷ plain 6 kinds.Dot ∷ numbered 7 kinds.Column 0 ∷ plain 9 kinds.Semicolon ∷ [])
unfolding scanned
marks = refl

every_mark : scanned (codes "(),;.=*")
    ≡ whole (plain 0 kinds.Open ∷ plain 1 kinds.Close ∷ plain 2 kinds.Comma ∷ plain 3 kinds.Semicolon ∷ plain 4 kinds.Dot
    ∷ plain 5 kinds.Equal ∷ plain 6 kinds.Star ∷ [])
unfolding scanned
every_mark = refl

-- a zero stands alone, also in a word
zeros : scanned (codes "007 a01") ≡ whole (numbered 0 kinds.Number 0 ∷ numbered 1 kinds.Number 0 ∷ numbered 2 kinds.Number 7 ∷ plain 4 kinds.Word ∷ [])
unfolding scanned
zeros = refl

-- a number takes as many digits as stay up to the greatest
greatest_and_more : scanned (codes "4294967295 4294967296 c4294967296") ≡ whole (numbered 0 kinds.Number 4294967295 ∷ numbered 11 kinds.Number 429496729 ∷ numbered 20 kinds.Number 6 ∷ plain 22 kinds.Word ∷ [])
unfolding scanned
greatest_and_more = refl

-- ---- names and texts

-- a name may begin with #, a text has each quote doubled, may be empty and go over lines
names : scanned (codes "\"#id\" 'it''s' '' '\n'") ≡ whole (said 0 kinds.Name (codes "#id") ∷ said 6 kinds.Text (codes "it's") ∷ said 14 kinds.Text [] ∷ said 17 kinds.Text (codes "\n") ∷ [])
unfolding scanned
names = refl

-- a name may begin with a digit, and a text has characters of more than one byte: "1a" 'é'
digit_first : scanned (34 ∷ 49 ∷ 97 ∷ 34 ∷ 32 ∷ 39 ∷ 0xC3 ∷ 0xA9 ∷ 39 ∷ [])
    ≡ whole (said 0 kinds.Name (codes "1a") ∷ said 5 kinds.Text (0xC3 ∷ 0xA9 ∷ []) ∷ [])
unfolding scanned
digit_first = refl

-- ---- faults

-- a name without a character, with # behind its first, with a blank
no_name : scanned (codes "\"\"") ≡ faulty [] 1 Character (Some (plain 0 kinds.Name))
unfolding scanned
no_name = refl

hash_inside : scanned (codes "( \"a#\"") ≡ faulty (plain 0 kinds.Open ∷ []) 4 Character (Some (plain 2 kinds.Name))
unfolding scanned
hash_inside = refl

-- a byte that begins no token
no_token : scanned (codes "( -") ≡ faulty (plain 0 kinds.Open ∷ []) 2 Character None
unfolding scanned
no_token = refl

-- the first byte of what is no UTF-8 character
no_utf8 : scanned (39 ∷ 97 ∷ 0xE2 ∷ 0x82 ∷ 39 ∷ []) ≡ faulty [] 2 Character (Some (plain 0 kinds.Text))
unfolding scanned
no_utf8 = refl

-- the end of the text, within a name, within a text
cut_name : scanned (codes "( \"ab") ≡ faulty (plain 0 kinds.Open ∷ []) 5 Ended (Some (plain 2 kinds.Name))
unfolding scanned
cut_name = refl

cut_text : scanned (codes "'it''") ≡ faulty [] 5 Ended (Some (plain 0 kinds.Text))
unfolding scanned
cut_text = refl
