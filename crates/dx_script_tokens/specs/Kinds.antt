-- What a word says, and what a mark is.
use Rattle.std.specs.Prelude.{ℕ, Bool, ◌||◌, ◌==◌, nat_eq, if◌then◌else◌, List, [], ◌∷◌, codes, Option, Some, None}
use Rattle.std.specs.Cmp.Lexicographic.{pointwise}
use Rattle.dx_script_tokens.specs.declared.kinds.ScriptKind.{ScriptKind}
use Rattle.dx_script_tokens.specs.declared.kinds.ScriptKind.TheVariants as kinds
use Rattle.dx_script_tokens.specs.Numbers.{numeral_of}

-- two texts are one
abbrev pub same_text : List ℕ → List ℕ → Bool
same_text w v = pointwise nat_eq w v

-- the kind of words that a letter and a number make
abbrev pub letter_kind : ℕ → ScriptKind
letter_kind b =
    if b == 109 then kinds.Match
    else (if b == 107 then kinds.Keep
    else (if b == 97 then kinds.Alias else (if b == 99 then kinds.Column else kinds.Word)))

-- a letter and a number, or any other word
abbrev pub with_letter : ℕ → Option ℕ → ScriptKind × ℕ
with_letter b None = (kinds.Word, 0)
with_letter b (Some n) = (letter_kind b, n)

unfoldable pub numbered_word : List ℕ → ScriptKind × ℕ
numbered_word [] = (kinds.Word, 0)
numbered_word (b ∷ rest) = with_letter b (numeral_of rest)

-- the words in lower case that stand for themselves
unfoldable pub small_word : List ℕ → ScriptKind × ℕ
small_word w =
    if same_text w (codes "target") then (kinds.Target, 0)
    else (if same_text w (codes "source") then (kinds.Source, 0)
    else (if same_text w (codes "place") then (kinds.Place, 0)
    else (if same_text w (codes "m") then (kinds.Own, 0)
    else (if same_text w (codes "n") then (kinds.Other, 0)
    else numbered_word w))))

-- the words that stand between parts of a step
unfoldable pub inner_word : List ℕ → ScriptKind × ℕ
inner_word w =
    if same_text w (codes "DISTINCT") then (kinds.Distinct, 0)
    else (if same_text w (codes "FROM") then (kinds.From, 0)
    else (if same_text w (codes "WHERE") then (kinds.Where, 0)
    else (if same_text w (codes "AND") then (kinds.And, 0)
    else (if same_text w (codes "NOT") then (kinds.Not, 0)
    else (if same_text w (codes "EXISTS") then (kinds.Exists, 0)
    else (if same_text w (codes "SKOLEM") then (kinds.Skolem, 0)
    else (if same_text w (codes "TEXT") then (kinds.Type, 0)
    else small_word w)))))))

-- what a word says: its kind, and its number, which is 0 if it has none
unfoldable pub word_says : List ℕ → ScriptKind × ℕ
word_says w =
    if same_text w (codes "CREATE") then (kinds.Create, 0)
    else (if same_text w (codes "TABLE") then (kinds.Table, 0)
    else (if same_text w (codes "AS") then (kinds.As, 0)
    else (if same_text w (codes "SELECT") then (kinds.Select, 0)
    else (if same_text w (codes "INSERT") then (kinds.Insert, 0)
    else (if same_text w (codes "INTO") then (kinds.Into, 0)
    else inner_word w)))))

-- ( ) , ; . = *
abbrev pub is_script_mark : ℕ → Bool
is_script_mark b = b == 40 || (b == 41 || (b == 44 || (b == 59 || (b == 46 || (b == 61 || b == 42)))))

-- which mark it is
abbrev pub mark_kind : ℕ → ScriptKind
mark_kind b =
    if b == 40 then kinds.Open
    else (if b == 41 then kinds.Close
    else (if b == 44 then kinds.Comma
    else (if b == 59 then kinds.Semicolon
    else (if b == 46 then kinds.Dot
    else (if b == 61 then kinds.Equal else kinds.Star)))))

-- each kind has a number of its own, by which kinds are compared
abbrev pub kind_number : ScriptKind → ℕ
kind_number kinds.Create = 0
kind_number kinds.Table = 1
kind_number kinds.Target = 2
kind_number kinds.Source = 3
kind_number kinds.As = 4
kind_number kinds.Select = 5
kind_number kinds.Distinct = 6
kind_number kinds.From = 7
kind_number kinds.Where = 8
kind_number kinds.And = 9
kind_number kinds.Not = 10
kind_number kinds.Exists = 11
kind_number kinds.Insert = 12
kind_number kinds.Into = 13
kind_number kinds.Skolem = 14
kind_number kinds.Place = 15
kind_number kinds.Type = 16
kind_number kinds.Own = 17
kind_number kinds.Other = 18
kind_number kinds.Match = 19
kind_number kinds.Keep = 20
kind_number kinds.Alias = 21
kind_number kinds.Column = 22
kind_number kinds.Word = 23
kind_number kinds.Number = 24
kind_number kinds.Name = 25
kind_number kinds.Text = 26
kind_number kinds.Open = 27
kind_number kinds.Close = 28
kind_number kinds.Comma = 29
kind_number kinds.Semicolon = 30
kind_number kinds.Dot = 31
kind_number kinds.Equal = 32
kind_number kinds.Star = 33
