-- Which command the words of a run say.
use Rattle.std.specs.Prelude.{ℕ, ◌*◌, ◌+◌, ◌-◌, List, [], ◌∷◌, Option, Some, None, Result, Ok, Err, Bool}
use Rattle.std.specs.Prelude.{true, false, eqb, nat_eq, nat_lt, ◌&&◌, ◌||◌, codes, if◌then◌else◌}
use Rattle.std.specs.Cmp.Lexicographic.{pointwise}
use Rattle.dx_tokens.specs.Tokens.{is_digit}
use Rattle.dx_gen.specs.declared.files.TheConstants.{EMPLOYEES}
use Rattle.dx_exchange.specs.declared.mode.Mode.{Mode}
use Rattle.dx_exchange.specs.declared.mode.Mode.TheVariants.{Plain, Core}
use Rattle.clio_ending.specs.declared.ending.Refusal.{Refusal}
use Rattle.clio_ending.specs.declared.ending.Refusal.TheVariants.{Usage}
use Rattle.clio_top.specs.declared.command.Command.{Command}
use Rattle.clio_top.specs.declared.command.Command.TheVariants.{Answering, Comparing, Demonstrating}
use Rattle.clio_top.specs.declared.command.Command.TheVariants.{Exchanging, Judging, Showing}

-- a word, by its bytes
abbrev pub Word : Type 0
Word = List ℕ

-- whether two words are one
abbrev pub same_word : Word → Word → Bool
same_word = pointwise nat_eq

abbrev pub is_core : Word → Bool
is_core w = same_word w (codes "--core")

abbrev pub is_nested : Word → Bool
is_nested w = same_word w (codes "--nested")

-- ---- numerals

-- the number that digits say after those of n, as long as it is at most EMPLOYEES
abbrev pub number_after : ℕ → Word → Option ℕ
number_after n [] = Some n
number_after n (b ∷ bs) =
    let m = 10 * n + (b - 48) in if is_digit b && nat_lt m (EMPLOYEES + 1) then number_after m bs else None

-- the number of a numeral without a leading zero, from 1 to EMPLOYEES
abbrev pub numeral_number : Word → Option ℕ
numeral_number [] = None
numeral_number (b ∷ bs) = if eqb b 48 then None else number_after 0 (b ∷ bs)

-- ---- commands

-- after `show`: nothing, or `--core`
abbrev pub show_said : List Word → Option Command
show_said [] = Some (Showing Plain)
show_said (w ∷ []) = if is_core w then Some (Showing Core) else None
show_said (v ∷ w ∷ words) = None

-- after `exchange`: `--core` and `--nested`, each at most once, in any order
abbrev pub exchange_said : List Word → Option Command
exchange_said [] = Some (Exchanging Plain false)
exchange_said (w ∷ []) =
    if is_core w then Some (Exchanging Core false) else if is_nested w then Some (Exchanging Plain true) else None
exchange_said (v ∷ w ∷ []) =
    if (is_core v && is_nested w) || (is_nested v && is_core w) then Some (Exchanging Core true) else None
exchange_said (u ∷ v ∷ w ∷ words) = None

-- the demo of a number
abbrev pub demo_of : Mode → Option ℕ → Option Command
demo_of mode None = None
demo_of mode (Some n) = Some (Demonstrating n mode)

abbrev pub demo_with_number : Word → Mode → Option Command
demo_with_number w mode = demo_of mode (numeral_number w)

-- after `demo`: a number, before or after it perhaps `--core`
abbrev pub demo_said : List Word → Option Command
demo_said [] = None
demo_said (w ∷ []) = demo_with_number w Plain
demo_said (v ∷ w ∷ []) =
    if is_core v then demo_with_number w Core else if is_core w then demo_with_number v Core else None
demo_said (u ∷ v ∷ w ∷ words) = None

-- after a command without options: nothing
abbrev pub without_options : Command → List Word → Option Command
without_options c [] = Some c
without_options c (w ∷ words) = None

-- what words say: a command, by its name and what comes after it
abbrev pub says : List Word → Option Command
says [] = None
says (name ∷ words) =
    if same_word name (codes "show") then show_said words
    else if same_word name (codes "exchange") then exchange_said words
    else if same_word name (codes "demo") then demo_said words
    else if same_word name (codes "answer") then without_options Answering words
    else if same_word name (codes "judge") then without_options Judging words
    else if same_word name (codes "compare") then without_options Comparing words
    else None

-- the command, or the refusal of other words
abbrev pub or_usage : Option Command → Result Command Refusal
or_usage None = Err Usage
or_usage (Some c) = Ok c
