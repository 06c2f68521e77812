-- Small texts that are read as scripts, and first faults of others, computed.
use Rattle.std.proofs.Common.{◌≡◌, ℕ, true, List, [], ◌∷◌, Result, Ok, Err, codes, refl, ap, inl, inr, arith}
use Rattle.dx_tokens.specs.declared.faults.TextFault.{TextFault}
use Rattle.dx_tokens.specs.declared.faults.TextFault.TheVariants.{At, TooDeep, Memory}
use Rattle.dx_tokens.specs.declared.faults.TextKind.TheVariants.{Character, Expected, Ended}
use Rattle.dx_grammar.specs.Readers.{many}
use Rattle.dx_grammar.specs.Numbers.{counted_reader, knowing, knowing_within}
use Rattle.dx_script_tokens.specs.Numbers.{more_digits, numeral_of}
use Rattle.dx_script_tokens.specs.Kinds.{numbered_word, small_word, inner_word, word_says}
use Rattle.dx_script_tokens.specs.Pieces.{text_item, text_from, script_piece_at}
use Rattle.dx_script_tokens.specs.Scan.{script_scan_from}
use Rattle.dx_script.specs.declared.form.Test.TheVariants as tested
use Rattle.dx_script.specs.declared.form.Out.TheVariants as outs
use Rattle.dx_script.specs.declared.form.Step.TheVariants as steps
use Rattle.dx_script.specs.declared.form.Script.{Script}
use Rattle.dx_script_text.specs.Reading.{select_call_reader, alias_cell_reader, cell_value_reader, column_out_reader, columns_reader, comma_item, comma_out, comma_source, create_reader, created_reader, declared_reader, equal_reader, equals_reader, insert_end_reader, insert_reader, insert_tail_reader, select_item_reader, items_reader, keep_reader, keep_tail_reader, matched_reader, match_reader, no_items, optional_tests, out_reader, outs_reader, script_reader, select_reader, skolem_reader, skolem_tail_reader, from_source_reader, sources_reader, step_reader, table_reader, test_reader, tests_reader, text_out_reader, text_reader, unless_reader, value_reader, where_clause_reader}
use Rattle.dx_tokens.specs.Judged.{Reads}
use Rattle.dx_script_text.specs.Texts.{IsScriptText}
use Rattle.dx_script_text.specs.Texts.{AnswersScript, AnswersScriptFault, script_of_tokens, script_of_text, IsScriptFaultOrMemory}
use Rattle.dx_script_text.proofs.Answered.{never_said_and_faulty, text_fault, text_script}

-- what is read of a text
read : List ℕ → Result Script TextFault
unfolding script_of_tokens script_scan_from script_piece_at text_from text_item word_says inner_word small_word numbered_word numeral_of more_digits many knowing knowing_within counted_reader script_reader step_reader created_reader table_reader create_reader declared_reader match_reader matched_reader select_reader no_items items_reader comma_item select_item_reader value_reader cell_value_reader select_call_reader alias_cell_reader sources_reader comma_source from_source_reader where_clause_reader equals_reader equal_reader keep_reader keep_tail_reader unless_reader optional_tests tests_reader test_reader columns_reader text_reader insert_reader insert_tail_reader outs_reader comma_out out_reader skolem_reader skolem_tail_reader text_out_reader column_out_reader insert_end_reader
read text = script_of_text text

-- a step of each kind
created : read (codes "CREATE TABLE target.\"t\"(\"a\" TEXT);") ≡ Ok (record { steps = steps.Create (codes "t") (codes "a" ∷ []) ∷ [] })
unfolding read
created = refl

matched : read (codes "CREATE TABLE m2 AS SELECT DISTINCT 1 FROM source.\"s\" AS a0;") ≡ Ok (record { steps = steps.MatchRows 2 [] (codes "s" ∷ []) [] ∷ [] })
unfolding read
matched = refl

kept : read (codes "CREATE TABLE k0 AS SELECT * FROM m0 AS m WHERE NOT EXISTS (SELECT * FROM m1 AS n WHERE n.c2 = m.c0);") ≡ Ok (record { steps = steps.KeepRows 0 (record { rule = 1; tests = tested.Columns 2 0 ∷ [] } ∷ []) ∷ [] })
unfolding read
kept = refl

inserted : read (codes "INSERT INTO target.\"t\" SELECT SKOLEM(3, 1, m.place), m.c0 FROM k3 AS m;") ≡ Ok (record { steps = steps.InsertRows (codes "t") 3 true (outs.Skolem 1 ∷ outs.Column 0 ∷ []) ∷ [] })
unfolding read
inserted = refl

-- columns and aliases are numbered from 0 without a gap
columns_begin_at_0 : read (codes "CREATE TABLE m0 AS SELECT DISTINCT a0.\"x\" AS c1") ≡ Err (At 45 Expected)
unfolding read
columns_begin_at_0 = refl

aliases_go_on : read (codes "CREATE TABLE m0 AS SELECT DISTINCT 1 FROM source.\"s\" AS a0, source.\"s\" AS a2") ≡ Err (At 74 Expected)
unfolding read
aliases_go_on = refl

columns_go_on : read (codes "CREATE TABLE m0 AS SELECT DISTINCT a0.\"x\" AS c0, a0.\"y\" AS c2") ≡ Err (At 59 Expected)
unfolding read
columns_go_on = refl

-- a conversion takes a cell at least, and an insert puts in one at least
no_arguments : read (codes "CREATE TABLE m0 AS SELECT DISTINCT \"trim\"()") ≡ Err (At 42 Expected)
unfolding read
no_arguments = refl

nothing_is_put_in : read (codes "INSERT INTO target.\"t\" SELECT FROM m0 AS m;") ≡ Err (At 30 Expected)
unfolding read
nothing_is_put_in = refl

-- a step ends with a semicolon
no_semicolon : read (codes "INSERT INTO target.\"t\" SELECT m.c0 FROM m0 AS m") ≡ Err (At 47 Ended)
unfolding read
no_semicolon = refl

-- a step speaks of one rule
kept_of_its_rule : read (codes "CREATE TABLE k0 AS SELECT * FROM m1") ≡ Err (At 33 Expected)
unfolding read
kept_of_its_rule = refl

inserted_of_its_rule : read (codes "INSERT INTO target.\"t\" SELECT SKOLEM(0, 1, m.place) FROM m1 AS m;") ≡ Err (At 57 Expected)
unfolding read
inserted_of_its_rule = refl

-- a keep step has partners
no_partners : read (codes "CREATE TABLE k0 AS SELECT * FROM m0 AS m;") ≡ Err (At 40 Expected)
unfolding read
no_partners = refl

-- the end of the text, also within a name that could stand
ends_early : read (codes "CREATE TABLE") ≡ Err (At 12 Ended)
unfolding read
ends_early = refl

ends_in_a_name : read (codes "CREATE TABLE target.\"t") ≡ Err (At 22 Ended)
unfolding read
ends_in_a_name = refl

-- a name that is begun where none can stand is told at its begin
name_cannot_stand : read (codes "CREATE \"t") ≡ Err (At 7 Expected)
unfolding read
name_cannot_stand = refl

-- the empty text says the script without steps
no_steps : read [] ≡ Ok (record { steps = [] })
unfolding read
no_steps = refl

-- a match step has DISTINCT, and 1 alone for no columns
no_distinct : read (codes "CREATE TABLE m0 AS SELECT 1") ≡ Err (At 26 Expected)
unfolding read
no_distinct = refl

another_digit : read (codes "CREATE TABLE m0 AS SELECT DISTINCT 0") ≡ Err (At 35 Expected)
unfolding read
another_digit = refl

-- no step makes or fills a table of the source
a_source_is_created : read (codes "CREATE TABLE source") ≡ Err (At 13 Expected)
unfolding read
a_source_is_created = refl

a_source_is_filled : read (codes "INSERT INTO source") ≡ Err (At 12 Expected)
unfolding read
a_source_is_filled = refl

-- a target table has columns
no_columns : read (codes "CREATE TABLE target.\"t\"()") ≡ Err (At 24 Expected)
unfolding read
no_columns = refl

-- partners are tuples of match tables, and what is put in is of the own tuple
a_kept_partner : read (codes "CREATE TABLE k0 AS SELECT * FROM m0 AS m WHERE NOT EXISTS (SELECT * FROM k1") ≡ Err (At 73 Expected)
unfolding read
a_kept_partner = refl

the_own_first : read (codes "CREATE TABLE k0 AS SELECT * FROM m0 AS m WHERE NOT EXISTS (SELECT * FROM m1 AS n WHERE m.c0 = n") ≡ Err (At 94 Expected)
unfolding read
the_own_first = refl

-- a given text is compared with a column of the own tuple alone
a_text_of_a_partner :
    read (codes "CREATE TABLE k0 AS SELECT * FROM m0 AS m WHERE NOT EXISTS (SELECT * FROM m1 AS n WHERE n.c0 = 'x'")
    ≡ Err (At 94 Expected)
unfolding read
a_text_of_a_partner = refl

of_a_partner : read (codes "INSERT INTO target.\"t\" SELECT n") ≡ Err (At 30 Expected)
unfolding read
of_a_partner = refl

-- a byte that begins no token
no_character : read (codes "CREATE -") ≡ Err (At 7 Character)
unfolding read
no_character = refl

-- such a text says no script, though no token, which it has before that byte, spells one
says_no_script : (s : Script) → ¬ IsScriptText (codes "-") s
unfolding read
says_no_script s h = absurd (cc h.no_stop)

-- ---- what may be answered

-- a script is not answered where another, or a fault, is the text's, and no fault where it is another
a_fault_for_a_script : (s : Script) (e : TextFault) → ¬ Reads (Ok s) (Err e)
a_fault_for_a_script s e h = absurd (cc h)

a_script_for_a_fault : (s : Script) → ¬ Reads (Err (At 0 Ended)) (Ok s)
a_script_for_a_fault s h = absurd (cc h)

another_place : ¬ Reads {V = Script} (Err (At 0 Ended)) (Err (At 1 Ended))
another_place h = omega (arith, ap place_in h) where
  place_in : Result Script TextFault → ℕ
  place_in (Ok s) = 0
  place_in (Err (At place kind)) = place
  place_in (Err (TooDeep place)) = 0
  place_in (Err Memory) = 0

-- of a text without a fault want of memory alone is told
told_of_nothing : (e : TextFault) → IsScriptFaultOrMemory [] e → e ≡ Memory
unfolding read
told_of_nothing e (inl m) = m
told_of_nothing e (inr f) = absurd (never_said_and_faulty [] (record { steps = [] }) e (text_script [] (record { steps = [] }) no_steps) f)

-- what the text says is answered, and its first fault
said_is_answered : ¬ AnswersScript [] (Err (At 0 Ended))
unfolding read
said_is_answered h =
    a_script_for_a_fault (record { steps = [] })
    (h (record { steps = [] }) (text_script [] (record { steps = [] }) no_steps))

fault_is_answered : (s : Script) → ¬ AnswersScriptFault (codes "CREATE -") (Ok s)
unfolding read
fault_is_answered s h =
    a_fault_for_a_script s (At 7 Character)
    (h (At 7 Character) (text_fault (codes "CREATE -") (At 7 Character) no_character))
