-- Each list of words that says a command, lists at their ends that say none, and what is said of a demo.
use Rattle.std.proofs.Common.{◌≡◌, [], ◌∷◌, refl, Some, None, true, false}
use Rattle.std.specs.Prelude.{codes}
use Rattle.std.specs.Fmt.{digits}
use Rattle.dx_gen.specs.declared.files.TheConstants.{EMPLOYEES}
use Rattle.dx_model.specs.declared.values.Value.TheVariants.{Const}
use Rattle.dx_instance.specs.Stored.{TableRows}
use Rattle.dx_exchange.specs.declared.mode.Mode.TheVariants.{Core, Plain}
use Rattle.clio_accept.specs.declared.mapping.Mapping.{Mapping}
use Rattle.clio_top.specs.declared.command.Command.TheVariants.{Answering, Comparing, Demonstrating, Exchanging, Judging, Showing}
use Rattle.clio_top.specs.Demo.{demo_text}
use Rattle.clio_top.specs.Words.{says}
use Rattle.clio_top.proofs.Examples.{emps, persons}

-- ---- show

show_alone : says (codes "show" ∷ []) ≡ Some (Showing Plain)
show_alone = refl

show_core : says (codes "show" ∷ codes "--core" ∷ []) ≡ Some (Showing Core)
show_core = refl

show_shows_no_documents : says (codes "show" ∷ codes "--nested" ∷ []) ≡ None
show_shows_no_documents = refl

show_once : says (codes "show" ∷ codes "--core" ∷ codes "--core" ∷ []) ≡ None
show_once = refl

-- ---- exchange: the two options in any order, each at most once

exchange_alone : says (codes "exchange" ∷ []) ≡ Some (Exchanging Plain false)
exchange_alone = refl

exchange_core : says (codes "exchange" ∷ codes "--core" ∷ []) ≡ Some (Exchanging Core false)
exchange_core = refl

exchange_nested : says (codes "exchange" ∷ codes "--nested" ∷ []) ≡ Some (Exchanging Plain true)
exchange_nested = refl

exchange_core_nested : says (codes "exchange" ∷ codes "--core" ∷ codes "--nested" ∷ []) ≡ Some (Exchanging Core true)
exchange_core_nested = refl

exchange_nested_core : says (codes "exchange" ∷ codes "--nested" ∷ codes "--core" ∷ []) ≡ Some (Exchanging Core true)
exchange_nested_core = refl

exchange_core_once : says (codes "exchange" ∷ codes "--core" ∷ codes "--core" ∷ []) ≡ None
exchange_core_once = refl

exchange_nested_once : says (codes "exchange" ∷ codes "--nested" ∷ codes "--nested" ∷ []) ≡ None
exchange_nested_once = refl

exchange_no_more : says (codes "exchange" ∷ codes "--core" ∷ codes "--nested" ∷ codes "--core" ∷ []) ≡ None
exchange_no_more = refl

-- ---- demo: a number from 1 to 100,000, without a leading zero

demo_plain : says (codes "demo" ∷ codes "5" ∷ []) ≡ Some (Demonstrating 5 Plain)
demo_plain = refl

demo_then_core : says (codes "demo" ∷ codes "5" ∷ codes "--core" ∷ []) ≡ Some (Demonstrating 5 Core)
demo_then_core = refl

core_then_number : says (codes "demo" ∷ codes "--core" ∷ codes "5" ∷ []) ≡ Some (Demonstrating 5 Core)
core_then_number = refl

demo_of_one : says (codes "demo" ∷ codes "1" ∷ []) ≡ Some (Demonstrating 1 Plain)
demo_of_one = refl

demo_of_most : says (codes "demo" ∷ codes "100000" ∷ []) ≡ Some (Demonstrating 100000 Plain)
demo_of_most = refl

most_employees : EMPLOYEES ≡ 100000
most_employees = refl

demo_of_more : says (codes "demo" ∷ codes "100001" ∷ []) ≡ None
demo_of_more = refl

demo_of_none : says (codes "demo" ∷ codes "0" ∷ []) ≡ None
demo_of_none = refl

demo_with_zero : says (codes "demo" ∷ codes "05" ∷ []) ≡ None
demo_with_zero = refl

demo_without_number : says (codes "demo" ∷ []) ≡ None
demo_without_number = refl

demo_twice_core : says (codes "demo" ∷ codes "--core" ∷ codes "--core" ∷ []) ≡ None
demo_twice_core = refl

-- ---- the three without options

answer_alone : says (codes "answer" ∷ []) ≡ Some Answering
answer_alone = refl

judge_alone : says (codes "judge" ∷ []) ≡ Some Judging
judge_alone = refl

compare_alone : says (codes "compare" ∷ []) ≡ Some Comparing
compare_alone = refl

answer_no_more : says (codes "answer" ∷ codes "--core" ∷ []) ≡ None
answer_no_more = refl

judge_no_more : says (codes "judge" ∷ codes "--core" ∷ []) ≡ None
judge_no_more = refl

compare_no_more : says (codes "compare" ∷ codes "--core" ∷ []) ≡ None
compare_no_more = refl

-- ---- no command

no_words : says [] ≡ None
no_words = refl

an_empty_word : says ([] ∷ []) ≡ None
an_empty_word = refl

another_word : says (codes "Show" ∷ []) ≡ None
another_word = refl

-- ---- what is said of a demo: its number, the rules, a line for each target table, the nulls

abbrev two_rows : TableRows
two_rows = record { width = 2; rows = (Const (codes "ann") ∷ Const [] ∷ []) ∷ (Const (codes "bob") ∷ Const [] ∷ []) ∷ [] }

abbrev without_rules : Mapping
without_rules = record { source = emps; target = persons; conditions = []; rules = [] }

demo_is_told : demo_text 5 without_rules (two_rows ∷ []) 3 ≡ codes "demo 5\nrules 0\nperson 2\nnulls 3\n"
unfolding digits
demo_is_told = refl
