-- Worked values of printed scripts, and a printable one.
use Rattle.std.proofs.Common.{◌≡◌, ℕ, List, [], ◌∷◌, length, refl, arith}
use Rattle.std.specs.Prelude.{Bool, IsUtf8, codes, false, true}
use Rattle.std.specs.Fmt.{digits}
use Rattle.dx_script.specs.declared.form.CellRef.{CellRef}
use Rattle.dx_script.specs.declared.form.Select.{Select}
use Rattle.dx_script.specs.declared.form.Equal.{Equal}
use Rattle.dx_script.specs.declared.form.Unless.{Unless}
use Rattle.dx_script.specs.declared.form.Out.{Out}
use Rattle.dx_script.specs.declared.form.Select.TheVariants as selected
use Rattle.dx_script.specs.declared.form.Test.TheVariants as tested
use Rattle.dx_script.specs.declared.form.Out.TheVariants as outs
use Rattle.dx_script.specs.declared.form.Step.TheVariants as steps
use Rattle.dx_base.specs.Members.{Each}
use Rattle.dx_base.proofs.Members.{each_cons}
use Rattle.dx_tokens.specs.Tokens.{is_word_byte}
use Rattle.dx_script_text.specs.Printable.{FitsCount, OneOrMore, IsCellRef, IsEqual, IsScriptName, IsOut, IsPrintableScript, IsSelect, NumberFits, IsStep, IsTest, IsUnless}
use Rattle.dx_script_text.specs.Print.{create_text, match_text, keep_text, insert_text, script_text}

abbrev of_x : CellRef
of_x = record { alias = 0; column = codes "x" }

abbrev of_y : CellRef
of_y = record { alias = 0; column = codes "y" }

created : create_text (codes "unit") (codes "#id" ∷ codes "uname" ∷ []) ≡ codes "CREATE TABLE target.\"unit\" (\"#id\" TEXT, \"uname\" TEXT);\n"
created = refl

matched :
    match_text 0 (selected.Cell (record { alias = 0; column = codes "name" }) ∷ selected.Call (codes "trim") (record { alias = 1; column = codes "dname" } ∷ []) ∷ []) (codes "emp" ∷ codes "dept" ∷ [])
    (record { left = record { alias = 0; column = codes "dept" }; right = record { alias = 1; column = codes "dname" } } ∷ [])
    ≡ codes "CREATE TABLE m0 AS SELECT DISTINCT a0.\"name\" AS c0, \"trim\"(a1.\"dname\") AS c1 FROM source.\"emp\" AS a0, source.\"dept\" AS a1 WHERE a0.\"dept\" = a1.\"dname\";\n"
unfolding digits
matched = refl

nothing_selected : match_text 0 [] (codes "emp" ∷ []) [] ≡ codes "CREATE TABLE m0 AS SELECT DISTINCT 1 FROM source.\"emp\" AS a0;\n"
unfolding digits
nothing_selected = refl

kept :
    keep_text 1 (record { rule = 0; tests = tested.Columns 2 0 ∷ tested.Literal 1 (codes "it's") ∷ [] } ∷ record { rule = 0; tests = [] } ∷ [])
    ≡ codes "CREATE TABLE k1 AS SELECT * FROM m1 AS m WHERE NOT EXISTS (SELECT * FROM m0 AS n WHERE n.c2 = m.c0 AND m.c1 = 'it''s') AND NOT EXISTS (SELECT * FROM m0 AS n);\n"
unfolding digits
kept = refl

inserted : insert_text (codes "unit") 1 true (outs.Skolem 0 ∷ outs.Column 0 ∷ outs.Literal (codes "main") ∷ []) ≡ codes "INSERT INTO target.\"unit\" SELECT SKOLEM(1, 0, m.place), m.c0, 'main' FROM k1 AS m;\n"
unfolding digits
inserted = refl

-- equalities are parted by AND, and each step has its line
two_steps :
    script_text (record {
      steps =
          steps.MatchRows 0 [] (codes "s" ∷ [])
          (record { left = of_x; right = of_y } ∷ record { left = of_y; right = of_x } ∷ [])
          ∷ steps.InsertRows (codes "t") 0 false (outs.Literal (codes "main") ∷ [])
          ∷ [];
    })
    ≡ codes "CREATE TABLE m0 AS SELECT DISTINCT 1 FROM source.\"s\" AS a0 WHERE a0.\"x\" = a0.\"y\" AND a0.\"y\" = a0.\"x\";\nINSERT INTO target.\"t\" SELECT 'main' FROM m0 AS m;\n"
unfolding digits
two_steps = refl

-- ---- which scripts can be printed so that they are read again

no_item : {X : Type 0} (P : X → Type 0) → Each [] P
no_item P x m = elim m [ ]

one_item : {X : Type 0} (P : X → Type 0) (x : X) → P x → Each (x ∷ []) P
one_item P x p = each_cons x [] p (no_item P)

hash : IsScriptName (codes "#t")
hash = (refl, one_item (λ b. is_word_byte b ≡ true) 116 refl)

letter : IsScriptName (codes "a")
letter = (refl, no_item (λ b. is_word_byte b ≡ true))

digit : IsScriptName (codes "1")
digit = (refl, no_item (λ b. is_word_byte b ≡ true))

-- a name has a character, and no blank
no_character : ¬ IsScriptName []
no_character h = h

no_blank : ¬ IsScriptName (codes " a")
no_blank h = absurd (cc h.0)

cell_is : IsCellRef (record { alias = 4294967295; column = codes "a" })
cell_is = (omega arith, letter)

create_step : IsStep (steps.Create (codes "#t") (codes "a" ∷ []))
create_step = (hash, ((λ e. cc), one_item IsScriptName (codes "a") letter))

-- a target table without columns can't be
no_columns : ¬ IsStep (steps.Create (codes "#t") [])
no_columns h = h.1.0 refl

match_step : IsStep (steps.MatchRows 4294967295 (selected.Cell (record { alias = 4294967295; column = codes "a" }) ∷ []) (codes "a" ∷ []) [])
match_step = (omega arith, (one_item IsSelect (selected.Cell (record { alias = 4294967295; column = codes "a" })) cell_is, omega arith), (((λ e. cc), one_item IsScriptName (codes "a") letter), omega arith), no_item IsEqual)

keep_step : IsStep (steps.KeepRows 4294967295 (record { rule = 0; tests = tested.Columns 4294967295 10 ∷ [] } ∷ []))
keep_step = (omega arith, ((λ e. cc), one_item IsUnless (record { rule = 0; tests = tested.Columns 4294967295 10 ∷ [] }) (omega arith, one_item IsTest (tested.Columns 4294967295 10) (omega arith, omega arith))))

insert_step : IsStep (steps.InsertRows (codes "#t") 4294967295 true (outs.Skolem 4294967295 ∷ []))
insert_step = (hash, omega arith, ((λ e. cc), one_item IsOut (outs.Skolem 4294967295) (omega arith)))

printable : IsPrintableScript (record { steps = steps.Create (codes "#t") (codes "a" ∷ []) ∷ steps.InsertRows (codes "#t") 4294967295 true (outs.Skolem 4294967295 ∷ []) ∷ [] })
printable =
    each_cons (steps.Create (codes "#t") (codes "a" ∷ [])) (steps.InsertRows (codes "#t") 4294967295 true (outs.Skolem 4294967295 ∷ []) ∷ []) create_step
    (one_item IsStep (steps.InsertRows (codes "#t") 4294967295 true (outs.Skolem 4294967295 ∷ [])) insert_step)

-- a conversion of cells, an equality, and each kind of test and of value
call_is : IsSelect (selected.Call (codes "#t") (record { alias = 4294967295; column = codes "a" } ∷ []))
call_is = (hash, ((λ e. cc), one_item IsCellRef (record { alias = 4294967295; column = codes "a" }) cell_is))

no_arguments : ¬ IsSelect (selected.Call (codes "#t") [])
no_arguments h = h.1.0 refl

equal_is : IsEqual (record { left = record { alias = 4294967295; column = codes "a" }; right = record { alias = 4294967295; column = codes "a" } })
equal_is = (cell_is, cell_is)

text_test : (text : List ℕ) → IsUtf8 text → IsTest (tested.Literal 4294967295 text)
text_test text u = (omega arith, u)

no_tests : IsUnless (record { rule = 4294967295; tests = [] })
no_tests = (omega arith, no_item IsTest)

text_out : (text : List ℕ) → IsUtf8 text → IsOut (outs.Literal text)
text_out text u = u

column_out : IsOut (outs.Column 4294967295)
column_out = omega arith

-- a step of any of these; as many columns and aliases as there are numbers
any_match : (select : List Select) (sources : List (List ℕ)) (equal : List Equal) → Each select IsSelect → length select ≡ 4294967296
    → OneOrMore IsScriptName sources → length sources ≡ 4294967296 → Each equal IsEqual → IsStep (steps.MatchRows 0 select sources equal)
any_match select sources equal s n t m e = (omega arith, (s, omega (arith, n)), (t, omega (arith, m)), e)

any_keep : (unless : List Unless) → OneOrMore IsUnless unless → IsStep (steps.KeepRows 0 unless)
any_keep unless u = (omega arith, u)

any_insert : (kept : Bool) (cells : List Out) → OneOrMore IsOut cells → IsStep (steps.InsertRows (codes "a") 0 kept cells)
any_insert kept cells c = (letter, omega arith, c)

-- what is not
one_too_great : ¬ NumberFits 4294967296
one_too_great h = omega (arith, h)

one_too_many : (names : List (List ℕ)) → length names ≡ 4294967297 → ¬ FitsCount names
one_too_many names e h = omega (arith, e, h)

no_partners : ¬ IsStep (steps.KeepRows 0 [])
no_partners h = h.1.0 refl

no_values : ¬ IsStep (steps.InsertRows (codes "a") 0 false [])
no_values h = h.2.0 refl
