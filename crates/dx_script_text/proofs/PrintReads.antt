-- A printed script is read again.
use Rattle.std.proofs.Common.{◌≡◌, ℕ, ◌≤◌, Bool, true, false, List, [], ◌∷◌, ◌++◌, map, length, take, flat_map, refl, sym, ap, ◌∙◌, subst, arith, append_assoc}
use Rattle.std.specs.Prelude.{IfOk, Result, Ok, Err, codes, decimal}
use Rattle.std.proofs.lemmas.List.{take_all}
use Rattle.std.proofs.lemmas.Bool.Decides.{nat_tests}
use Rattle.std.proofs.lemmas.Fmt.{decimal_digit}
use Rattle.dx_base.specs.Members.{Each, here, there}
use Rattle.dx_grammar.specs.Readers.{no_more, one_more}
use Rattle.dx_grammar.specs.Lists.{SpellsList}
use Rattle.dx_grammar.specs.Numbers.{has_number}
use Rattle.dx_tokens.specs.Tokens.{is_digit, is_word_byte}
use Rattle.dx_tokens.proofs.Lexed.{StopsAt}
use Rattle.dx_script_tokens.specs.declared.kinds.ScriptKind.TheVariants as kinds
use Rattle.dx_script_tokens.specs.declared.scanner.ScriptToken.{ScriptToken}
use Rattle.dx_script_tokens.specs.Numbers.{greatest_number}
use Rattle.dx_script_tokens.proofs.Standing.{match_word, keep_word, alias_word, column_word}
use Rattle.dx_script.specs.declared.form.CellRef.{CellRef}
use Rattle.dx_script.specs.declared.form.Select.{Select}
use Rattle.dx_script.specs.declared.form.Select.TheVariants as selected
use Rattle.dx_script.specs.declared.form.Equal.{Equal}
use Rattle.dx_script.specs.declared.form.Test.{Test}
use Rattle.dx_script.specs.declared.form.Test.TheVariants as tested
use Rattle.dx_script.specs.declared.form.Unless.{Unless}
use Rattle.dx_script.specs.declared.form.Out.{Out}
use Rattle.dx_script.specs.declared.form.Out.TheVariants as outs
use Rattle.dx_script.specs.declared.form.Step.{Step}
use Rattle.dx_script.specs.declared.form.Step.TheVariants as made
use Rattle.dx_script.specs.declared.form.Script.{Script}
use Rattle.dx_script_text.specs.Grammar.{of_kind, number, is_comma, is_and, is_table}
use Rattle.dx_script_text.specs.Spelling.{SpellsDeclared, declared_of, create_of, SpellsCellRef, cell_of, SpellsValue, a_cell, a_call, SpellsSelectItem, item_of, SpellsSelect, no_columns, columns_of, SpellsFromSource, source_of, SpellsSources, sources_of, SpellsEqual, equal_of, SpellsWhereClause, no_where, where_of, match_of, SpellsTest, columns_are, text_is, SpellsUnless, unless_of, keep_of, SpellsOut, text_out_of, column_out_of, skolem_out_of, insert_of, SpellsStep, a_create, a_match, a_keep, an_insert, SpellsScript}
use Rattle.dx_script_text.specs.Texts.{IsScriptText}
use Rattle.dx_script_text.specs.Print.{parted, texts_from, name_text, declared_text, create_text, cell_ref_text, value_text, item_text, select_text, source_alias_text, equal_text, where_clause_text, match_text, test_text, unless_text, keep_text, out_text, table_letter, insert_text, step_text, script_text}
use Rattle.dx_script_tokens.specs.Quoted.{single_quoted}
use Rattle.dx_script_text.specs.Printable.{IsScriptName, OneOrMore, FitsCount, IsCellRef, IsSelect, IsEqual, IsTest, IsUnless, IsOut, IsStep, IsPrintableScript}
use Rattle.dx_script_text.proofs.PrintScans.{Reads, Ends, no_token, word_then, number_then, mark_then, blank_then, name_then, text_then, both_then, told_as, create_word, table_word, target_word, source_word, as_word, select_word, distinct_word, from_word, where_word, not_word, exists_word, insert_word, into_word, skolem_word, place_word, type_word, own_word, other_word, comma_gap, and_gap, list_read, numbered_read, reads_all}
use Rattle.dx_script_text.proofs.Found.{eq_self}

-- pieces, and what is after all of them
flat_3 : (a b c t : List ℕ) → (a ++ (b ++ c)) ++ t ≡ a ++ (b ++ (c ++ t))
flat_3 a b c t = simp append_assoc

flat_4 : (a b c d t : List ℕ) → (a ++ (b ++ (c ++ d))) ++ t ≡ a ++ (b ++ (c ++ (d ++ t)))
flat_4 a b c d t = simp append_assoc

flat_5 : (a b c d e t : List ℕ) → (a ++ (b ++ (c ++ (d ++ e)))) ++ t ≡ a ++ (b ++ (c ++ (d ++ (e ++ t))))
flat_5 a b c d e t = simp append_assoc

flat_7 : (a b c d e f g t : List ℕ) → (a ++ (b ++ (c ++ (d ++ (e ++ (f ++ g)))))) ++ t ≡ a ++ (b ++ (c ++ (d ++ (e ++ (f ++ (g ++ t))))))
flat_7 a b c d e f g t = simp append_assoc

flat_8 : (a b c d e f g h t : List ℕ) → (a ++ (b ++ (c ++ (d ++ (e ++ (f ++ (g ++ h))))))) ++ t ≡ a ++ (b ++ (c ++ (d ++ (e ++ (f ++ (g ++ (h ++ t)))))))
flat_8 a b c d e f g h t = simp append_assoc

-- ---- CREATE TABLE target

declared_read : (column : List ℕ) (place : ℕ) (tail : List ℕ) → IsScriptName column → Ends tail → Reads (SpellsDeclared column) place (declared_text column ++ tail) tail
declared_read column place tail is ends =
    subst (λ (text : List ℕ). Reads (SpellsDeclared column) place text tail) (sym (append_assoc (name_text column) (codes " TEXT") tail))
    (name_then (SpellsDeclared column) column (codes " TEXT" ++ tail) tail place is (λ p.
    blank_then _ 32 _ tail _ refl
    (word_then _ (codes "TEXT") kinds.Type 0 tail tail _ type_word ends.0
    (no_token _ _ tail (declared_of _ _ refl refl)))))

create_read : (table : List ℕ) (columns : List (List ℕ)) (place : ℕ) (tail : List ℕ) → IsStep (made.Create table columns) → Reads (SpellsStep greatest_number (made.Create table columns)) place (create_text table columns ++ tail) tail
create_read table columns place tail is =
    subst (λ (text : List ℕ). Reads (SpellsStep greatest_number (made.Create table columns)) place text tail) (sym (flat_5 (codes "CREATE TABLE target.") (name_text table) (codes " (") (parted (codes ", ") (map declared_text columns)) (codes ");\n") tail))
    (word_then _ (codes "CREATE") kinds.Create 0 _ tail place create_word refl
    (blank_then _ 32 _ tail _ refl
    (word_then _ (codes "TABLE") kinds.Table 0 _ tail _ table_word refl
    (blank_then _ 32 _ tail _ refl
    (word_then _ (codes "target") kinds.Target 0 _ tail _ target_word refl
    (mark_then _ 46 _ tail _ refl
    (name_then _ table (codes " (" ++ (parted (codes ", ") (map declared_text columns) ++ (codes ");\n" ++ tail))) tail _ is.0 (λ p.
    blank_then _ 32 _ tail _ refl
    (mark_then _ 40 _ tail _ refl
    (both_then (SpellsList is_comma SpellsDeclared columns) _ _ (codes ");\n" ++ tail) tail _ (list_read is_comma (codes ", ") comma_gap declared_text IsScriptName SpellsDeclared declared_read columns _ (codes ");\n" ++ tail) is.1 (refl, refl)) (λ u after h.
    mark_then _ 41 _ tail _ refl
    (mark_then _ 59 _ tail _ refl
    (blank_then _ 10 tail tail _ refl
    (no_token _ _ tail (a_create _ _ refl refl (create_of _ _ _ _ _ _ refl refl refl refl h refl refl))))))))))))))))

-- ---- CREATE TABLE m<r>

cell_read : (c : CellRef) (place : ℕ) (tail : List ℕ) → IsCellRef c → Reads (SpellsCellRef c) place (cell_ref_text c ++ tail) tail
cell_read c place tail is =
    subst (λ (text : List ℕ). Reads (SpellsCellRef c) place text tail) (sym (flat_4 (codes "a") (decimal c.alias) (codes ".") (name_text c.column) tail))
    (word_then (SpellsCellRef c) (97 ∷ decimal c.alias) kinds.Alias c.alias (46 ∷ (name_text c.column ++ tail)) tail place (alias_word c.alias is.0) refl
    (mark_then _ 46 _ tail _ refl
    (name_then _ c.column tail tail _ is.1 (λ p. no_token _ _ tail (cell_of _ _ _ refl refl refl)))))

cell_reads : (c : CellRef) (place : ℕ) (tail : List ℕ) → IsCellRef c → Ends tail → Reads (SpellsCellRef c) place (cell_ref_text c ++ tail) tail
cell_reads c place tail is ends = cell_read c place tail is

value_read : (s : Select) (place : ℕ) (tail : List ℕ) → IsSelect s → Reads (SpellsValue s) place (value_text s ++ tail) tail
value_read (selected.Cell c) place tail is = told_as (SpellsCellRef c) _ _ tail place (cell_read c place tail is) (λ u h. a_cell h)
value_read (selected.Call name args) place tail is =
    subst (λ (text : List ℕ). Reads (SpellsValue (selected.Call name args)) place text tail) (sym (flat_4 (name_text name) (codes "(") (parted (codes ", ") (map cell_ref_text args)) (codes ")") tail))
    (name_then _ name (codes "(" ++ (parted (codes ", ") (map cell_ref_text args) ++ (codes ")" ++ tail))) tail place is.0 (λ p.
    mark_then _ 40 _ tail _ refl
    (both_then (SpellsList is_comma SpellsCellRef args) _ _ (codes ")" ++ tail) tail _ (list_read is_comma (codes ", ") comma_gap cell_ref_text IsCellRef SpellsCellRef cell_reads args _ (codes ")" ++ tail) is.1 (refl, refl)) (λ u after h.
    mark_then _ 41 tail tail _ refl
    (no_token _ _ tail (a_call _ _ _ refl refl h refl))))))

item_read : (n : ℕ) (s : Select) (place : ℕ) (tail : List ℕ) → n ≤ greatest_number → IsSelect s → Ends tail → Reads (SpellsSelectItem greatest_number n s) place (item_text n s ++ tail) tail
item_read n s place tail le is ends =
    subst (λ (text : List ℕ). Reads (SpellsSelectItem greatest_number n s) place text tail) (sym (flat_3 (value_text s) (codes " AS c") (decimal n) tail))
    (both_then (SpellsValue s) _ _ (codes " AS c" ++ (decimal n ++ tail)) tail place (value_read s place (codes " AS c" ++ (decimal n ++ tail)) is) (λ u after h.
    blank_then _ 32 _ tail _ refl
    (word_then _ (codes "AS") kinds.As 0 _ tail _ as_word refl
    (blank_then _ 32 _ tail _ refl
    (word_then _ (99 ∷ decimal n) kinds.Column n tail tail _ (column_word n le) ends.0
    (no_token _ _ tail (item_of _ _ le h refl (eq_self n))))))))

-- where no word goes on, no number does
no_digit : (b : ℕ) → is_word_byte b ≡ false → is_digit b ≡ false
no_digit b e = grind (arith, nat_tests)

word_digit : (ys : List ℕ) → StopsAt is_word_byte ys → StopsAt is_digit ys
word_digit [] s = tt
word_digit (y ∷ ys) s = no_digit y s

one_is : decimal 1 ≡ codes "1"
one_is = decimal_digit 1 (omega arith)

select_read : (select : List Select) (place : ℕ) (tail : List ℕ) → Each select IsSelect → FitsCount select → Ends tail → Reads (SpellsSelect greatest_number select) place (select_text select ++ tail) tail
select_read [] place tail each room ends =
    subst (λ (w : List ℕ). Reads (SpellsSelect greatest_number []) place (w ++ tail) tail) one_is
    (number_then (SpellsSelect greatest_number []) 1 tail tail place (omega arith) (word_digit tail ends.0) (no_token _ _ tail (no_columns _ refl)))
select_read (s ∷ others) place tail each room ends =
    let rest : List ℕ = flat_map (λ other. codes ", " ++ other) (texts_from item_text 1 others) ++ tail in
    subst (λ (text : List ℕ). Reads (SpellsSelect greatest_number (s ∷ others)) place text tail) (sym (append_assoc (item_text 0 s) (flat_map (λ other. codes ", " ++ other) (texts_from item_text 1 others)) tail))
    (both_then (SpellsSelectItem greatest_number 0 s) _ _ rest tail place (item_read 0 s place rest (omega arith) (each s (here refl)) (first_ends others)) (λ u after h.
    told_as _ _ _ tail after (numbered_read item_text IsSelect (SpellsSelectItem greatest_number) item_read 1 others after tail (omega (arith, room)) (λ y m. each y (there m)) ends) (λ v m. columns_of h m)))
  where
    first_ends : (xs : List Select) → Ends (flat_map (λ other. codes ", " ++ other) (texts_from item_text 1 xs) ++ tail)
    first_ends [] = ends
    first_ends (x ∷ xs) = (refl, refl)

source_read : (n : ℕ) (table : List ℕ) (place : ℕ) (tail : List ℕ) → n ≤ greatest_number → IsScriptName table → Ends tail → Reads (SpellsFromSource greatest_number n table) place (source_alias_text n table ++ tail) tail
source_read n table place tail le is ends =
    subst (λ (text : List ℕ). Reads (SpellsFromSource greatest_number n table) place text tail) (sym (flat_4 (codes "source.") (name_text table) (codes " AS a") (decimal n) tail))
    (word_then _ (codes "source") kinds.Source 0 _ tail place source_word refl
    (mark_then _ 46 _ tail _ refl
    (name_then _ table (codes " AS a" ++ (decimal n ++ tail)) tail _ is (λ p.
    blank_then _ 32 _ tail _ refl
    (word_then _ (codes "AS") kinds.As 0 _ tail _ as_word refl
    (blank_then _ 32 _ tail _ refl
    (word_then _ (97 ∷ decimal n) kinds.Alias n tail tail _ (alias_word n le) ends.0
    (no_token _ _ tail (source_of _ _ _ _ _ le refl refl refl refl (eq_self n))))))))))

sources_read : (sources : List (List ℕ)) (place : ℕ) (tail : List ℕ) → OneOrMore IsScriptName sources → FitsCount sources → Ends tail → Reads (SpellsSources greatest_number sources) place (parted (codes ", ") (texts_from source_alias_text 0 sources) ++ tail) tail
sources_read [] place tail some room ends = absurd (some.0 refl)
sources_read (t ∷ others) place tail some room ends =
    let rest : List ℕ = flat_map (λ other. codes ", " ++ other) (texts_from source_alias_text 1 others) ++ tail in
    subst (λ (text : List ℕ). Reads (SpellsSources greatest_number (t ∷ others)) place text tail) (sym (append_assoc (source_alias_text 0 t) (flat_map (λ other. codes ", " ++ other) (texts_from source_alias_text 1 others)) tail))
    (both_then (SpellsFromSource greatest_number 0 t) _ _ rest tail place (source_read 0 t place rest (omega arith) (some.1 t (here refl)) (first_ends others)) (λ u after h.
    told_as _ _ _ tail after (numbered_read source_alias_text IsScriptName (SpellsFromSource greatest_number) source_read 1 others after tail (omega (arith, room)) (λ y m. some.1 y (there m)) ends) (λ v m. sources_of h m)))
  where
    first_ends : (xs : List (List ℕ)) → Ends (flat_map (λ other. codes ", " ++ other) (texts_from source_alias_text 1 xs) ++ tail)
    first_ends [] = ends
    first_ends (x ∷ xs) = (refl, refl)

equal_read : (e : Equal) (place : ℕ) (tail : List ℕ) → IsEqual e → Ends tail → Reads (SpellsEqual e) place (equal_text e ++ tail) tail
equal_read e place tail is ends =
    subst (λ (text : List ℕ). Reads (SpellsEqual e) place text tail) (sym (flat_3 (cell_ref_text e.left) (codes " = ") (cell_ref_text e.right) tail))
    (both_then (SpellsCellRef e.left) _ _ (codes " = " ++ (cell_ref_text e.right ++ tail)) tail place (cell_read e.left place (codes " = " ++ (cell_ref_text e.right ++ tail)) is.0) (λ u after h.
    blank_then _ 32 _ tail _ refl
    (mark_then _ 61 _ tail _ refl
    (blank_then _ 32 _ tail _ refl
    (told_as (SpellsCellRef e.right) _ _ tail _ (cell_read e.right _ tail is.1) (λ v k. equal_of _ h refl k))))))

where_read : {A : Type 0} (f : A → List ℕ) (P : A → Type 0) (R : A → List ScriptToken → Type 0) → ((x : A) (place : ℕ) (tail : List ℕ) → P x → Ends tail → Reads (R x) place (f x ++ tail) tail)
    → (xs : List A) (place : ℕ) (tail : List ℕ) → Each xs P → Ends tail → Reads (SpellsWhereClause R xs) place (where_clause_text (map f xs) ++ tail) tail
where_read f P R one' [] place tail each ends = no_token _ place tail no_where
where_read f P R one' (x ∷ xs) place tail each ends =
    blank_then _ 32 _ tail place refl
    (word_then _ (codes "WHERE") kinds.Where 0 _ tail _ where_word refl
    (blank_then _ 32 _ tail _ refl
    (told_as (SpellsList is_and R (x ∷ xs)) _ _ tail _ (list_read is_and (codes " AND ") and_gap f P R one' (x ∷ xs) _ tail ((λ e. cons_some e), each) ends) (λ v h. where_of _ refl h))))
  where
    cons_some : ¬ (x ∷ xs ≡ [])
    cons_some e = absurd cc

-- the condition begins with a blank, or nothing stands there
where_ends : {A : Type 0} (f : A → List ℕ) (xs : List A) (tail : List ℕ) → Ends tail → Ends (where_clause_text (map f xs) ++ tail)
where_ends f [] tail ends = ends
where_ends f (x ∷ xs) tail ends = (refl, refl)

match_read : (rule : ℕ) (select : List Select) (sources : List (List ℕ)) (equal : List Equal) (place : ℕ) (tail : List ℕ) → IsStep (made.MatchRows rule select sources equal)
    → Reads (SpellsStep greatest_number (made.MatchRows rule select sources equal)) place (match_text rule select sources equal ++ tail) tail
match_read rule select sources equal place tail is =
    let wh : List ℕ = where_clause_text (map equal_text equal) in
    let from : List ℕ = parted (codes ", ") (texts_from source_alias_text 0 sources) in
    subst (λ (text : List ℕ). Reads (SpellsStep greatest_number (made.MatchRows rule select sources equal)) place text tail)
    (sym (flat_8 (codes "CREATE TABLE m") (decimal rule) (codes " AS SELECT DISTINCT ") (select_text select) (codes " FROM ") from wh (codes ";\n") tail))
    (word_then _ (codes "CREATE") kinds.Create 0 _ tail place create_word refl
    (blank_then _ 32 _ tail _ refl
    (word_then _ (codes "TABLE") kinds.Table 0 _ tail _ table_word refl
    (blank_then _ 32 _ tail _ refl
    (word_then _ (109 ∷ decimal rule) kinds.Match rule (codes " AS SELECT DISTINCT " ++ (select_text select ++ (codes " FROM " ++ (from ++ (wh ++ (codes ";\n" ++ tail)))))) tail _ (match_word rule is.0) refl
    (blank_then _ 32 _ tail _ refl
    (word_then _ (codes "AS") kinds.As 0 _ tail _ as_word refl
    (blank_then _ 32 _ tail _ refl
    (word_then _ (codes "SELECT") kinds.Select 0 _ tail _ select_word refl
    (blank_then _ 32 _ tail _ refl
    (word_then _ (codes "DISTINCT") kinds.Distinct 0 _ tail _ distinct_word refl
    (blank_then _ 32 _ tail _ refl
    (both_then (SpellsSelect greatest_number select) _ _ (codes " FROM " ++ (from ++ (wh ++ (codes ";\n" ++ tail)))) tail _ (select_read select _ (codes " FROM " ++ (from ++ (wh ++ (codes ";\n" ++ tail)))) is.1.0 is.1.1 (refl, refl)) (λ u after h.
    blank_then _ 32 _ tail _ refl
    (word_then _ (codes "FROM") kinds.From 0 _ tail _ from_word refl
    (blank_then _ 32 _ tail _ refl
    (both_then (SpellsSources greatest_number sources) _ _ (wh ++ (codes ";\n" ++ tail)) tail _ (sources_read sources _ (wh ++ (codes ";\n" ++ tail)) is.2.0 is.2.1 (where_ends equal_text equal (codes ";\n" ++ tail) (refl, refl))) (λ v behind g.
    both_then (SpellsWhereClause SpellsEqual equal) _ _ (codes ";\n" ++ tail) tail _ (where_read equal_text IsEqual SpellsEqual equal_read equal _ (codes ";\n" ++ tail) is.3 (refl, refl)) (λ z last k.
    mark_then _ 59 _ tail _ refl
    (blank_then _ 10 tail tail _ refl
    (no_token _ _ tail (a_match _ _ refl refl (match_of _ _ _ _ _ _ refl refl refl refl h refl g k refl)))))))))))))))))))))))

-- ---- CREATE TABLE k<r>

test_read : (t : Test) (place : ℕ) (tail : List ℕ) → IsTest t → Ends tail → Reads (SpellsTest t) place (test_text t ++ tail) tail
test_read (tested.Columns other own) place tail is ends =
    subst (λ (text : List ℕ). Reads (SpellsTest (tested.Columns other own)) place text tail) (sym (flat_4 (codes "n.c") (decimal other) (codes " = m.c") (decimal own) tail))
    (word_then _ (codes "n") kinds.Other 0 _ tail place other_word refl
    (mark_then _ 46 _ tail _ refl
    (word_then _ (99 ∷ decimal other) kinds.Column other (codes " = m.c" ++ (decimal own ++ tail)) tail _ (column_word other is.0) refl
    (blank_then _ 32 _ tail _ refl
    (mark_then _ 61 _ tail _ refl
    (blank_then _ 32 _ tail _ refl
    (word_then _ (codes "m") kinds.Own 0 _ tail _ own_word refl
    (mark_then _ 46 _ tail _ refl
    (word_then _ (99 ∷ decimal own) kinds.Column own tail tail _ (column_word own is.1) ends.0
    (no_token _ _ tail (columns_are _ _ _ _ _ _ _ refl refl refl refl refl refl refl)))))))))))
test_read (tested.Literal own text) place tail is ends =
    subst (λ (all : List ℕ). Reads (SpellsTest (tested.Literal own text)) place all tail) (sym (flat_4 (codes "m.c") (decimal own) (codes " = ") (single_quoted text) tail))
    (word_then _ (codes "m") kinds.Own 0 _ tail place own_word refl
    (mark_then _ 46 _ tail _ refl
    (word_then _ (99 ∷ decimal own) kinds.Column own (codes " = " ++ (single_quoted text ++ tail)) tail _ (column_word own is.0) refl
    (blank_then _ 32 _ tail _ refl
    (mark_then _ 61 _ tail _ refl
    (blank_then _ 32 _ tail _ refl
    (text_then _ text tail tail _ is.1 ends.1 (λ p. no_token _ _ tail (text_is _ _ _ _ _ refl refl refl refl refl)))))))))

unless_read : (u : Unless) (place : ℕ) (tail : List ℕ) → IsUnless u → Ends tail → Reads (SpellsUnless u) place (unless_text u ++ tail) tail
unless_read u place tail is ends =
    let wh : List ℕ = where_clause_text (map test_text u.tests) in
    subst (λ (text : List ℕ). Reads (SpellsUnless u) place text tail) (sym (flat_5 (codes "NOT EXISTS (SELECT * FROM m") (decimal u.rule) (codes " AS n") wh (codes ")") tail))
    (word_then _ (codes "NOT") kinds.Not 0 _ tail place not_word refl
    (blank_then _ 32 _ tail _ refl
    (word_then _ (codes "EXISTS") kinds.Exists 0 _ tail _ exists_word refl
    (blank_then _ 32 _ tail _ refl
    (mark_then _ 40 _ tail _ refl
    (word_then _ (codes "SELECT") kinds.Select 0 _ tail _ select_word refl
    (blank_then _ 32 _ tail _ refl
    (mark_then _ 42 _ tail _ refl
    (blank_then _ 32 _ tail _ refl
    (word_then _ (codes "FROM") kinds.From 0 _ tail _ from_word refl
    (blank_then _ 32 _ tail _ refl
    (word_then _ (109 ∷ decimal u.rule) kinds.Match u.rule (codes " AS n" ++ (wh ++ (codes ")" ++ tail))) tail _ (match_word u.rule is.0) refl
    (blank_then _ 32 _ tail _ refl
    (word_then _ (codes "AS") kinds.As 0 _ tail _ as_word refl
    (blank_then _ 32 _ tail _ refl
    (word_then _ (codes "n") kinds.Other 0 (wh ++ (codes ")" ++ tail)) tail _ other_word (where_ends test_text u.tests (codes ")" ++ tail) (refl, refl)).0
    (both_then (SpellsWhereClause SpellsTest u.tests) _ _ (codes ")" ++ tail) tail _ (where_read test_text IsTest SpellsTest test_read u.tests _ (codes ")" ++ tail) is.1 (refl, refl)) (λ v after h.
    mark_then _ 41 tail tail _ refl
    (no_token _ _ tail (unless_of _ _ _ _ _ _ _ _ _ _ refl refl refl refl refl refl refl refl refl h refl))))))))))))))))))))

keep_read : (rule : ℕ) (unless : List Unless) (place : ℕ) (tail : List ℕ) → IsStep (made.KeepRows rule unless) → Reads (SpellsStep greatest_number (made.KeepRows rule unless)) place (keep_text rule unless ++ tail) tail
keep_read rule unless place tail is =
    let all : List ℕ = parted (codes " AND ") (map unless_text unless) in
    subst (λ (text : List ℕ). Reads (SpellsStep greatest_number (made.KeepRows rule unless)) place text tail)
    (sym (flat_7 (codes "CREATE TABLE k") (decimal rule) (codes " AS SELECT * FROM m") (decimal rule) (codes " AS m WHERE ") all (codes ";\n") tail))
    (word_then _ (codes "CREATE") kinds.Create 0 _ tail place create_word refl
    (blank_then _ 32 _ tail _ refl
    (word_then _ (codes "TABLE") kinds.Table 0 _ tail _ table_word refl
    (blank_then _ 32 _ tail _ refl
    (word_then _ (107 ∷ decimal rule) kinds.Keep rule (codes " AS SELECT * FROM m" ++ (decimal rule ++ (codes " AS m WHERE " ++ (all ++ (codes ";\n" ++ tail))))) tail _ (keep_word rule is.0) refl
    (blank_then _ 32 _ tail _ refl
    (word_then _ (codes "AS") kinds.As 0 _ tail _ as_word refl
    (blank_then _ 32 _ tail _ refl
    (word_then _ (codes "SELECT") kinds.Select 0 _ tail _ select_word refl
    (blank_then _ 32 _ tail _ refl
    (mark_then _ 42 _ tail _ refl
    (blank_then _ 32 _ tail _ refl
    (word_then _ (codes "FROM") kinds.From 0 _ tail _ from_word refl
    (blank_then _ 32 _ tail _ refl
    (word_then _ (109 ∷ decimal rule) kinds.Match rule (codes " AS m WHERE " ++ (all ++ (codes ";\n" ++ tail))) tail _ (match_word rule is.0) refl
    (blank_then _ 32 _ tail _ refl
    (word_then _ (codes "AS") kinds.As 0 _ tail _ as_word refl
    (blank_then _ 32 _ tail _ refl
    (word_then _ (codes "m") kinds.Own 0 _ tail _ own_word refl
    (blank_then _ 32 _ tail _ refl
    (word_then _ (codes "WHERE") kinds.Where 0 _ tail _ where_word refl
    (blank_then _ 32 _ tail _ refl
    (both_then (SpellsList is_and SpellsUnless unless) _ _ (codes ";\n" ++ tail) tail _ (list_read is_and (codes " AND ") and_gap unless_text IsUnless SpellsUnless unless_read unless _ (codes ";\n" ++ tail) is.1 (refl, refl)) (λ u after h.
    mark_then _ 59 _ tail _ refl
    (blank_then _ 10 tail tail _ refl
    (no_token _ _ tail (a_keep _ _ refl refl (keep_of _ _ _ _ _ _ _ _ _ _ is.0 (eq_self rule) refl refl refl refl (eq_self rule) refl refl refl h refl))))))))))))))))))))))))))))

-- ---- INSERT

out_read : (rule : ℕ) → rule ≤ greatest_number → (o : Out) (place : ℕ) (tail : List ℕ) → IsOut o → Ends tail → Reads (SpellsOut rule o) place (out_text rule o ++ tail) tail
out_read rule le (outs.Column n) place tail is ends =
    word_then _ (codes "m") kinds.Own 0 _ tail place own_word refl
    (mark_then _ 46 _ tail _ refl
    (word_then _ (99 ∷ decimal n) kinds.Column n tail tail _ (column_word n is) ends.0
    (no_token _ _ tail (column_out_of _ _ _ refl refl refl))))
out_read rule le (outs.Literal text) place tail is ends = text_then _ text tail tail place is ends.1 (λ p. no_token _ _ tail (text_out_of _ refl))
out_read rule le (outs.Skolem v) place tail is ends =
    subst (λ (text : List ℕ). Reads (SpellsOut rule (outs.Skolem v)) place text tail) (sym (flat_5 (codes "SKOLEM(") (decimal rule) (codes ", ") (decimal v) (codes ", m.place)") tail))
    (word_then _ (codes "SKOLEM") kinds.Skolem 0 _ tail place skolem_word refl
    (mark_then _ 40 _ tail _ refl
    (number_then _ rule (codes ", " ++ (decimal v ++ (codes ", m.place)" ++ tail))) tail _ le refl
    (mark_then _ 44 _ tail _ refl
    (blank_then _ 32 _ tail _ refl
    (number_then _ v (codes ", m.place)" ++ tail) tail _ is refl
    (mark_then _ 44 _ tail _ refl
    (blank_then _ 32 _ tail _ refl
    (word_then _ (codes "m") kinds.Own 0 _ tail _ own_word refl
    (mark_then _ 46 _ tail _ refl
    (word_then _ (codes "place") kinds.Place 0 _ tail _ place_word refl
    (mark_then _ 41 tail tail _ refl
    (no_token _ _ tail (skolem_out_of _ _ _ _ _ _ _ _ _ _ refl refl (eq_self rule) refl refl refl refl refl refl refl))))))))))))))

-- the end of an insert step: the kept matches of a rule, or all
abbrev InsertEnd : Bool → ℕ → List ScriptToken → Type 0
InsertEnd kept rule v =
    (t : ScriptToken) × (a : ScriptToken) × (m : ScriptToken) × (e : ScriptToken) × (v ≡ t ∷ a ∷ m ∷ e ∷ []) × (has_number is_table number rule t ≡ true) × (of_kind kinds.Keep t ≡ kept)
    × (of_kind kinds.As a ≡ true) × (of_kind kinds.Own m ≡ true) × (of_kind kinds.Semicolon e ≡ true)

end_read : (kept : Bool) (rule : ℕ) (place : ℕ) (tail : List ℕ) → rule ≤ greatest_number → Reads (InsertEnd kept rule) place (table_letter kept ++ (decimal rule ++ (codes " AS m;\n" ++ tail))) tail
end_read true rule place tail le =
    word_then _ (107 ∷ decimal rule) kinds.Keep rule (codes " AS m;\n" ++ tail) tail place (keep_word rule le) refl
    (blank_then _ 32 _ tail _ refl
    (word_then _ (codes "AS") kinds.As 0 _ tail _ as_word refl
    (blank_then _ 32 _ tail _ refl
    (word_then _ (codes "m") kinds.Own 0 _ tail _ own_word refl
    (mark_then _ 59 _ tail _ refl
    (blank_then _ 10 tail tail _ refl
    (no_token _ _ tail (_, _, _, _, refl, eq_self rule, refl, refl, refl, refl))))))))
end_read false rule place tail le =
    word_then _ (109 ∷ decimal rule) kinds.Match rule (codes " AS m;\n" ++ tail) tail place (match_word rule le) refl
    (blank_then _ 32 _ tail _ refl
    (word_then _ (codes "AS") kinds.As 0 _ tail _ as_word refl
    (blank_then _ 32 _ tail _ refl
    (word_then _ (codes "m") kinds.Own 0 _ tail _ own_word refl
    (mark_then _ 59 _ tail _ refl
    (blank_then _ 10 tail tail _ refl
    (no_token _ _ tail (_, _, _, _, refl, eq_self rule, refl, refl, refl, refl))))))))

insert_made : (kept : Bool) (rule : ℕ) (cells : List Out) (i into side d n s f : ScriptToken) (u v : List ScriptToken) → rule ≤ greatest_number → of_kind kinds.Insert i ≡ true → of_kind kinds.Into into ≡ true → of_kind kinds.Target side ≡ true → of_kind kinds.Dot d ≡ true
    → of_kind kinds.Name n ≡ true → of_kind kinds.Select s ≡ true → SpellsList is_comma (SpellsOut rule) cells u → of_kind kinds.From f ≡ true → InsertEnd kept rule v
    → SpellsStep greatest_number (made.InsertRows n.text rule kept cells) (i ∷ into ∷ side ∷ d ∷ n ∷ s ∷ (u ++ f ∷ v))
insert_made kept rule cells i into side d n s f u v le iw intow sidew dw nw sw h fw (t, a, m, e, is, tw, kw, aw, mw, ew) =
    subst (λ (w : List ScriptToken). SpellsStep greatest_number (made.InsertRows n.text rule kept cells) (i ∷ into ∷ side ∷ d ∷ n ∷ s ∷ (u ++ f ∷ w))) (sym is)
    (subst (λ (k : Bool). SpellsStep greatest_number (made.InsertRows n.text rule k cells) (i ∷ into ∷ side ∷ d ∷ n ∷ s ∷ (u ++ f ∷ t ∷ a ∷ m ∷ e ∷ []))) kw
    (an_insert (insert_of i into side d n s f t a m e le iw intow sidew dw nw sw h fw tw aw mw ew)))

insert_read : (table : List ℕ) (rule : ℕ) (kept : Bool) (cells : List Out) (place : ℕ) (tail : List ℕ) → IsStep (made.InsertRows table rule kept cells)
    → Reads (SpellsStep greatest_number (made.InsertRows table rule kept cells)) place (insert_text table rule kept cells ++ tail) tail
insert_read table rule kept cells place tail is =
    let cs : List ℕ = parted (codes ", ") (map (out_text rule) cells) in
    let end : List ℕ = table_letter kept ++ (decimal rule ++ (codes " AS m;\n" ++ tail)) in
    subst (λ (text : List ℕ). Reads (SpellsStep greatest_number (made.InsertRows table rule kept cells)) place text tail)
    (sym (flat_8 (codes "INSERT INTO target.") (name_text table) (codes " SELECT ") cs (codes " FROM ") (table_letter kept) (decimal rule) (codes " AS m;\n") tail))
    (word_then _ (codes "INSERT") kinds.Insert 0 _ tail place insert_word refl
    (blank_then _ 32 _ tail _ refl
    (word_then _ (codes "INTO") kinds.Into 0 _ tail _ into_word refl
    (blank_then _ 32 _ tail _ refl
    (word_then _ (codes "target") kinds.Target 0 _ tail _ target_word refl
    (mark_then _ 46 _ tail _ refl
    (name_then _ table (codes " SELECT " ++ (cs ++ (codes " FROM " ++ end))) tail _ is.0 (λ p.
    blank_then _ 32 _ tail _ refl
    (word_then _ (codes "SELECT") kinds.Select 0 _ tail _ select_word refl
    (blank_then _ 32 _ tail _ refl
    (both_then (SpellsList is_comma (SpellsOut rule) cells) _ _ (codes " FROM " ++ end) tail _ (list_read is_comma (codes ", ") comma_gap (out_text rule) IsOut (SpellsOut rule) (out_read rule is.1) cells _ (codes " FROM " ++ end) is.2 (refl, refl)) (λ u after h.
    blank_then _ 32 _ tail _ refl
    (word_then _ (codes "FROM") kinds.From 0 _ tail _ from_word refl
    (blank_then _ 32 _ tail _ refl
    (told_as (InsertEnd kept rule) _ end tail _ (end_read kept rule _ tail is.1) (λ v g. insert_made kept rule cells _ _ _ _ _ _ _ u v is.1 refl refl refl refl refl refl h refl g))))))))))))))))

-- ---- scripts

step_read : (s : Step) (place : ℕ) (tail : List ℕ) → IsStep s → Reads (SpellsStep greatest_number s) place (step_text s ++ tail) tail
step_read (made.Create table columns) place tail is = create_read table columns place tail is
step_read (made.MatchRows rule select sources equal) place tail is = match_read rule select sources equal place tail is
step_read (made.KeepRows rule unless) place tail is = keep_read rule unless place tail is
step_read (made.InsertRows table rule kept cells) place tail is = insert_read table rule kept cells place tail is

steps_read : (ss : List Step) (place : ℕ) → Each ss IsStep → Reads (SpellsScript greatest_number ss) place (flat_map step_text ss) []
steps_read [] place each = no_token _ place [] no_more
steps_read (s ∷ ss) place each =
    both_then (SpellsStep greatest_number s) _ _ (flat_map step_text ss) [] place (step_read s place (flat_map step_text ss) (each s (here refl))) (λ u after h.
    told_as (SpellsScript greatest_number ss) _ _ [] after (steps_read ss after (λ y m. each y (there m))) (λ v m. one_more h m))

pub printed_read : (s : Script) → IsPrintableScript s → IsScriptText (script_text s) s
printed_read s is = let r = reads_all (SpellsScript greatest_number s.steps) (script_text s) (steps_read s.steps 0 is) in record { no_stop = r.no_stop; spelled = r.has }

-- what a call gave is read again
pub read_again : {E : Type 0} (r : Result (List ℕ) E) (s : Script) (steps : List Step) (k : ℕ) (bytes : List ℕ) → IfOk r (λ t. t ≡ bytes) → bytes ≡ flat_map step_text (take k steps) → steps ≡ s.steps → length steps ≤ k
    → IfOk r (λ t. IsPrintableScript s → IsScriptText t s)
read_again (Ok t) s steps k bytes e is same le =
    λ p. subst (λ (w : List ℕ). IsScriptText w s) (sym (e ∙ is ∙ ap (flat_map step_text) (take_all k steps le) ∙ ap (flat_map step_text) same)) (printed_read s p)
read_again (Err f) s steps k bytes e is same le = tt
