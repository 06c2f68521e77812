-- What is read is spelled.
use Rattle.std.proofs.Common.{◌≡◌, ℕ, ◌≤◌, Bool, true, List, [], ◌∷◌, ◌++◌, Option, Some, None, refl, sym, ap, ◌∙◌, subst, arith}
use Rattle.std.specs.Prelude.{nat_eq, nat_le}
use Rattle.std.proofs.lemmas.List.{append-nil}
use Rattle.std.proofs.lemmas.Bool.Decides.{nat_tests}
use Rattle.std.proofs.lemmas.Bool.{and_parts}
use Rattle.dx_grammar.specs.Readers.{Reader, give, token, Many}
use Rattle.dx_grammar.specs.Lists.{past, list_reader, Past, past_one, SpellsList, list_of}
use Rattle.dx_grammar.specs.Numbers.{Knower, ◌then◌, always, number_token, counted_reader, knowing, passes_with_number, has_number, may_be, SpellsNumbered}
use Rattle.dx_grammar.proofs.Spelled.{Finds, give_finds, then_finds, last_finds, head_finds, either_finds, many_finds, finds_wider}
use Rattle.dx_grammar.proofs.Lists.{past_finds, list_finds}
use Rattle.dx_grammar.proofs.Counted.{counted_finds, le_test}
use Rattle.dx_grammar.proofs.Learned.{Told, knowing_finds}
use Rattle.dx_grammar.proofs.Knowing.{same_if}
use Rattle.dx_script_tokens.specs.declared.scanner.ScriptToken.{ScriptToken}
use Rattle.dx_script_tokens.specs.declared.kinds.ScriptKind.TheVariants as kinds
use Rattle.dx_script.specs.declared.form.Out.{Out}
use Rattle.dx_script_text.specs.Grammar.{of_kind, number, match_is, alias_is, column_is, number_is, is_table, is_comma, is_and}
use Rattle.dx_script_text.specs.Reading.{declared_reader, create_reader, alias_cell_reader, select_call_reader, cell_value_reader, value_reader, select_item_reader, comma_item, items_reader, no_items, select_reader, from_source_reader, comma_source, sources_reader, equal_reader, equals_reader, where_clause_reader, matched_reader, match_reader, columns_reader, text_reader, test_reader, tests_reader, optional_tests, unless_reader, keep_tail_reader, keep_reader, text_out_reader, column_out_reader, skolem_tail_reader, skolem_reader, out_reader, comma_out, outs_reader, insert_end_reader, insert_tail_reader, insert_reader, table_reader, created_reader, step_reader, begins_step, script_reader, skolem_cell, insert_step_of}
use Rattle.dx_script_text.specs.Spelling.{Of, SpellsDeclared, declared_of, SpellsCreate, create_of, SpellsCellRef, cell_of, SpellsValue, a_cell, a_call, SpellsSelectItem, item_of, SpellsSelect, no_columns, columns_of, SpellsFromSource, source_of, SpellsSources, sources_of, SpellsEqual, equal_of, SpellsWhereClause, no_where, where_of, SpellsMatch, match_of, SpellsTest, columns_are, text_is, SpellsUnless, unless_of, SpellsKeep, keep_of, SpellsOut, text_out_of, column_out_of, skolem_out_of, SpellsInsert, insert_of, SpellsStep, a_create, a_match, a_keep, an_insert, SpellsScript}

-- ---- CREATE TABLE target

declared_finds : Finds declared_reader SpellsDeclared
unfolding declared_reader
declared_finds = head_finds (of_kind kinds.Name) _ SpellsDeclared (λ n nw. head_finds (of_kind kinds.Type) _ _ (λ t tw. give_finds _ _ (declared_of n t nw tw)))

create_finds : Finds create_reader SpellsCreate
unfolding create_reader
create_finds =
    head_finds (of_kind kinds.Target) _ SpellsCreate (λ s sw. head_finds (of_kind kinds.Dot) _ _ (λ d dw. head_finds (of_kind kinds.Name) _ _ (λ n nw. head_finds (of_kind kinds.Open) _ _ (λ o ow.
    then_finds (list_reader is_comma declared_reader) _ (SpellsList is_comma SpellsDeclared) _ (list_finds is_comma declared_reader SpellsDeclared declared_finds) (λ cs u h.
    head_finds (of_kind kinds.Close) _ _ (λ c cw. head_finds (of_kind kinds.Semicolon) _ _ (λ e ew. give_finds _ _ (create_of s d n o c e sw dw nw ow h cw ew))))))))

-- ---- CREATE TABLE m<r>

cell_finds : Finds alias_cell_reader SpellsCellRef
unfolding alias_cell_reader
cell_finds = head_finds (of_kind kinds.Alias) _ SpellsCellRef (λ a aw. head_finds (of_kind kinds.Dot) _ _ (λ d dw. head_finds (of_kind kinds.Name) _ _ (λ c cw. give_finds _ _ (cell_of a d c aw dw cw))))

call_finds : Finds select_call_reader SpellsValue
unfolding select_call_reader
call_finds =
    head_finds (of_kind kinds.Name) _ SpellsValue (λ n nw. head_finds (of_kind kinds.Open) _ _ (λ o ow. then_finds (list_reader is_comma alias_cell_reader) _ (SpellsList is_comma SpellsCellRef) _ (list_finds is_comma alias_cell_reader SpellsCellRef cell_finds) (λ args u h.
    head_finds (of_kind kinds.Close) _ _ (λ c cw. give_finds _ _ (a_call n o c nw ow h cw)))))

value_finds : Finds value_reader SpellsValue
unfolding value_reader cell_value_reader
value_finds = either_finds (of_kind kinds.Alias) _ select_call_reader SpellsValue (last_finds alias_cell_reader _ SpellsCellRef SpellsValue cell_finds (λ c u h. a_cell h)) call_finds

item_finds : (top n : ℕ) → n ≤ top → Finds (select_item_reader n) (SpellsSelectItem top n)
unfolding select_item_reader
item_finds top n le = then_finds value_reader _ SpellsValue (SpellsSelectItem top n) value_finds (λ c u h. head_finds (of_kind kinds.As) _ _ (λ a aw. head_finds (column_is n) _ _ (λ k kw. give_finds _ _ (item_of a k le h aw kw))))

comma_item_finds : (top n : ℕ) → n ≤ top → Finds (comma_item n) (Past is_comma (SpellsSelectItem top n))
unfolding comma_item
comma_item_finds top n le = past_finds is_comma (select_item_reader n) (SpellsSelectItem top n) (item_finds top n le)

items_finds : (top : ℕ) → Finds (items_reader top) (SpellsSelect top)
unfolding items_reader
items_finds top =
    then_finds (select_item_reader 0) _ (SpellsSelectItem top 0) (SpellsSelect top) (item_finds top 0 (omega arith)) (λ first u h.
    last_finds (counted_reader is_comma comma_item top 1) (λ others. first ∷ others) (SpellsNumbered (λ n. Past is_comma (SpellsSelectItem top n)) 1) (λ items v. SpellsSelect top items (u ++ v))
    (counted_finds top is_comma comma_item (λ n. Past is_comma (SpellsSelectItem top n)) (comma_item_finds top) top 1 (omega arith)) (λ others v m. columns_of h m))

no_items_finds : (top : ℕ) → Finds no_items (SpellsSelect top)
unfolding no_items
no_items_finds top = head_finds (number_is 1) _ (SpellsSelect top) (λ d dw. give_finds _ _ (no_columns d dw))

select_finds : (top : ℕ) → Finds (select_reader top) (SpellsSelect top)
unfolding select_reader
select_finds top = either_finds (number_is 1) no_items (items_reader top) (SpellsSelect top) (no_items_finds top) (items_finds top)

source_finds : (top n : ℕ) → n ≤ top → Finds (from_source_reader n) (SpellsFromSource top n)
unfolding from_source_reader
source_finds top n le =
    head_finds (of_kind kinds.Source) _ (SpellsFromSource top n) (λ s sw. head_finds (of_kind kinds.Dot) _ _ (λ d dw. head_finds (of_kind kinds.Name) _ _ (λ t tw. head_finds (of_kind kinds.As) _ _ (λ a aw. head_finds (alias_is n) _ _ (λ k kw. give_finds _ _ (source_of s d t a k le sw dw tw aw kw))))))

comma_source_finds : (top n : ℕ) → n ≤ top → Finds (comma_source n) (Past is_comma (SpellsFromSource top n))
unfolding comma_source
comma_source_finds top n le = past_finds is_comma (from_source_reader n) (SpellsFromSource top n) (source_finds top n le)

sources_finds : (top : ℕ) → Finds (sources_reader top) (SpellsSources top)
unfolding sources_reader
sources_finds top =
    then_finds (from_source_reader 0) _ (SpellsFromSource top 0) (SpellsSources top) (source_finds top 0 (omega arith)) (λ first u h.
    last_finds (counted_reader is_comma comma_source top 1) (λ others. first ∷ others) (SpellsNumbered (λ n. Past is_comma (SpellsFromSource top n)) 1) (λ items v. SpellsSources top items (u ++ v))
    (counted_finds top is_comma comma_source (λ n. Past is_comma (SpellsFromSource top n)) (comma_source_finds top) top 1 (omega arith)) (λ others v m. sources_of h m))

equal_finds : Finds equal_reader SpellsEqual
unfolding equal_reader
equal_finds = then_finds alias_cell_reader _ SpellsCellRef SpellsEqual cell_finds (λ l u h. head_finds (of_kind kinds.Equal) _ _ (λ s sw. last_finds alias_cell_reader _ SpellsCellRef _ cell_finds (λ r v g. equal_of s h sw g)))

where_finds : {A : Type 0} (r : Reader ScriptToken A) (R : A → List ScriptToken → Type 0) → Finds r R → Finds (past (of_kind kinds.Where) (list_reader is_and r)) (SpellsWhereClause R)
where_finds r R one' = head_finds (of_kind kinds.Where) _ (SpellsWhereClause R) (λ k kw. finds_wider (list_reader is_and r) (SpellsList is_and R) _ (list_finds is_and r R one') (λ items u h. where_of k kw h))

optional_where_finds : Finds where_clause_reader (SpellsWhereClause SpellsEqual)
unfolding where_clause_reader equals_reader
optional_where_finds = either_finds (of_kind kinds.Where) _ (give []) (SpellsWhereClause SpellsEqual) (where_finds equal_reader SpellsEqual equal_finds) (give_finds [] (SpellsWhereClause SpellsEqual) no_where)

match_finds : (top : ℕ) → Finds (match_reader top) (SpellsMatch top)
unfolding match_reader matched_reader
match_finds top =
    head_finds (of_kind kinds.Match) _ (SpellsMatch top) (λ m mw. head_finds (of_kind kinds.As) _ _ (λ a aw. head_finds (of_kind kinds.Select) _ _ (λ s sw. head_finds (of_kind kinds.Distinct) _ _ (λ d dw.
    then_finds (select_reader top) _ (SpellsSelect top) _ (select_finds top) (λ chosen u h. head_finds (of_kind kinds.From) _ _ (λ f fw.
    then_finds (sources_reader top) _ (SpellsSources top) _ (sources_finds top) (λ from v g.
    then_finds where_clause_reader _ (SpellsWhereClause SpellsEqual) _ optional_where_finds (λ equals z k.
    head_finds (of_kind kinds.Semicolon) _ _ (λ e ew. give_finds _ _ (match_of m a s d f e mw aw sw dw h fw g k ew))))))))))

-- ---- CREATE TABLE k<r>

test_finds : Finds test_reader SpellsTest
unfolding test_reader columns_reader text_reader
test_finds =
    either_finds (of_kind kinds.Other) _ _ SpellsTest
    (head_finds (of_kind kinds.Other) _ SpellsTest (λ n nw. head_finds (of_kind kinds.Dot) _ _ (λ d dw. head_finds (of_kind kinds.Column) _ _ (λ c cw. head_finds (of_kind kinds.Equal) _ _ (λ e ew. head_finds (of_kind kinds.Own) _ _ (λ m mw. head_finds (of_kind kinds.Dot) _ _ (λ p pw. head_finds (of_kind kinds.Column) _ _ (λ o ow.
    give_finds _ _ (columns_are n d c e m p o nw dw cw ew mw pw ow)))))))))
    (head_finds (of_kind kinds.Own) _ SpellsTest (λ m mw. head_finds (of_kind kinds.Dot) _ _ (λ d dw. head_finds (of_kind kinds.Column) _ _ (λ c cw. head_finds (of_kind kinds.Equal) _ _ (λ e ew. head_finds (of_kind kinds.Text) _ _ (λ t tw. give_finds _ _ (text_is m d c e t mw dw cw ew tw)))))))

optional_tests_finds : Finds optional_tests (SpellsWhereClause SpellsTest)
unfolding optional_tests tests_reader
optional_tests_finds = either_finds (of_kind kinds.Where) _ (give []) (SpellsWhereClause SpellsTest) (where_finds test_reader SpellsTest test_finds) (give_finds [] (SpellsWhereClause SpellsTest) no_where)

unless_finds : Finds unless_reader SpellsUnless
unfolding unless_reader
unless_finds =
    head_finds (of_kind kinds.Not) _ SpellsUnless (λ n nw. head_finds (of_kind kinds.Exists) _ _ (λ x xw. head_finds (of_kind kinds.Open) _ _ (λ o ow. head_finds (of_kind kinds.Select) _ _ (λ s sw. head_finds (of_kind kinds.Star) _ _ (λ star starw. head_finds (of_kind kinds.From) _ _ (λ f fw.
    head_finds (of_kind kinds.Match) _ _ (λ t tw. head_finds (of_kind kinds.As) _ _ (λ a aw. head_finds (of_kind kinds.Other) _ _ (λ alias lw. then_finds optional_tests _ (SpellsWhereClause SpellsTest) _ optional_tests_finds (λ made u h.
    head_finds (of_kind kinds.Close) _ _ (λ c cw. give_finds _ _ (unless_of n x o s star f t a alias c nw xw ow sw starw fw tw aw lw h cw))))))))))))

pub eq_self : (n : ℕ) → nat_eq n n ≡ true
eq_self n = grind (arith, nat_tests)

is_numbered : (p : ScriptToken → Bool) (x : ScriptToken) → p x ≡ true → has_number p number x.number x ≡ true
is_numbered p x e = rw (e, eq_self x.number) refl

keep_finds : (top : ℕ) → Finds (keep_reader top) (SpellsKeep top)
unfolding keep_reader keep_tail_reader
keep_finds top =
    head_finds (passes_with_number (of_kind kinds.Keep) number top None) _ (SpellsKeep top) (λ k kw.
    let both = and_parts (of_kind kinds.Keep k) (nat_le k.number top) kw in
    head_finds (of_kind kinds.As) _ _ (λ a aw. head_finds (of_kind kinds.Select) _ _ (λ s sw. head_finds (of_kind kinds.Star) _ _ (λ star starw. head_finds (of_kind kinds.From) _ _ (λ f fw. head_finds (match_is k.number) _ _ (λ m mw. head_finds (of_kind kinds.As) _ _ (λ b bw. head_finds (of_kind kinds.Own) _ _ (λ alias lw. head_finds (of_kind kinds.Where) _ _ (λ wh ww.
    then_finds (list_reader is_and unless_reader) _ (SpellsList is_and SpellsUnless) _ (list_finds is_and unless_reader SpellsUnless unless_finds) (λ made u h. head_finds (of_kind kinds.Semicolon) _ _ (λ e ew.
    give_finds _ _ (keep_of k a s star f m b alias wh e (le_test k.number top both.1) (is_numbered (of_kind kinds.Keep) k both.0) aw sw starw fw mw bw lw ww h ew))))))))))))

-- ---- INSERT

-- what is told where nothing is learned
same_told : (top : ℕ) (known : Option ℕ) (x : Out) (u : List ScriptToken) → ((k : ℕ) → SpellsOut k x u) → Told top known SpellsOut (x, known) u
same_told top known x u h k may = (may, h k)

text_out_finds : (top : ℕ) (known : Option ℕ) → Finds (always text_out_reader known) (Told top known SpellsOut)
unfolding text_out_reader
text_out_finds top known = last_finds _ (λ x. (x, known)) (λ x u. (k : ℕ) → SpellsOut k x u) _ (head_finds (of_kind kinds.Text) _ _ (λ t tw. give_finds _ _ (λ k. text_out_of t tw))) (λ x u h. same_told top known x u h)

column_out_finds : (top : ℕ) (known : Option ℕ) → Finds (always column_out_reader known) (Told top known SpellsOut)
unfolding column_out_reader
column_out_finds top known =
    last_finds _ (λ x. (x, known)) (λ x u. (k : ℕ) → SpellsOut k x u) _ (head_finds (of_kind kinds.Own) _ _ (λ m mw. head_finds (of_kind kinds.Dot) _ _ (λ d dw. head_finds (of_kind kinds.Column) _ _ (λ c cw. give_finds _ _ (λ k. column_out_of m d c mw dw cw))))) (λ x u h. same_told top known x u h)

-- a token that depends on no number
always_head : {B : Type 0} (p : ScriptToken → Bool) (known : Option ℕ) (f : ScriptToken → Knower ScriptToken B) (Q : B × Option ℕ → List ScriptToken → Type 0) → ((x : ScriptToken) → p x ≡ true → Finds (f x known) (λ b v. Q b (x ∷ v))) → Finds ((always (token p) then f) known) Q
always_head p known f Q rest =
    then_finds (always (token p) known) _ (λ v u. (v.1 ≡ known) × (p v.0 ≡ true) × (u ≡ v.0 ∷ [])) Q (head_finds p _ _ (λ x e. give_finds (x, known) _ (refl, e, refl)))
    (λ v u h. rw (h.0, h.2) (rest v.0 h.1))

-- a number that may be the rule's
number_head : {B : Type 0} (top : ℕ) (p : ScriptToken → Bool) (known : Option ℕ) (f : ScriptToken → Knower ScriptToken B) (Q : B × Option ℕ → List ScriptToken → Type 0)
    → ((x : ScriptToken) → p x ≡ true → may_be top known x.number ≡ true → Finds (f x (Some x.number)) (λ b v. Q b (x ∷ v))) → Finds ((number_token p number top then f) known) Q
number_head top p known f Q rest =
    then_finds (number_token p number top known) _ (λ v u. (v.1 ≡ Some v.0.number) × (passes_with_number p number top known v.0 ≡ true) × (u ≡ v.0 ∷ [])) Q (head_finds (passes_with_number p number top known) _ _ (λ x e. give_finds (x, Some x.number) _ (refl, e, refl)))
    (λ v u h. let both = and_parts (p v.0) (may_be top known v.0.number) h.1 in rw (h.0, h.2) (rest v.0 both.0 both.1))

-- the number that a token has is the one that may be
number_of : (p : ScriptToken → Bool) (x : ScriptToken) (k : ℕ) → p x ≡ true → nat_eq k x.number ≡ true → has_number p number k x ≡ true
number_of p x k e is = rw (e, same_if k x.number is, eq_self x.number) refl

may_moved : (top : ℕ) (known : Option ℕ) (n k : ℕ) → may_be top known n ≡ true → nat_eq k n ≡ true → may_be top known k ≡ true
may_moved top known n k e is = ap (may_be top known) (same_if k n is) ∙ e

skolem_tail_finds : Finds skolem_tail_reader (λ v u. (c : ScriptToken) × (n : ScriptToken) × (d : ScriptToken) × (m : ScriptToken) × (p : ScriptToken) × (q : ScriptToken) × (e : ScriptToken) × (u ≡ c ∷ n ∷ d ∷ m ∷ p ∷ q ∷ e ∷ []) × (v ≡ n.number) × Of kinds.Comma c × Of kinds.Number n × Of kinds.Comma d × Of kinds.Own m × Of kinds.Dot p × Of kinds.Place q × Of kinds.Close e)
unfolding skolem_tail_reader
skolem_tail_finds =
    head_finds (of_kind kinds.Comma) _ _ (λ c cw. head_finds (of_kind kinds.Number) _ _ (λ n nw. head_finds (of_kind kinds.Comma) _ _ (λ d dw. head_finds (of_kind kinds.Own) _ _ (λ m mw. head_finds (of_kind kinds.Dot) _ _ (λ p pw. head_finds (of_kind kinds.Place) _ _ (λ q qw. head_finds (of_kind kinds.Close) _ _ (λ e ew.
    give_finds _ _ (c, n, d, m, p, q, e, refl, refl, cw, nw, dw, mw, pw, qw, ew))))))))

skolem_finds : (top : ℕ) (known : Option ℕ) → Finds (skolem_reader top known) (Told top known SpellsOut)
unfolding skolem_reader
skolem_finds top known =
    always_head (of_kind kinds.Skolem) known _ _ (λ s sw. always_head (of_kind kinds.Open) known _ _ (λ o ow. number_head top (of_kind kinds.Number) known _ _ (λ n nw may.
    then_finds (always skolem_tail_reader (Some n.number)) _ (λ w u. (w.1 ≡ Some n.number) × _) _
    (last_finds skolem_tail_reader (λ v. (v, Some n.number)) _ (λ w u. (w.1 ≡ Some n.number) × _) skolem_tail_finds (λ v u h. (refl, h)))
    (λ v u h. give_finds (skolem_cell v.0, v.1) _ (made s o n sw ow nw may v u h))))) where
      made : (s o n : ScriptToken) → Of kinds.Skolem s → Of kinds.Open o → Of kinds.Number n → may_be top known n.number ≡ true → (v : ℕ × Option ℕ) (u : List ScriptToken)
          → (v.1 ≡ Some n.number) × ((c : ScriptToken) × (x : ScriptToken) × (d : ScriptToken) × (m : ScriptToken) × (p : ScriptToken) × (q : ScriptToken) × (e : ScriptToken) × (u ≡ c ∷ x ∷ d ∷ m ∷ p ∷ q ∷ e ∷ []) × (v.0 ≡ x.number) × Of kinds.Comma c × Of kinds.Number x × Of kinds.Comma d × Of kinds.Own m × Of kinds.Dot p × Of kinds.Place q × Of kinds.Close e)
          → Told top known SpellsOut (skolem_cell v.0, v.1) (s ∷ o ∷ n ∷ (u ++ []))
      made s o n sw ow nw may v u (l, (c, x, d, m, p, q, e, is, value, cw, xw, dw, mw, pw, qw, ew)) =
          rw (l, is, value) (λ k such. (may_moved top known n.number k may such, skolem_out_of s o n c x d m p q e sw ow (number_of (of_kind kinds.Number) n k nw such) cw xw dw mw pw qw ew))

out_finds : (top : ℕ) (known : Option ℕ) → Finds (out_reader top known) (Told top known SpellsOut)
unfolding out_reader
out_finds top known = either_finds (of_kind kinds.Text) _ _ _ (text_out_finds top known) (either_finds (of_kind kinds.Own) _ _ _ (column_out_finds top known) (skolem_finds top known))

comma_out_finds : (top : ℕ) (known : Option ℕ) → Finds (comma_out top known) (Told top known (λ k. Past is_comma (SpellsOut k)))
unfolding comma_out
comma_out_finds top known = always_head is_comma known (λ c. out_reader top) _ (λ c cw. finds_wider (out_reader top known) (Told top known SpellsOut) _ (out_finds top known) (λ v u h. λ k may. let t = h k may in (t.0, past_one c cw t.1)))

outs_finds : (top : ℕ) (known : Option ℕ) → Finds (outs_reader top known) (Told top known (λ k. SpellsList is_comma (SpellsOut k)))
unfolding outs_reader
outs_finds top known =
    then_finds (out_reader top known) _ (Told top known SpellsOut) _ (out_finds top known) (λ v u h.
    then_finds (knowing is_comma (comma_out top) v.1) _ (Told top v.1 (λ k. Many (Past is_comma (SpellsOut k)))) _ (knowing_finds top is_comma (comma_out top) (λ k. Past is_comma (SpellsOut k)) (comma_out_finds top) v.1) (λ t m g.
    give_finds (v.0 ∷ t.0, t.1) _ (λ k may. let b = g k may in let a = h k b.0 in (a.0, subst (λ ys. SpellsList is_comma (SpellsOut k) (v.0 ∷ t.0) (u ++ ys)) (sym (append-nil m)) (list_of a.1 b.1)))))

insert_end_finds : Finds insert_end_reader (λ x u. (a : ScriptToken) × (m : ScriptToken) × (e : ScriptToken) × (u ≡ a ∷ m ∷ e ∷ []) × Of kinds.As a × Of kinds.Own m × Of kinds.Semicolon e)
unfolding insert_end_reader
insert_end_finds = head_finds (of_kind kinds.As) _ _ (λ a aw. head_finds (of_kind kinds.Own) _ _ (λ m mw. head_finds (of_kind kinds.Semicolon) _ _ (λ e ew. give_finds tt _ (a, m, e, refl, aw, mw, ew))))

insert_finds : (top : ℕ) → Finds (insert_reader top) (SpellsInsert top)
unfolding insert_reader insert_tail_reader
insert_finds top =
    head_finds (of_kind kinds.Insert) _ (SpellsInsert top) (λ i iw. head_finds (of_kind kinds.Into) _ _ (λ into intow. head_finds (of_kind kinds.Target) _ _ (λ side sidew. head_finds (of_kind kinds.Dot) _ _ (λ d dw. head_finds (of_kind kinds.Name) _ _ (λ n nw. head_finds (of_kind kinds.Select) _ _ (λ s sw.
    last_finds (insert_tail_reader top n.text None) (λ v. v.0) (λ v u. SpellsInsert top v.0 (i ∷ into ∷ side ∷ d ∷ n ∷ s ∷ u)) (λ v u. SpellsInsert top v (i ∷ into ∷ side ∷ d ∷ n ∷ s ∷ u))
    (then_finds (outs_reader top None) _ (Told top None (λ k. SpellsList is_comma (SpellsOut k))) _ (outs_finds top None) (λ v u h.
    always_head (of_kind kinds.From) v.1 _ _ (λ f fw. number_head top is_table v.1 _ _ (λ t tw may.
    then_finds (always insert_end_reader (Some t.number)) _ (λ x w. (a : ScriptToken) × (m : ScriptToken) × (e : ScriptToken) × (w ≡ a ∷ m ∷ e ∷ []) × Of kinds.As a × Of kinds.Own m × Of kinds.Semicolon e) _ (last_finds insert_end_reader (λ x. (x, Some t.number)) _ _ insert_end_finds (λ x w g. g)) (λ x w g.
    give_finds (insert_step_of n.text t.number (of_kind kinds.Keep t) v.0, x.1) _
    (let told = h t.number may in
    rw g.3 (insert_of i into side d n s f t g.0 g.1 g.2 (le_test t.number top told.0) iw intow sidew dw nw sw told.1 fw (is_numbered is_table t tw) g.4 g.5 g.6)))))))
    (λ v u h. h)))))))

-- ---- steps

created_finds : (top : ℕ) → Finds (created_reader top) (SpellsStep top)
unfolding created_reader table_reader
created_finds top =
    head_finds (of_kind kinds.Create) _ (SpellsStep top) (λ c cw. head_finds (of_kind kinds.Table) _ _ (λ t tw.
    either_finds (of_kind kinds.Target) _ _ (λ s u. SpellsStep top s (c ∷ t ∷ u)) (finds_wider create_reader SpellsCreate _ create_finds (λ s u h. a_create c t cw tw h))
    (either_finds (of_kind kinds.Match) _ _ (λ s u. SpellsStep top s (c ∷ t ∷ u)) (finds_wider (match_reader top) (SpellsMatch top) _ (match_finds top) (λ s u h. a_match c t cw tw h))
    (finds_wider (keep_reader top) (SpellsKeep top) _ (keep_finds top) (λ s u h. a_keep c t cw tw h)))))

step_finds : (top : ℕ) → Finds (step_reader top) (SpellsStep top)
unfolding step_reader
step_finds top = either_finds (of_kind kinds.Create) (created_reader top) (insert_reader top) (SpellsStep top) (created_finds top) (finds_wider (insert_reader top) (SpellsInsert top) _ (insert_finds top) (λ s u h. an_insert h))

pub script_finds : (top : ℕ) → Finds (script_reader top) (SpellsScript top)
unfolding script_reader
script_finds top = many_finds begins_step (step_reader top) (SpellsStep top) (step_finds top)
