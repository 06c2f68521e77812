-- What is spelled is read.
use Rattle.std.proofs.Common.{◌≡◌, ℕ, ◌≤◌, Bool, true, false, List, [], ◌∷◌, ◌++◌, Option, Some, None, Ok, refl, ap, ◌∙◌, append_assoc, arith}
use Rattle.std.specs.Prelude.{nat_eq, nat_le}
use Rattle.std.proofs.lemmas.Bool.{or_left, or_right, and_parts}
use Rattle.std.proofs.lemmas.Bool.Decides.{nat_tests}
use Rattle.dx_grammar.specs.Readers.{Reader, ◌>>=◌, give, token, next_is, either}
use Rattle.dx_grammar.specs.Lists.{Past, past_one, SpellsList, list_of}
use Rattle.dx_grammar.specs.Numbers.{has_number, may_be, SpellsNumbered}
use Rattle.dx_grammar.proofs.Spelled.{Again, NotNext, many_again}
use Rattle.dx_grammar.proofs.Lists.{past_again, past_begin, list_again}
use Rattle.dx_grammar.proofs.Counted.{counted_again}
use Rattle.dx_grammar.proofs.Learned.{May, AgainKnown, knowing_again}
use Rattle.dx_grammar.proofs.Knowing.{same_if}
use Rattle.dx_script_tokens.specs.declared.scanner.ScriptToken.{ScriptToken}
use Rattle.dx_script_tokens.specs.declared.kinds.ScriptKind.{ScriptKind}
use Rattle.dx_script_tokens.specs.declared.kinds.ScriptKind.TheVariants as kinds
use Rattle.dx_script.specs.declared.form.CellRef.{CellRef}
use Rattle.dx_script.specs.declared.form.Equal.{Equal}
use Rattle.dx_script.specs.declared.form.Select.{Select}
use Rattle.dx_script.specs.declared.form.Test.{Test}
use Rattle.dx_script.specs.declared.form.Unless.{Unless}
use Rattle.dx_script.specs.declared.form.Step.{Step}
use Rattle.dx_script.specs.declared.form.Out.{Out}
use Rattle.dx_script_tokens.specs.Kinds.{kind_number}
use Rattle.dx_script_text.specs.Grammar.{of_kind, number, number_is, is_table, is_comma, is_and}
use Rattle.dx_script_text.specs.Reading.{declared_reader, create_reader, alias_cell_reader, select_call_reader, cell_value_reader, value_reader, select_item_reader, comma_item, items_reader, no_items, select_reader, from_source_reader, comma_source, sources_reader, equal_reader, equals_reader, where_clause_reader, matched_reader, match_reader, columns_reader, text_reader, test_reader, tests_reader, optional_tests, unless_reader, keep_tail_reader, keep_reader, text_out_reader, column_out_reader, skolem_tail_reader, skolem_reader, out_reader, comma_out, outs_reader, insert_end_reader, insert_tail_reader, insert_reader, table_reader, created_reader, step_reader, begins_step, script_reader, insert_step_of}
use Rattle.dx_script_text.specs.Spelling.{Of, SpellsDeclared, declared_of, SpellsCreate, create_of, SpellsCellRef, cell_of, SpellsValue, a_cell, a_call, SpellsSelectItem, item_of, SpellsSelect, no_columns, columns_of, SpellsFromSource, source_of, SpellsSources, sources_of, SpellsEqual, equal_of, SpellsWhereClause, no_where, where_of, SpellsMatch, match_of, SpellsTest, columns_are, text_is, SpellsUnless, unless_of, SpellsKeep, keep_of, SpellsOut, text_out_of, column_out_of, skolem_out_of, SpellsInsert, insert_of, SpellsStep, a_create, a_match, a_keep, an_insert, SpellsScript}
use Rattle.dx_script_text.proofs.Apart.{apart_kinds, apart_number_kind, apart_kind_number}
use Rattle.dx_script_text.proofs.Follows.{comma_declared_consumes, comma_cell_consumes, and_equal_consumes, and_test_consumes, and_unless_consumes, comma_out_consumes, step_consumes}
use Rattle.dx_script_text.proofs.Found.{eq_self}

-- whatever is after it
abbrev Any : List ScriptToken → Type 0
Any rest = Unit {0}

-- a token of another kind comes next
not_next : (n m : ScriptKind) (x : ScriptToken) (rest : List ScriptToken) → nat_eq (kind_number m) (kind_number n) ≡ false → Of m x → NotNext (of_kind n) (x ∷ rest)
not_next n m x rest ne e = apart_kinds m n ne x e

-- ---- CREATE TABLE target

declared_behind : {n : List ℕ} {u : List ScriptToken} → SpellsDeclared n u → (rest : List ScriptToken) → declared_reader (u ++ rest) ≡ Ok (n, rest)
unfolding declared_reader
declared_behind (declared_of n t nw tw) rest = rw (nw, tw) refl

create_behind : {s : Step} {u : List ScriptToken} → SpellsCreate s u → (rest : List ScriptToken) → create_reader (u ++ rest) ≡ Ok (s, rest)
unfolding create_reader
create_behind (create_of {columns = columns} {u = u} s d n o c e sw dw nw ow h cw ew) rest =
    let all = (list_again is_comma declared_reader SpellsDeclared (record { again = λ a v more g ok. declared_behind g more }) comma_declared_consumes).again columns u (c ∷ e ∷ rest) h (not_next kinds.Comma kinds.Close c (e ∷ rest) refl cw) in
    rw (append_assoc u (c ∷ e ∷ []) rest, sw, dw, nw, ow, all, cw, ew) refl

-- ---- CREATE TABLE m<r>

cell_behind : {c : CellRef} {u : List ScriptToken} → SpellsCellRef c u → (rest : List ScriptToken) → alias_cell_reader (u ++ rest) ≡ Ok (c, rest)
unfolding alias_cell_reader
cell_behind (cell_of a d c aw dw cw) rest = rw (aw, dw, cw) refl

cell_kind : {c : CellRef} {u : List ScriptToken} → SpellsCellRef c u → (rest : List ScriptToken) → next_is (of_kind kinds.Alias) (u ++ rest) ≡ true
cell_kind (cell_of a d c aw dw cw) rest = aw

value_behind : {v : Select} {u : List ScriptToken} → SpellsValue v u → (rest : List ScriptToken) → value_reader (u ++ rest) ≡ Ok (v, rest)
unfolding value_reader cell_value_reader select_call_reader
value_behind (a_cell h) rest = rw (cell_kind h rest, cell_behind h rest) refl
value_behind (a_call {args = args} {u = u} n o c nw ow h cw) rest =
    let all = (list_again is_comma alias_cell_reader SpellsCellRef (record { again = λ a v more g ok. cell_behind g more }) comma_cell_consumes).again args u (c ∷ rest) h (not_next kinds.Comma kinds.Close c rest refl cw) in
    rw (append_assoc u (c ∷ []) rest, apart_kinds kinds.Name kinds.Alias refl n nw, nw, ow, all, cw) refl

item_behind : {top n : ℕ} {c : Select} {u : List ScriptToken} → SpellsSelectItem top n c u → (rest : List ScriptToken) → select_item_reader n (u ++ rest) ≡ Ok (c, rest)
unfolding select_item_reader
item_behind (item_of {u = u} a k le h aw kw) rest = rw (append_assoc u (a ∷ k ∷ []) rest, value_behind h (a ∷ k ∷ rest), aw, kw) refl

past_within : {A : Type 0} (top n : ℕ) (R : A → List ScriptToken → Type 0) → ((a : A) (u : List ScriptToken) → R a u → n ≤ top) → (a : A) (u : List ScriptToken) → Past is_comma R a u → n ≤ top
past_within top n R h a u p = inside p where
  inside : {a : _} {u : List ScriptToken} → Past is_comma R a u → n ≤ top
  inside (past_one {a = a} {u = u} x e g) = h a u g

item_within : {top n : ℕ} {c : Select} {u : List ScriptToken} → SpellsSelectItem top n c u → n ≤ top
item_within (item_of a k le h aw kw) = le

comma_item_again : (top n : ℕ) → Again (comma_item n) (Past is_comma (SpellsSelectItem top n)) Any
unfolding comma_item
comma_item_again top n = past_again is_comma (select_item_reader n) (SpellsSelectItem top n) (record { again = λ c u rest h ok. item_behind h rest })

cell_first : {v : Select} {u : List ScriptToken} → SpellsValue v u → (rest : List ScriptToken) → next_is (number_is 1) (u ++ rest) ≡ false
cell_first (a_cell (cell_of a d c aw dw cw)) rest = apart_kind_number kinds.Alias kinds.Number 1 refl a aw
cell_first (a_call n o c nw ow h cw) rest = apart_kind_number kinds.Name kinds.Number 1 refl n nw

item_first : {top n : ℕ} {c : Select} {u : List ScriptToken} → SpellsSelectItem top n c u → (rest : List ScriptToken) → next_is (number_is 1) (u ++ rest) ≡ false
item_first (item_of {u = u} a k le h aw kw) rest = ap (next_is (number_is 1)) (append_assoc u (a ∷ k ∷ []) rest) ∙ cell_first h (a ∷ k ∷ rest)

either_right : {A : Type 0} (p : ScriptToken → Bool) (r q : Reader ScriptToken A) (xs : List ScriptToken) → next_is p xs ≡ false → either p r q xs ≡ q xs
either_right p r q xs e = rw e refl

items_behind : {top : ℕ} {first : Select} {others : List Select} {u v : List ScriptToken} → SpellsSelectItem top 0 first u → SpellsNumbered (λ n. Past is_comma (SpellsSelectItem top n)) 1 others v → (rest : List ScriptToken) → NotNext is_comma rest
    → items_reader top (u ++ (v ++ rest)) ≡ Ok (first ∷ others, rest)
unfolding items_reader
items_behind {top = top} {others = others} {u = u} {v = v} h m rest stop =
    let all = counted_again top is_comma comma_item (λ n. Past is_comma (SpellsSelectItem top n)) (comma_item_again top) (λ n. past_begin is_comma (select_item_reader n) (SpellsSelectItem top n))
    (λ n c x. past_within top n (SpellsSelectItem top n) (λ d y g. item_within g) c x) top 1 (omega arith) others v rest m stop in
    rw (item_behind h (v ++ rest), all) refl

select_behind : {top : ℕ} {cs : List Select} {u : List ScriptToken} → SpellsSelect top cs u → (rest : List ScriptToken) → NotNext is_comma rest → select_reader top (u ++ rest) ≡ Ok (cs, rest)
unfolding select_reader no_items
select_behind (no_columns d dw) rest stop = rw dw refl
select_behind {top = top} (columns_of {u = u} {v = v} h m) rest stop =
    ap (either (number_is 1) (token (number_is 1) >>= λ d. give []) (items_reader top)) (append_assoc u v rest)
    ∙ either_right (number_is 1) (token (number_is 1) >>= λ d. give []) (items_reader top) (u ++ (v ++ rest)) (item_first h (v ++ rest))
    ∙ items_behind h m rest stop

source_behind : {top n : ℕ} {t : List ℕ} {u : List ScriptToken} → SpellsFromSource top n t u → (rest : List ScriptToken) → from_source_reader n (u ++ rest) ≡ Ok (t, rest)
unfolding from_source_reader
source_behind (source_of s d t a k le sw dw tw aw kw) rest = rw (sw, dw, tw, aw, kw) refl

source_within : {top n : ℕ} {t : List ℕ} {u : List ScriptToken} → SpellsFromSource top n t u → n ≤ top
source_within (source_of s d t a k le sw dw tw aw kw) = le

comma_source_again : (top n : ℕ) → Again (comma_source n) (Past is_comma (SpellsFromSource top n)) Any
unfolding comma_source
comma_source_again top n = past_again is_comma (from_source_reader n) (SpellsFromSource top n) (record { again = λ c u rest h ok. source_behind h rest })

sources_behind : {top : ℕ} {ts : List (List ℕ)} {u : List ScriptToken} → SpellsSources top ts u → (rest : List ScriptToken) → NotNext is_comma rest → sources_reader top (u ++ rest) ≡ Ok (ts, rest)
unfolding sources_reader
sources_behind {top = top} (sources_of {others = others} {u = u} {v = v} h m) rest stop =
    let all = counted_again top is_comma comma_source (λ n. Past is_comma (SpellsFromSource top n)) (comma_source_again top) (λ n. past_begin is_comma (from_source_reader n) (SpellsFromSource top n))
    (λ n c x. past_within top n (SpellsFromSource top n) (λ d y g. source_within g) c x) top 1 (omega arith) others v rest m stop in
    rw (append_assoc u v rest, source_behind h (v ++ rest), all) refl

equal_behind : {q : Equal} {u : List ScriptToken} → SpellsEqual q u → (rest : List ScriptToken) → equal_reader (u ++ rest) ≡ Ok (q, rest)
unfolding equal_reader
equal_behind (equal_of {u = u} {v = v} s h sw g) rest = rw (append_assoc u (s ∷ v) rest, cell_behind h (s ∷ (v ++ rest)), sw, cell_behind g rest) refl

-- what follows is neither AND nor WHERE
abbrev NoWhere : List ScriptToken → Type 0
NoWhere rest = NotNext is_and rest × NotNext (of_kind kinds.Where) rest

where_behind : {q : List Equal} {u : List ScriptToken} → SpellsWhereClause SpellsEqual q u → (rest : List ScriptToken) → NoWhere rest → where_clause_reader (u ++ rest) ≡ Ok (q, rest)
unfolding where_clause_reader equals_reader
where_behind no_where rest stop = rw stop.1 refl
where_behind (where_of {items = items} {u = u} k kw h) rest stop =
    let all = (list_again is_and equal_reader SpellsEqual (record { again = λ a v more g ok. equal_behind g more }) and_equal_consumes).again items u rest h stop.0 in
    rw (kw, all) refl

match_behind : {top : ℕ} {s : Step} {u : List ScriptToken} → SpellsMatch top s u → (rest : List ScriptToken) → match_reader top (u ++ rest) ≡ Ok (s, rest)
unfolding match_reader matched_reader
match_behind (match_of {u = u} {v = v} {w = z} m a s d f e mw aw sw dw h fw g k ew) rest =
    let tail : (z ++ e ∷ []) ++ rest ≡ z ++ e ∷ rest = append_assoc z (e ∷ []) rest in
    let middle : (v ++ (z ++ e ∷ [])) ++ rest ≡ v ++ (z ++ e ∷ rest) = append_assoc v (z ++ e ∷ []) rest ∙ ap (λ ys. v ++ ys) tail in
    let all : (u ++ f ∷ (v ++ (z ++ e ∷ []))) ++ rest ≡ u ++ f ∷ (v ++ (z ++ e ∷ rest)) = append_assoc u (f ∷ (v ++ (z ++ e ∷ []))) rest ∙ ap (λ ys. u ++ f ∷ ys) middle in
    rw (all, mw, aw, sw, dw, select_behind h (f ∷ (v ++ (z ++ e ∷ rest))) (not_next kinds.Comma kinds.From f (v ++ (z ++ e ∷ rest)) refl fw), fw, sources_behind g (z ++ e ∷ rest) (behind_where k e rest ew), where_behind k (e ∷ rest) (not_next kinds.And kinds.Semicolon e rest refl ew, not_next kinds.Where kinds.Semicolon e rest refl ew), ew) refl where
      behind_where : {q : List Equal} {z : List ScriptToken} → SpellsWhereClause SpellsEqual q z → (e : ScriptToken) (rest : List ScriptToken) → Of kinds.Semicolon e → NotNext is_comma (z ++ e ∷ rest)
      behind_where no_where e rest ew = not_next kinds.Comma kinds.Semicolon e rest refl ew
      behind_where (where_of {u = u} k kw h) e rest ew = not_next kinds.Comma kinds.Where k (u ++ e ∷ rest) refl kw

-- ---- CREATE TABLE k<r>

test_behind : {t : Test} {u : List ScriptToken} → SpellsTest t u → (rest : List ScriptToken) → test_reader (u ++ rest) ≡ Ok (t, rest)
unfolding test_reader columns_reader text_reader
test_behind (columns_are n d c e m p o nw dw cw ew mw pw ow) rest = rw (nw, dw, cw, ew, mw, pw, ow) refl
test_behind (text_is m d c e t mw dw cw ew tw) rest = rw (apart_kinds kinds.Own kinds.Other refl m mw, mw, dw, cw, ew, tw) refl

tests_behind : {q : List Test} {u : List ScriptToken} → SpellsWhereClause SpellsTest q u → (rest : List ScriptToken) → NoWhere rest → optional_tests (u ++ rest) ≡ Ok (q, rest)
unfolding optional_tests tests_reader
tests_behind no_where rest stop = rw stop.1 refl
tests_behind (where_of {items = items} {u = u} k kw h) rest stop =
    let all = (list_again is_and test_reader SpellsTest (record { again = λ a v more g ok. test_behind g more }) and_test_consumes).again items u rest h stop.0 in
    rw (kw, all) refl

unless_behind : {q : Unless} {u : List ScriptToken} → SpellsUnless q u → (rest : List ScriptToken) → unless_reader (u ++ rest) ≡ Ok (q, rest)
unfolding unless_reader
unless_behind (unless_of {u = u} n x o s star f t a alias c nw xw ow sw starw fw tw aw lw h cw) rest =
    rw (append_assoc u (c ∷ []) rest, nw, xw, ow, sw, starw, fw, tw, aw, lw, tests_behind h (c ∷ rest) (not_next kinds.And kinds.Close c rest refl cw, not_next kinds.Where kinds.Close c rest refl cw), cw) refl

le_is : (n top : ℕ) → n ≤ top → nat_le n top ≡ true
le_is n top le = grind (arith, nat_tests)

-- a token with a number has it
number_is_of : (p : ScriptToken → Bool) (n : ℕ) (x : ScriptToken) → has_number p number n x ≡ true → (p x ≡ true) × (x.number ≡ n)
number_is_of p n x e = let b = and_parts (p x) (nat_eq x.number n) e in (b.0, same_if x.number n b.1)

keep_behind : {top : ℕ} {s : Step} {u : List ScriptToken} → SpellsKeep top s u → (rest : List ScriptToken) → keep_reader top (u ++ rest) ≡ Ok (s, rest)
unfolding keep_reader keep_tail_reader
keep_behind {top = top} (keep_of {r = r} {unless = unless} {u = u} k a s star f m b alias wh e le kw aw sw starw fw mw bw lw ww h ew) rest =
    let n = number_is_of (of_kind kinds.Keep) r k kw in
    let all = (list_again is_and unless_reader SpellsUnless (record { again = λ x v more g ok. unless_behind g more }) and_unless_consumes).again unless u (e ∷ rest) h (not_next kinds.And kinds.Semicolon e rest refl ew) in
    rw (append_assoc u (e ∷ []) rest, n.0, n.1, le_is r top le, aw, sw, starw, fw, mw, bw, lw, ww, all, ew) refl

-- ---- INSERT

out_behind : (top : ℕ) {k : ℕ} {o : Out} {u : List ScriptToken} → SpellsOut k o u → (known : Option ℕ) → May top known k → (rest : List ScriptToken) → (now : Option ℕ) × May top now k × (out_reader top known (u ++ rest) ≡ Ok ((o, now), rest))
unfolding out_reader text_out_reader column_out_reader skolem_reader skolem_tail_reader
out_behind top (text_out_of t tw) known may rest = (known, may, rw tw refl)
out_behind top (column_out_of m d c mw dw cw) known may rest = (known, may, rw (apart_kinds kinds.Own kinds.Text refl m mw, mw, dw, cw) refl)
out_behind top {k = k} (skolem_out_of s o n comma v second m d p c sw ow nw commaw vw secondw mw dw pw cw) known may rest =
    let x = number_is_of (of_kind kinds.Number) k n nw in
    (Some k, eq_self k, rw (apart_kinds kinds.Skolem kinds.Text refl s sw, apart_kinds kinds.Skolem kinds.Own refl s sw, sw, ow, x.0, x.1, may, commaw, vw, secondw, mw, dw, pw, cw) refl)

comma_out_behind : (top : ℕ) {k : ℕ} {o : Out} {u : List ScriptToken} → Past is_comma (SpellsOut k) o u → (known : Option ℕ) → May top known k → (rest : List ScriptToken) → (now : Option ℕ) × May top now k × (comma_out top known (u ++ rest) ≡ Ok ((o, now), rest))
unfolding comma_out
comma_out_behind top (past_one {u = u} c cw h) known may rest = let t = out_behind top h known may rest in (t.0, t.1, rw (cw, t.2) refl)

comma_out_again : (top : ℕ) → AgainKnown top (comma_out top) (λ k. Past is_comma (SpellsOut k)) Any
comma_out_again top = record { again = λ k known o u rest h may ok. comma_out_behind top h known may rest }

outs_behind : (top : ℕ) {k : ℕ} {os : List Out} {u : List ScriptToken} → SpellsList is_comma (SpellsOut k) os u → (known : Option ℕ) → May top known k → (rest : List ScriptToken) → NotNext is_comma rest → (now : Option ℕ) × May top now k × (outs_reader top known (u ++ rest) ≡ Ok ((os, now), rest))
unfolding outs_reader
outs_behind top {k = k} (list_of {others = others} {u = u} {v = v} h m) known may rest stop =
    let t = out_behind top h known may (v ++ rest) in
    let all = (knowing_again top is_comma (comma_out top) (λ j. Past is_comma (SpellsOut j)) (comma_out_consumes top) (λ j. past_begin is_comma column_out_reader (SpellsOut j)) (comma_out_again top)).again k t.0 others v rest m t.1 stop in
    (all.0, all.1, rw (append_assoc u v rest, t.2, all.2) refl)

insert_made : (top : ℕ) (now : Option ℕ) (cells : List Out) (i into side d n s f t a m e : ScriptToken) (xs rest : List ScriptToken) → Of kinds.Insert i → Of kinds.Into into → Of kinds.Target side → Of kinds.Dot d → Of kinds.Name n → Of kinds.Select s → outs_reader top None xs ≡ Ok ((cells, now), f ∷ t ∷ a ∷ m ∷ e ∷ rest)
    → Of kinds.From f → is_table t ≡ true → may_be top now t.number ≡ true → Of kinds.As a → Of kinds.Own m → Of kinds.Semicolon e → insert_reader top (i ∷ into ∷ side ∷ d ∷ n ∷ s ∷ xs) ≡ Ok (insert_step_of n.text t.number (of_kind kinds.Keep t) cells, rest)
unfolding insert_reader insert_tail_reader insert_end_reader
insert_made top now cells i into side d n s f t a m e xs rest iw intow sidew dw nw sw read fw tw may aw mw ew = rw (iw, intow, sidew, dw, nw, sw, read, fw, tw, may, aw, mw, ew) refl

insert_behind : {top : ℕ} {s : Step} {u : List ScriptToken} → SpellsInsert top s u → (rest : List ScriptToken) → insert_reader top (u ++ rest) ≡ Ok (s, rest)
insert_behind {top = top} (insert_of {r = r} {cells = cells} {u = u} i into side d n s f t a m e le iw intow sidew dw nw sw h fw tw aw mw ew) rest =
    let x = number_is_of is_table r t tw in
    let o = outs_behind top h None (le_is r top le) (f ∷ t ∷ a ∷ m ∷ e ∷ rest) (not_next kinds.Comma kinds.From f (t ∷ a ∷ m ∷ e ∷ rest) refl fw) in
    ap (λ ys. insert_reader top (i ∷ into ∷ side ∷ d ∷ n ∷ s ∷ ys)) (append_assoc u (f ∷ t ∷ a ∷ m ∷ e ∷ []) rest)
    ∙ insert_made top o.0 cells i into side d n s f t a m e (u ++ f ∷ t ∷ a ∷ m ∷ e ∷ rest) rest iw intow sidew dw nw sw o.2 fw x.0 (ap (may_be top o.0) x.1 ∙ o.1) aw mw ew
    ∙ ap (λ k. Ok (insert_step_of n.text k (of_kind kinds.Keep t) cells, rest)) x.1

-- ---- steps

step_behind : {top : ℕ} {s : Step} {u : List ScriptToken} → SpellsStep top s u → (rest : List ScriptToken) → step_reader top (u ++ rest) ≡ Ok (s, rest)
unfolding step_reader created_reader table_reader
step_behind (a_create c t cw tw h) rest = rw (cw, tw, create_first h rest, create_behind h rest) refl where
  create_first : {s : Step} {u : List ScriptToken} → SpellsCreate s u → (rest : List ScriptToken) → next_is (of_kind kinds.Target) (u ++ rest) ≡ true
  create_first (create_of s d n o c e sw dw nw ow h cw ew) rest = sw
step_behind {top = top} (a_match c t cw tw h) rest = let f = match_first h rest in rw (cw, tw, f.0, f.1, match_behind h rest) refl where
  match_first : {s : Step} {u : List ScriptToken} → SpellsMatch top s u → (rest : List ScriptToken) → (next_is (of_kind kinds.Target) (u ++ rest) ≡ false) × (next_is (of_kind kinds.Match) (u ++ rest) ≡ true)
  match_first (match_of m a s d f e mw aw sw dw h fw g k ew) rest = (apart_kinds kinds.Match kinds.Target refl m mw, mw)
step_behind {top = top} (a_keep c t cw tw h) rest = let f = keep_first h rest in rw (cw, tw, f.0, f.1, keep_behind h rest) refl where
  keep_first : {s : Step} {u : List ScriptToken} → SpellsKeep top s u → (rest : List ScriptToken) → (next_is (of_kind kinds.Target) (u ++ rest) ≡ false) × (next_is (of_kind kinds.Match) (u ++ rest) ≡ false)
  keep_first (keep_of {r = r} k a s star f m b alias w e le kw aw sw starw fw mw bw lw ww h ew) rest = (apart_kinds kinds.Keep kinds.Target refl k (number_is_of (of_kind kinds.Keep) r k kw).0, apart_number_kind kinds.Keep r kinds.Match refl k kw)
step_behind {top = top} (an_insert h) rest = rw (insert_first h rest, insert_behind h rest) refl where
  insert_first : {s : Step} {u : List ScriptToken} → SpellsInsert top s u → (rest : List ScriptToken) → next_is (of_kind kinds.Create) (u ++ rest) ≡ false
  insert_first (insert_of i into side d n s f t a m e le iw intow sidew dw nw sw h fw tw aw mw ew) rest = apart_kinds kinds.Insert kinds.Create refl i iw

step_first : {top : ℕ} {s : Step} {u : List ScriptToken} → SpellsStep top s u → (x : ScriptToken) × (v : List ScriptToken) × (u ≡ x ∷ v) × (begins_step x ≡ true)
step_first (a_create {u = u} c t cw tw h) = (c, t ∷ u, refl, or_left (of_kind kinds.Create c) (of_kind kinds.Insert c) cw)
step_first (a_match {u = u} c t cw tw h) = (c, t ∷ u, refl, or_left (of_kind kinds.Create c) (of_kind kinds.Insert c) cw)
step_first (a_keep {u = u} c t cw tw h) = (c, t ∷ u, refl, or_left (of_kind kinds.Create c) (of_kind kinds.Insert c) cw)
step_first {top = top} (an_insert h) = insert_first h where
  insert_first : {s : Step} {u : List ScriptToken} → SpellsInsert top s u → (x : ScriptToken) × (v : List ScriptToken) × (u ≡ x ∷ v) × (begins_step x ≡ true)
  insert_first (insert_of {u = u} i into side d n s f t a m e le iw intow sidew dw nw sw h fw tw aw mw ew) = (i, into ∷ side ∷ d ∷ n ∷ s ∷ (u ++ f ∷ t ∷ a ∷ m ∷ e ∷ []), refl, or_right (of_kind kinds.Create i) (of_kind kinds.Insert i) iw)

pub script_again : (top : ℕ) → Again (script_reader top) (SpellsScript top) (NotNext begins_step)
unfolding script_reader
script_again top = many_again begins_step (step_reader top) (SpellsStep top) (step_consumes top) (record { begin = λ s u h. step_first h }) (record { again = λ s u rest h ok. step_behind h rest })
