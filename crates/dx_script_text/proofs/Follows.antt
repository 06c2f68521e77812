-- Each reader reads its form.
use Rattle.std.proofs.Common.{◌≡◌, ℕ, Bool, false, ◌||◌, List, [], ◌∷◌, refl}
use Rattle.std.proofs.lemmas.Bool.{or_parts}
use Rattle.dx_grammar.specs.Forms.{Form, nothing, one, ◌▸◌, ◌∣◌, repeated, optional}
use Rattle.dx_grammar.specs.Lists.{listed, list_reader, past}
use Rattle.dx_grammar.specs.Numbers.{counted, counted_reader, has_number, always, knowing}
use Rattle.dx_grammar.specs.Readers.{give, token}
use Rattle.dx_grammar.proofs.Verdicts.{ends, IsReader, Anything, Stops, Begins, KeptApart}
use Rattle.dx_grammar.proofs.Combined.{one_reads, nothing_reads, then_reads, then_any, last_reads, either_reads, many_reads, begins_one, begins_both, begins_choice, begins_wider, stops_at, stops_past, consumes, apart_or}
use Rattle.dx_grammar.proofs.Lists.{past_begins, past_reads, past_consumes, list_reads}
use Rattle.dx_grammar.proofs.Counted.{counted_reads}
use Rattle.dx_grammar.proofs.Learned.{ConsumesKnown}
use Rattle.dx_grammar.proofs.Knowing.{IsKnower, always_knows, then_knows, last_knows, number_knows, choosing_knows, knowing_knows, known_consumes, unknowing_reads, number_reads, any_begins, number_false}
use Rattle.dx_grammar.proofs.Loops.{Consumes}
use Rattle.dx_script_tokens.specs.declared.scanner.ScriptToken.{ScriptToken}
use Rattle.dx_script_tokens.specs.declared.kinds.ScriptKind.{ScriptKind}
use Rattle.dx_script_tokens.specs.declared.kinds.ScriptKind.TheVariants as kinds
use Rattle.dx_script_text.specs.Grammar.{of_kind, number, match_is, keep_is, alias_is, column_is, number_is, is_table, is_comma, is_and, any, declared_column, create_rest, alias_cell, call, value, select_item, items, select, from_source, sources, equal, where_clause, match_rest, test, tests, unless, keep_tail, keep_rest, text_out, column_out, skolem_tail, skolem_out, out, insert_end, insert_tail, insert, table_rest, step, script}
use Rattle.dx_script_text.specs.Reading.{declared_reader, create_reader, alias_cell_reader, select_call_reader, cell_value_reader, value_reader, select_item_reader, comma_item, items_reader, no_items, select_reader, from_source_reader, comma_source, sources_reader, equal_reader, equals_reader, where_clause_reader, matched_reader, match_reader, columns_reader, text_reader, test_reader, tests_reader, optional_tests, unless_reader, keep_tail_reader, keep_reader, text_out_reader, column_out_reader, skolem_tail_reader, skolem_reader, out_reader, comma_out, outs_reader, insert_end_reader, insert_tail_reader, insert_reader, table_reader, created_reader, step_reader, begins_step, script_reader}
use Rattle.dx_script_text.proofs.Apart.{apart_kinds, apart_number_kind}

-- a token, whatever follows
a : (p : ScriptToken → Bool) → IsReader Anything (one p) (token p)
a p = one_reads Anything p

begins_with : (p : ScriptToken → Bool) (b : Form ScriptToken) → Begins p (one p ▸ b)
begins_with p b = begins_both p (one p) b (begins_one p)

-- tokens of one kind that stop lists
stops_kind : (n m : ScriptKind) (b : Form ScriptToken) (more : List (Form ScriptToken)) → KeptApart (of_kind n) (of_kind m) → Begins (of_kind m) b → Stops (of_kind n) (b ∷ more)
stops_kind n m b more apart begins = stops_at (of_kind n) (of_kind m) b more begins apart

-- ---- CREATE TABLE target

pub declared_reads : IsReader Anything declared_column declared_reader
unfolding declared_column declared_reader
declared_reads = then_any Anything _ _ _ _ (a (of_kind kinds.Name)) (λ n. last_reads Anything (any kinds.Type) (token (of_kind kinds.Type)) _ (a (of_kind kinds.Type)))

pub comma_declared_consumes : Consumes (past is_comma declared_reader)
comma_declared_consumes = past_consumes is_comma declared_column declared_reader declared_reads

pub create_reads : IsReader Anything create_rest create_reader
unfolding create_rest create_reader
create_reads =
    then_any Anything _ _ _ _ (a (of_kind kinds.Target)) (λ s.
    then_any Anything _ _ _ _ (a (of_kind kinds.Dot)) (λ d.
    then_any Anything _ _ _ _ (a (of_kind kinds.Name)) (λ n.
    then_any Anything _ _ _ _ (a (of_kind kinds.Open)) (λ o.
    then_reads Anything (Stops is_comma) (listed is_comma declared_column) _ (list_reader is_comma declared_reader) _ (list_reads is_comma declared_column declared_reader declared_reads) (λ columns.
    then_any Anything _ _ _ _ (a (of_kind kinds.Close)) (λ c.
    last_reads Anything (any kinds.Semicolon) (token (of_kind kinds.Semicolon)) _ (a (of_kind kinds.Semicolon))))
    (λ more ok. stops_kind kinds.Comma kinds.Close _ more (apart_kinds kinds.Comma kinds.Close refl) (begins_with (of_kind kinds.Close) _))))))

-- ---- CREATE TABLE m<r>

pub cell_reads : IsReader Anything alias_cell alias_cell_reader
unfolding alias_cell alias_cell_reader
cell_reads = then_any Anything _ _ _ _ (a (of_kind kinds.Alias)) (λ x. then_any Anything _ _ _ _ (a (of_kind kinds.Dot)) (λ d. last_reads Anything (any kinds.Name) (token (of_kind kinds.Name)) _ (a (of_kind kinds.Name))))

pub comma_cell_consumes : Consumes (past is_comma alias_cell_reader)
comma_cell_consumes = past_consumes is_comma alias_cell alias_cell_reader cell_reads

call_reads : IsReader Anything call select_call_reader
unfolding call select_call_reader
call_reads =
    then_any Anything _ _ _ _ (a (of_kind kinds.Name)) (λ x.
    then_any Anything _ _ _ _ (a (of_kind kinds.Open)) (λ o.
    then_reads Anything (Stops is_comma) (listed is_comma alias_cell) (any kinds.Close) (list_reader is_comma alias_cell_reader) _ (list_reads is_comma alias_cell alias_cell_reader cell_reads) (λ args. last_reads Anything (any kinds.Close) (token (of_kind kinds.Close)) _ (a (of_kind kinds.Close)))
    (λ more ok. stops_kind kinds.Comma kinds.Close (any kinds.Close) more (apart_kinds kinds.Comma kinds.Close refl) (begins_one (of_kind kinds.Close)))))

cell_begins : Begins (of_kind kinds.Alias) alias_cell
unfolding alias_cell
cell_begins = begins_with (of_kind kinds.Alias) _

call_begins : Begins (of_kind kinds.Name) call
unfolding call
call_begins = begins_with (of_kind kinds.Name) _

pub value_reads : IsReader Anything value value_reader
unfolding value value_reader cell_value_reader
value_reads =
    either_reads Anything (of_kind kinds.Alias) alias_cell call _ select_call_reader (last_reads Anything alias_cell alias_cell_reader _ cell_reads) call_reads cell_begins
    (λ more ok. stops_at (of_kind kinds.Alias) (of_kind kinds.Name) call more call_begins (apart_kinds kinds.Alias kinds.Name refl))

abbrev alias_or_name : ScriptToken → Bool
alias_or_name x = of_kind kinds.Alias x || of_kind kinds.Name x

value_begins : Begins alias_or_name value
unfolding value
value_begins =
    begins_choice alias_or_name alias_cell call
    (begins_wider (of_kind kinds.Alias) alias_or_name alias_cell (λ x e. (or_parts (of_kind kinds.Alias x) (of_kind kinds.Name x) e).0) cell_begins)
    (begins_wider (of_kind kinds.Name) alias_or_name call (λ x e. (or_parts (of_kind kinds.Alias x) (of_kind kinds.Name x) e).1) call_begins)

pub item_reads : (n : ℕ) → IsReader Anything (select_item n) (select_item_reader n)
unfolding select_item select_item_reader
item_reads n = then_any Anything value _ value_reader _ value_reads (λ c. then_any Anything _ _ _ _ (a (of_kind kinds.As)) (λ k. last_reads Anything (one (column_is n)) (token (column_is n)) _ (a (column_is n))))

pub comma_item_reads : (n : ℕ) → IsReader Anything (one is_comma ▸ select_item n) (comma_item n)
unfolding comma_item
comma_item_reads n = past_reads is_comma (select_item n) (select_item_reader n) (item_reads n)

pub comma_item_consumes : (n : ℕ) → Consumes (comma_item n)
unfolding comma_item
comma_item_consumes n = past_consumes is_comma (select_item n) (select_item_reader n) (item_reads n)

pub items_reads : (top : ℕ) → IsReader (Stops is_comma) (items top) (items_reader top)
unfolding items items_reader
items_reads top =
    then_any (Stops is_comma) (select_item 0) (counted top 1 (λ n. one is_comma ▸ select_item n)) (select_item_reader 0) _ (item_reads 0) (λ first.
    last_reads (Stops is_comma) (counted top 1 (λ n. one is_comma ▸ select_item n)) (counted_reader is_comma comma_item top 1) (λ others. first ∷ others) (counted_reads is_comma (λ n. one is_comma ▸ select_item n) comma_item comma_item_reads (λ n. past_begins is_comma (select_item n)) top 1))

no_items_reads : (P : List (Form ScriptToken) → Type 0) → IsReader P (one (number_is 1)) no_items
unfolding no_items
no_items_reads P = last_reads P (one (number_is 1)) (token (number_is 1)) _ (one_reads P (number_is 1))

items_begin : (top : ℕ) → Begins alias_or_name (items top)
unfolding items select_item
items_begin top = begins_both alias_or_name (select_item 0) _ (begins_both alias_or_name value _ value_begins)

pub select_reads : (top : ℕ) → IsReader (Stops is_comma) (select top) (select_reader top)
unfolding select select_reader
select_reads top =
    either_reads (Stops is_comma) (number_is 1) (one (number_is 1)) (items top) no_items (items_reader top) (no_items_reads (Stops is_comma)) (items_reads top) (begins_one (number_is 1))
    (λ more ok. stops_at (number_is 1) alias_or_name (items top) more (items_begin top) (apart_or (number_is 1) (of_kind kinds.Alias) (of_kind kinds.Name) (apart_number_kind kinds.Number 1 kinds.Alias refl) (apart_number_kind kinds.Number 1 kinds.Name refl)))

pub source_reads : (n : ℕ) → IsReader Anything (from_source n) (from_source_reader n)
unfolding from_source from_source_reader
source_reads n =
    then_any Anything _ _ _ _ (a (of_kind kinds.Source)) (λ s. then_any Anything _ _ _ _ (a (of_kind kinds.Dot)) (λ d. then_any Anything _ _ _ _ (a (of_kind kinds.Name)) (λ t. then_any Anything _ _ _ _ (a (of_kind kinds.As)) (λ k.
    last_reads Anything (one (alias_is n)) (token (alias_is n)) _ (a (alias_is n))))))

pub comma_source_reads : (n : ℕ) → IsReader Anything (one is_comma ▸ from_source n) (comma_source n)
unfolding comma_source
comma_source_reads n = past_reads is_comma (from_source n) (from_source_reader n) (source_reads n)

pub comma_source_consumes : (n : ℕ) → Consumes (comma_source n)
unfolding comma_source
comma_source_consumes n = past_consumes is_comma (from_source n) (from_source_reader n) (source_reads n)

pub sources_reads : (top : ℕ) → IsReader (Stops is_comma) (sources top) (sources_reader top)
unfolding sources sources_reader
sources_reads top =
    then_any (Stops is_comma) (from_source 0) (counted top 1 (λ n. one is_comma ▸ from_source n)) (from_source_reader 0) _ (source_reads 0) (λ first.
    last_reads (Stops is_comma) (counted top 1 (λ n. one is_comma ▸ from_source n)) (counted_reader is_comma comma_source top 1) (λ others. first ∷ others) (counted_reads is_comma (λ n. one is_comma ▸ from_source n) comma_source comma_source_reads (λ n. past_begins is_comma (from_source n)) top 1))

pub equal_reads : IsReader Anything equal equal_reader
unfolding equal equal_reader
equal_reads = then_any Anything alias_cell _ alias_cell_reader _ cell_reads (λ l. then_any Anything _ _ _ _ (a (of_kind kinds.Equal)) (λ s. last_reads Anything alias_cell alias_cell_reader _ cell_reads))

pub and_equal_consumes : Consumes (past is_and equal_reader)
and_equal_consumes = past_consumes is_and equal equal_reader equal_reads

pub equals_reads : IsReader (Stops is_and) where_clause equals_reader
unfolding where_clause equals_reader
equals_reads = then_any (Stops is_and) (any kinds.Where) (listed is_and equal) (token (of_kind kinds.Where)) _ (a (of_kind kinds.Where)) (λ k. list_reads is_and equal equal_reader equal_reads)

-- what may stand after WHERE and its list
abbrev NoWhere : List (Form ScriptToken) → Type 0
NoWhere more = Stops is_and more × Stops (of_kind kinds.Where) more

pub where_reads : IsReader NoWhere (optional where_clause) where_clause_reader
unfolding where_clause_reader where_clause
where_reads =
    either_reads NoWhere (of_kind kinds.Where) where_clause nothing equals_reader (give []) (weak equals_reads) (nothing_reads NoWhere []) (begins_with (of_kind kinds.Where) _)
    (λ more ok. stops_past (of_kind kinds.Where) nothing more (λ x e. refl) ok.1) where
      weak : IsReader (Stops is_and) where_clause equals_reader → IsReader NoWhere where_clause equals_reader
      weak r = record { reads = λ more xs ok. r.reads more xs ok.0; leaves = r.leaves }

no_where : (m : ScriptKind) (b : Form ScriptToken) (more : List (Form ScriptToken)) → KeptApart is_and (of_kind m) → KeptApart (of_kind kinds.Where) (of_kind m) → Begins (of_kind m) b → NoWhere (b ∷ more)
no_where m b more h k begins = (stops_kind kinds.And m b more h begins, stops_kind kinds.Where m b more k begins)

-- what begins a form that may be left out, or the next
optional_begins : (p q : ScriptToken → Bool) (b c : Form ScriptToken) → Begins p b → Begins q c → Begins (λ x. p x || q x) (optional b ▸ c)
optional_begins p q b c h k = record {
  some = rw (h.some, k.some) refl;
  first = λ x e. let two = or_parts (p x) (q x) e in rw (h.first x two.0, h.some, k.first x two.1) refl;
}

where_begins : Begins (of_kind kinds.Where) where_clause
unfolding where_clause
where_begins = begins_with (of_kind kinds.Where) _

sources_stop : (more : List (Form ScriptToken)) → Stops is_comma ((optional where_clause ▸ any kinds.Semicolon) ∷ more)
sources_stop more =
    stops_at is_comma (λ x. of_kind kinds.Where x || of_kind kinds.Semicolon x) (optional where_clause ▸ any kinds.Semicolon) more (optional_begins (of_kind kinds.Where) (of_kind kinds.Semicolon) where_clause (any kinds.Semicolon) where_begins (begins_one (of_kind kinds.Semicolon)))
    (apart_or is_comma (of_kind kinds.Where) (of_kind kinds.Semicolon) (apart_kinds kinds.Comma kinds.Where refl) (apart_kinds kinds.Comma kinds.Semicolon refl))

pub match_reads : (top : ℕ) → IsReader Anything (match_rest top) (match_reader top)
unfolding match_rest match_reader matched_reader
match_reads top =
    then_any Anything _ _ _ _ (a (of_kind kinds.Match)) (λ m.
    then_any Anything _ _ _ _ (a (of_kind kinds.As)) (λ as_word.
    then_any Anything _ _ _ _ (a (of_kind kinds.Select)) (λ s.
    then_any Anything _ _ _ _ (a (of_kind kinds.Distinct)) (λ d.
    then_reads Anything (Stops is_comma) (select top) _ (select_reader top) _ (select_reads top) (λ chosen.
    then_any Anything _ _ _ _ (a (of_kind kinds.From)) (λ f.
    then_reads Anything (Stops is_comma) (sources top) (optional where_clause ▸ any kinds.Semicolon) (sources_reader top) _ (sources_reads top) (λ from.
    then_reads Anything NoWhere (optional where_clause) (any kinds.Semicolon) where_clause_reader _ where_reads (λ equals. last_reads Anything (any kinds.Semicolon) (token (of_kind kinds.Semicolon)) _ (a (of_kind kinds.Semicolon)))
    (λ more ok. no_where kinds.Semicolon (any kinds.Semicolon) more (apart_kinds kinds.And kinds.Semicolon refl) (apart_kinds kinds.Where kinds.Semicolon refl) (begins_one (of_kind kinds.Semicolon))))
    (λ more ok. sources_stop more)))
    (λ more ok. stops_kind kinds.Comma kinds.From _ more (apart_kinds kinds.Comma kinds.From refl) (begins_with (of_kind kinds.From) _))))))

-- ---- CREATE TABLE k<r>

columns_test_reads : IsReader Anything (any kinds.Other ▸ any kinds.Dot ▸ any kinds.Column ▸ any kinds.Equal ▸ any kinds.Own ▸ any kinds.Dot ▸ any kinds.Column) columns_reader
unfolding columns_reader
columns_test_reads =
    then_any Anything _ _ _ _ (a (of_kind kinds.Other)) (λ n. then_any Anything _ _ _ _ (a (of_kind kinds.Dot)) (λ d. then_any Anything _ _ _ _ (a (of_kind kinds.Column)) (λ c. then_any Anything _ _ _ _ (a (of_kind kinds.Equal)) (λ e.
    then_any Anything _ _ _ _ (a (of_kind kinds.Own)) (λ m. then_any Anything _ _ _ _ (a (of_kind kinds.Dot)) (λ p. last_reads Anything (any kinds.Column) (token (of_kind kinds.Column)) _ (a (of_kind kinds.Column))))))))

text_test_reads : IsReader Anything (any kinds.Own ▸ any kinds.Dot ▸ any kinds.Column ▸ any kinds.Equal ▸ any kinds.Text) text_reader
unfolding text_reader
text_test_reads =
    then_any Anything _ _ _ _ (a (of_kind kinds.Own)) (λ n. then_any Anything _ _ _ _ (a (of_kind kinds.Dot)) (λ d. then_any Anything _ _ _ _ (a (of_kind kinds.Column)) (λ c. then_any Anything _ _ _ _ (a (of_kind kinds.Equal)) (λ e.
    last_reads Anything (any kinds.Text) (token (of_kind kinds.Text)) _ (a (of_kind kinds.Text))))))

pub test_reads : IsReader Anything test test_reader
unfolding test test_reader
test_reads =
    either_reads Anything (of_kind kinds.Other) _ _ columns_reader text_reader columns_test_reads text_test_reads (begins_with (of_kind kinds.Other) _)
    (λ more ok. stops_kind kinds.Other kinds.Own _ more (apart_kinds kinds.Other kinds.Own refl) (begins_with (of_kind kinds.Own) _))

pub and_test_consumes : Consumes (past is_and test_reader)
and_test_consumes = past_consumes is_and test test_reader test_reads

tests_reads : IsReader (Stops is_and) tests tests_reader
unfolding tests tests_reader
tests_reads = then_any (Stops is_and) (any kinds.Where) (listed is_and test) (token (of_kind kinds.Where)) _ (a (of_kind kinds.Where)) (λ k. list_reads is_and test test_reader test_reads)

tests_begin : Begins (of_kind kinds.Where) tests
unfolding tests
tests_begin = begins_with (of_kind kinds.Where) _

optional_tests_reads : IsReader NoWhere (optional tests) optional_tests
unfolding optional_tests
optional_tests_reads =
    either_reads NoWhere (of_kind kinds.Where) tests nothing tests_reader (give []) (record { reads = λ more xs ok. tests_reads.reads more xs ok.0; leaves = tests_reads.leaves }) (nothing_reads NoWhere []) tests_begin
    (λ more ok. stops_past (of_kind kinds.Where) nothing more (λ x e. refl) ok.1)

pub unless_reads : IsReader Anything unless unless_reader
unfolding unless unless_reader
unless_reads =
    then_any Anything _ _ _ _ (a (of_kind kinds.Not)) (λ n. then_any Anything _ _ _ _ (a (of_kind kinds.Exists)) (λ x. then_any Anything _ _ _ _ (a (of_kind kinds.Open)) (λ o. then_any Anything _ _ _ _ (a (of_kind kinds.Select)) (λ s.
    then_any Anything _ _ _ _ (a (of_kind kinds.Star)) (λ star. then_any Anything _ _ _ _ (a (of_kind kinds.From)) (λ f. then_any Anything _ _ _ _ (a (of_kind kinds.Match)) (λ t. then_any Anything _ _ _ _ (a (of_kind kinds.As)) (λ as_word. then_any Anything _ _ _ _ (a (of_kind kinds.Other)) (λ alias.
    then_reads Anything NoWhere (optional tests) (any kinds.Close) optional_tests _ optional_tests_reads (λ made. last_reads Anything (any kinds.Close) (token (of_kind kinds.Close)) _ (a (of_kind kinds.Close)))
    (λ more ok. no_where kinds.Close (any kinds.Close) more (apart_kinds kinds.And kinds.Close refl) (apart_kinds kinds.Where kinds.Close refl) (begins_one (of_kind kinds.Close))))))))))))

pub and_unless_consumes : Consumes (past is_and unless_reader)
and_unless_consumes = past_consumes is_and unless unless_reader unless_reads

keep_tail_reads : (r : ℕ) → IsReader Anything (keep_tail r) (keep_tail_reader r)
unfolding keep_tail keep_tail_reader
keep_tail_reads r =
    then_any Anything _ _ _ _ (a (of_kind kinds.As)) (λ as_word. then_any Anything _ _ _ _ (a (of_kind kinds.Select)) (λ s. then_any Anything _ _ _ _ (a (of_kind kinds.Star)) (λ star. then_any Anything _ _ _ _ (a (of_kind kinds.From)) (λ f.
    then_any Anything _ _ _ _ (a (match_is r)) (λ m. then_any Anything _ _ _ _ (a (of_kind kinds.As)) (λ b. then_any Anything _ _ _ _ (a (of_kind kinds.Own)) (λ alias. then_any Anything _ _ _ _ (a (of_kind kinds.Where)) (λ wh.
    then_reads Anything (Stops is_and) (listed is_and unless) (any kinds.Semicolon) (list_reader is_and unless_reader) _ (list_reads is_and unless unless_reader unless_reads) (λ made. last_reads Anything (any kinds.Semicolon) (token (of_kind kinds.Semicolon)) _ (a (of_kind kinds.Semicolon)))
    (λ more ok. stops_kind kinds.And kinds.Semicolon (any kinds.Semicolon) more (apart_kinds kinds.And kinds.Semicolon refl) (begins_one (of_kind kinds.Semicolon)))))))))))

pub keep_reads : (top : ℕ) → IsReader Anything (keep_rest top) (keep_reader top)
unfolding keep_rest keep_reader
keep_reads top = number_reads top Anything (of_kind kinds.Keep) number keep_tail keep_tail_reader keep_tail_reads

-- ---- INSERT

text_out_reads : IsReader Anything text_out text_out_reader
unfolding text_out text_out_reader
text_out_reads = last_reads Anything (any kinds.Text) (token (of_kind kinds.Text)) _ (a (of_kind kinds.Text))

column_out_reads : IsReader Anything column_out column_out_reader
unfolding column_out column_out_reader
column_out_reads = then_any Anything _ _ _ _ (a (of_kind kinds.Own)) (λ m. then_any Anything _ _ _ _ (a (of_kind kinds.Dot)) (λ d. last_reads Anything (any kinds.Column) (token (of_kind kinds.Column)) _ (a (of_kind kinds.Column))))

skolem_tail_reads : IsReader Anything skolem_tail skolem_tail_reader
unfolding skolem_tail skolem_tail_reader
skolem_tail_reads =
    then_any Anything _ _ _ _ (a (of_kind kinds.Comma)) (λ c. then_any Anything _ _ _ _ (a (of_kind kinds.Number)) (λ v. then_any Anything _ _ _ _ (a (of_kind kinds.Comma)) (λ d. then_any Anything _ _ _ _ (a (of_kind kinds.Own)) (λ m.
    then_any Anything _ _ _ _ (a (of_kind kinds.Dot)) (λ p. then_any Anything _ _ _ _ (a (of_kind kinds.Place)) (λ q. last_reads Anything (any kinds.Close) (token (of_kind kinds.Close)) _ (a (of_kind kinds.Close))))))))

-- a token that depends on no number, whatever follows
b : (top : ℕ) (p : ScriptToken → Bool) → IsKnower top Anything (λ k. one p) (always (token p))
b top p = always_knows top Anything (one p) (token p) (a p)

skolem_knows : (top : ℕ) → IsKnower top Anything skolem_out (skolem_reader top)
unfolding skolem_out skolem_reader
skolem_knows top =
    then_knows top Anything Anything (λ k. any kinds.Skolem) _ _ _ (b top (of_kind kinds.Skolem)) (λ s.
    then_knows top Anything Anything (λ k. any kinds.Open) _ _ _ (b top (of_kind kinds.Open)) (λ o.
    then_knows top Anything Anything (λ k. one (number_is k)) (λ k. skolem_tail) _ _ (number_knows top Anything (of_kind kinds.Number) number) (λ n.
    last_knows top Anything (λ k. skolem_tail) _ _ (always_knows top Anything skolem_tail skolem_tail_reader skolem_tail_reads)) (λ k more ok. tt)) (λ k more ok. tt)) (λ k more ok. tt)

skolem_begins : (k : ℕ) → Begins (of_kind kinds.Skolem) (skolem_out k)
unfolding skolem_out
skolem_begins k = begins_with (of_kind kinds.Skolem) _

column_out_begins : Begins (of_kind kinds.Own) column_out
unfolding column_out
column_out_begins = begins_with (of_kind kinds.Own) _

text_out_begins : Begins (of_kind kinds.Text) text_out
unfolding text_out
text_out_begins = begins_one (of_kind kinds.Text)

abbrev column_or_skolem : ScriptToken → Bool
column_or_skolem x = of_kind kinds.Own x || of_kind kinds.Skolem x

later_begins : (k : ℕ) → Begins column_or_skolem (column_out ∣ skolem_out k)
later_begins k =
    begins_choice column_or_skolem column_out (skolem_out k)
    (begins_wider (of_kind kinds.Own) column_or_skolem column_out (λ x e. (or_parts (of_kind kinds.Own x) (of_kind kinds.Skolem x) e).0) column_out_begins)
    (begins_wider (of_kind kinds.Skolem) column_or_skolem (skolem_out k) (λ x e. (or_parts (of_kind kinds.Own x) (of_kind kinds.Skolem x) e).1) (skolem_begins k))

pub out_knows : (top : ℕ) → IsKnower top Anything out (out_reader top)
unfolding out out_reader
out_knows top =
    choosing_knows top Anything (of_kind kinds.Text) (λ k. text_out) (λ k. column_out ∣ skolem_out k) _ _ (always_knows top Anything text_out text_out_reader text_out_reads)
    (choosing_knows top Anything (of_kind kinds.Own) (λ k. column_out) skolem_out _ _ (always_knows top Anything column_out column_out_reader column_out_reads) (skolem_knows top) (λ k. column_out_begins)
    (λ k more ok. stops_kind kinds.Own kinds.Skolem (skolem_out k) more (apart_kinds kinds.Own kinds.Skolem refl) (skolem_begins k)))
    (λ k. text_out_begins)
    (λ k more ok. stops_at (of_kind kinds.Text) column_or_skolem (column_out ∣ skolem_out k) more (later_begins k) (apart_or (of_kind kinds.Text) (of_kind kinds.Own) (of_kind kinds.Skolem) (apart_kinds kinds.Text kinds.Own refl) (apart_kinds kinds.Text kinds.Skolem refl)))

pub comma_out_knows : (top : ℕ) → IsKnower top Anything (λ k. one is_comma ▸ out k) (comma_out top)
unfolding comma_out
comma_out_knows top = then_knows top Anything Anything (λ k. one is_comma) out _ _ (b top is_comma) (λ c. out_knows top) (λ k more ok. tt)

pub comma_out_consumes : (top : ℕ) → ConsumesKnown (comma_out top)
comma_out_consumes top = known_consumes top is_comma (λ k. one is_comma ▸ out k) (comma_out top) (comma_out_knows top) (λ k. past_begins is_comma (out k))

outs_knows : (top : ℕ) → IsKnower top (Stops is_comma) (λ k. out k ▸ repeated (one is_comma ▸ out k)) (outs_reader top)
unfolding outs_reader
outs_knows top =
    then_knows top (Stops is_comma) Anything out (λ k. repeated (one is_comma ▸ out k)) _ _ (out_knows top) (λ first.
    last_knows top (Stops is_comma) (λ k. repeated (one is_comma ▸ out k)) (knowing is_comma (comma_out top)) (λ others. first ∷ others) (knowing_knows top is_comma (λ k. one is_comma ▸ out k) (comma_out top) (comma_out_knows top) (λ k. past_begins is_comma (out k)))) (λ k more ok. tt)

insert_end_reads : IsReader Anything insert_end insert_end_reader
unfolding insert_end insert_end_reader
insert_end_reads = then_any Anything _ _ _ _ (a (of_kind kinds.As)) (λ k. then_any Anything _ _ _ _ (a (of_kind kinds.Own)) (λ m. last_reads Anything (any kinds.Semicolon) (token (of_kind kinds.Semicolon)) _ (a (of_kind kinds.Semicolon))))

insert_tail_knows : (top : ℕ) (table : List ℕ) → IsKnower top Anything insert_tail (insert_tail_reader top table)
unfolding insert_tail insert_tail_reader
insert_tail_knows top table =
    then_knows top Anything (Stops is_comma) (λ k. out k ▸ repeated (one is_comma ▸ out k)) _ (outs_reader top) _ (outs_knows top) (λ cells.
    then_knows top Anything Anything (λ k. any kinds.From) _ _ _ (b top (of_kind kinds.From)) (λ f.
    then_knows top Anything Anything (λ k. one (has_number is_table number k)) (λ k. insert_end) _ _ (number_knows top Anything is_table number) (λ t.
    last_knows top Anything (λ k. insert_end) _ _ (always_knows top Anything insert_end insert_end_reader insert_end_reads)) (λ k more ok. tt)) (λ k more ok. tt))
    (λ k more ok. stops_kind kinds.Comma kinds.From _ more (apart_kinds kinds.Comma kinds.From refl) (begins_with (of_kind kinds.From) _))

insert_tail_some : (k : ℕ) → ends (insert_tail k) ≡ false
unfolding insert_tail out text_out column_out skolem_out
insert_tail_some k = refl

pub insert_reads : (top : ℕ) → IsReader Anything (insert top) (insert_reader top)
unfolding insert insert_reader
insert_reads top =
    then_any Anything _ _ _ _ (a (of_kind kinds.Insert)) (λ i. then_any Anything _ _ _ _ (a (of_kind kinds.Into)) (λ into. then_any Anything _ _ _ _ (a (of_kind kinds.Target)) (λ s. then_any Anything _ _ _ _ (a (of_kind kinds.Dot)) (λ d. then_any Anything _ _ _ _ (a (of_kind kinds.Name)) (λ n. then_any Anything _ _ _ _ (a (of_kind kinds.Select)) (λ k.
    unknowing_reads top Anything insert_tail (insert_tail_reader top n.text) (insert_tail_knows top n.text) insert_tail_some))))))

-- ---- steps

create_begins : Begins (of_kind kinds.Target) create_rest
unfolding create_rest
create_begins = begins_with (of_kind kinds.Target) _

match_begins : (top : ℕ) → Begins (of_kind kinds.Match) (match_rest top)
unfolding match_rest
match_begins top = begins_with (of_kind kinds.Match) _

keep_one_begins : (r : ℕ) → Begins (of_kind kinds.Keep) (one (keep_is r) ▸ keep_tail r)
keep_one_begins r = begins_wider (keep_is r) (of_kind kinds.Keep) (one (keep_is r) ▸ keep_tail r) (λ x e. number_false (of_kind kinds.Keep) number r x e) (begins_with (keep_is r) _)

keep_begins : (top : ℕ) → Begins (of_kind kinds.Keep) (keep_rest top)
unfolding keep_rest
keep_begins top = any_begins (of_kind kinds.Keep) top (λ r. one (keep_is r) ▸ keep_tail r) (λ r. keep_one_begins r)

insert_begins : (top : ℕ) → Begins (of_kind kinds.Insert) (insert top)
unfolding insert
insert_begins top = begins_with (of_kind kinds.Insert) _

abbrev match_or_keep : ScriptToken → Bool
match_or_keep x = of_kind kinds.Match x || of_kind kinds.Keep x

match_or_keep_begins : (top : ℕ) → Begins match_or_keep (match_rest top ∣ keep_rest top)
match_or_keep_begins top =
    begins_choice match_or_keep (match_rest top) (keep_rest top)
    (begins_wider (of_kind kinds.Match) match_or_keep (match_rest top) (λ x e. (or_parts (of_kind kinds.Match x) (of_kind kinds.Keep x) e).0) (match_begins top))
    (begins_wider (of_kind kinds.Keep) match_or_keep (keep_rest top) (λ x e. (or_parts (of_kind kinds.Match x) (of_kind kinds.Keep x) e).1) (keep_begins top))

pub table_reads : (top : ℕ) → IsReader Anything (table_rest top) (table_reader top)
unfolding table_rest table_reader
table_reads top =
    either_reads Anything (of_kind kinds.Target) create_rest (match_rest top ∣ keep_rest top) create_reader _ create_reads
    (either_reads Anything (of_kind kinds.Match) (match_rest top) (keep_rest top) (match_reader top) (keep_reader top) (match_reads top) (keep_reads top) (match_begins top)
    (λ more ok. stops_at (of_kind kinds.Match) (of_kind kinds.Keep) (keep_rest top) more (keep_begins top) (apart_kinds kinds.Match kinds.Keep refl)))
    create_begins
    (λ more ok. stops_at (of_kind kinds.Target) match_or_keep (match_rest top ∣ keep_rest top) more (match_or_keep_begins top) (apart_or (of_kind kinds.Target) (of_kind kinds.Match) (of_kind kinds.Keep) (apart_kinds kinds.Target kinds.Match refl) (apart_kinds kinds.Target kinds.Keep refl)))

created_reads : (top : ℕ) → IsReader Anything (any kinds.Create ▸ any kinds.Table ▸ table_rest top) (created_reader top)
unfolding created_reader
created_reads top = then_any Anything _ _ _ _ (a (of_kind kinds.Create)) (λ c. then_any Anything _ _ _ _ (a (of_kind kinds.Table)) (λ t. table_reads top))

pub step_reads : (top : ℕ) → IsReader Anything (step top) (step_reader top)
unfolding step step_reader
step_reads top =
    either_reads Anything (of_kind kinds.Create) (any kinds.Create ▸ any kinds.Table ▸ table_rest top) (insert top) (created_reader top) (insert_reader top) (created_reads top) (insert_reads top) (begins_with (of_kind kinds.Create) _)
    (λ more ok. stops_kind kinds.Create kinds.Insert (insert top) more (apart_kinds kinds.Create kinds.Insert refl) (insert_begins top))

pub step_begins : (top : ℕ) → Begins begins_step (step top)
unfolding step
step_begins top =
    begins_choice begins_step (any kinds.Create ▸ any kinds.Table ▸ table_rest top) (insert top)
    (begins_wider (of_kind kinds.Create) begins_step (any kinds.Create ▸ any kinds.Table ▸ table_rest top) (λ x e. (or_parts (of_kind kinds.Create x) (of_kind kinds.Insert x) e).0) (begins_with (of_kind kinds.Create) _))
    (begins_wider (of_kind kinds.Insert) begins_step (insert top) (λ x e. (or_parts (of_kind kinds.Create x) (of_kind kinds.Insert x) e).1) (insert_begins top))

pub step_consumes : (top : ℕ) → Consumes (step_reader top)
step_consumes top = consumes begins_step (step top) (step_reader top) (step_reads top) (step_begins top)

pub script_reads : (top : ℕ) → IsReader (Stops begins_step) (script top) (script_reader top)
unfolding script script_reader
script_reads top = many_reads begins_step (step top) (step_reader top) (step_reads top) (step_begins top)
