-- What the forms of scripts say: a reader for each.
use Rattle.std.specs.Prelude.{ℕ, ◌-◌, Bool, ◌||◌, List, [], ◌∷◌, length}
use Rattle.dx_grammar.specs.Readers.{Reader, ◌>>=◌, give, token, either, many, with_front}
use Rattle.dx_grammar.specs.Lists.{past, list_reader}
use Rattle.dx_grammar.specs.Numbers.{counted_reader, Knower, ◌then◌, giving, always}
use Rattle.dx_grammar.specs.Numbers.{number_token, choosing, knowing, number_then, unknowing}
use Rattle.dx_script.specs.declared.form.CellRef.{CellRef}
use Rattle.dx_script.specs.declared.form.Select.{Select}
use Rattle.dx_script.specs.declared.form.Select.TheVariants as selected
use Rattle.dx_script.specs.declared.form.Equal.{Equal}
use Rattle.dx_script.specs.declared.form.Test.{Test}
use Rattle.dx_script.specs.declared.form.Test.TheVariants as tested
use Rattle.dx_script.specs.declared.form.Unless.{Unless}
use Rattle.dx_script.specs.declared.form.Out.{Out}
use Rattle.dx_script.specs.declared.form.Out.TheVariants as outs
use Rattle.dx_script.specs.declared.form.Step.{Step}
use Rattle.dx_script.specs.declared.form.Step.TheVariants as made
use Rattle.dx_script_tokens.specs.declared.scanner.ScriptToken.{ScriptToken}
use Rattle.dx_script_tokens.specs.declared.kinds.ScriptKind.TheVariants as kinds
use Rattle.dx_script_text.specs.Grammar.{of_kind, number, match_is, alias_is, column_is}
use Rattle.dx_script_text.specs.Grammar.{number_is, is_table, is_comma, is_and}

-- ---- values

abbrev pub alias_cell_of : ScriptToken → ScriptToken → CellRef
alias_cell_of a c = record { alias = a.number; column = c.text }

abbrev pub cell_select : CellRef → Select
cell_select c = selected.Cell c

abbrev pub call_value : List ℕ → List CellRef → Select
call_value name args = selected.Call name args

abbrev pub create_step : List ℕ → List (List ℕ) → Step
create_step table columns = made.Create table columns

abbrev pub match_step_of : ℕ → List Select → List (List ℕ) → List Equal → Step
match_step_of rule select sources equal = made.MatchRows rule select sources equal

abbrev pub keep_step_of : ℕ → List Unless → Step
keep_step_of rule unless = made.KeepRows rule unless

abbrev pub insert_step_of : List ℕ → ℕ → Bool → List Out → Step
insert_step_of table rule kept cells = made.InsertRows table rule kept cells

abbrev pub columns_test : ℕ → ℕ → Test
columns_test other own = tested.Columns other own

abbrev pub text_test : ℕ → List ℕ → Test
text_test own text = tested.Literal own text

abbrev pub column_cell : ℕ → Out
column_cell n = outs.Column n

abbrev pub text_cell : List ℕ → Out
text_cell t = outs.Literal t

abbrev pub skolem_cell : ℕ → Out
skolem_cell v = outs.Skolem v

-- ---- numbered lists

-- all of these, and those that follow, each after a comma and with the next number
abbrev pub and_counted : {A : Type 0} → (ℕ → Reader ScriptToken A) → List A → Reader ScriptToken (List A)
and_counted next all tokens =
    with_front all (counted_reader is_comma next (4294967296 - length all) (length all) tokens)

-- ---- CREATE TABLE target

unfoldable pub declared_reader : Reader ScriptToken (List ℕ)
declared_reader = do
  name ← token (of_kind kinds.Name)
  text ← token (of_kind kinds.Type)
  give name.text

unfoldable pub create_reader : Reader ScriptToken Step
create_reader = do
  side ← token (of_kind kinds.Target)
  dot ← token (of_kind kinds.Dot)
  table ← token (of_kind kinds.Name)
  opening ← token (of_kind kinds.Open)
  columns ← list_reader is_comma declared_reader
  closing ← token (of_kind kinds.Close)
  ending ← token (of_kind kinds.Semicolon)
  give (create_step table.text columns)

-- ---- CREATE TABLE m<r>

unfoldable pub alias_cell_reader : Reader ScriptToken CellRef
alias_cell_reader = do
  a ← token (of_kind kinds.Alias)
  dot ← token (of_kind kinds.Dot)
  c ← token (of_kind kinds.Name)
  give (alias_cell_of a c)

unfoldable pub select_call_reader : Reader ScriptToken Select
select_call_reader = do
  name ← token (of_kind kinds.Name)
  opening ← token (of_kind kinds.Open)
  args ← list_reader is_comma alias_cell_reader
  closing ← token (of_kind kinds.Close)
  give (call_value name.text args)

unfoldable pub cell_value_reader : Reader ScriptToken Select
cell_value_reader = do
  c ← alias_cell_reader
  give (cell_select c)

unfoldable pub value_reader : Reader ScriptToken Select
value_reader = either (of_kind kinds.Alias) cell_value_reader select_call_reader

unfoldable pub select_item_reader : ℕ → Reader ScriptToken Select
select_item_reader n = do
  c ← value_reader
  keyword ← token (of_kind kinds.As)
  k ← token (column_is n)
  give c

unfoldable pub comma_item : ℕ → Reader ScriptToken Select
comma_item n = past is_comma (select_item_reader n)

unfoldable pub items_reader : ℕ → Reader ScriptToken (List Select)
items_reader top = do
  first ← select_item_reader 0
  others ← counted_reader is_comma comma_item top 1
  give (first ∷ others)

unfoldable pub no_items : Reader ScriptToken (List Select)
no_items = do
  digit ← token (number_is 1)
  give []

unfoldable pub select_reader : ℕ → Reader ScriptToken (List Select)
select_reader top = either (number_is 1) no_items (items_reader top)

unfoldable pub from_source_reader : ℕ → Reader ScriptToken (List ℕ)
from_source_reader n = do
  side ← token (of_kind kinds.Source)
  dot ← token (of_kind kinds.Dot)
  table ← token (of_kind kinds.Name)
  keyword ← token (of_kind kinds.As)
  k ← token (alias_is n)
  give table.text

unfoldable pub comma_source : ℕ → Reader ScriptToken (List ℕ)
comma_source n = past is_comma (from_source_reader n)

unfoldable pub sources_reader : ℕ → Reader ScriptToken (List (List ℕ))
sources_reader top = do
  first ← from_source_reader 0
  others ← counted_reader is_comma comma_source top 1
  give (first ∷ others)

unfoldable pub equal_reader : Reader ScriptToken Equal
equal_reader = do
  left ← alias_cell_reader
  sign ← token (of_kind kinds.Equal)
  right ← alias_cell_reader
  give (record { left = left; right = right })

unfoldable pub equals_reader : Reader ScriptToken (List Equal)
equals_reader = past (of_kind kinds.Where) (list_reader is_and equal_reader)

unfoldable pub where_clause_reader : Reader ScriptToken (List Equal)
where_clause_reader = either (of_kind kinds.Where) equals_reader (give [])

unfoldable pub matched_reader : ℕ → ℕ → List Select → Reader ScriptToken Step
matched_reader top r select = do
  sources ← sources_reader top
  equal ← where_clause_reader
  ending ← token (of_kind kinds.Semicolon)
  give (match_step_of r select sources equal)

unfoldable pub match_reader : ℕ → Reader ScriptToken Step
match_reader top = do
  table ← token (of_kind kinds.Match)
  as_word ← token (of_kind kinds.As)
  select_word ← token (of_kind kinds.Select)
  distinct ← token (of_kind kinds.Distinct)
  select ← select_reader top
  from_word ← token (of_kind kinds.From)
  matched_reader top table.number select

-- ---- CREATE TABLE k<r>

unfoldable pub columns_reader : Reader ScriptToken Test
columns_reader = do
  other ← token (of_kind kinds.Other)
  dot ← token (of_kind kinds.Dot)
  c ← token (of_kind kinds.Column)
  sign ← token (of_kind kinds.Equal)
  own ← token (of_kind kinds.Own)
  point ← token (of_kind kinds.Dot)
  d ← token (of_kind kinds.Column)
  give (columns_test c.number d.number)

unfoldable pub text_reader : Reader ScriptToken Test
text_reader = do
  own ← token (of_kind kinds.Own)
  dot ← token (of_kind kinds.Dot)
  c ← token (of_kind kinds.Column)
  sign ← token (of_kind kinds.Equal)
  t ← token (of_kind kinds.Text)
  give (text_test c.number t.text)

unfoldable pub test_reader : Reader ScriptToken Test
test_reader = either (of_kind kinds.Other) columns_reader text_reader

unfoldable pub tests_reader : Reader ScriptToken (List Test)
tests_reader = past (of_kind kinds.Where) (list_reader is_and test_reader)

unfoldable pub optional_tests : Reader ScriptToken (List Test)
optional_tests = either (of_kind kinds.Where) tests_reader (give [])

unfoldable pub unless_reader : Reader ScriptToken Unless
unless_reader = do
  not_word ← token (of_kind kinds.Not)
  exists_word ← token (of_kind kinds.Exists)
  opening ← token (of_kind kinds.Open)
  select_word ← token (of_kind kinds.Select)
  star ← token (of_kind kinds.Star)
  from_word ← token (of_kind kinds.From)
  table ← token (of_kind kinds.Match)
  as_word ← token (of_kind kinds.As)
  alias ← token (of_kind kinds.Other)
  tests ← optional_tests
  closing ← token (of_kind kinds.Close)
  give (record { rule = table.number; tests = tests })

unfoldable pub keep_tail_reader : ℕ → Reader ScriptToken Step
keep_tail_reader r = do
  as_word ← token (of_kind kinds.As)
  select_word ← token (of_kind kinds.Select)
  star ← token (of_kind kinds.Star)
  from_word ← token (of_kind kinds.From)
  table ← token (match_is r)
  alias_word ← token (of_kind kinds.As)
  alias ← token (of_kind kinds.Own)
  where_word ← token (of_kind kinds.Where)
  unless ← list_reader is_and unless_reader
  ending ← token (of_kind kinds.Semicolon)
  give (keep_step_of r unless)

unfoldable pub keep_reader : ℕ → Reader ScriptToken Step
keep_reader top = number_then (of_kind kinds.Keep) number top keep_tail_reader

-- ---- INSERT

unfoldable pub text_out_reader : Reader ScriptToken Out
text_out_reader = do
  t ← token (of_kind kinds.Text)
  give (text_cell t.text)

unfoldable pub column_out_reader : Reader ScriptToken Out
column_out_reader = do
  own ← token (of_kind kinds.Own)
  dot ← token (of_kind kinds.Dot)
  c ← token (of_kind kinds.Column)
  give (column_cell c.number)

unfoldable pub skolem_tail_reader : Reader ScriptToken ℕ
skolem_tail_reader = do
  comma ← token (of_kind kinds.Comma)
  v ← token (of_kind kinds.Number)
  second ← token (of_kind kinds.Comma)
  own ← token (of_kind kinds.Own)
  dot ← token (of_kind kinds.Dot)
  place_word ← token (of_kind kinds.Place)
  closing ← token (of_kind kinds.Close)
  give v.number

unfoldable pub skolem_reader : ℕ → Knower ScriptToken Out
skolem_reader top =
    always (token (of_kind kinds.Skolem)) then λ word. always (token (of_kind kinds.Open))
    then λ opening. number_token (of_kind kinds.Number) number top
    then λ rule. always skolem_tail_reader then λ v. giving (skolem_cell v)

unfoldable pub out_reader : ℕ → Knower ScriptToken Out
out_reader top =
    choosing (of_kind kinds.Text) (always text_out_reader)
    (choosing (of_kind kinds.Own) (always column_out_reader) (skolem_reader top))

unfoldable pub comma_out : ℕ → Knower ScriptToken Out
comma_out top = always (token is_comma) then λ comma. out_reader top

unfoldable pub outs_reader : ℕ → Knower ScriptToken (List Out)
outs_reader top = out_reader top then λ first. knowing is_comma (comma_out top) then λ others. giving (first ∷ others)

unfoldable pub insert_end_reader : Reader ScriptToken (Unit {0})
insert_end_reader = do
  as_word ← token (of_kind kinds.As)
  alias ← token (of_kind kinds.Own)
  ending ← token (of_kind kinds.Semicolon)
  give tt

unfoldable pub insert_tail_reader : ℕ → List ℕ → Knower ScriptToken Step
insert_tail_reader top table =
    outs_reader top then λ cells. always (token (of_kind kinds.From))
    then λ from_word. number_token is_table number top then λ t. always insert_end_reader
    then λ u. giving (insert_step_of table t.number (of_kind kinds.Keep t) cells)

unfoldable pub insert_reader : ℕ → Reader ScriptToken Step
insert_reader top = do
  insert_word ← token (of_kind kinds.Insert)
  into_word ← token (of_kind kinds.Into)
  side ← token (of_kind kinds.Target)
  dot ← token (of_kind kinds.Dot)
  table ← token (of_kind kinds.Name)
  select_word ← token (of_kind kinds.Select)
  unknowing (insert_tail_reader top table.text)

-- ---- steps

unfoldable pub table_reader : ℕ → Reader ScriptToken Step
table_reader top =
    either (of_kind kinds.Target) create_reader (either (of_kind kinds.Match) (match_reader top) (keep_reader top))

unfoldable pub created_reader : ℕ → Reader ScriptToken Step
created_reader top = do
  create_word ← token (of_kind kinds.Create)
  table_word ← token (of_kind kinds.Table)
  table_reader top

unfoldable pub step_reader : ℕ → Reader ScriptToken Step
step_reader top = either (of_kind kinds.Create) (created_reader top) (insert_reader top)

-- a step begins with CREATE or INSERT
abbrev pub begins_step : ScriptToken → Bool
begins_step x = of_kind kinds.Create x || of_kind kinds.Insert x

unfoldable pub script_reader : ℕ → Reader ScriptToken (List Step)
script_reader top = many begins_step (step_reader top)
