-- The grammar of scripts, over tokens with what they say.
use Rattle.std.specs.Prelude.{ℕ, Bool, ◌||◌, nat_eq}
use Rattle.dx_grammar.specs.Forms.{Form, one, ◌▸◌, ◌∣◌, repeated, optional}
use Rattle.dx_grammar.specs.Lists.{listed}
use Rattle.dx_grammar.specs.Numbers.{any_to, counted, has_number}
use Rattle.dx_script_tokens.specs.declared.scanner.ScriptToken.{ScriptToken}
use Rattle.dx_script_tokens.specs.declared.kinds.ScriptKind.{ScriptKind}
use Rattle.dx_script_tokens.specs.declared.kinds.ScriptKind.TheVariants as kinds
use Rattle.dx_script_tokens.specs.Kinds.{kind_number}

-- ---- tokens

-- the token is of this kind
abbrev pub of_kind : ScriptKind → ScriptToken → Bool
of_kind k x = nat_eq (kind_number x.kind) (kind_number k)

-- the number of a token
abbrev pub number : ScriptToken → ℕ
number x = x.number

-- m<r>, k<r>, a<n>, c<n>, this number
abbrev pub match_is : ℕ → ScriptToken → Bool
match_is r = has_number (of_kind kinds.Match) number r

abbrev pub keep_is : ℕ → ScriptToken → Bool
keep_is r = has_number (of_kind kinds.Keep) number r

abbrev pub alias_is : ℕ → ScriptToken → Bool
alias_is n = has_number (of_kind kinds.Alias) number n

abbrev pub column_is : ℕ → ScriptToken → Bool
column_is n = has_number (of_kind kinds.Column) number n

abbrev pub number_is : ℕ → ScriptToken → Bool
number_is n = has_number (of_kind kinds.Number) number n

-- m<r> or k<r>, for any rule
abbrev pub is_table : ScriptToken → Bool
is_table x = of_kind kinds.Match x || of_kind kinds.Keep x

abbrev pub is_comma : ScriptToken → Bool
is_comma = of_kind kinds.Comma

abbrev pub is_and : ScriptToken → Bool
is_and = of_kind kinds.And

-- any token of this kind
abbrev pub any : ScriptKind → Form ScriptToken
any k = one (of_kind k)

-- ---- forms

-- "column" TEXT
unfoldable pub declared_column : Form ScriptToken
declared_column = any kinds.Name ▸ any kinds.Type

-- target . "table" ( columns ) ;
unfoldable pub create_rest : Form ScriptToken
create_rest =
    any kinds.Target ▸ any kinds.Dot ▸ any kinds.Name ▸ any kinds.Open ▸ listed is_comma declared_column
    ▸ any kinds.Close ▸ any kinds.Semicolon

-- a<n> . "column"
unfoldable pub alias_cell : Form ScriptToken
alias_cell = any kinds.Alias ▸ any kinds.Dot ▸ any kinds.Name

-- "conversion" ( cell , cell )
unfoldable pub call : Form ScriptToken
call = any kinds.Name ▸ any kinds.Open ▸ listed is_comma alias_cell ▸ any kinds.Close

-- cell | call
unfoldable pub value : Form ScriptToken
value = alias_cell ∣ call

-- value AS c<n>
unfoldable pub select_item : ℕ → Form ScriptToken
select_item n = value ▸ any kinds.As ▸ one (column_is n)

-- cell AS c0, cell AS c1 and so on
unfoldable pub items : ℕ → Form ScriptToken
items top = select_item 0 ▸ counted top 1 (λ n. one is_comma ▸ select_item n)

-- 1 | items
unfoldable pub select : ℕ → Form ScriptToken
select top = one (number_is 1) ∣ items top

-- source . "table" AS a<n>
unfoldable pub from_source : ℕ → Form ScriptToken
from_source n = any kinds.Source ▸ any kinds.Dot ▸ any kinds.Name ▸ any kinds.As ▸ one (alias_is n)

-- source AS a0, source AS a1 and so on
unfoldable pub sources : ℕ → Form ScriptToken
sources top = from_source 0 ▸ counted top 1 (λ n. one is_comma ▸ from_source n)

-- cell = cell
unfoldable pub equal : Form ScriptToken
equal = alias_cell ▸ any kinds.Equal ▸ alias_cell

-- WHERE equal { AND equal }
unfoldable pub where_clause : Form ScriptToken
where_clause = any kinds.Where ▸ listed is_and equal

-- m<r> AS SELECT DISTINCT select FROM sources [ where ] ;
unfoldable pub match_rest : ℕ → Form ScriptToken
match_rest top =
    any kinds.Match ▸ any kinds.As ▸ any kinds.Select ▸ any kinds.Distinct ▸ select top ▸ any kinds.From
    ▸ sources top ▸ optional where_clause ▸ any kinds.Semicolon

-- n . c<other> = m . c<own> | m . c<own> = 'text'
unfoldable pub test : Form ScriptToken
test =
    (any kinds.Other ▸ any kinds.Dot ▸ any kinds.Column ▸ any kinds.Equal ▸ any kinds.Own
    ▸ any kinds.Dot ▸ any kinds.Column)
    ∣ (any kinds.Own ▸ any kinds.Dot ▸ any kinds.Column ▸ any kinds.Equal ▸ any kinds.Text)

-- WHERE test { AND test }
unfoldable pub tests : Form ScriptToken
tests = any kinds.Where ▸ listed is_and test

-- NOT EXISTS ( SELECT * FROM m<j> AS n [ tests ] )
unfoldable pub unless : Form ScriptToken
unless =
    any kinds.Not ▸ any kinds.Exists ▸ any kinds.Open ▸ any kinds.Select ▸ any kinds.Star
    ▸ any kinds.From ▸ any kinds.Match ▸ any kinds.As ▸ any kinds.Other ▸ optional tests ▸ any kinds.Close

-- AS SELECT * FROM m<r> AS m WHERE unless { AND unless } ;
unfoldable pub keep_tail : ℕ → Form ScriptToken
keep_tail r =
    any kinds.As ▸ any kinds.Select ▸ any kinds.Star ▸ any kinds.From ▸ one (match_is r) ▸ any kinds.As
    ▸ any kinds.Own ▸ any kinds.Where ▸ listed is_and unless ▸ any kinds.Semicolon

-- k<r> and its tail, for some rule r
unfoldable pub keep_rest : ℕ → Form ScriptToken
keep_rest top = any_to top (λ r. one (keep_is r) ▸ keep_tail r)

-- 'text'
unfoldable pub text_out : Form ScriptToken
text_out = any kinds.Text

-- m . c<n>
unfoldable pub column_out : Form ScriptToken
column_out = any kinds.Own ▸ any kinds.Dot ▸ any kinds.Column

-- , v , m . place )
unfoldable pub skolem_tail : Form ScriptToken
skolem_tail =
    any kinds.Comma ▸ any kinds.Number ▸ any kinds.Comma ▸ any kinds.Own ▸ any kinds.Dot
    ▸ any kinds.Place ▸ any kinds.Close

-- SKOLEM ( r , v , m . place )
unfoldable pub skolem_out : ℕ → Form ScriptToken
skolem_out r = any kinds.Skolem ▸ any kinds.Open ▸ one (number_is r) ▸ skolem_tail

-- a cell of an insert step of rule r
unfoldable pub out : ℕ → Form ScriptToken
out r = text_out ∣ column_out ∣ skolem_out r

-- AS m ;
unfoldable pub insert_end : Form ScriptToken
insert_end = any kinds.As ▸ any kinds.Own ▸ any kinds.Semicolon

-- outs FROM m<r> or k<r> AS m ;
unfoldable pub insert_tail : ℕ → Form ScriptToken
insert_tail r =
    (out r ▸ repeated (one is_comma ▸ out r)) ▸ any kinds.From ▸ one (has_number is_table number r) ▸ insert_end

-- INSERT INTO target . "table" SELECT and its tail, for some rule r
unfoldable pub insert : ℕ → Form ScriptToken
insert top =
    any kinds.Insert ▸ any kinds.Into ▸ any kinds.Target ▸ any kinds.Dot ▸ any kinds.Name
    ▸ any kinds.Select ▸ any_to top insert_tail

-- create_rest | match_rest | keep_rest
unfoldable pub table_rest : ℕ → Form ScriptToken
table_rest top = create_rest ∣ match_rest top ∣ keep_rest top

-- CREATE TABLE table_rest | insert
unfoldable pub step : ℕ → Form ScriptToken
step top = (any kinds.Create ▸ any kinds.Table ▸ table_rest top) ∣ insert top

-- { step }
unfoldable pub script : ℕ → Form ScriptToken
script top = repeated (step top)
