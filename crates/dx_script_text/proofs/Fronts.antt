-- The starts of scripts are the fronts of scripts.
use Rattle.std.proofs.Common.{◌≡◌, ℕ, zero, suc, List, [], ◌++◌, length, ◌-◌, Result, Ok, Err, refl}
use Rattle.dx_grammar.specs.Forms.{one, Derives}
use Rattle.dx_grammar.specs.Laws.{HasTokens}
use Rattle.dx_grammar.specs.Numbers.{has_number}
use Rattle.dx_grammar.proofs.Exact.{whole_start}
use Rattle.dx_grammar.proofs.Told.{starts_have_none}
use Rattle.dx_grammar.proofs.Fronts.{starts_fronts, any_tokens, counted_tokens}
use Rattle.dx_grammar.proofs.Spelled.{whole_finds}
use Rattle.dx_script_tokens.specs.declared.scanner.ScriptToken.{ScriptToken}
use Rattle.dx_script_tokens.specs.declared.kinds.ScriptKind.{ScriptKind}
use Rattle.dx_script_tokens.specs.declared.kinds.ScriptKind.TheVariants as kinds
use Rattle.dx_script.specs.declared.form.Step.{Step}
use Rattle.dx_script_text.specs.Grammar.{of_kind, number, is_table, any, declared_column, create_rest, alias_cell, call, value, select_item, items, select, from_source, sources, equal, where_clause, match_rest, test, tests, unless, keep_tail, keep_rest, text_out, column_out, skolem_tail, skolem_out, out, insert_end, insert_tail, insert, table_rest, step, script}
use Rattle.dx_script_text.specs.Reading.{script_reader}
use Rattle.dx_script_text.specs.Spelling.{SpellsScript}
use Rattle.dx_script_tokens.specs.Numbers.{greatest_number}
use Rattle.dx_script_tokens.specs.Kinds.{kind_number}
use Rattle.dx_script_text.specs.Texts.{script_form}
use Rattle.dx_script_text.specs.Laws.{TextsAreSpelled, StartsAreSpelled}
use Rattle.dx_script_text.proofs.Found.{script_finds, eq_self}
use Rattle.dx_script_text.proofs.Telling.{given, tells_as, spelled_given}

abbrev made : ScriptKind → ℕ → ScriptToken
made kind n = record { place = 0; kind = kind; number = n; text = [] }

-- some token passes
k : (kind : ScriptKind) → HasTokens (any kind)
k kind = (made kind 0, eq_self (kind_number kind))

n : (kind : ScriptKind) (number' : ℕ) → HasTokens (one (has_number (of_kind kind) number number'))
n kind number' = (made kind number', rw (eq_self (kind_number kind), eq_self number') refl)

-- one after the other
infixr 6 ◌&◌
abbrev ◌&◌ : {A B : Type 0} → A → B → A × B
a & b = (a, b)

cell_tokens : HasTokens alias_cell
unfolding alias_cell
cell_tokens = (k kinds.Alias & k kinds.Dot & k kinds.Name)

value_tokens : HasTokens value
unfolding value call
value_tokens = cell_tokens & k kinds.Name & k kinds.Open & (cell_tokens & k kinds.Comma & cell_tokens) & k kinds.Close

item_tokens : (m : ℕ) → HasTokens (select_item m)
unfolding select_item
item_tokens m = (value_tokens & k kinds.As & n kinds.Column m)

source_tokens : (m : ℕ) → HasTokens (from_source m)
unfolding from_source
source_tokens m = (k kinds.Source & k kinds.Dot & k kinds.Name & k kinds.As & n kinds.Alias m)

equal_tokens : HasTokens equal
unfolding equal
equal_tokens = (cell_tokens & k kinds.Equal & cell_tokens)

create_tokens : HasTokens create_rest
unfolding create_rest declared_column
create_tokens = (k kinds.Target & k kinds.Dot & k kinds.Name & k kinds.Open & ((k kinds.Name & k kinds.Type) & (k kinds.Comma & (k kinds.Name & k kinds.Type))) & k kinds.Close & k kinds.Semicolon)

match_tokens : (top : ℕ) → HasTokens (match_rest top)
unfolding match_rest select items sources where_clause
match_tokens top =
    (k kinds.Match & k kinds.As & k kinds.Select & k kinds.Distinct & (n kinds.Number 1 & (item_tokens 0 & counted_tokens top 1 _ (λ m. (k kinds.Comma & item_tokens m)))) & k kinds.From & (source_tokens 0 & counted_tokens top 1 _ (λ m. (k kinds.Comma & source_tokens m))) & ((k kinds.Where & (equal_tokens & (k kinds.And & equal_tokens))) & tt) & k kinds.Semicolon)

test_tokens : HasTokens test
unfolding test
test_tokens = ((k kinds.Other & k kinds.Dot & k kinds.Column & k kinds.Equal & k kinds.Own & k kinds.Dot & k kinds.Column) & (k kinds.Own & k kinds.Dot & k kinds.Column & k kinds.Equal & k kinds.Text))

unless_tokens : HasTokens unless
unfolding unless tests
unless_tokens = (k kinds.Not & k kinds.Exists & k kinds.Open & k kinds.Select & k kinds.Star & k kinds.From & k kinds.Match & k kinds.As & k kinds.Other & ((k kinds.Where & (test_tokens & (k kinds.And & test_tokens))) & tt) & k kinds.Close)

keep_tokens : (top : ℕ) → HasTokens (keep_rest top)
unfolding keep_rest keep_tail
keep_tokens top = any_tokens top _ (λ r. (n kinds.Keep r & (k kinds.As & k kinds.Select & k kinds.Star & k kinds.From & n kinds.Match r & k kinds.As & k kinds.Own & k kinds.Where & (unless_tokens & (k kinds.And & unless_tokens)) & k kinds.Semicolon)))

out_tokens : (r : ℕ) → HasTokens (out r)
unfolding out text_out column_out skolem_out skolem_tail
out_tokens r = (k kinds.Text & ((k kinds.Own & k kinds.Dot & k kinds.Column) & (k kinds.Skolem & k kinds.Open & n kinds.Number r & (k kinds.Comma & k kinds.Number & k kinds.Comma & k kinds.Own & k kinds.Dot & k kinds.Place & k kinds.Close))))

table_token : (r : ℕ) → HasTokens (one (has_number is_table number r))
table_token r = (made kinds.Match r, rw (eq_self r) refl)

insert_tokens : (top : ℕ) → HasTokens (insert top)
unfolding insert insert_tail insert_end
insert_tokens top = (k kinds.Insert & k kinds.Into & k kinds.Target & k kinds.Dot & k kinds.Name & k kinds.Select & any_tokens top _ (λ r. ((out_tokens r & (k kinds.Comma & out_tokens r)) & k kinds.From & table_token r & (k kinds.As & k kinds.Own & k kinds.Semicolon))))

script_tokens : (top : ℕ) → HasTokens (script top)
unfolding script step table_rest
script_tokens top = ((k kinds.Create & k kinds.Table & (create_tokens & (match_tokens top & keep_tokens top))) & insert_tokens top)

-- ---- laws

derived_spelled : (xs : List ScriptToken) (r : Result (List Step) ℕ) → given xs ≡ r → Derives script_form xs → (s : List Step) × SpellsScript greatest_number s xs
derived_spelled xs (Ok s) e d = (s, whole_finds (script_reader greatest_number) (SpellsScript greatest_number) (script_finds greatest_number) xs s e)
derived_spelled xs (Err zero) e d = absurd ((tells_as xs (Err zero) e).1 d)
derived_spelled xs (Err (suc m)) e d = absurd (starts_have_none script_form xs (length xs - suc m) (whole_start script_form xs d) (tells_as xs (Err (suc m)) e).1)

spelled_derived : (xs : List ScriptToken) (s : List Step) → SpellsScript greatest_number s xs → Derives script_form xs
spelled_derived xs s h = tells_as xs (Ok s) (spelled_given xs s h)

pub texts_are_spelled : TextsAreSpelled
texts_are_spelled xs = (derived_spelled xs (given xs) refl, λ p. spelled_derived xs p.0 p.1)

pub starts_are_spelled : StartsAreSpelled
starts_are_spelled xs =
    let fronts = starts_fronts script_form (script_tokens greatest_number) xs in
    ((λ s. let p = fronts.0 s in let q = derived_spelled (xs ++ p.0) (given (xs ++ p.0)) refl p.1 in (p.0, q.0, q.1)), λ p. fronts.1 (p.0, spelled_derived (xs ++ p.0) p.1 p.2))
