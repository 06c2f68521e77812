-- Which tokens spell which step, with the numbers on which they depend.
use Rattle.std.specs.Prelude.{◌≡◌, ℕ, ◌≤◌, true, List, [], ◌∷◌, ◌++◌}
use Rattle.dx_grammar.specs.Readers.{Many}
use Rattle.dx_grammar.specs.Lists.{Past, SpellsList}
use Rattle.dx_grammar.specs.Numbers.{has_number, SpellsNumbered}
use Rattle.dx_script.specs.declared.form.CellRef.{CellRef}
use Rattle.dx_script.specs.declared.form.Select.{Select}
use Rattle.dx_script.specs.declared.form.Equal.{Equal}
use Rattle.dx_script.specs.declared.form.Test.{Test}
use Rattle.dx_script.specs.declared.form.Unless.{Unless}
use Rattle.dx_script.specs.declared.form.Out.{Out}
use Rattle.dx_script.specs.declared.form.Step.{Step}
use Rattle.dx_script_tokens.specs.declared.scanner.ScriptToken.{ScriptToken}
use Rattle.dx_script_tokens.specs.declared.kinds.ScriptKind.{ScriptKind}
use Rattle.dx_script_tokens.specs.declared.kinds.ScriptKind.TheVariants as kinds
use Rattle.dx_script_text.specs.Grammar.{of_kind, number, match_is, keep_is, alias_is}
use Rattle.dx_script_text.specs.Grammar.{column_is, number_is, is_table, is_comma, is_and}
use Rattle.dx_script_text.specs.Reading.{alias_cell_of, cell_select, call_value, create_step}
use Rattle.dx_script_text.specs.Reading.{match_step_of, keep_step_of, insert_step_of, columns_test}
use Rattle.dx_script_text.specs.Reading.{text_test, column_cell, text_cell, skolem_cell}

-- the token is of this kind
abbrev pub Of : ScriptKind → ScriptToken → Type 0
Of k x = of_kind k x ≡ true

-- ---- CREATE TABLE target

pub data SpellsDeclared : List ℕ → List ScriptToken → Type 0 where
  declared_of : (n t : ScriptToken) → Of kinds.Name n → Of kinds.Type t → SpellsDeclared n.text (n ∷ t ∷ [])

pub data SpellsCreate : Step → List ScriptToken → Type 0 where
  create_of : {columns : List (List ℕ)} {u : List ScriptToken} (s d n o c e : ScriptToken)
      → Of kinds.Target s → Of kinds.Dot d → Of kinds.Name n → Of kinds.Open o
      → SpellsList is_comma SpellsDeclared columns u → Of kinds.Close c → Of kinds.Semicolon e
      → SpellsCreate (create_step n.text columns) (s ∷ d ∷ n ∷ o ∷ (u ++ c ∷ e ∷ []))

-- ---- CREATE TABLE m<r>

pub data SpellsCellRef : CellRef → List ScriptToken → Type 0 where
  cell_of : (a d c : ScriptToken) → Of kinds.Alias a → Of kinds.Dot d → Of kinds.Name c
      → SpellsCellRef (alias_cell_of a c) (a ∷ d ∷ c ∷ [])

-- a cell, or a conversion of cells
pub data SpellsValue : Select → List ScriptToken → Type 0 where
  a_cell : {c : CellRef} {u : List ScriptToken} → SpellsCellRef c u → SpellsValue (cell_select c) u
  a_call : {args : List CellRef} {u : List ScriptToken} (n o c : ScriptToken) → Of kinds.Name n
      → Of kinds.Open o → SpellsList is_comma SpellsCellRef args u → Of kinds.Close c
      → SpellsValue (call_value n.text args) (n ∷ o ∷ (u ++ c ∷ []))

-- value AS c<n>
pub data SpellsSelectItem (top : ℕ) : ℕ → Select → List ScriptToken → Type 0 where
  item_of : {n : ℕ} {c : Select} {u : List ScriptToken} (a k : ScriptToken) → n ≤ top → SpellsValue c u
      → Of kinds.As a → column_is n k ≡ true → SpellsSelectItem top n c (u ++ a ∷ k ∷ [])

-- 1 for no column, else the columns c0, c1 and so on
pub data SpellsSelect (top : ℕ) : List Select → List ScriptToken → Type 0 where
  no_columns : (d : ScriptToken) → number_is 1 d ≡ true → SpellsSelect top [] (d ∷ [])
  columns_of : {first : Select} {others : List Select} {u v : List ScriptToken}
      → SpellsSelectItem top 0 first u
      → SpellsNumbered (λ n. Past is_comma (SpellsSelectItem top n)) 1 others v
      → SpellsSelect top (first ∷ others) (u ++ v)

-- source . "table" AS a<n>
pub data SpellsFromSource (top : ℕ) : ℕ → List ℕ → List ScriptToken → Type 0 where
  source_of : {n : ℕ} (s d t a k : ScriptToken) → n ≤ top → Of kinds.Source s → Of kinds.Dot d
      → Of kinds.Name t → Of kinds.As a → alias_is n k ≡ true
      → SpellsFromSource top n t.text (s ∷ d ∷ t ∷ a ∷ k ∷ [])

pub data SpellsSources (top : ℕ) : List (List ℕ) → List ScriptToken → Type 0 where
  sources_of : {first : List ℕ} {others : List (List ℕ)} {u v : List ScriptToken}
      → SpellsFromSource top 0 first u
      → SpellsNumbered (λ n. Past is_comma (SpellsFromSource top n)) 1 others v
      → SpellsSources top (first ∷ others) (u ++ v)

pub data SpellsEqual : Equal → List ScriptToken → Type 0 where
  equal_of : {l r : CellRef} {u v : List ScriptToken} (s : ScriptToken) → SpellsCellRef l u
      → Of kinds.Equal s → SpellsCellRef r v → SpellsEqual (record { left = l; right = r }) (u ++ s ∷ v)

pub data SpellsWhereClause {A : Type 0} (R : A → List ScriptToken → Type 0) : List A → List ScriptToken → Type 0 where
  no_where : SpellsWhereClause R [] []
  where_of : {items : List A} {u : List ScriptToken} (k : ScriptToken) → Of kinds.Where k
      → SpellsList is_and R items u → SpellsWhereClause R items (k ∷ u)

pub data SpellsMatch (top : ℕ) : Step → List ScriptToken → Type 0 where
  match_of : {select : List Select} {sources : List (List ℕ)} {equal : List Equal}
      {u v w : List ScriptToken} (m a s d f e : ScriptToken) → Of kinds.Match m → Of kinds.As a
      → Of kinds.Select s → Of kinds.Distinct d → SpellsSelect top select u → Of kinds.From f
      → SpellsSources top sources v → SpellsWhereClause SpellsEqual equal w → Of kinds.Semicolon e
      → SpellsMatch top (match_step_of m.number select sources equal) (m ∷ a ∷ s ∷ d ∷ (u ++ f ∷ (v ++ (w ++ e ∷ []))))

-- ---- CREATE TABLE k<r>

pub data SpellsTest : Test → List ScriptToken → Type 0 where
  columns_are : (n d c e m p o : ScriptToken) → Of kinds.Other n → Of kinds.Dot d → Of kinds.Column c
      → Of kinds.Equal e → Of kinds.Own m → Of kinds.Dot p → Of kinds.Column o
      → SpellsTest (columns_test c.number o.number) (n ∷ d ∷ c ∷ e ∷ m ∷ p ∷ o ∷ [])
  text_is : (m d c e t : ScriptToken) → Of kinds.Own m → Of kinds.Dot d → Of kinds.Column c
      → Of kinds.Equal e → Of kinds.Text t → SpellsTest (text_test c.number t.text) (m ∷ d ∷ c ∷ e ∷ t ∷ [])

pub data SpellsUnless : Unless → List ScriptToken → Type 0 where
  unless_of : {tests : List Test} {u : List ScriptToken} (n x o s star f t a alias c : ScriptToken)
      → Of kinds.Not n → Of kinds.Exists x → Of kinds.Open o → Of kinds.Select s → Of kinds.Star star
      → Of kinds.From f → Of kinds.Match t → Of kinds.As a → Of kinds.Other alias
      → SpellsWhereClause SpellsTest tests u → Of kinds.Close c
      → SpellsUnless (record { rule = t.number; tests = tests })
      (n ∷ x ∷ o ∷ s ∷ star ∷ f ∷ t ∷ a ∷ alias ∷ (u ++ c ∷ []))

-- the tables k<r> and m<r> are those of one rule
pub data SpellsKeep (top : ℕ) : Step → List ScriptToken → Type 0 where
  keep_of : {r : ℕ} {unless : List Unless} {u : List ScriptToken}
      (k a s star f m b alias w e : ScriptToken) → r ≤ top → keep_is r k ≡ true → Of kinds.As a
      → Of kinds.Select s → Of kinds.Star star → Of kinds.From f → match_is r m ≡ true → Of kinds.As b
      → Of kinds.Own alias → Of kinds.Where w
      → SpellsList is_and SpellsUnless unless u → Of kinds.Semicolon e
      → SpellsKeep top (keep_step_of r unless) (k ∷ a ∷ s ∷ star ∷ f ∷ m ∷ b ∷ alias ∷ w ∷ (u ++ e ∷ []))

-- ---- INSERT

-- a cell of an insert step of rule r
pub data SpellsOut : ℕ → Out → List ScriptToken → Type 0 where
  text_out_of : {r : ℕ} (t : ScriptToken) → Of kinds.Text t → SpellsOut r (text_cell t.text) (t ∷ [])
  column_out_of : {r : ℕ} (m d c : ScriptToken) → Of kinds.Own m → Of kinds.Dot d → Of kinds.Column c
      → SpellsOut r (column_cell c.number) (m ∷ d ∷ c ∷ [])
  skolem_out_of : {r : ℕ} (s o n comma v second m d p c : ScriptToken) → Of kinds.Skolem s
      → Of kinds.Open o → number_is r n ≡ true → Of kinds.Comma comma → Of kinds.Number v
      → Of kinds.Comma second → Of kinds.Own m → Of kinds.Dot d → Of kinds.Place p → Of kinds.Close c
      → SpellsOut r (skolem_cell v.number) (s ∷ o ∷ n ∷ comma ∷ v ∷ second ∷ m ∷ d ∷ p ∷ c ∷ [])

pub data SpellsInsert (top : ℕ) : Step → List ScriptToken → Type 0 where
  insert_of : {r : ℕ} {cells : List Out} {u : List ScriptToken}
      (i into side d n s f t a m e : ScriptToken) → r ≤ top → Of kinds.Insert i → Of kinds.Into into
      → Of kinds.Target side → Of kinds.Dot d → Of kinds.Name n → Of kinds.Select s
      → SpellsList is_comma (SpellsOut r) cells u → Of kinds.From f
      → has_number is_table number r t ≡ true → Of kinds.As a → Of kinds.Own m → Of kinds.Semicolon e
      → SpellsInsert top (insert_step_of n.text r (of_kind kinds.Keep t) cells)
      (i ∷ into ∷ side ∷ d ∷ n ∷ s ∷ (u ++ f ∷ t ∷ a ∷ m ∷ e ∷ []))

-- ---- scripts

pub data SpellsStep (top : ℕ) : Step → List ScriptToken → Type 0 where
  a_create : {s : Step} {u : List ScriptToken} (c t : ScriptToken) → Of kinds.Create c
      → Of kinds.Table t → SpellsCreate s u → SpellsStep top s (c ∷ t ∷ u)
  a_match : {s : Step} {u : List ScriptToken} (c t : ScriptToken) → Of kinds.Create c → Of kinds.Table t
      → SpellsMatch top s u → SpellsStep top s (c ∷ t ∷ u)
  a_keep : {s : Step} {u : List ScriptToken} (c t : ScriptToken) → Of kinds.Create c → Of kinds.Table t
      → SpellsKeep top s u → SpellsStep top s (c ∷ t ∷ u)
  an_insert : {s : Step} {u : List ScriptToken} → SpellsInsert top s u → SpellsStep top s u

abbrev pub SpellsScript : ℕ → List Step → List ScriptToken → Type 0
SpellsScript top = Many (SpellsStep top)
