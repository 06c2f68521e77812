-- What the forms of mapping texts say: a reader for each.
use Rattle.std.specs.Prelude.{ℕ, zero, suc, Bool, true, false, ◌||◌, List, [], ◌∷◌, codes}
use Rattle.dx_schema.specs.declared.sets.KeyDecl.{KeyDecl}
use Rattle.dx_schema.specs.declared.sets.DepDecl.{DepDecl}
use Rattle.dx_schema.specs.declared.sets.RefDecl.{RefDecl}
use Rattle.dx_schema.specs.Forest.{Forest, none, set, Tree, forest_of}
use Rattle.dx_grammar.specs.Readers.{Reader, ◌>>=◌, give, token, either, many}
use Rattle.dx_tokens.specs.declared.scanner.Lexeme.{Lexeme}
use Rattle.dx_schema_text.specs.declared.texts.PlaceText.{PlaceText}
use Rattle.dx_schema_text.specs.declared.texts.SourceText.{SourceText}
use Rattle.dx_schema_text.specs.declared.texts.SourceText.TheVariants as sources
use Rattle.dx_schema_text.specs.declared.texts.LineText.{LineText}
use Rattle.dx_schema_text.specs.declared.texts.CellText.{CellText}
use Rattle.dx_schema_text.specs.declared.texts.CellText.TheVariants as cells
use Rattle.dx_schema_text.specs.declared.texts.AtomText.{AtomText}
use Rattle.dx_schema_text.specs.declared.texts.DerivedText.{DerivedText}
use Rattle.dx_schema_text.specs.declared.texts.RuleText.{RuleText}
use Rattle.dx_schema_text.specs.declared.texts.OnlyText.{OnlyText}
use Rattle.dx_schema_text.specs.declared.texts.MappingText.{MappingText}
use Rattle.dx_schema_text.specs.declared.clauses.Clause.{Clause}
use Rattle.dx_schema_text.specs.declared.clauses.Clause.TheVariants as clauses
use Rattle.dx_schema_text.specs.declared.mapping.ItemText.{ItemText}
use Rattle.dx_schema_text.specs.declared.mapping.ItemText.TheVariants as items
use Rattle.dx_schema_text.specs.Grammar.{is_word, is_string, word_is, digit_is, mark_is, since_two, since_three}

-- ---- names

-- "," word
unfoldable pub comma_word : Reader Lexeme (List ℕ)
comma_word = do
  comma ← token (mark_is (codes ","))
  w ← token is_word
  give w.text

-- the names of a list, parted by commas
unfoldable pub words_reader : Reader Lexeme (List (List ℕ))
words_reader = do
  first ← token is_word
  others ← many (mark_is (codes ",")) comma_word
  give (first.text ∷ others)

-- ---- sets

-- a key: its columns
unfoldable pub key_reader : Reader Lexeme KeyDecl
key_reader = do
  keyword ← token (word_is (codes "key"))
  opening ← token (mark_is (codes "("))
  columns ← words_reader
  closing ← token (mark_is (codes ")"))
  ending ← token (mark_is (codes ";"))
  give (record { columns = columns })

-- a dependency: these columns decide these
abbrev pub dependency_of : List (List ℕ) → List (List ℕ) → DepDecl
dependency_of columns decides = record { columns = columns; decides = decides }

-- what a dependency's columns decide
unfoldable pub decided_reader : List (List ℕ) → Reader Lexeme DepDecl
decided_reader columns = do
  opening ← token (mark_is (codes "("))
  decides ← words_reader
  closing ← token (mark_is (codes ")"))
  ending ← token (mark_is (codes ";"))
  give (dependency_of columns decides)

-- a dependency: its columns, and the columns that they decide
unfoldable pub dep_reader : Reader Lexeme DepDecl
dep_reader = do
  keyword ← token (word_is (codes "dep"))
  opening ← token (mark_is (codes "("))
  columns ← words_reader
  closing ← token (mark_is (codes ")"))
  arrow ← token (mark_is (codes "->"))
  decided_reader columns

-- a ref of these columns to these columns of a set, which may be optional
abbrev pub reference_of : List (List ℕ) → List ℕ → List (List ℕ) → Bool → RefDecl
reference_of columns referred_set referred is_optional =
    record { columns = columns; set = referred_set; referred = referred; optional = is_optional }

-- whether the word `optional` stands here, if refs may be optional
unfoldable pub optional_reader : Bool → Reader Lexeme Bool
optional_reader false = give false
optional_reader true =
    either (word_is (codes "optional")) (token (word_is (codes "optional")) >>= λ keyword. give true) (give false)

-- what a ref's columns refer to: a set, and columns of it; and whether the ref is optional
unfoldable pub referred_reader : Bool → List (List ℕ) → Reader Lexeme RefDecl
referred_reader optionals columns = do
  referred_set ← token is_word
  opening ← token (mark_is (codes "("))
  referred ← words_reader
  closing ← token (mark_is (codes ")"))
  is_optional ← optional_reader optionals
  ending ← token (mark_is (codes ";"))
  give (reference_of columns referred_set.text referred is_optional)

-- a ref: its columns, the set that it refers to, the referred columns, and whether it is optional
unfoldable pub ref_reader : Bool → Reader Lexeme RefDecl
ref_reader optionals = do
  keyword ← token (word_is (codes "ref"))
  opening ← token (mark_is (codes "("))
  columns ← words_reader
  closing ← token (mark_is (codes ")"))
  arrow ← token (mark_is (codes "->"))
  referred_reader optionals columns

-- a key, a dependency, a ref and an inner set, each as a clause
abbrev pub key_clause : KeyDecl → Clause
key_clause k = clauses.Key k

abbrev pub dep_clause : DepDecl → Clause
dep_clause d = clauses.Dep d

abbrev pub ref_clause : RefDecl → Clause
ref_clause r = clauses.Ref r

abbrev pub set_clause : Tree → Clause
set_clause t = clauses.Set t

-- the keys, the dependencies, the refs and the sets among clauses
abbrev pub keys_among : List Clause → List KeyDecl
keys_among [] = []
keys_among (clauses.Key k ∷ cs) = k ∷ keys_among cs
keys_among (clauses.Dep d ∷ cs) = keys_among cs
keys_among (clauses.Ref r ∷ cs) = keys_among cs
keys_among (clauses.Set t ∷ cs) = keys_among cs

abbrev pub deps_among : List Clause → List DepDecl
deps_among [] = []
deps_among (clauses.Key k ∷ cs) = deps_among cs
deps_among (clauses.Dep d ∷ cs) = d ∷ deps_among cs
deps_among (clauses.Ref r ∷ cs) = deps_among cs
deps_among (clauses.Set t ∷ cs) = deps_among cs

abbrev pub refs_among : List Clause → List RefDecl
refs_among [] = []
refs_among (clauses.Key k ∷ cs) = refs_among cs
refs_among (clauses.Dep d ∷ cs) = refs_among cs
refs_among (clauses.Ref r ∷ cs) = r ∷ refs_among cs
refs_among (clauses.Set t ∷ cs) = refs_among cs

abbrev pub sets_among : List Clause → Forest
sets_among [] = none
sets_among (clauses.Key k ∷ cs) = sets_among cs
sets_among (clauses.Dep d ∷ cs) = sets_among cs
sets_among (clauses.Ref r ∷ cs) = sets_among cs
sets_among (clauses.Set t ∷ cs) = set t.label t.inner (sets_among cs)

-- a set with this name, these columns and these clauses
abbrev pub tree_of_clauses : List ℕ → List (List ℕ) → List Clause → Tree
tree_of_clauses name columns cs =
    record {
      label = record {
        name = name;
        columns = columns;
        keys = keys_among cs;
        deps = deps_among cs;
        refs = refs_among cs;
      };
      inner = sets_among cs;
    }

-- a key begins with "key", and if dependencies may stand one begins with "dep"
abbrev pub begins_determination : Bool → Lexeme → Bool
begins_determination false x = word_is (codes "key") x
begins_determination true x = word_is (codes "key") x || word_is (codes "dep") x

-- a key, or if dependencies may stand a dependency
unfoldable pub determination_reader : Bool → Reader Lexeme Clause
determination_reader false = key_reader >>= λ k. give (key_clause k)
determination_reader true =
    either (word_is (codes "key")) (key_reader >>= λ k. give (key_clause k))
    (dep_reader >>= λ d. give (dep_clause d))

-- a clause begins as a key or a dependency, or with "ref", and if inner sets may stand with "set"
abbrev pub begins_clause : ℕ → ℕ → Lexeme → Bool
begins_clause version zero x = begins_determination (since_three version) x || word_is (codes "ref") x
begins_clause version (suc levels) x =
    begins_determination (since_three version) x || (word_is (codes "ref") x || word_is (codes "set") x)

-- a key, a dependency or a ref, in a set that has no inner sets
unfoldable pub last_clause_reader : ℕ → Reader Lexeme Clause
last_clause_reader version =
    either (begins_determination (since_three version)) (determination_reader (since_three version))
    (ref_reader (since_two version) >>= λ r. give (ref_clause r))

-- a key, a dependency, a ref or an inner set
unfoldable pub clause_reader_with : ℕ → Reader Lexeme Tree → Reader Lexeme Clause
clause_reader_with version inner =
    either (begins_determination (since_three version)) (determination_reader (since_three version))
    (either (word_is (codes "ref")) (ref_reader (since_two version) >>= λ r. give (ref_clause r))
    (inner >>= λ t. give (set_clause t)))

-- the name and the columns of a set
unfoldable pub set_head_reader : Reader Lexeme (List ℕ × List (List ℕ))
set_head_reader = do
  keyword ← token (word_is (codes "set"))
  name ← token is_word
  opening ← token (mark_is (codes "{"))
  columns ← words_reader
  ending ← token (mark_is (codes ";"))
  give (name.text, columns)

-- a set, if its clauses begin so and are read so
unfoldable pub set_reader_of : (Lexeme → Bool) → Reader Lexeme Clause → Reader Lexeme Tree
set_reader_of begins clause = do
  head ← set_head_reader
  cs ← many begins clause
  closing ← token (mark_is (codes "}"))
  give (tree_of_clauses head.0 head.1 cs)

-- a clause of a set with so many levels of inner sets, at most, in a text of this version
unfoldable pub clause_reader : ℕ → ℕ → Reader Lexeme Clause
clause_reader version zero = last_clause_reader version
clause_reader version (suc levels) =
    clause_reader_with version (set_reader_of (begins_clause version levels) (clause_reader version levels))

-- a set with so many levels of inner sets, at most
abbrev pub set_reader : ℕ → ℕ → Reader Lexeme Tree
set_reader version levels = set_reader_of (begins_clause version levels) (clause_reader version levels)

-- ---- lines

-- a column of a set, by the words for the two
abbrev pub place_text : Lexeme → Lexeme → PlaceText
place_text s c = record { set = s.text; set_place = s.place; column = c.text; column_place = c.place }

-- a column of a set
unfoldable pub place_reader : Reader Lexeme PlaceText
place_reader = do
  s ← token is_word
  dot ← token (mark_is (codes "."))
  c ← token is_word
  give (place_text s c)

-- a comma, and a column of a set
unfoldable pub comma_place : Reader Lexeme PlaceText
comma_place = do
  comma ← token (mark_is (codes ","))
  place_reader

-- columns of sets, parted by commas
unfoldable pub places_reader : Reader Lexeme (List PlaceText)
places_reader = do
  first ← place_reader
  others ← many (mark_is (codes ",")) comma_place
  give (first ∷ others)

-- a text, a column and a conversion of columns, each as the source of a line
abbrev pub literal_source : List ℕ → SourceText
literal_source text = sources.Literal text

abbrev pub column_source : PlaceText → SourceText
column_source p = sources.Column p

abbrev pub call_source : Lexeme → List PlaceText → SourceText
call_source name args = sources.Call name.text name.place args

-- a text as the source of a line
unfoldable pub string_reader : Reader Lexeme SourceText
string_reader = do
  s ← token is_string
  give (literal_source s.text)

-- a column after its set, or the arguments of a conversion after its name
unfoldable pub column_reader : Lexeme → Reader Lexeme SourceText
column_reader name = do
  dot ← token (mark_is (codes "."))
  c ← token is_word
  give (column_source (place_text name c))

unfoldable pub call_reader : Lexeme → Reader Lexeme SourceText
call_reader name = do
  opening ← token (mark_is (codes "("))
  args ← places_reader
  closing ← token (mark_is (codes ")"))
  give (call_source name args)

-- a column or a conversion of columns, which both begin with a word
unfoldable pub named_reader : Reader Lexeme SourceText
named_reader = do
  name ← token is_word
  either (mark_is (codes ".")) (column_reader name) (call_reader name)

-- the source of a line
unfoldable pub source_reader : Reader Lexeme SourceText
source_reader = either is_string string_reader named_reader

-- a line: its source, and the column that it leads to
unfoldable pub line_reader : Reader Lexeme LineText
line_reader = do
  keyword ← token (word_is (codes "line"))
  from ← source_reader
  arrow ← token (mark_is (codes "->"))
  target ← place_reader
  ending ← token (mark_is (codes ";"))
  give (record { source = from; target = target })

-- ---- rules

-- a word and a string, each as a cell
abbrev pub name_cell : Lexeme → CellText
name_cell x = cells.Name x.text x.place

abbrev pub literal_cell : Lexeme → CellText
literal_cell x = cells.Literal x.text

-- a word as a cell
unfoldable pub name_reader : Reader Lexeme CellText
name_reader = do
  x ← token is_word
  give (name_cell x)

-- a string as a cell
unfoldable pub literal_reader : Reader Lexeme CellText
literal_reader = do
  x ← token is_string
  give (literal_cell x)

-- a cell: a word, and if strings may stand, a word or a string
unfoldable pub cell_reader : Bool → Reader Lexeme CellText
cell_reader false = name_reader
cell_reader true = either is_word name_reader literal_reader

-- a comma, and a cell
unfoldable pub comma_cell : Bool → Reader Lexeme CellText
comma_cell strings = do
  comma ← token (mark_is (codes ","))
  cell_reader strings

-- cells, parted by commas
unfoldable pub cells_reader : Bool → Reader Lexeme (List CellText)
cells_reader strings = do
  first ← cell_reader strings
  others ← many (mark_is (codes ",")) (comma_cell strings)
  give (first ∷ others)

-- an atom: its set and its cells
unfoldable pub atom_reader : Bool → Reader Lexeme AtomText
atom_reader strings = do
  s ← token is_word
  opening ← token (mark_is (codes "("))
  inside ← cells_reader strings
  closing ← token (mark_is (codes ")"))
  give (record { set = s.text; place = s.place; cells = inside })

-- a comma, and an atom
unfoldable pub comma_atom : Bool → Reader Lexeme AtomText
comma_atom strings = do
  comma ← token (mark_is (codes ","))
  atom_reader strings

-- atoms, parted by commas
unfoldable pub atoms_reader : Bool → Reader Lexeme (List AtomText)
atoms_reader strings = do
  first ← atom_reader strings
  others ← many (mark_is (codes ",")) (comma_atom strings)
  give (first ∷ others)

-- a derived variable: its name, and the conversion of variables that gives it
unfoldable pub derived_reader : Reader Lexeme DerivedText
derived_reader = do
  name ← token is_word
  equal ← token (mark_is (codes "="))
  call ← token is_word
  opening ← token (mark_is (codes "("))
  args ← cells_reader false
  closing ← token (mark_is (codes ")"))
  give (record { name = name.text; place = name.place; call = call.text; call_place = call.place; args = args })

-- a comma, and a derived variable
unfoldable pub comma_derived : Reader Lexeme DerivedText
comma_derived = do
  comma ← token (mark_is (codes ","))
  derived_reader

-- the derived variables of a rule, after `where`
unfoldable pub where_reader : Reader Lexeme (List DerivedText)
where_reader = do
  keyword ← token (word_is (codes "where"))
  first ← derived_reader
  others ← many (mark_is (codes ",")) comma_derived
  give (first ∷ others)

-- the derived variables of a rule, of which there may be none
unfoldable pub optional_where : Reader Lexeme (List DerivedText)
optional_where = either (word_is (codes "where")) where_reader (give [])

-- a rule: its premise, its derived variables and its conclusion
unfoldable pub rule_reader : Reader Lexeme RuleText
rule_reader = do
  keyword ← token (word_is (codes "rule"))
  premise ← atoms_reader false
  derived ← optional_where
  arrow ← token (mark_is (codes "->"))
  conclusion ← atoms_reader true
  ending ← token (mark_is (codes ";"))
  give (record { premise = premise; derived = derived; conclusion = conclusion })

-- ---- conditions

-- a condition: its column, and the test that the column's texts must pass
unfoldable pub only_reader : Reader Lexeme OnlyText
only_reader = do
  keyword ← token (word_is (codes "only"))
  column ← place_reader
  test ← token is_word
  ending ← token (mark_is (codes ";"))
  give (record { place = column; test = test.text; test_place = test.place })

-- ---- mappings

-- a line, a rule and a condition, each as an item of a mapping
abbrev pub line_item : LineText → ItemText
line_item l = items.Line l

abbrev pub rule_item : RuleText → ItemText
rule_item r = items.Rule r

abbrev pub only_item : OnlyText → ItemText
only_item o = items.Only o

-- an item begins with "line" or "rule", or if conditions may stand with "only"
abbrev pub begins_item : Bool → Lexeme → Bool
begins_item false x = word_is (codes "line") x || word_is (codes "rule") x
begins_item true x = word_is (codes "line") x || (word_is (codes "rule") x || word_is (codes "only") x)

-- a line or a rule, or if conditions may stand a condition
unfoldable pub item_reader : Bool → Reader Lexeme ItemText
item_reader false =
    either (word_is (codes "line")) (line_reader >>= λ l. give (line_item l))
    (rule_reader >>= λ r. give (rule_item r))
item_reader true =
    either (word_is (codes "line")) (line_reader >>= λ l. give (line_item l))
    (either (word_is (codes "rule")) (rule_reader >>= λ r. give (rule_item r))
    (only_reader >>= λ o. give (only_item o)))

-- the lines, the conditions and the rules among items
abbrev pub lines_among : List ItemText → List LineText
lines_among [] = []
lines_among (items.Line l ∷ rest) = l ∷ lines_among rest
lines_among (items.Rule r ∷ rest) = lines_among rest
lines_among (items.Only o ∷ rest) = lines_among rest

abbrev pub conditions_among : List ItemText → List OnlyText
conditions_among [] = []
conditions_among (items.Line l ∷ rest) = conditions_among rest
conditions_among (items.Rule r ∷ rest) = conditions_among rest
conditions_among (items.Only o ∷ rest) = o ∷ conditions_among rest

abbrev pub rules_among : List ItemText → List RuleText
rules_among [] = []
rules_among (items.Line l ∷ rest) = rules_among rest
rules_among (items.Rule r ∷ rest) = r ∷ rules_among rest
rules_among (items.Only o ∷ rest) = rules_among rest

-- "source" or "target", and sets in braces
unfoldable pub side_reader : ℕ → List ℕ → ℕ → Reader Lexeme Forest
side_reader version name levels = do
  keyword ← token (word_is name)
  opening ← token (mark_is (codes "{"))
  trees ← many (word_is (codes "set")) (set_reader version levels)
  closing ← token (mark_is (codes "}"))
  give (forest_of trees)

-- the mapping of this version, of these sides and items
abbrev pub mapping_of_items : ℕ → Forest → Forest → List ItemText → MappingText
mapping_of_items version from to rest =
    record {
      version = version;
      source = from;
      target = to;
      lines = lines_among rest;
      conditions = conditions_among rest;
      rules = rules_among rest;
    }

-- what stands after the number of a version, if sets have so many levels of inner sets, at most
unfoldable pub body_reader : ℕ → ℕ → Reader Lexeme MappingText
body_reader version levels = do
  ending ← token (mark_is (codes ";"))
  from ← side_reader version (codes "source") levels
  to ← side_reader version (codes "target") levels
  rest ← many (begins_item (since_two version)) (item_reader (since_two version))
  give (mapping_of_items version from to rest)

-- the digit of a version, and what stands after it
abbrev pub numbered_reader : List ℕ → ℕ → ℕ → Reader Lexeme MappingText
numbered_reader number version levels = token (digit_is number) >>= λ n. body_reader version levels

-- a mapping of version 1, 2 or 3 whose sets have so many levels of inner sets, at most
unfoldable pub mapping_reader : ℕ → Reader Lexeme MappingText
mapping_reader levels = do
  keyword ← token (word_is (codes "mapping"))
  either (digit_is (codes "1")) (numbered_reader (codes "1") 1 levels)
      (either (digit_is (codes "2")) (numbered_reader (codes "2") 2 levels) (numbered_reader (codes "3") 3 levels))
