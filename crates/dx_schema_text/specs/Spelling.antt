-- Which tokens spell which value, form by form.
use Rattle.std.specs.Prelude.{◌≡◌, ℕ, suc, Bool, true, false, List, [], ◌∷◌, ◌++◌, codes}
use Rattle.dx_schema.specs.declared.sets.KeyDecl.{KeyDecl}
use Rattle.dx_schema.specs.declared.sets.DepDecl.{DepDecl}
use Rattle.dx_schema.specs.declared.sets.RefDecl.{RefDecl}
use Rattle.dx_schema.specs.Forest.{Forest, Tree, forest_of}
use Rattle.dx_grammar.specs.Readers.{Many}
use Rattle.dx_tokens.specs.declared.scanner.Lexeme.{Lexeme}
use Rattle.dx_schema_text.specs.declared.texts.PlaceText.{PlaceText}
use Rattle.dx_schema_text.specs.declared.texts.SourceText.{SourceText}
use Rattle.dx_schema_text.specs.declared.texts.LineText.{LineText}
use Rattle.dx_schema_text.specs.declared.texts.CellText.{CellText}
use Rattle.dx_schema_text.specs.declared.texts.AtomText.{AtomText}
use Rattle.dx_schema_text.specs.declared.texts.DerivedText.{DerivedText}
use Rattle.dx_schema_text.specs.declared.texts.RuleText.{RuleText}
use Rattle.dx_schema_text.specs.declared.texts.OnlyText.{OnlyText}
use Rattle.dx_schema_text.specs.declared.texts.MappingText.{MappingText}
use Rattle.dx_schema_text.specs.declared.clauses.Clause.{Clause}
use Rattle.dx_schema_text.specs.declared.mapping.ItemText.{ItemText}
use Rattle.dx_schema_text.specs.Grammar.{is_word, is_string, word_is, digit_is, mark_is, since_two, since_three}
use Rattle.dx_schema_text.specs.Reading.{dependency_of, reference_of, key_clause, dep_clause, ref_clause, set_clause}
use Rattle.dx_schema_text.specs.Reading.{tree_of_clauses, place_text, literal_source, column_source, call_source}
use Rattle.dx_schema_text.specs.Reading.{name_cell, literal_cell, line_item, rule_item, only_item, mapping_of_items}

-- the token is this mark, this word
abbrev pub IsMarkToken : List ℕ → Lexeme → Type 0
IsMarkToken m x = mark_is m x ≡ true

abbrev pub IsKeyword : List ℕ → Lexeme → Type 0
IsKeyword w x = word_is w x ≡ true

-- the token is a word, a string
abbrev pub IsWordToken : Lexeme → Type 0
IsWordToken x = is_word x ≡ true

abbrev pub IsStringToken : Lexeme → Type 0
IsStringToken x = is_string x ≡ true

-- a comma, and what another relation has
pub data Comma {A : Type 0} (R : A → List Lexeme → Type 0) : A → List Lexeme → Type 0 where
  comma_then : {a : A} {u : List Lexeme} (comma : Lexeme) → IsMarkToken (codes ",") comma → R a u
      → Comma R a (comma ∷ u)

-- one or more, parted by commas
pub data SpellsCommaList {A : Type 0} (R : A → List Lexeme → Type 0) : List A → List Lexeme → Type 0 where
  parted : {a : A} {others : List A} {u v : List Lexeme} → R a u → Many (Comma R) others v
      → SpellsCommaList R (a ∷ others) (u ++ v)

-- ---- sets

-- a word spells a name
pub data SpellsName : List ℕ → List Lexeme → Type 0 where
  name_of : (w : Lexeme) → IsWordToken w → SpellsName w.text (w ∷ [])

-- tokens spell a key, a dependency
pub data SpellsKey : KeyDecl → List Lexeme → Type 0 where
  key_of : {columns : List (List ℕ)} {u : List Lexeme} (k o c e : Lexeme) → IsKeyword (codes "key") k
      → IsMarkToken (codes "(") o → SpellsCommaList SpellsName columns u → IsMarkToken (codes ")") c
      → IsMarkToken (codes ";") e
      → SpellsKey (record { columns = columns }) (k ∷ o ∷ (u ++ c ∷ e ∷ []))

pub data SpellsDep : DepDecl → List Lexeme → Type 0 where
  dep_of : {columns decides : List (List ℕ)} {u v : List Lexeme} (k o c arrow p d e : Lexeme)
      → IsKeyword (codes "dep") k → IsMarkToken (codes "(") o → SpellsCommaList SpellsName columns u
      → IsMarkToken (codes ")") c → IsMarkToken (codes "->") arrow
      → IsMarkToken (codes "(") p → SpellsCommaList SpellsName decides v → IsMarkToken (codes ")") d
      → IsMarkToken (codes ";") e
      → SpellsDep (dependency_of columns decides) (k ∷ o ∷ (u ++ c ∷ arrow ∷ p ∷ (v ++ d ∷ e ∷ [])))

-- tokens spell whether a ref is optional: the word says so, if refs may be optional
pub data SpellsOptional : Bool → Bool → List Lexeme → Type 0 where
  not_optional : {optionals : Bool} → SpellsOptional optionals false []
  is_optional : (k : Lexeme) → IsKeyword (codes "optional") k → SpellsOptional true true (k ∷ [])

-- tokens spell a ref
pub data SpellsRef : Bool → RefDecl → List Lexeme → Type 0 where
  ref_of : {optionals b : Bool} {columns referred : List (List ℕ)} {u v w : List Lexeme}
      (k o c arrow s p d e : Lexeme) → IsKeyword (codes "ref") k → IsMarkToken (codes "(") o
      → SpellsCommaList SpellsName columns u → IsMarkToken (codes ")") c → IsMarkToken (codes "->") arrow
      → IsWordToken s → IsMarkToken (codes "(") p → SpellsCommaList SpellsName referred v
      → IsMarkToken (codes ")") d → SpellsOptional optionals b w → IsMarkToken (codes ";") e
      → SpellsRef optionals (reference_of columns s.text referred b)
      (k ∷ o ∷ (u ++ c ∷ arrow ∷ s ∷ p ∷ (v ++ d ∷ (w ++ e ∷ []))))

-- the name and the columns of a set
pub data SpellsHead : List ℕ → List (List ℕ) → List Lexeme → Type 0 where
  head_of : {columns : List (List ℕ)} {u : List Lexeme} (k n o e : Lexeme) → IsKeyword (codes "set") k
      → IsWordToken n → IsMarkToken (codes "{") o → SpellsCommaList SpellsName columns u → IsMarkToken (codes ";") e
      → SpellsHead n.text columns (k ∷ n ∷ o ∷ (u ++ e ∷ []))

mutual
  -- a set with so many levels of inner sets, at most, in a text of this version
  pub data SpellsSet : ℕ → ℕ → Tree → List Lexeme → Type 0 where
    set_of : {version levels : ℕ} {name : List ℕ} {columns : List (List ℕ)} {cs : List Clause}
        {u v : List Lexeme} (c : Lexeme) → SpellsHead name columns u → SpellsClauses version levels cs v
        → IsMarkToken (codes "}") c
        → SpellsSet version levels (tree_of_clauses name columns cs) (u ++ (v ++ c ∷ []))

  -- clauses in any order
  pub data SpellsClauses : ℕ → ℕ → List Clause → List Lexeme → Type 0 where
    no_clause : {version levels : ℕ} → SpellsClauses version levels [] []
    clause_first : {version levels : ℕ} {c : Clause} {cs : List Clause} {u v : List Lexeme}
        → SpellsClause version levels c u → SpellsClauses version levels cs v
        → SpellsClauses version levels (c ∷ cs) (u ++ v)

  -- a key, from version 3 on a dependency, a ref, or if inner sets may stand, an inner set
  pub data SpellsClause : ℕ → ℕ → Clause → List Lexeme → Type 0 where
    a_key : {version levels : ℕ} {k : KeyDecl} {u : List Lexeme} → SpellsKey k u
        → SpellsClause version levels (key_clause k) u
    a_dep : {version levels : ℕ} {d : DepDecl} {u : List Lexeme} → since_three version ≡ true
        → SpellsDep d u → SpellsClause version levels (dep_clause d) u
    a_ref : {version levels : ℕ} {r : RefDecl} {u : List Lexeme} → SpellsRef (since_two version) r u
        → SpellsClause version levels (ref_clause r) u
    a_set : {version levels : ℕ} {t : Tree} {u : List Lexeme} → SpellsSet version levels t u
        → SpellsClause version (suc levels) (set_clause t) u

-- ---- lines

-- tokens spell a column of a set
pub data SpellsPlace : PlaceText → List Lexeme → Type 0 where
  place_of : (s dot c : Lexeme) → IsWordToken s → IsMarkToken (codes ".") dot → IsWordToken c
      → SpellsPlace (place_text s c) (s ∷ dot ∷ c ∷ [])

-- tokens spell the source of a line: a text, a column, or a conversion of columns
pub data SpellsSource : SourceText → List Lexeme → Type 0 where
  a_literal : (s : Lexeme) → IsStringToken s → SpellsSource (literal_source s.text) (s ∷ [])
  a_column : {p : PlaceText} {u : List Lexeme} → SpellsPlace p u → SpellsSource (column_source p) u
  a_call : {args : List PlaceText} {u : List Lexeme} (n o c : Lexeme) → IsWordToken n
      → IsMarkToken (codes "(") o → SpellsCommaList SpellsPlace args u → IsMarkToken (codes ")") c
      → SpellsSource (call_source n args) (n ∷ o ∷ (u ++ c ∷ []))

-- tokens spell a line
pub data SpellsLine : LineText → List Lexeme → Type 0 where
  line_of : {from : SourceText} {to : PlaceText} {u v : List Lexeme} (k arrow e : Lexeme)
      → IsKeyword (codes "line") k → SpellsSource from u → IsMarkToken (codes "->") arrow
      → SpellsPlace to v → IsMarkToken (codes ";") e
      → SpellsLine (record { source = from; target = to }) (k ∷ (u ++ arrow ∷ (v ++ e ∷ [])))

-- ---- rules

-- a word, and if strings may stand, a string
pub data SpellsCell : Bool → CellText → List Lexeme → Type 0 where
  a_name : {strings : Bool} (w : Lexeme) → IsWordToken w → SpellsCell strings (name_cell w) (w ∷ [])
  a_text : (s : Lexeme) → IsStringToken s → SpellsCell true (literal_cell s) (s ∷ [])

-- tokens spell an atom, if strings may stand or not
pub data SpellsAtom : Bool → AtomText → List Lexeme → Type 0 where
  atom_of : {strings : Bool} {cs : List CellText} {u : List Lexeme} (s o c : Lexeme) → IsWordToken s
      → IsMarkToken (codes "(") o → SpellsCommaList (SpellsCell strings) cs u → IsMarkToken (codes ")") c
      → SpellsAtom strings (record { set = s.text; place = s.place; cells = cs }) (s ∷ o ∷ (u ++ c ∷ []))

-- tokens spell a derived variable
pub data SpellsDerived : DerivedText → List Lexeme → Type 0 where
  derived_of : {args : List CellText} {u : List Lexeme} (n equal call o c : Lexeme) → IsWordToken n
      → IsMarkToken (codes "=") equal → IsWordToken call → IsMarkToken (codes "(") o
      → SpellsCommaList (SpellsCell false) args u → IsMarkToken (codes ")") c
      → SpellsDerived (record {
        name = n.text;
        place = n.place;
        call = call.text;
        call_place = call.place;
        args = args;
      }) (n ∷ equal ∷ call ∷ o ∷ (u ++ c ∷ []))

-- tokens spell the derived variables of a rule, of which there may be none
pub data SpellsWhere : List DerivedText → List Lexeme → Type 0 where
  no_where : SpellsWhere [] []
  where_of : {ds : List DerivedText} {u : List Lexeme} (k : Lexeme) → IsKeyword (codes "where") k
      → SpellsCommaList SpellsDerived ds u → SpellsWhere ds (k ∷ u)

-- tokens spell a rule
pub data SpellsRule : RuleText → List Lexeme → Type 0 where
  rule_of : {premise conclusion : List AtomText} {ds : List DerivedText} {u v w : List Lexeme}
      (k arrow e : Lexeme) → IsKeyword (codes "rule") k → SpellsCommaList (SpellsAtom false) premise u
      → SpellsWhere ds v → IsMarkToken (codes "->") arrow
      → SpellsCommaList (SpellsAtom true) conclusion w → IsMarkToken (codes ";") e
      → SpellsRule (record { premise = premise; derived = ds; conclusion = conclusion })
      (k ∷ (u ++ (v ++ arrow ∷ (w ++ e ∷ []))))

-- ---- conditions

-- tokens spell a condition
pub data SpellsOnly : OnlyText → List Lexeme → Type 0 where
  only_of : {p : PlaceText} {u : List Lexeme} (k t e : Lexeme) → IsKeyword (codes "only") k
      → SpellsPlace p u → IsWordToken t → IsMarkToken (codes ";") e
      → SpellsOnly (record { place = p; test = t.text; test_place = t.place }) (k ∷ (u ++ t ∷ e ∷ []))

-- ---- mappings

-- tokens spell a line or a rule, or if conditions may stand a condition
pub data SpellsItem : Bool → ItemText → List Lexeme → Type 0 where
  a_line : {conditions : Bool} {l : LineText} {u : List Lexeme} → SpellsLine l u → SpellsItem conditions (line_item l) u
  a_rule : {conditions : Bool} {r : RuleText} {u : List Lexeme} → SpellsRule r u → SpellsItem conditions (rule_item r) u
  a_condition : {o : OnlyText} {u : List Lexeme} → SpellsOnly o u → SpellsItem true (only_item o) u

-- tokens spell the sets of a side, after its name
pub data SpellsSide : ℕ → List ℕ → ℕ → Forest → List Lexeme → Type 0 where
  side_of : {version : ℕ} {name : List ℕ} {levels : ℕ} {trees : List Tree} {u : List Lexeme}
      (k o c : Lexeme) → IsKeyword name k → IsMarkToken (codes "{") o
      → Many (SpellsSet version levels) trees u → IsMarkToken (codes "}") c
      → SpellsSide version name levels (forest_of trees) (k ∷ o ∷ (u ++ c ∷ []))

-- the token is the number of a version, which is 1, 2 or 3
pub data IsVersion : ℕ → Lexeme → Type 0 where
  version_one : {n : Lexeme} → digit_is (codes "1") n ≡ true → IsVersion 1 n
  version_two : {n : Lexeme} → digit_is (codes "2") n ≡ true → IsVersion 2 n
  version_three : {n : Lexeme} → digit_is (codes "3") n ≡ true → IsVersion 3 n

-- a mapping whose sets have so many levels of inner sets, at most
pub data SpellsMapping : ℕ → MappingText → List Lexeme → Type 0 where
  mapping_of : {version levels : ℕ} {from to : Forest} {rest : List ItemText} {u v w : List Lexeme}
      (k n e : Lexeme) → IsKeyword (codes "mapping") k → IsVersion version n → IsMarkToken (codes ";") e
      → SpellsSide version (codes "source") levels from u
      → SpellsSide version (codes "target") levels to v → Many (SpellsItem (since_two version)) rest w
      → SpellsMapping levels (mapping_of_items version from to rest) (k ∷ n ∷ e ∷ (u ++ (v ++ w)))
