-- Two employees with their departments, as the small worlds with a key have them: the text up to the target's sets, the rows of the
-- file, and the rows of a rule over them.
use Rattle.std.proofs.Common.{◌≡◌, ◌⊎◌, ◌≤◌, ◌-◌, ℕ, zero, suc, List, [], ◌∷◌, length, inl, inr, refl, sym, ◌∙◌, ap, subst, arith, Some, map}
use Rattle.std.specs.Prelude.{codes, All}
use Rattle.std.specs.Str.{IsAscii}
use Rattle.std.proofs.lemmas.Str.{IsUtf8-from_ascii}
use Rattle.std.specs.declared.cmp.Ordering.TheVariants.{Less}
use Rattle.csv.specs.Records.{AllText}
use Rattle.dx_base.specs.Members.{◌∈◌, here, there}
use Rattle.dx_base.specs.Texts.{Text}
use Rattle.dx_model.specs.declared.facts.Fact.{Fact}
use Rattle.dx_model.specs.declared.rules.Atom.{Atom}
use Rattle.dx_model.specs.declared.rules.Cell.TheVariants.{Var}
use Rattle.dx_model.specs.declared.rules.Rule.{Rule}
use Rattle.dx_model.specs.declared.values.Value.{Value}
use Rattle.dx_model.specs.declared.values.Value.TheVariants.{Const}
use Rattle.dx_model.specs.Rules.{AreRows, IsMatch, IsRows, exported, premise_fact}
use Rattle.dx_model.specs.Tables.{table_of}
use Rattle.dx_model.specs.Values.{Conversions, Rows, RowsAscend, Tuple, row_cmp, tuple_cmp}
use Rattle.dx_model.proofs.RowsExist.{one_rows}
use Rattle.dx_stages.specs.Worlds.{World}
use Rattle.dx_schema.specs.Forest.{Forest, Tree, none, set}
use Rattle.dx_schema.specs.Links.{IsFaultless, every_link}
use Rattle.dx_schema.specs.Tables.{model_tables}
use Rattle.dx_grammar.specs.Readers.{no_more, one_more}
use Rattle.dx_tokens.specs.declared.scanner.Lexeme.{Lexeme}
use Rattle.dx_schema_text.specs.Reading.{tree_of_clauses}
use Rattle.dx_schema_text.specs.Spelling.{SpellsHead, SpellsSet, SpellsSide}
use Rattle.dx_schema_text.specs.Spelling as spelling
use Rattle.dx_schema_text.specs.Texts.{deepest}
use Rattle.dx_instance.specs.Stored.{TableRows, facts, rows_of}
use Rattle.dx_csv.specs.Table.{AreTableRecords, IsWholeRecord, table_records}
use Rattle.clio_source.specs.Source.{ReadState, SaysSourceFacts, at_start, data_bytes, flat, reading, source_cells, source_stages}
use Rattle.clio_steps.specs.Steps.{Program}
use Rattle.clio_top.proofs.Examples.{mark, no_links, number, word}

-- ---- the text up to the target's sets

abbrev pub t0 : Lexeme
t0 = word 0 (codes "mapping")

abbrev pub t1 : Lexeme
t1 = number 8 (codes "1")

abbrev pub t2 : Lexeme
t2 = mark 9 (codes ";")

abbrev pub t3 : Lexeme
t3 = word 11 (codes "source")

abbrev pub t4 : Lexeme
t4 = mark 18 (codes "{")

abbrev pub t5 : Lexeme
t5 = word 20 (codes "set")

abbrev pub t6 : Lexeme
t6 = word 24 (codes "emp")

abbrev pub t7 : Lexeme
t7 = mark 28 (codes "{")

abbrev pub t8 : Lexeme
t8 = word 30 (codes "name")

abbrev pub t9 : Lexeme
t9 = mark 34 (codes ",")

abbrev pub t10 : Lexeme
t10 = word 36 (codes "dept")

abbrev pub t11 : Lexeme
t11 = mark 40 (codes ";")

abbrev pub t12 : Lexeme
t12 = mark 42 (codes "}")

abbrev pub t13 : Lexeme
t13 = mark 44 (codes "}")

abbrev pub t14 : Lexeme
t14 = word 46 (codes "target")

abbrev pub t15 : Lexeme
t15 = mark 53 (codes "{")

abbrev pub columns : List Text
columns = codes "name" ∷ codes "dept" ∷ []

abbrev pub emps : Forest
emps = set (record { name = codes "emp"; columns = columns; keys = []; deps = []; refs = [] }) none none

abbrev emp_tree : Tree
emp_tree = tree_of_clauses (codes "emp") columns []

emp_head : SpellsHead (codes "emp") columns (t5 ∷ t6 ∷ t7 ∷ t8 ∷ t9 ∷ t10 ∷ t11 ∷ [])
emp_head =
    spelling.head_of t5 t6 t7 t11 refl refl refl
    (spelling.parted (spelling.name_of t8 refl) (one_more (spelling.comma_then t9 refl (spelling.name_of t10 refl)) no_more)) refl

emp_set : SpellsSet 1 deepest emp_tree (t5 ∷ t6 ∷ t7 ∷ t8 ∷ t9 ∷ t10 ∷ t11 ∷ t12 ∷ [])
emp_set = spelling.set_of {cs = []} t12 emp_head spelling.no_clause refl

pub emp_side : SpellsSide 1 (codes "source") deepest emps (t3 ∷ t4 ∷ t5 ∷ t6 ∷ t7 ∷ t8 ∷ t9 ∷ t10 ∷ t11 ∷ t12 ∷ t13 ∷ [])
emp_side = spelling.side_of {trees = emp_tree ∷ []} t3 t4 t13 refl refl (one_more emp_set no_more) refl

emp_links : (t : ℕ) → every_link (table_of (model_tables emps) t) ≡ []
emp_links zero = refl
emp_links (suc t) = refl

pub emps_are : IsFaultless emps
emps_are = record { form = refl; acyclic = no_links emps emp_links }

-- ---- the file

abbrev pub emp_row : Text → Text → List Value
emp_row name dept = Const name ∷ Const dept ∷ []

-- a file of the employees in a world: two different rows, ascending
pub record TwoEmps (world : World) : Type 0 where
  pub bytes : List ℕ
  pub held : world (codes "emp.csv") ≡ Some bytes
  pub few : length bytes ≤ data_bytes
  pub first : Text
  pub first_dept : Text
  pub second : Text
  pub second_dept : Text
  pub records : table_records bytes ≡ columns ∷ (first ∷ first_dept ∷ []) ∷ (second ∷ second_dept ∷ []) ∷ []
  pub first_whole : IsWholeRecord columns (first ∷ first_dept ∷ [])
  pub second_whole : IsWholeRecord columns (second ∷ second_dept ∷ [])
  pub rows_less : row_cmp (emp_row first first_dept) (emp_row second second_dept) ≡ Less
  pub tuples_less : tuple_cmp (first ∷ first_dept ∷ []) (second ∷ second_dept ∷ []) ≡ Less

-- a record of two texts of bytes below 128
pub whole : (name dept : Text) → IsAscii name → IsAscii dept → IsWholeRecord columns (name ∷ dept ∷ [])
unfolding AllText
whole name dept a b = record { width = refl; text = (IsUtf8-from_ascii name a, (IsUtf8-from_ascii dept b, tt)) }

pub hr_ascii : IsAscii (codes "hr")
hr_ascii zero = omega arith
hr_ascii (suc zero) = omega arith
hr_ascii (suc (suc i)) = omega arith

pub it_ascii : IsAscii (codes "it")
it_ascii zero = omega arith
it_ascii (suc zero) = omega arith
it_ascii (suc (suc i)) = omega arith

module _ (world : World) (s : TwoEmps world) where
  abbrev pub emp_rows : List (List Value)
  emp_rows = emp_row s.first s.first_dept ∷ emp_row s.second s.second_dept ∷ []

  abbrev pub rows : List TableRows
  rows = record { width = 2; rows = emp_rows } ∷ []

  all_whole : All (IsWholeRecord columns) ((s.first ∷ s.first_dept ∷ []) ∷ (s.second ∷ s.second_dept ∷ []) ∷ [])
  all_whole zero d lt = s.first_whole
  all_whole (suc zero) d lt = s.second_whole
  all_whole (suc (suc k)) d lt = absurd (omega (arith, lt))

  is_table : AreTableRecords (table_records s.bytes) columns emp_rows
  is_table = record {
    under = (s.first ∷ s.first_dept ∷ []) ∷ (s.second ∷ s.second_dept ∷ []) ∷ [];
    header = s.records;
    whole = all_whole;
    values = refl;
  }

  abbrev read : ReadState
  read = record { facts = facts rows; bytes_left = data_bytes - length s.bytes; cells_left = source_cells - 4 }

  abbrev begun : ReadState
  begun = record { facts = []; bytes_left = data_bytes - length s.bytes; cells_left = source_cells }

  says_rows : SaysSourceFacts flat emps 0 (at_start, s.bytes) (begun, facts rows)
  says_rows = (facts rows, (emp_rows, is_table, refl), refl)

  was_read : (reading emps 0).passes world at_start read
  was_read = ((at_start, s.bytes), (s.bytes, (s.held, s.few), refl), ((begun, facts rows), says_rows, refl))

  rows_ascend : (t : ℕ) → RowsAscend (rows_of rows t)
  rows_ascend zero = ((λ x m. less x m), ((λ x m. elim m [ ]), tt))
    where
      less : (x : List Value) → x ∈ (emp_row s.second s.second_dept ∷ []) → row_cmp (emp_row s.first s.first_dept) x ≡ Less
      less x (here e) = subst (λ r. row_cmp (emp_row s.first s.first_dept) r ≡ Less) e s.rows_less
      less x (there m) = elim m [ ]
  rows_ascend (suc t) = tt

  pub is_source : (P : Program) → (source_stages P.passes).passes world (record { schema = emps; conditions = [] }) rows
  is_source P = (read, (read, was_read, refl), record { widths_are = refl; ascend = rows_ascend; exact = ((λ x m. m), (λ x m. m)) })

-- ---- the rows of a rule

abbrev pub premise_atom : Atom
premise_atom = record { table = 0; cells = Var 0 ∷ Var 1 ∷ [] }

-- a rule of employees
abbrev pub of_emps : List Atom → Rule
of_emps conclusion = record { premise = premise_atom ∷ []; derived = []; conclusion = conclusion }

module _ (world : World) (s : TwoEmps world) where
  abbrev pub tuples : List Tuple
  tuples = (s.first ∷ s.first_dept ∷ []) ∷ (s.second ∷ s.second_dept ∷ []) ∷ []

  -- the texts are those of the first or of the second
  abbrev pub AllTexts : (ℕ → Text) → Type 0
  AllTexts texts = ((s.first ≡ texts 0) × (s.first_dept ≡ texts 1)) ⊎ ((s.second ≡ texts 0) × (s.second_dept ≡ texts 1))

  named : (texts : ℕ → Text) → premise_fact texts premise_atom ∈ facts (rows world s) → AllTexts texts
  named texts (here e) =
      let d : emp_row s.first s.first_dept ≡ emp_row (texts 0) (texts 1) = ap (λ (f : Fact). f.row) e in inl ((cc), (cc))
  named texts (there (here e)) =
      let d : emp_row s.second s.second_dept ≡ emp_row (texts 0) (texts 1) = ap (λ (f : Fact). f.row) e in inr ((cc), (cc))
  named texts (there (there m)) = elim m [ ]

  pub texts_are : (convert : Conversions) (conclusion : List Atom) (texts : ℕ → Text)
      → IsMatch convert (of_emps conclusion) (facts (rows world s)) texts → AllTexts texts
  texts_are convert conclusion texts m = named texts (m.premise premise_atom (here refl))

  -- the texts of one employee
  abbrev of_one : Text → Text → ℕ → Text
  of_one name dept zero = name
  of_one name dept (suc x) = dept

  matched : (convert : Conversions) (conclusion : List Atom) (name dept : Text)
      → premise_fact (of_one name dept) premise_atom ∈ facts (rows world s)
      → IsMatch convert (of_emps conclusion) (facts (rows world s)) (of_one name dept)
  matched convert conclusion name dept there_is = record { premise = λ a m. premise a m; derived = tt }
    where
      premise : (a : Atom) → a ∈ (premise_atom ∷ []) → premise_fact (of_one name dept) a ∈ facts (rows world s)
      premise a (here e) = subst (λ (b : Atom). premise_fact (of_one name dept) b ∈ facts (rows world s)) e there_is
      premise a (there m) = elim m [ ]

  pub matched_first : (convert : Conversions) (conclusion : List Atom) → IsMatch convert (of_emps conclusion) (facts (rows world s)) (of_one s.first s.first_dept)
  matched_first convert conclusion = matched convert conclusion s.first s.first_dept (here refl)

  pub matched_second : (convert : Conversions) (conclusion : List Atom) → IsMatch convert (of_emps conclusion) (facts (rows world s)) (of_one s.second s.second_dept)
  matched_second convert conclusion = matched convert conclusion s.second s.second_dept (there (here refl))

  -- a rule that exports both has the two rows
  pub are_rows : (convert : Conversions) (conclusion : List Atom) → exported (of_emps conclusion) ≡ 0 ∷ 1 ∷ []
      → IsRows convert (of_emps conclusion) (facts (rows world s)) tuples
  are_rows convert conclusion both = record {
    ascend = ((λ x m. less x m), ((λ x m. elim m [ ]), tt));
    exact = λ t. (from t, (λ w. listed t w.0 w.1 w.2));
  }
    where
      less : (x : Tuple) → x ∈ ((s.second ∷ s.second_dept ∷ []) ∷ []) → tuple_cmp (s.first ∷ s.first_dept ∷ []) x ≡ Less
      less x (here e) = subst (λ r. tuple_cmp (s.first ∷ s.first_dept ∷ []) r ≡ Less) e s.tuples_less
      less x (there m) = elim m [ ]

      exports : (texts : ℕ → Text) → map texts (exported (of_emps conclusion)) ≡ texts 0 ∷ texts 1 ∷ []
      exports texts = ap (map texts) both

      from : (t : Tuple) → t ∈ tuples
          → (texts : ℕ → Text) × IsMatch convert (of_emps conclusion) (facts (rows world s)) texts × (t ≡ map texts (exported (of_emps conclusion)))
      from t (here e) =
          (of_one s.first s.first_dept, matched convert conclusion s.first s.first_dept (here refl), sym e ∙ sym (exports (of_one s.first s.first_dept)))
      from t (there (here e)) =
          (of_one s.second s.second_dept, matched convert conclusion s.second s.second_dept (there (here refl)), sym e ∙ sym (exports (of_one s.second s.second_dept)))
      from t (there (there m)) = elim m [ ]

      put : (texts : ℕ → Text) → AllTexts texts → texts 0 ∷ texts 1 ∷ [] ∈ tuples
      put texts (inl (n, d)) = here (cc)
      put texts (inr (n, d)) = there (here (cc))

      listed : (t : Tuple) (texts : ℕ → Text) → IsMatch convert (of_emps conclusion) (facts (rows world s)) texts
          → t ≡ map texts (exported (of_emps conclusion)) → t ∈ tuples
      listed t texts m e = subst (λ (u : Tuple). u ∈ tuples) (sym (e ∙ exports texts)) (put texts (texts_are convert conclusion texts m))

  -- so these are all its matches
  pub matches_are : (convert : Conversions) (conclusion : List Atom) (matches : Rows) → exported (of_emps conclusion) ≡ 0 ∷ 1 ∷ []
      → AreRows convert (of_emps conclusion ∷ []) (facts (rows world s)) matches → matches ≡ tuples ∷ []
  matches_are convert conclusion [] both a = absurd a
  matches_are convert conclusion (ts ∷ []) both a =
      ap (λ (us : List Tuple). us ∷ []) (sym (one_rows convert (of_emps conclusion) (facts (rows world s)) tuples ts (are_rows convert conclusion both) a.0))
  matches_are convert conclusion (ts ∷ us ∷ matches) both a = absurd a.1
