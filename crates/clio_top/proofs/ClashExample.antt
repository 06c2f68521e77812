-- The worked example of a clash: an employee with two departments, and persons whose name is a key. There is no solution, so an exchange
-- is refused, and what is told is this person's name, the column, and the two rows.
use Rattle.std.proofs.Common.{◌≡◌, ◌⊎◌, ◌<◌, ℕ, zero, suc, List, [], ◌∷◌, get_or, inl, inr, refl, sym, ◌∙◌, ap, subst, arith, Some, None, false, length}
use Rattle.std.specs.Prelude.{codes}
use Rattle.std.specs.Cmp.Lexicographic.{nat_list_cmp_total}
use Rattle.std.specs.FinMap.{from_entries, get-insert}
use Rattle.std.specs.declared.cmp.Ordering.TheVariants.{Less}
use Rattle.std.proofs.lemmas.Option.{same_Some}
use Rattle.csv.specs.Machine.{next_record}
use Rattle.csv.specs.Reading.{records_from, strip_bom}
use Rattle.dx_base.specs.Entries.{FileMap}
use Rattle.dx_base.specs.Members.{◌∈◌, ◌⊆◌, here, there}
use Rattle.dx_base.specs.Texts.{Text}
use Rattle.dx_model.specs.declared.facts.Fact.{Fact}
use Rattle.dx_model.specs.declared.facts.NullPair.{NullPair}
use Rattle.dx_model.specs.declared.rules.Atom.{Atom}
use Rattle.dx_model.specs.declared.rules.Cell.TheVariants.{Var}
use Rattle.dx_model.specs.declared.rules.Rule.{Rule}
use Rattle.dx_model.specs.declared.values.Value.{Value}
use Rattle.dx_model.specs.declared.values.Value.TheVariants.{Const, Null}
use Rattle.dx_model.specs.Chase.{AreSteps, IsClashAt, after}
use Rattle.dx_model.specs.Covers.{least_cover}
use Rattle.dx_model.specs.Rules.{canonical}
use Rattle.dx_model.specs.Solutions.{IsSolution}
use Rattle.dx_model.specs.Tables.{Determination, Table, cell, fact_of_row, table_of, determination_at}
use Rattle.dx_model.specs.Values.{Conversions, Rows, row_cmp}
use Rattle.dx_model.proofs.ByMembers.{uncovered_is_part}
use Rattle.dx_schema.specs.Forest.{Forest, Tree, none, set}
use Rattle.dx_schema.specs.Links.{IsFaultless, every_link}
use Rattle.dx_schema.specs.Tables.{model_tables}
use Rattle.dx_grammar.specs.Readers.{no_more, one_more}
use Rattle.dx_tokens.specs.declared.scanner.Lexeme.{Lexeme}
use Rattle.dx_tokens.specs.declared.scanner.Scanned.{Scanned}
use Rattle.dx_tokens.specs.Scan.{scan_from, scan_of}
use Rattle.dx_tokens.specs.Tokens.{item_at, piece_at, string_from, wide_at}
use Rattle.dx_schema_text.specs.declared.texts.LineText.{LineText}
use Rattle.dx_schema_text.specs.declared.texts.MappingText.{MappingText}
use Rattle.dx_schema_text.specs.declared.texts.SourceText.TheVariants as sources
use Rattle.dx_schema_text.specs.Reading.{key_clause, line_item, place_text, tree_of_clauses}
use Rattle.dx_schema_text.specs.Spelling.{SpellsClauses, SpellsHead, SpellsLine, SpellsMapping, SpellsSet, SpellsSide}
use Rattle.dx_schema_text.specs.Spelling as spelling
use Rattle.dx_schema_text.specs.Texts.{IsMappingText, deepest}
use Rattle.dx_instance.specs.Stored.{TableRows, facts}
use Rattle.dx_csv.specs.Table.{table_records}
use Rattle.dx_keys.specs.declared.answers.Clash.{Clash}
use Rattle.dx_keys.specs.Answers.{IsClash}
use Rattle.dx_exchange.specs.declared.mode.Mode.{Mode}
use Rattle.dx_exchange.specs.declared.mode.Mode.TheVariants.{Core, Plain}
use Rattle.dx_exchange.specs.Exchanging.{HasClash, meant}
use Rattle.clio_accept.specs.declared.mapping.Mapping.{Mapping}
use Rattle.clio_accept.specs.Accepting.{accepting, between_of, taking}
use Rattle.clio_accept.specs.Mapping.{RulesOfLines, NoneReserved}
use Rattle.clio_ending.specs.declared.ending.Refusal.{Refusal}
use Rattle.clio_ending.specs.declared.ending.Refusal.TheVariants as refusals
use Rattle.clio_ending.specs.Ending.{named_clash}
use Rattle.clio_steps.specs.Outcomes.{HasNoSolutionIn, IsClashIn, ReadIn}
use Rattle.clio_steps.specs.Steps.{MappingAndRows, Program, exchange_input}
use Rattle.clio_steps.proofs.Spine.{one_read}
use Rattle.clio_top.specs.declared.command.Command.TheVariants.{Answering, Demonstrating, Exchanging}
use Rattle.clio_top.specs.KeyedWorlds.{ClashIsRefused, ClashIsThis, IsSmallClash, clashing_text, clashing_world, exchange_words}
use Rattle.clio_top.specs.Words.{Word, says}
use Rattle.clio_top.proofs.Clashes.{no_solution}
use Rattle.clio_top.proofs.Examples.{ann_ascii, mark, no_links, word}
use Rattle.clio_top.proofs.OneRule.{is_left, not_tested}
use Rattle.clio_top.proofs.TwoEmps.{TwoEmps, are_rows, emp_side, emps, emps_are, hr_ascii, is_source, it_ascii, matched_first, matched_second, matches_are, of_emps, rows, t0, t1, t10, t11, t12, t13, t14, t15, t2, t3, t4, t5, t6, t7, t8, t9, tuples, whole}

-- ---- what is held

abbrev emp_bytes : List ℕ
emp_bytes = codes "name,dept\nann,hr\nann,it\n"

abbrev table_held : FileMap
table_held = from_entries ((codes "emp.csv", emp_bytes) ∷ [])

has_text : clashing_world (codes "mapping.clio") ≡ Some clashing_text
has_text = get-insert nat_list_cmp_total table_held (codes "mapping.clio") clashing_text (codes "mapping.clio")

has_table : clashing_world (codes "emp.csv") ≡ Some emp_bytes
has_table =
    get-insert nat_list_cmp_total table_held (codes "mapping.clio") clashing_text (codes "emp.csv")
    ∙ get-insert nat_list_cmp_total (from_entries []) (codes "emp.csv") emp_bytes (codes "emp.csv")

-- ---- the tokens of the text

abbrev c16 : Lexeme
c16 = word 55 (codes "set")

abbrev c17 : Lexeme
c17 = word 59 (codes "person")

abbrev c18 : Lexeme
c18 = mark 66 (codes "{")

abbrev c19 : Lexeme
c19 = word 68 (codes "name")

abbrev c20 : Lexeme
c20 = mark 72 (codes ",")

abbrev c21 : Lexeme
c21 = word 74 (codes "dept")

abbrev c22 : Lexeme
c22 = mark 78 (codes ";")

abbrev c23 : Lexeme
c23 = word 80 (codes "key")

abbrev c24 : Lexeme
c24 = mark 84 (codes "(")

abbrev c25 : Lexeme
c25 = word 85 (codes "name")

abbrev c26 : Lexeme
c26 = mark 89 (codes ")")

abbrev c27 : Lexeme
c27 = mark 90 (codes ";")

abbrev c28 : Lexeme
c28 = mark 92 (codes "}")

abbrev c29 : Lexeme
c29 = mark 94 (codes "}")

abbrev c30 : Lexeme
c30 = word 96 (codes "line")

abbrev c31 : Lexeme
c31 = word 101 (codes "emp")

abbrev c32 : Lexeme
c32 = mark 104 (codes ".")

abbrev c33 : Lexeme
c33 = word 105 (codes "name")

abbrev c34 : Lexeme
c34 = mark 110 (codes "->")

abbrev c35 : Lexeme
c35 = word 113 (codes "person")

abbrev c36 : Lexeme
c36 = mark 119 (codes ".")

abbrev c37 : Lexeme
c37 = word 120 (codes "name")

abbrev c38 : Lexeme
c38 = mark 124 (codes ";")

abbrev c39 : Lexeme
c39 = word 126 (codes "line")

abbrev c40 : Lexeme
c40 = word 131 (codes "emp")

abbrev c41 : Lexeme
c41 = mark 134 (codes ".")

abbrev c42 : Lexeme
c42 = word 135 (codes "dept")

abbrev c43 : Lexeme
c43 = mark 140 (codes "->")

abbrev c44 : Lexeme
c44 = word 143 (codes "person")

abbrev c45 : Lexeme
c45 = mark 149 (codes ".")

abbrev c46 : Lexeme
c46 = word 150 (codes "dept")

abbrev c47 : Lexeme
c47 = mark 154 (codes ";")

abbrev tokens : List Lexeme
tokens =
    t0 ∷ t1 ∷ t2 ∷ t3 ∷ t4 ∷ t5 ∷ t6 ∷ t7 ∷ t8 ∷ t9 ∷ t10 ∷ t11 ∷ t12 ∷ t13
    ∷ t14 ∷ t15 ∷ c16 ∷ c17 ∷ c18 ∷ c19 ∷ c20 ∷ c21 ∷ c22 ∷ c23 ∷ c24 ∷ c25 ∷ c26 ∷ c27
    ∷ c28 ∷ c29 ∷ c30 ∷ c31 ∷ c32 ∷ c33 ∷ c34 ∷ c35 ∷ c36 ∷ c37 ∷ c38 ∷ c39 ∷ c40 ∷ c41
    ∷ c42 ∷ c43 ∷ c44 ∷ c45 ∷ c46 ∷ c47 ∷ []

scanned : scan_of clashing_text ≡ record { lexemes = tokens; stop = None }
unfolding scan_from piece_at string_from item_at wide_at
scanned = refl

-- ---- what they say

abbrev persons : Forest
persons =
    set (record { name = codes "person"; columns = codes "name" ∷ codes "dept" ∷ []; keys = record { columns = codes "name" ∷ [] } ∷ []; deps = []; refs = [] }) none none

abbrev person_tree : Tree
person_tree = tree_of_clauses (codes "person") (codes "name" ∷ codes "dept" ∷ []) (key_clause (record { columns = codes "name" ∷ [] }) ∷ [])

person_head : SpellsHead (codes "person") (codes "name" ∷ codes "dept" ∷ []) (c16 ∷ c17 ∷ c18 ∷ c19 ∷ c20 ∷ c21 ∷ c22 ∷ [])
person_head =
    spelling.head_of c16 c17 c18 c22 refl refl refl
    (spelling.parted (spelling.name_of c19 refl) (one_more (spelling.comma_then c20 refl (spelling.name_of c21 refl)) no_more)) refl

person_clauses : SpellsClauses 1 deepest (key_clause (record { columns = codes "name" ∷ [] }) ∷ []) (c23 ∷ c24 ∷ c25 ∷ c26 ∷ c27 ∷ [])
person_clauses =
    spelling.clause_first (spelling.a_key (spelling.key_of c23 c24 c26 c27 refl refl (spelling.parted (spelling.name_of c25 refl) no_more) refl refl))
    spelling.no_clause

person_set : SpellsSet 1 deepest person_tree (c16 ∷ c17 ∷ c18 ∷ c19 ∷ c20 ∷ c21 ∷ c22 ∷ c23 ∷ c24 ∷ c25 ∷ c26 ∷ c27 ∷ c28 ∷ [])
person_set = spelling.set_of {cs = key_clause (record { columns = codes "name" ∷ [] }) ∷ []} c28 person_head person_clauses refl

person_side : SpellsSide 1 (codes "target") deepest persons
    (t14 ∷ t15 ∷ c16 ∷ c17 ∷ c18 ∷ c19 ∷ c20 ∷ c21 ∷ c22 ∷ c23 ∷ c24 ∷ c25 ∷ c26 ∷ c27 ∷ c28 ∷ c29 ∷ [])
person_side = spelling.side_of {trees = person_tree ∷ []} t14 t15 c29 refl refl (one_more person_set no_more) refl

abbrev name_line : LineText
name_line = record { source = sources.Column (place_text c31 c33); target = place_text c35 c37 }

abbrev dept_line : LineText
dept_line = record { source = sources.Column (place_text c40 c42); target = place_text c44 c46 }

name_line_spelled : SpellsLine name_line (c30 ∷ c31 ∷ c32 ∷ c33 ∷ c34 ∷ c35 ∷ c36 ∷ c37 ∷ c38 ∷ [])
name_line_spelled =
    spelling.line_of c30 c34 c38 refl (spelling.a_column (spelling.place_of c31 c32 c33 refl refl refl)) refl
    (spelling.place_of c35 c36 c37 refl refl refl) refl

dept_line_spelled : SpellsLine dept_line (c39 ∷ c40 ∷ c41 ∷ c42 ∷ c43 ∷ c44 ∷ c45 ∷ c46 ∷ c47 ∷ [])
dept_line_spelled =
    spelling.line_of c39 c43 c47 refl (spelling.a_column (spelling.place_of c40 c41 c42 refl refl refl)) refl
    (spelling.place_of c44 c45 c46 refl refl refl) refl

abbrev said : MappingText
said = record { version = 1; source = emps; target = persons; lines = name_line ∷ dept_line ∷ []; conditions = []; rules = [] }

spelled : SpellsMapping deepest said tokens
spelled =
    spelling.mapping_of {rest = line_item name_line ∷ line_item dept_line ∷ []} t0 t1 t2 refl (spelling.version_one refl) refl emp_side person_side
    (one_more (spelling.a_line name_line_spelled) (one_more (spelling.a_line dept_line_spelled) no_more))

is_text : IsMappingText clashing_text said
is_text = record {
  no_stop = ap (λ (s : Scanned). s.stop) scanned;
  spelled = subst (SpellsMapping deepest said) (sym (ap (λ (s : Scanned). s.lexemes) scanned)) spelled;
}

-- ---- the schema and the rule

abbrev schema : List Table
schema = model_tables persons

person_links : (t : ℕ) → every_link (table_of schema t) ≡ []
person_links zero = refl
person_links (suc t) = refl

persons_are : IsFaultless persons
persons_are = record { form = refl; acyclic = no_links persons person_links }

names_free : NoneReserved persons
names_free zero lt (inl e) = let h : 112 ≡ 110 = ap (λ (t : List ℕ). get_or t 0 0) e in omega (arith, h)
names_free zero lt (inr e) = let h : 112 ≡ 102 = ap (λ (t : List ℕ). get_or t 0 0) e in omega (arith, h)
names_free (suc t) lt r = absurd (omega (arith, lt))

abbrev person_atom : Atom
person_atom = record { table = 0; cells = Var 0 ∷ Var 1 ∷ [] }

abbrev rule : Rule
rule = of_emps (person_atom ∷ [])

abbrev mapping : Mapping
mapping = record { source = emps; target = persons; conditions = []; rules = rule ∷ [] }

rules_are : (P : Program) → RulesOfLines P.list emps persons (name_line ∷ dept_line ∷ []) [] (rule ∷ [])
rules_are P = record { closed = []; closings = tt; are = refl }

taken : (P : Program) → (taking P.list P.tests).passes clashing_world (between_of said) (rule ∷ [])
taken P =
    let b = between_of said in (
      b,
      (omega arith, refl),
      (
        b,
        (refl, refl),
        (
          b,
          (refl, refl),
          (
            b,
            (refl, refl),
            (
              b,
              (refl, refl),
              (rule ∷ [], rules_are P, (rule ∷ [], (omega arith, refl), (rule ∷ [], (not_tested rule, refl), is_left _ person_atom []))),
            ),
          ),
        ),
      ),
    )

accepted : (P : Program) → (accepting P.list P.tests).passes clashing_world clashing_text mapping
accepted P = (said, is_text, (said, (emps_are, refl), (said, (persons_are, refl), (said, (names_free, refl), (rule ∷ [], taken P, refl)))))

-- ---- the rows

records_are : table_records emp_bytes
    ≡ (codes "name" ∷ codes "dept" ∷ []) ∷ (codes "ann" ∷ codes "hr" ∷ []) ∷ (codes "ann" ∷ codes "it" ∷ []) ∷ []
unfolding records_from next_record strip_bom
records_are = refl

abbrev two : TwoEmps clashing_world
two = record {
  bytes = emp_bytes;
  held = has_table;
  few = omega arith;
  first = codes "ann";
  first_dept = codes "hr";
  second = codes "ann";
  second_dept = codes "it";
  records = records_are;
  first_whole = whole (codes "ann") (codes "hr") ann_ascii hr_ascii;
  second_whole = whole (codes "ann") (codes "it") ann_ascii it_ascii;
  rows_less = refl;
  tuples_less = refl;
}

abbrev emp_rows : List TableRows
emp_rows = rows clashing_world two

abbrev matches : Rows
matches = tuples clashing_world two ∷ []

is_read : (P : Program) → ReadIn P clashing_world mapping emp_rows
is_read P = record {
  accepted = record { text = clashing_text; held = record { is = has_text; few = omega arith }; accepted = accepted P };
  source = is_source clashing_world two P;
}

-- ---- there is no solution

abbrev person : Text → Fact
person dept = record { table = 0; row = Const (codes "ann") ∷ Const dept ∷ [] }

abbrev name_key : Determination
name_key = record { left = 0 ∷ []; right = 0 ∷ 1 ∷ [] }

-- ann would have both departments, and her name decides her department
none_solves : (convert : Conversions) (K : List Fact) → ¬ (IsSolution convert (rule ∷ []) schema (facts emp_rows) K)
none_solves convert K s =
    let satisfied = s.rules rule (here refl) in
    let one = satisfied _ (matched_first clashing_world two convert (person_atom ∷ [])) in
    let other = satisfied _ (matched_second clashing_world two convert (person_atom ∷ [])) in
    let same = s.keys (person (codes "hr")) (one.1 person_atom (here refl)) (person (codes "it")) (other.1 person_atom (here refl)) refl name_key (here refl) refl in
    first_byte (ap (λ vs. cell vs 1) same)
  where
    byte_of : Value → ℕ
    byte_of (Const (b ∷ bs)) = b
    byte_of _ = 0

    first_byte : ¬ (Const (codes "hr") ≡ Const (codes "it"))
    first_byte e = let b : 104 ≡ 105 = ap byte_of e in omega (arith, b)

has_none : (P : Program) → HasNoSolutionIn P clashing_world
has_none P = record {
  mapping = mapping;
  rows = emp_rows;
  matches = matches;
  matched = record {
    read = is_read P;
    are = (are_rows clashing_world two P.apply (person_atom ∷ []) refl, tt);
    within = omega arith;
  };
  none = none_solves P.apply;
}

pub clash_is_refused : ClashIsRefused
clash_is_refused P words (here e) =
    no_solution P clashing_world words Plain false (ap says (sym e)) (has_none P)
clash_is_refused P words (there (here e)) =
    no_solution P clashing_world words Core false (ap says (sym e)) (has_none P)
clash_is_refused P words (there (there m)) = elim m [ ]

-- ---- which clash it is

abbrev made : List Fact
made = canonical 0 (rule ∷ []) matches

-- the two rows
are_two : (f : Fact) → f ∈ made → (person (codes "hr") ≡ f) ⊎ (person (codes "it") ≡ f)
are_two f (here e) = inl e
are_two f (there (here e)) = inr e
are_two f (there (there m)) = elim m [ ]

-- none of their values is a null
no_null : (f : Fact) (c : ℕ) (p : NullPair) → f ∈ made → ¬ (cell f.row c ≡ Null p.null)
no_null f c p m = of c (are_two f m)
  where
    of : (c : ℕ) → (person (codes "hr") ≡ f) ⊎ (person (codes "it") ≡ f) → ¬ (cell f.row c ≡ Null p.null)
    of c (inl e) is = at c (ap (λ (g : Fact). cell g.row c) e ∙ is)
      where
        at : (c : ℕ) → ¬ (cell (person (codes "hr")).row c ≡ Null p.null)
        at zero h = absurd (cc h)
        at (suc zero) h = absurd (cc h)
        at (suc (suc c)) h = absurd (cc h)
    of c (inr e) is = at c (ap (λ (g : Fact). cell g.row c) e ∙ is)
      where
        at : (c : ℕ) → ¬ (cell (person (codes "it")).row c ≡ Null p.null)
        at zero h = absurd (cc h)
        at (suc zero) h = absurd (cc h)
        at (suc (suc c)) h = absurd (cc h)

-- so no key step leads from a part of them
no_step : (A : List Fact) → A ⊆ made → (steps : List NullPair) → AreSteps schema A steps → after steps A ⊆ made
no_step A part [] s = part
no_step A part (p ∷ ps) s = absurd (no_null s.0.a s.0.c p (part s.0.a s.0.break.left) s.0.null)

-- what the mode's script means is a part of them
meant_part : (mode : Mode) → meant mode (rule ∷ []) matches ⊆ made
meant_part Plain f m = m
meant_part Core f m = uncovered_is_part (least_cover (rule ∷ []) matches) (rule ∷ []) matches f m

-- the determination of a table's number
only_key : (table key : ℕ) → key < length (table_of schema table).determinations → (table ≡ 0) × (key ≡ 0)
only_key zero zero lt = (refl, refl)
only_key zero (suc key) lt = absurd (omega (arith, lt))
only_key (suc table) key lt = absurd (omega (arith, lt))

abbrev clash_row : Text → List Value
clash_row dept = Const (codes "ann") ∷ Const dept ∷ []

-- the lesser row first, they are these two, and differ in the second column
rows_are : (column : ℕ) (left right : List Value) (A : List Fact) → A ⊆ made
    → IsClashAt schema A (fact_of_row 0 left) (fact_of_row 0 right) name_key column → row_cmp left right ≡ Less
    → (left ≡ clash_row (codes "hr")) × (right ≡ clash_row (codes "it")) × (column ≡ 1)
rows_are column left right A part at less = of (are_two _ (part _ at.break.left)) (are_two _ (part _ at.break.right))
  where
    -- the rows of the two in another order, or of one of them twice, don't ascend
    never : (one other : Text) → person one ≡ fact_of_row 0 left → person other ≡ fact_of_row 0 right
        → (row_cmp (clash_row one) (clash_row other) ≡ Less → ⊥) → ⊥
    never one other e g not_less =
        not_less (subst (λ row. row_cmp (clash_row one) row ≡ Less) (sym (ap (λ (f : Fact). f.row) g))
        (subst (λ row. row_cmp row right ≡ Less) (sym (ap (λ (f : Fact). f.row) e)) less))

    of : (person (codes "hr") ≡ fact_of_row 0 left) ⊎ (person (codes "it") ≡ fact_of_row 0 left)
        → (person (codes "hr") ≡ fact_of_row 0 right) ⊎ (person (codes "it") ≡ fact_of_row 0 right)
        → (left ≡ clash_row (codes "hr")) × (right ≡ clash_row (codes "it")) × (column ≡ 1)
    of (inl e) (inr g) = (first, second, second_column column at.break.column at.break.differ)
      where
        first : left ≡ clash_row (codes "hr")
        first = sym (ap (λ (f : Fact). f.row) e)

        second : right ≡ clash_row (codes "it")
        second = sym (ap (λ (f : Fact). f.row) g)

        second_column : (c : ℕ) → c ∈ (0 ∷ 1 ∷ []) → ¬ (cell left c ≡ cell right c) → c ≡ 1
        second_column c (here z) differ =
            absurd (differ (subst (λ (n : ℕ). cell left n ≡ cell right n) z (ap (λ row. cell row 0) first ∙ sym (ap (λ row. cell row 0) second))))
        second_column c (there (here o)) differ = sym o
        second_column c (there (there m)) differ = elim m [ ]
    of (inl e) (inl g) = absurd (never (codes "hr") (codes "hr") e g (λ h. cc h))
    of (inr e) (inl g) = absurd (never (codes "it") (codes "hr") e g (λ h. cc h))
    of (inr e) (inr g) = absurd (never (codes "it") (codes "it") e g (λ h. cc h))

-- what a refusal says of a clash
table_in : Refusal → Text
table_in (refusals.Clash k table key column) = table
table_in _ = []

key_in : Refusal → List Text
key_in (refusals.Clash k table key column) = key
key_in _ = []

column_in : Refusal → Text
column_in (refusals.Clash k table key column) = column
column_in _ = []

-- the same clash, of another table, key and column
abbrev at_place : Clash → ℕ → ℕ → ℕ → Clash
at_place k t n c = record { steps = k.steps; table = t; key = n; left = k.left; right = k.right; column = c }

-- the names of a clash of the first key of the first table, in the second column
named_so : (k : Clash) (table : Text) (key : List Text) (column : Text) → refusals.Clash k table key column ≡ named_clash persons k
    → k.table ≡ 0 → k.key ≡ 0 → k.column ≡ 1 → (table ≡ codes "person") × (key ≡ codes "name" ∷ []) × (column ≡ codes "dept")
unfolding table_in key_in column_in
named_so k table key column is t n c =
    let here_is : refusals.Clash k table key column ≡ named_clash persons (at_place k k.table k.key k.column) = is in
    let first = here_is ∙ ap (λ (m : ℕ). named_clash persons (at_place k m k.key k.column)) t in
    let second = first ∙ ap (λ (m : ℕ). named_clash persons (at_place k 0 m k.column)) n in
    let third = second ∙ ap (λ (m : ℕ). named_clash persons (at_place k 0 0 m)) c in (ap table_in third, ap key_in third, ap column_in third)

this_clash : (P : Program) (mode : Mode) (k : Clash) (table : Text) (key : List Text) (column : Text)
    → HasClash P.apply (exchange_input mode (mapping, emp_rows)) k → refusals.Clash k table key column ≡ named_clash persons k
    → IsSmallClash k table key column
this_clash P mode k table key column h is =
    let found = matches_are clashing_world two P.apply (person_atom ∷ []) h.matches refl h.are in
    let clash = subst (λ (r : Rows). IsClash schema (meant mode (rule ∷ []) r) k) found h.clash in
    let place = only_key k.table k.key clash.key in
    let at = subst (λ (m : ℕ). IsClashAt schema (after k.steps (meant mode (rule ∷ []) matches)) (fact_of_row 0 k.left) (fact_of_row 0 k.right) (determination_at schema 0 m) k.column) place.1
    (subst (λ (m : ℕ). IsClashAt schema (after k.steps (meant mode (rule ∷ []) matches)) (fact_of_row m k.left) (fact_of_row m k.right) (determination_at schema m k.key) k.column) place.0 clash.clash) in
    let part = no_step (meant mode (rule ∷ []) matches) (meant_part mode) k.steps clash.steps in
    let two_rows = rows_are k.column k.left k.right (after k.steps (meant mode (rule ∷ []) matches)) part at clash.lesser in
    let names = named_so k table key column is place.0 place.1 two_rows.2 in (two_rows.0, two_rows.1, names.0, names.1, names.2)

clash_in : (P : Program) (mode : Mode) (k : Clash) (table : Text) (key : List Text) (column : Text)
    → IsClashIn P mode clashing_world k table key column → IsSmallClash k table key column
clash_in P mode k table key column h =
    let is = one_read P clashing_world (h.mapping, h.rows) (mapping, emp_rows) h.matched.read (is_read P) in
    let clash = subst (λ (p : MappingAndRows). HasClash P.apply (exchange_input mode p) k) is h.clash in
    this_clash P mode k table key column clash
    (h.named ∙ ap (λ (p : MappingAndRows). named_clash p.0.target k) is)

-- words of an exchange ask for no demo and for no answers
no_demo : (words : List Word) → words ∈ exchange_words → (number : ℕ) (mode : Mode) → ¬ (says words ≡ Some (Demonstrating number mode))
no_demo words (here e) number mode w = absurd (cc (same_Some (Exchanging Plain false) (Demonstrating number mode) (ap says e ∙ w)))
no_demo words (there (here e)) number mode w = absurd (cc (same_Some (Exchanging Core false) (Demonstrating number mode) (ap says e ∙ w)))
no_demo words (there (there m)) number mode w = elim m [ ]

no_answers : (words : List Word) → words ∈ exchange_words → ¬ (says words ≡ Some Answering)
no_answers words (here e) w = absurd (cc (same_Some (Exchanging Plain false) Answering (ap says e ∙ w)))
no_answers words (there (here e)) w = absurd (cc (same_Some (Exchanging Core false) Answering (ap says e ∙ w)))
no_answers words (there (there m)) w = elim m [ ]

pub clash_is_this : ClashIsThis
clash_is_this P words asked k table key column (inl (mode, nested, w, h)) = clash_in P mode k table key column h
clash_is_this P words asked k table key column (inr (inl (number, mode, w, h))) = absurd (no_demo words asked number mode w)
clash_is_this P words asked k table key column (inr (inr (w, h))) = absurd (no_answers words asked w)
