-- The first worked example: employees by their names, of which persons are made, who have a telephone that is not known. The names are ann
-- and bob. There is a solution, so an exchange is planned, in each mode.
use Rattle.std.proofs.Common.{◌≡◌, ◌⊎◌, ◌-◌, ℕ, zero, suc, List, [], ◌∷◌, length, get_or, inr, inl, refl, sym, ◌∙◌, ap, subst, arith, Some, None, false}
use Rattle.std.specs.Prelude.{codes, All}
use Rattle.std.specs.Cmp.Lexicographic.{nat_list_cmp_total}
use Rattle.std.specs.declared.cmp.Ordering.TheVariants.{Less}
use Rattle.std.specs.FinMap.{from_entries, get-insert}
use Rattle.std.specs.Str.{IsAscii}
use Rattle.std.proofs.lemmas.Str.{IsUtf8-from_ascii}
use Rattle.csv.specs.Machine.{next_record}
use Rattle.csv.specs.Reading.{records_from, strip_bom}
use Rattle.csv.specs.Records.{AllText}
use Rattle.dx_base.specs.Entries.{FileMap}
use Rattle.dx_base.specs.Members.{◌∈◌, Each, here, there}
use Rattle.dx_model.specs.declared.facts.Fact.{Fact}
use Rattle.dx_model.specs.declared.rules.Atom.{Atom}
use Rattle.dx_model.specs.declared.rules.Cell.TheVariants.{Ex, Var}
use Rattle.dx_model.specs.declared.rules.Rule.{Rule}
use Rattle.dx_model.specs.declared.tables.Link.{Link}
use Rattle.dx_model.specs.declared.values.Value.{Value}
use Rattle.dx_model.specs.declared.values.Value.TheVariants.{Const}
use Rattle.dx_model.specs.Rules.{IsMatch, IsRows, Satisfies, premise_fact, fact_of_atom as said_fact}
use Rattle.dx_model.specs.Solutions.{IsSolution}
use Rattle.dx_model.specs.Tables.{Determination, FactFits, RowsObey, table_of}
use Rattle.dx_model.specs.Values.{Conversions, RowsAscend, Tuple, row_cmp, tuple_cmp}
use Rattle.dx_base.specs.Texts.{Text}
use Rattle.dx_instance.specs.Stored.{TableRows, facts, rows_of}
use Rattle.dx_schema.specs.Forest.{Forest, Tree, none, set}
use Rattle.dx_schema.specs.Links.{IsAcyclic, IsFaultless, LeadsByLinks, directly, every_link, further}
use Rattle.dx_schema.specs.Tables.{model_tables}
use Rattle.dx_grammar.specs.Readers.{no_more, one_more}
use Rattle.dx_tokens.specs.declared.tokenizer.TokenKind.TheVariants.{Mark, Number, Word}
use Rattle.dx_tokens.specs.declared.scanner.Lexeme.{Lexeme}
use Rattle.dx_tokens.specs.declared.scanner.Scanned.{Scanned}
use Rattle.dx_tokens.specs.Scan.{scan_from, scan_of}
use Rattle.dx_tokens.specs.Tokens.{item_at, piece_at, string_from, wide_at}
use Rattle.dx_schema_text.specs.declared.texts.LineText.{LineText}
use Rattle.dx_schema_text.specs.declared.texts.MappingText.{MappingText}
use Rattle.dx_schema_text.specs.declared.texts.SourceText.TheVariants as sources
use Rattle.dx_schema_text.specs.Reading.{line_item, place_text, tree_of_clauses}
use Rattle.dx_schema_text.specs.Spelling.{SpellsHead, SpellsLine, SpellsMapping, SpellsPlace, SpellsSet, SpellsSide}
use Rattle.dx_schema_text.specs.Spelling as spelling
use Rattle.dx_schema_text.specs.Texts.{IsMappingText, deepest}
use Rattle.dx_csv.specs.Table.{AreTableRecords, IsWholeRecord, table_records}
use Rattle.dx_exchange.specs.declared.mode.Mode.TheVariants.{Core, Plain}
use Rattle.dx_exchange.specs.declared.result.Exchange.{Exchange}
use Rattle.dx_stages.specs.Worlds.{World}
use Rattle.clio_accept.specs.declared.mapping.Mapping.{Mapping}
use Rattle.clio_accept.specs.Accepting.{accepting, between_of, taking}
use Rattle.clio_accept.specs.Mapping.{RulesOfLines, NoneReserved}
use Rattle.clio_source.specs.Source.{ReadState, SaysSourceFacts, at_start, data_bytes, flat, reading, source_cells, source_stages}
use Rattle.clio_ending.specs.declared.ending.Done.TheVariants.{Exchanged}
use Rattle.clio_steps.specs.declared.texts.Side.TheVariants.{First}
use Rattle.clio_steps.specs.Outcomes.{AcceptedIn, HasSolutionIn}
use Rattle.clio_top.specs.Completing.{HasPlanFor, small_world}
use Rattle.clio_steps.specs.Steps.{Program, wanted}
use Rattle.clio_top.proofs.Completing.{planned}
use Rattle.clio_top.proofs.OneRule.{is_left, not_tested}

-- ---- what is held

abbrev pub text : Text
text = codes "mapping 1; source { set emp { name; } } target { set person { name, phone; } } line emp.name -> person.name;"

abbrev emp_bytes : List ℕ
emp_bytes = codes "name\nann\nbob\n"

-- the table alone
abbrev table_held : FileMap
table_held = from_entries ((codes "emp.csv", emp_bytes) ∷ [])

abbrev pub world : World
world = small_world

pub has_text : world (codes "mapping.clio") ≡ Some text
has_text = get-insert nat_list_cmp_total table_held (codes "mapping.clio") text (codes "mapping.clio")

has_table : world (codes "emp.csv") ≡ Some emp_bytes
has_table =
    get-insert nat_list_cmp_total table_held (codes "mapping.clio") text (codes "emp.csv")
    ∙ get-insert nat_list_cmp_total (from_entries []) (codes "emp.csv") emp_bytes (codes "emp.csv")

-- ---- the tokens of the text

abbrev pub word : ℕ → Text → Lexeme
word place text = record { place = place; kind = Word; text = text }

abbrev pub number : ℕ → Text → Lexeme
number place text = record { place = place; kind = Number; text = text }

abbrev pub mark : ℕ → Text → Lexeme
mark place text = record { place = place; kind = Mark; text = text }

abbrev t0 : Lexeme
t0 = word 0 (codes "mapping")

abbrev t1 : Lexeme
t1 = number 8 (codes "1")

abbrev t2 : Lexeme
t2 = mark 9 (codes ";")

abbrev t3 : Lexeme
t3 = word 11 (codes "source")

abbrev t4 : Lexeme
t4 = mark 18 (codes "{")

abbrev t5 : Lexeme
t5 = word 20 (codes "set")

abbrev t6 : Lexeme
t6 = word 24 (codes "emp")

abbrev t7 : Lexeme
t7 = mark 28 (codes "{")

abbrev t8 : Lexeme
t8 = word 30 (codes "name")

abbrev t9 : Lexeme
t9 = mark 34 (codes ";")

abbrev t10 : Lexeme
t10 = mark 36 (codes "}")

abbrev t11 : Lexeme
t11 = mark 38 (codes "}")

abbrev t12 : Lexeme
t12 = word 40 (codes "target")

abbrev t13 : Lexeme
t13 = mark 47 (codes "{")

abbrev t14 : Lexeme
t14 = word 49 (codes "set")

abbrev t15 : Lexeme
t15 = word 53 (codes "person")

abbrev t16 : Lexeme
t16 = mark 60 (codes "{")

abbrev t17 : Lexeme
t17 = word 62 (codes "name")

abbrev t18 : Lexeme
t18 = mark 66 (codes ",")

abbrev t19 : Lexeme
t19 = word 68 (codes "phone")

abbrev t20 : Lexeme
t20 = mark 73 (codes ";")

abbrev t21 : Lexeme
t21 = mark 75 (codes "}")

abbrev t22 : Lexeme
t22 = mark 77 (codes "}")

abbrev t23 : Lexeme
t23 = word 79 (codes "line")

abbrev t24 : Lexeme
t24 = word 84 (codes "emp")

abbrev t25 : Lexeme
t25 = mark 87 (codes ".")

abbrev t26 : Lexeme
t26 = word 88 (codes "name")

abbrev t27 : Lexeme
t27 = mark 93 (codes "->")

abbrev t28 : Lexeme
t28 = word 96 (codes "person")

abbrev t29 : Lexeme
t29 = mark 102 (codes ".")

abbrev t30 : Lexeme
t30 = word 103 (codes "name")

abbrev t31 : Lexeme
t31 = mark 107 (codes ";")

abbrev tokens : List Lexeme
tokens =
    t0 ∷ t1 ∷ t2 ∷ t3 ∷ t4 ∷ t5 ∷ t6 ∷ t7 ∷ t8 ∷ t9 ∷ t10
    ∷ t11 ∷ t12 ∷ t13 ∷ t14 ∷ t15 ∷ t16 ∷ t17 ∷ t18 ∷ t19 ∷ t20 ∷ t21
    ∷ t22 ∷ t23 ∷ t24 ∷ t25 ∷ t26 ∷ t27 ∷ t28 ∷ t29 ∷ t30 ∷ t31 ∷ []

scanned : scan_of text ≡ record { lexemes = tokens; stop = None }
unfolding scan_from piece_at string_from item_at wide_at
scanned = refl

-- ---- what they say

abbrev pub emps : Forest
emps = set (record { name = codes "emp"; columns = codes "name" ∷ []; keys = []; deps = []; refs = [] }) none none

abbrev pub persons : Forest
persons = set (record { name = codes "person"; columns = codes "name" ∷ codes "phone" ∷ []; keys = []; deps = []; refs = [] }) none none

abbrev line : LineText
line = record { source = sources.Column (place_text t24 t26); target = place_text t28 t30 }

abbrev said : MappingText
said = record { version = 1; source = emps; target = persons; lines = line ∷ []; conditions = []; rules = [] }

abbrev emp_tree : Tree
emp_tree = tree_of_clauses (codes "emp") (codes "name" ∷ []) []

abbrev person_tree : Tree
person_tree = tree_of_clauses (codes "person") (codes "name" ∷ codes "phone" ∷ []) []

emp_head : SpellsHead (codes "emp") (codes "name" ∷ []) (t5 ∷ t6 ∷ t7 ∷ t8 ∷ t9 ∷ [])
emp_head = spelling.head_of t5 t6 t7 t9 refl refl refl (spelling.parted (spelling.name_of t8 refl) no_more) refl

emp_set : SpellsSet 1 deepest emp_tree (t5 ∷ t6 ∷ t7 ∷ t8 ∷ t9 ∷ t10 ∷ [])
emp_set = spelling.set_of {cs = []} t10 emp_head spelling.no_clause refl

emp_side : SpellsSide 1 (codes "source") deepest emps (t3 ∷ t4 ∷ t5 ∷ t6 ∷ t7 ∷ t8 ∷ t9 ∷ t10 ∷ t11 ∷ [])
emp_side = spelling.side_of {trees = emp_tree ∷ []} t3 t4 t11 refl refl (one_more emp_set no_more) refl

person_head : SpellsHead (codes "person") (codes "name" ∷ codes "phone" ∷ []) (t14 ∷ t15 ∷ t16 ∷ t17 ∷ t18 ∷ t19 ∷ t20 ∷ [])
person_head =
    spelling.head_of t14 t15 t16 t20 refl refl refl
    (spelling.parted (spelling.name_of t17 refl) (one_more (spelling.comma_then t18 refl (spelling.name_of t19 refl)) no_more)) refl

person_set : SpellsSet 1 deepest person_tree (t14 ∷ t15 ∷ t16 ∷ t17 ∷ t18 ∷ t19 ∷ t20 ∷ t21 ∷ [])
person_set = spelling.set_of {cs = []} t21 person_head spelling.no_clause refl

person_side : SpellsSide 1 (codes "target") deepest persons (t12 ∷ t13 ∷ t14 ∷ t15 ∷ t16 ∷ t17 ∷ t18 ∷ t19 ∷ t20 ∷ t21 ∷ t22 ∷ [])
person_side = spelling.side_of {trees = person_tree ∷ []} t12 t13 t22 refl refl (one_more person_set no_more) refl

from_place : SpellsPlace (place_text t24 t26) (t24 ∷ t25 ∷ t26 ∷ [])
from_place = spelling.place_of t24 t25 t26 refl refl refl

to_place : SpellsPlace (place_text t28 t30) (t28 ∷ t29 ∷ t30 ∷ [])
to_place = spelling.place_of t28 t29 t30 refl refl refl

line_spelled : SpellsLine line (t23 ∷ t24 ∷ t25 ∷ t26 ∷ t27 ∷ t28 ∷ t29 ∷ t30 ∷ t31 ∷ [])
line_spelled = spelling.line_of t23 t27 t31 refl (spelling.a_column from_place) refl to_place refl

spelled : SpellsMapping deepest said tokens
spelled =
    spelling.mapping_of {rest = line_item line ∷ []} t0 t1 t2 refl (spelling.version_one refl) refl emp_side person_side (one_more (spelling.a_line line_spelled) no_more)

is_text : IsMappingText text said
is_text = record {
  no_stop = ap (λ (s : Scanned). s.stop) scanned;
  spelled = subst (SpellsMapping deepest said) (sym (ap (λ (s : Scanned). s.lexemes) scanned)) spelled;
}

-- ---- the schemas

not_in : (l : Link) (ls : List Link) → ls ≡ [] → ¬ (l ∈ ls)
not_in l ls e m = elim (subst (λ ks. l ∈ ks) e m) [ ]

pub no_links : (f : Forest) → ((t : ℕ) → every_link (table_of (model_tables f) t) ≡ []) → IsAcyclic (model_tables f)
no_links f empty = record {
  no_cycle = λ t h. never t t h;
  within = λ t l m. absurd (not_in l (every_link (table_of (model_tables f) t)) (empty t) m);
}
  where
    never : (t u : ℕ) → ¬ (LeadsByLinks (model_tables f) t u)
    never t u (directly l m) = not_in l (every_link (table_of (model_tables f) t)) (empty t) m
    never t u (further {u = v} l h m) = not_in l (every_link (table_of (model_tables f) v)) (empty v) m

emp_links : (t : ℕ) → every_link (table_of (model_tables emps) t) ≡ []
emp_links zero = refl
emp_links (suc t) = refl

person_links : (t : ℕ) → every_link (table_of (model_tables persons) t) ≡ []
person_links zero = refl
person_links (suc t) = refl

person_firm_links : (t : ℕ) → (table_of (model_tables persons) t).links ≡ []
person_firm_links zero = refl
person_firm_links (suc t) = refl

pub person_determinations : (t : ℕ) → (table_of (model_tables persons) t).determinations ≡ []
person_determinations zero = refl
person_determinations (suc t) = refl

emps_are : IsFaultless emps
emps_are = record { form = refl; acyclic = no_links emps emp_links }

persons_are : IsFaultless persons
persons_are = record { form = refl; acyclic = no_links persons person_links }

names_free : NoneReserved persons
names_free zero lt (inl e) = let h : 112 ≡ 110 = ap (λ (t : List ℕ). get_or t 0 0) e in omega (arith, h)
names_free zero lt (inr e) = let h : 112 ≡ 102 = ap (λ (t : List ℕ). get_or t 0 0) e in omega (arith, h)
names_free (suc t) lt r = absurd (omega (arith, lt))

-- ---- the rule

abbrev premise_atom : Atom
premise_atom = record { table = 0; cells = Var 0 ∷ [] }

abbrev conclusion_atom : Atom
conclusion_atom = record { table = 0; cells = Var 0 ∷ Ex 0 ∷ [] }

abbrev pub rule : Rule
rule = record { premise = premise_atom ∷ []; derived = []; conclusion = conclusion_atom ∷ [] }

abbrev pub mapping : Mapping
mapping = record { source = emps; target = persons; conditions = []; rules = rule ∷ [] }

rules_are : (P : Program) → RulesOfLines P.list emps persons (line ∷ []) [] (rule ∷ [])
rules_are P = record { closed = []; closings = tt; are = refl }

taken : (P : Program) → (taking P.list P.tests).passes world (between_of said) (rule ∷ [])
taken P =
    let b = between_of said in (
      b,
      (omega arith, refl),
      (
        b,
        (refl, refl),
        (
          b,
          (refl, refl),
          (
            b,
            (refl, refl),
            (
              b,
              (refl, refl),
              (rule ∷ [], rules_are P, (rule ∷ [], (omega arith, refl), (rule ∷ [], (not_tested rule, refl), is_left premise_atom conclusion_atom []))),
            ),
          ),
        ),
      ),
    )

pub accepted : (P : Program) → (accepting P.list P.tests).passes world text mapping
accepted P = (said, is_text, (said, (emps_are, refl), (said, (persons_are, refl), (said, (names_free, refl), (rule ∷ [], taken P, refl)))))

-- ---- the rows

abbrev emp_row : Text → List Value
emp_row name = Const name ∷ []

abbrev emp_rows : List (List Value)
emp_rows = emp_row (codes "ann") ∷ emp_row (codes "bob") ∷ []

abbrev pub rows : List TableRows
rows = record { width = 1; rows = emp_rows } ∷ []

records_are : table_records emp_bytes ≡ (codes "name" ∷ []) ∷ (codes "ann" ∷ []) ∷ (codes "bob" ∷ []) ∷ []
unfolding records_from next_record strip_bom
records_are = refl

pub ann_ascii : IsAscii (codes "ann")
ann_ascii zero = omega arith
ann_ascii (suc zero) = omega arith
ann_ascii (suc (suc zero)) = omega arith
ann_ascii (suc (suc (suc i))) = omega arith

pub bob_ascii : IsAscii (codes "bob")
bob_ascii zero = omega arith
bob_ascii (suc zero) = omega arith
bob_ascii (suc (suc zero)) = omega arith
bob_ascii (suc (suc (suc i))) = omega arith

ann_whole : IsWholeRecord (codes "name" ∷ []) (codes "ann" ∷ [])
unfolding AllText
ann_whole = record { width = refl; text = (IsUtf8-from_ascii (codes "ann") ann_ascii, tt) }

bob_whole : IsWholeRecord (codes "name" ∷ []) (codes "bob" ∷ [])
unfolding AllText
bob_whole = record { width = refl; text = (IsUtf8-from_ascii (codes "bob") bob_ascii, tt) }

all_whole : All (IsWholeRecord (codes "name" ∷ [])) ((codes "ann" ∷ []) ∷ (codes "bob" ∷ []) ∷ [])
all_whole zero d lt = ann_whole
all_whole (suc zero) d lt = bob_whole
all_whole (suc (suc k)) d lt = absurd (omega (arith, lt))

is_table : AreTableRecords (table_records emp_bytes) (codes "name" ∷ []) emp_rows
is_table = record { under = (codes "ann" ∷ []) ∷ (codes "bob" ∷ []) ∷ []; header = records_are; whole = all_whole; values = refl }

abbrev read : ReadState
read = record { facts = facts rows; bytes_left = data_bytes - length emp_bytes; cells_left = source_cells - 2 }

says_rows : SaysSourceFacts flat emps 0 (at_start, emp_bytes) (record { facts = []; bytes_left = data_bytes - length emp_bytes; cells_left = source_cells }, facts rows)
says_rows = (facts rows, (emp_rows, is_table, refl), refl)

was_read : (reading emps 0).passes world at_start read
was_read = (
  (at_start, emp_bytes),
  (emp_bytes, (has_table, omega arith), refl),
  ((record { facts = []; bytes_left = data_bytes - length emp_bytes; cells_left = source_cells }, facts rows), says_rows, refl),
)

rows_ascend : (t : ℕ) → RowsAscend (rows_of rows t)
rows_ascend zero = ((λ x m. less x m), ((λ x m. elim m [ ]), tt))
  where
    less : (x : List Value) → x ∈ (emp_row (codes "bob") ∷ []) → row_cmp (emp_row (codes "ann")) x ≡ Less
    less x (here e) = subst (λ r. row_cmp (emp_row (codes "ann")) r ≡ Less) e refl
    less x (there m) = elim m [ ]
rows_ascend (suc t) = tt

pub is_source : (P : Program) → (source_stages P.passes).passes world (wanted mapping) rows
is_source P = (read, (read, was_read, refl), record { widths_are = refl; ascend = rows_ascend; exact = ((λ x m. m), (λ x m. m)) })

-- ---- the matches

abbrev pub tuples : List Tuple
tuples = (codes "ann" ∷ []) ∷ (codes "bob" ∷ []) ∷ []

-- the names are those of ann and of bob
named : (texts : ℕ → Text) → premise_fact texts premise_atom ∈ facts rows → (codes "ann" ≡ texts 0) ⊎ (codes "bob" ≡ texts 0)
named texts (here e) = let d : emp_row (codes "ann") ≡ emp_row (texts 0) = ap (λ (f : Fact). f.row) e in inl (cc)
named texts (there (here e)) = let d : emp_row (codes "bob") ≡ emp_row (texts 0) = ap (λ (f : Fact). f.row) e in inr (cc)
named texts (there (there m)) = elim m [ ]

matched : (convert : Conversions) (name : Text) → premise_fact (λ x. name) premise_atom ∈ facts rows → IsMatch convert rule (facts rows) (λ x. name)
matched convert name there_is = record { premise = λ a m. premise a m; derived = tt }
  where
    premise : (a : Atom) → a ∈ rule.premise → premise_fact (λ x. name) a ∈ facts rows
    premise a (here e) = subst (λ (b : Atom). premise_fact (λ x. name) b ∈ facts rows) e there_is
    premise a (there m) = elim m [ ]

pub are_rows : (convert : Conversions) → IsRows convert rule (facts rows) tuples
are_rows convert = record { ascend = ((λ x m. less x m), ((λ x m. elim m [ ]), tt)); exact = λ t. (from t, (λ w. listed t w.0 w.1 w.2)) }
  where
    less : (x : Tuple) → x ∈ ((codes "bob" ∷ []) ∷ []) → tuple_cmp (codes "ann" ∷ []) x ≡ Less
    less x (here e) = subst (λ r. tuple_cmp (codes "ann" ∷ []) r ≡ Less) e refl
    less x (there m) = elim m [ ]

    from : (t : Tuple) → t ∈ tuples → (texts : ℕ → Text) × IsMatch convert rule (facts rows) texts × (t ≡ texts 0 ∷ [])
    from t (here e) = ((λ x. codes "ann"), matched convert (codes "ann") (here refl), sym e)
    from t (there (here e)) = ((λ x. codes "bob"), matched convert (codes "bob") (there (here refl)), sym e)
    from t (there (there m)) = elim m [ ]

    put : (name : Text) (t : Tuple) → (codes "ann" ≡ name) ⊎ (codes "bob" ≡ name) → t ≡ name ∷ [] → t ∈ tuples
    put name t (inl h) e = here (ap (λ (u : Text). u ∷ []) h ∙ sym e)
    put name t (inr h) e = there (here (ap (λ (u : Text). u ∷ []) h ∙ sym e))

    listed : (t : Tuple) (texts : ℕ → Text) → IsMatch convert rule (facts rows) texts → t ≡ texts 0 ∷ [] → t ∈ tuples
    listed t texts m e = put (texts 0) t (named texts (m.premise premise_atom (here refl))) e

-- ---- a solution

abbrev person : Text → Fact
person name = record { table = 0; row = Const name ∷ Const name ∷ [] }

-- a name as a telephone would do
abbrev pub solution : List Fact
solution = person (codes "ann") ∷ person (codes "bob") ∷ []

person_there : (name : Text) → (codes "ann" ≡ name) ⊎ (codes "bob" ≡ name) → person name ∈ solution
person_there name (inl h) = here (ap person h)
person_there name (inr h) = there (here (ap person h))

satisfied : (convert : Conversions) → Satisfies convert rule (facts rows) solution
satisfied convert texts m = ((λ v. Const (texts 0)), (λ a k. concluded a k))
  where
    concluded : (a : Atom) → a ∈ rule.conclusion → said_fact texts (λ v. Const (texts 0)) a ∈ solution
    concluded a (here e) =
        subst (λ (b : Atom). said_fact texts (λ v. Const (texts 0)) b ∈ solution) e
        (person_there (texts 0) (named texts (m.premise premise_atom (here refl))))
    concluded a (there k) = elim k [ ]

fact_fits : (name : Text) → FactFits (model_tables persons) (person name)
fact_fits name = record { table = omega arith; width = refl }

no_determination : (t : ℕ) (a b : List Value) → Each (table_of (model_tables persons) t).determinations (RowsObey a b)
no_determination t a b d m = elim (subst (λ (ds : List Determination). d ∈ ds) (person_determinations t) m) [ ]

pub solves : (convert : Conversions) → IsSolution convert (rule ∷ []) (model_tables persons) (facts rows) solution
solves convert = record {
  fits = λ f m. fits f m;
  rules = λ d m. each_rule d m;
  keys = λ a m b k same. no_determination a.table a.row b.row;
  links = λ a m l k. absurd (not_in l (table_of (model_tables persons) a.table).links (person_firm_links a.table) k);
}
  where
    fits : (f : Fact) → f ∈ solution → FactFits (model_tables persons) f
    fits f (here e) = subst (FactFits (model_tables persons)) e (fact_fits (codes "ann"))
    fits f (there (here e)) = subst (FactFits (model_tables persons)) e (fact_fits (codes "bob"))
    fits f (there (there m)) = elim m [ ]

    each_rule : (d : Rule) → d ∈ (rule ∷ []) → Satisfies convert d (facts rows) solution
    each_rule d (here e) = subst (λ (r : Rule). Satisfies convert r (facts rows) solution) e (satisfied convert)
    each_rule d (there m) = elim m [ ]

-- ---- the exchange

pub is_accepted : (P : Program) → AcceptedIn P First world mapping
is_accepted P = record { text = text; held = record { is = has_text; few = omega arith }; accepted = accepted P }

-- there are four canonical cells
pub has_solution : (P : Program) → HasSolutionIn P world
has_solution P = record {
  mapping = mapping;
  rows = rows;
  matches = tuples ∷ [];
  matched = record {
    read = record { accepted = is_accepted P; source = is_source P };
    are = (are_rows P.apply, tt);
    within = omega arith;
  };
  solution = solution;
  solves = solves P.apply;
}

pub plain_planned : (P : Program) → (e : Exchange) × HasPlanFor P world (codes "exchange" ∷ []) (Exchanged e)
plain_planned P = planned P world (codes "exchange" ∷ []) Plain false refl (has_solution P)

pub core_planned : (P : Program) → (e : Exchange) × HasPlanFor P world (codes "exchange" ∷ codes "--core" ∷ []) (Exchanged e)
core_planned P = planned P world (codes "exchange" ∷ codes "--core" ∷ []) Core false refl (has_solution P)
