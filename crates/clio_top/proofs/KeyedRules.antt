-- The worked example of a key, its rules: employees of one department. The lines stand for two rules, of which one follows from the
-- other, and goes.
use Rattle.std.proofs.Common.{◌≡◌, ◌≤◌, ◌<◌, ℕ, zero, suc, List, [], ◌∷◌, ◌++◌, get_or, inl, inr, refl, sym, ◌∙◌, ap, subst, arith, Some, None, false, length, map}
use Rattle.std.specs.Prelude.{codes}
use Rattle.std.specs.Cmp.Lexicographic.{nat_list_cmp_total}
use Rattle.std.specs.FinMap.{from_entries, get-insert}
use Rattle.std.specs.declared.cmp.Ordering.TheVariants.{Less}
use Rattle.std.proofs.lemmas.List.{length-append}
use Rattle.std.specs.Ordering.{ordering_reverse}
use Rattle.dx_base.specs.Entries.{FileMap}
use Rattle.dx_base.specs.Members.{◌∈◌, here, there}
use Rattle.dx_base.specs.Texts.{Text}
use Rattle.dx_model.specs.declared.facts.Fact.{Fact}
use Rattle.dx_model.specs.declared.rules.Atom.{Atom}
use Rattle.dx_model.specs.declared.rules.Cell.TheVariants.{Ex, Var}
use Rattle.dx_model.specs.declared.rules.Rule.{Rule}
use Rattle.dx_model.specs.declared.tables.Link.{Link}
use Rattle.dx_model.specs.declared.values.Value.{Value}
use Rattle.dx_model.specs.declared.values.Value.TheVariants.{Const}
use Rattle.dx_model.specs.Rules.{AreRows, Satisfies, fact_of_atom, exported, premise_fact, IsRows}
use Rattle.dx_model.specs.Tables.{Table, table_of}
use Rattle.dx_model.specs.Values.{Conversions, Rows, Tuple, tuple_cmp}
use Rattle.dx_model.proofs.Orders.{tuple_total}
use Rattle.dx_model.specs.Following.{CanGo, PrunedAfter, SatisfyAll, frozen_text, underived}
use Rattle.dx_schema.specs.Forest.{Forest, Tree, none, set}
use Rattle.dx_schema.specs.Links.{IsAcyclic, IsFaultless, LeadsByLinks, directly, every_link, further}
use Rattle.dx_schema.specs.Tables.{model_tables}
use Rattle.dx_grammar.specs.Readers.{no_more, one_more}
use Rattle.dx_tokens.specs.declared.scanner.Lexeme.{Lexeme}
use Rattle.dx_tokens.specs.declared.scanner.Scanned.{Scanned}
use Rattle.dx_tokens.specs.Scan.{scan_from, scan_of}
use Rattle.dx_tokens.specs.Tokens.{item_at, piece_at, string_from, wide_at}
use Rattle.dx_schema_text.specs.declared.texts.LineText.{LineText}
use Rattle.dx_schema_text.specs.declared.texts.MappingText.{MappingText}
use Rattle.dx_schema_text.specs.Reading.{key_clause, line_item, place_text, ref_clause, reference_of, tree_of_clauses}
use Rattle.dx_schema_text.specs.Spelling.{SpellsClauses, SpellsHead, SpellsLine, SpellsMapping, SpellsSet, SpellsSide}
use Rattle.dx_schema_text.specs.Texts.{IsMappingText, deepest}
use Rattle.dx_schema_text.specs.declared.texts.SourceText.TheVariants as sources
use Rattle.dx_schema_text.specs.Spelling as spelling
use Rattle.dx_tgd.specs.Counting.{canonical_cells}
use Rattle.dx_implies.specs.Frozen.{PassesFrozen, frozen_premise, marks}
use Rattle.dx_implies.specs.Pruning.{IsPrunedAlways, PassesBeside, PruningPassesLimit}
use Rattle.clio_accept.specs.declared.mapping.Mapping.{Mapping}
use Rattle.clio_accept.specs.Accepting.{accepting, between_of, taking}
use Rattle.clio_accept.specs.Mapping.{RulesOfLines, NoneReserved, frozen_cells}
use Rattle.clio_steps.specs.Steps.{Program}
use Rattle.clio_top.specs.KeyedWorlds.{keyed_text, keyed_world}
use Rattle.clio_top.proofs.Examples.{mark, word}
use Rattle.clio_top.proofs.OneRule.{few_on, no_conversions}
use Rattle.clio_top.proofs.TwoEmps.{emp_side, emps, emps_are, of_emps, t0, t1, t10, t11, t12, t13, t14, t15, t2, t3, t4, t5, t6, t7, t8, t9, premise_atom}

-- ---- what is held

abbrev pub emp_bytes : List ℕ
emp_bytes = codes "name,dept\nann,it\nbob,it\n"

abbrev table_held : FileMap
table_held = from_entries ((codes "emp.csv", emp_bytes) ∷ [])

pub has_text : keyed_world (codes "mapping.clio") ≡ Some keyed_text
has_text = get-insert nat_list_cmp_total table_held (codes "mapping.clio") keyed_text (codes "mapping.clio")

pub has_table : keyed_world (codes "emp.csv") ≡ Some emp_bytes
has_table =
    get-insert nat_list_cmp_total table_held (codes "mapping.clio") keyed_text (codes "emp.csv")
    ∙ get-insert nat_list_cmp_total (from_entries []) (codes "emp.csv") emp_bytes (codes "emp.csv")

-- ---- the tokens of the text

abbrev k16 : Lexeme
k16 = word 55 (codes "set")

abbrev k17 : Lexeme
k17 = word 59 (codes "dept")

abbrev k18 : Lexeme
k18 = mark 64 (codes "{")

abbrev k19 : Lexeme
k19 = word 66 (codes "id")

abbrev k20 : Lexeme
k20 = mark 68 (codes ",")

abbrev k21 : Lexeme
k21 = word 70 (codes "name")

abbrev k22 : Lexeme
k22 = mark 74 (codes ";")

abbrev k23 : Lexeme
k23 = word 76 (codes "key")

abbrev k24 : Lexeme
k24 = mark 80 (codes "(")

abbrev k25 : Lexeme
k25 = word 81 (codes "name")

abbrev k26 : Lexeme
k26 = mark 85 (codes ")")

abbrev k27 : Lexeme
k27 = mark 86 (codes ";")

abbrev k28 : Lexeme
k28 = mark 88 (codes "}")

abbrev k29 : Lexeme
k29 = word 90 (codes "set")

abbrev k30 : Lexeme
k30 = word 94 (codes "person")

abbrev k31 : Lexeme
k31 = mark 101 (codes "{")

abbrev k32 : Lexeme
k32 = word 103 (codes "name")

abbrev k33 : Lexeme
k33 = mark 107 (codes ",")

abbrev k34 : Lexeme
k34 = word 109 (codes "dept")

abbrev k35 : Lexeme
k35 = mark 113 (codes ";")

abbrev k36 : Lexeme
k36 = word 115 (codes "ref")

abbrev k37 : Lexeme
k37 = mark 119 (codes "(")

abbrev k38 : Lexeme
k38 = word 120 (codes "dept")

abbrev k39 : Lexeme
k39 = mark 124 (codes ")")

abbrev k40 : Lexeme
k40 = mark 126 (codes "->")

abbrev k41 : Lexeme
k41 = word 129 (codes "dept")

abbrev k42 : Lexeme
k42 = mark 134 (codes "(")

abbrev k43 : Lexeme
k43 = word 135 (codes "id")

abbrev k44 : Lexeme
k44 = mark 137 (codes ")")

abbrev k45 : Lexeme
k45 = mark 138 (codes ";")

abbrev k46 : Lexeme
k46 = mark 140 (codes "}")

abbrev k47 : Lexeme
k47 = mark 142 (codes "}")

abbrev k48 : Lexeme
k48 = word 144 (codes "line")

abbrev k49 : Lexeme
k49 = word 149 (codes "emp")

abbrev k50 : Lexeme
k50 = mark 152 (codes ".")

abbrev k51 : Lexeme
k51 = word 153 (codes "dept")

abbrev k52 : Lexeme
k52 = mark 158 (codes "->")

abbrev k53 : Lexeme
k53 = word 161 (codes "dept")

abbrev k54 : Lexeme
k54 = mark 165 (codes ".")

abbrev k55 : Lexeme
k55 = word 166 (codes "name")

abbrev k56 : Lexeme
k56 = mark 170 (codes ";")

abbrev k57 : Lexeme
k57 = word 172 (codes "line")

abbrev k58 : Lexeme
k58 = word 177 (codes "emp")

abbrev k59 : Lexeme
k59 = mark 180 (codes ".")

abbrev k60 : Lexeme
k60 = word 181 (codes "name")

abbrev k61 : Lexeme
k61 = mark 186 (codes "->")

abbrev k62 : Lexeme
k62 = word 189 (codes "person")

abbrev k63 : Lexeme
k63 = mark 195 (codes ".")

abbrev k64 : Lexeme
k64 = word 196 (codes "name")

abbrev k65 : Lexeme
k65 = mark 200 (codes ";")

abbrev tokens : List Lexeme
tokens =
    t0 ∷ t1 ∷ t2 ∷ t3 ∷ t4 ∷ t5 ∷ t6 ∷ t7 ∷ t8 ∷ t9 ∷ t10 ∷ t11 ∷ t12 ∷ t13
    ∷ t14 ∷ t15 ∷ k16 ∷ k17 ∷ k18 ∷ k19 ∷ k20 ∷ k21 ∷ k22 ∷ k23 ∷ k24 ∷ k25 ∷ k26 ∷ k27
    ∷ k28 ∷ k29 ∷ k30 ∷ k31 ∷ k32 ∷ k33 ∷ k34 ∷ k35 ∷ k36 ∷ k37 ∷ k38 ∷ k39 ∷ k40 ∷ k41
    ∷ k42 ∷ k43 ∷ k44 ∷ k45 ∷ k46 ∷ k47 ∷ k48 ∷ k49 ∷ k50 ∷ k51 ∷ k52 ∷ k53 ∷ k54 ∷ k55
    ∷ k56 ∷ k57 ∷ k58 ∷ k59 ∷ k60 ∷ k61 ∷ k62 ∷ k63 ∷ k64 ∷ k65 ∷ []

scanned : scan_of keyed_text ≡ record { lexemes = tokens; stop = None }
unfolding scan_from piece_at string_from item_at wide_at
scanned = refl

-- ---- what they say

abbrev pub depts : Forest
depts =
    set (record { name = codes "dept"; columns = codes "id" ∷ codes "name" ∷ []; keys = record { columns = codes "name" ∷ [] } ∷ []; deps = []; refs = [] }) none
    (set (record { name = codes "person"; columns = codes "name" ∷ codes "dept" ∷ []; keys = []; deps = []; refs = reference_of (codes "dept" ∷ []) (codes "dept") (codes "id" ∷ []) false ∷ [] }) none none)

abbrev dept_tree : Tree
dept_tree = tree_of_clauses (codes "dept") (codes "id" ∷ codes "name" ∷ []) (key_clause (record { columns = codes "name" ∷ [] }) ∷ [])

abbrev person_tree : Tree
person_tree = tree_of_clauses (codes "person") (codes "name" ∷ codes "dept" ∷ []) (ref_clause (reference_of (codes "dept" ∷ []) (codes "dept") (codes "id" ∷ []) false) ∷ [])

dept_head : SpellsHead (codes "dept") (codes "id" ∷ codes "name" ∷ []) (k16 ∷ k17 ∷ k18 ∷ k19 ∷ k20 ∷ k21 ∷ k22 ∷ [])
dept_head =
    spelling.head_of k16 k17 k18 k22 refl refl refl
    (spelling.parted (spelling.name_of k19 refl) (one_more (spelling.comma_then k20 refl (spelling.name_of k21 refl)) no_more)) refl

dept_clauses : SpellsClauses 1 deepest (key_clause (record { columns = codes "name" ∷ [] }) ∷ []) (k23 ∷ k24 ∷ k25 ∷ k26 ∷ k27 ∷ [])
dept_clauses =
    spelling.clause_first (spelling.a_key (spelling.key_of k23 k24 k26 k27 refl refl (spelling.parted (spelling.name_of k25 refl) no_more) refl refl))
    spelling.no_clause

dept_set : SpellsSet 1 deepest dept_tree (k16 ∷ k17 ∷ k18 ∷ k19 ∷ k20 ∷ k21 ∷ k22 ∷ k23 ∷ k24 ∷ k25 ∷ k26 ∷ k27 ∷ k28 ∷ [])
dept_set = spelling.set_of {cs = key_clause (record { columns = codes "name" ∷ [] }) ∷ []} k28 dept_head dept_clauses refl

person_head : SpellsHead (codes "person") (codes "name" ∷ codes "dept" ∷ []) (k29 ∷ k30 ∷ k31 ∷ k32 ∷ k33 ∷ k34 ∷ k35 ∷ [])
person_head =
    spelling.head_of k29 k30 k31 k35 refl refl refl
    (spelling.parted (spelling.name_of k32 refl) (one_more (spelling.comma_then k33 refl (spelling.name_of k34 refl)) no_more)) refl

person_clauses : SpellsClauses 1 deepest (ref_clause (reference_of (codes "dept" ∷ []) (codes "dept") (codes "id" ∷ []) false) ∷ [])
    (k36 ∷ k37 ∷ k38 ∷ k39 ∷ k40 ∷ k41 ∷ k42 ∷ k43 ∷ k44 ∷ k45 ∷ [])
person_clauses =
    spelling.clause_first
    (spelling.a_ref
    (spelling.ref_of k36 k37 k39 k40 k41 k42 k44 k45 refl refl (spelling.parted (spelling.name_of k38 refl) no_more) refl refl refl refl
    (spelling.parted (spelling.name_of k43 refl) no_more) refl spelling.not_optional refl))
    spelling.no_clause

person_set : SpellsSet 1 deepest person_tree
    (k29 ∷ k30 ∷ k31 ∷ k32 ∷ k33 ∷ k34 ∷ k35 ∷ k36 ∷ k37 ∷ k38 ∷ k39 ∷ k40 ∷ k41 ∷ k42 ∷ k43 ∷ k44 ∷ k45 ∷ k46 ∷ [])
person_set =
    spelling.set_of {cs = ref_clause (reference_of (codes "dept" ∷ []) (codes "dept") (codes "id" ∷ []) false) ∷ []} k46 person_head person_clauses refl

dept_side : SpellsSide 1 (codes "target") deepest depts
    (t14 ∷ t15 ∷ k16 ∷ k17 ∷ k18 ∷ k19 ∷ k20 ∷ k21 ∷ k22 ∷ k23 ∷ k24 ∷ k25 ∷ k26 ∷ k27 ∷ k28
    ∷ k29 ∷ k30 ∷ k31 ∷ k32 ∷ k33 ∷ k34 ∷ k35 ∷ k36 ∷ k37 ∷ k38 ∷ k39 ∷ k40 ∷ k41 ∷ k42 ∷ k43 ∷ k44 ∷ k45 ∷ k46 ∷ k47 ∷ [])
dept_side = spelling.side_of {trees = dept_tree ∷ person_tree ∷ []} t14 t15 k47 refl refl (one_more dept_set (one_more person_set no_more)) refl

abbrev dept_line : LineText
dept_line = record { source = sources.Column (place_text k49 k51); target = place_text k53 k55 }

abbrev name_line : LineText
name_line = record { source = sources.Column (place_text k58 k60); target = place_text k62 k64 }

dept_line_spelled : SpellsLine dept_line (k48 ∷ k49 ∷ k50 ∷ k51 ∷ k52 ∷ k53 ∷ k54 ∷ k55 ∷ k56 ∷ [])
dept_line_spelled =
    spelling.line_of k48 k52 k56 refl (spelling.a_column (spelling.place_of k49 k50 k51 refl refl refl)) refl
    (spelling.place_of k53 k54 k55 refl refl refl) refl

name_line_spelled : SpellsLine name_line (k57 ∷ k58 ∷ k59 ∷ k60 ∷ k61 ∷ k62 ∷ k63 ∷ k64 ∷ k65 ∷ [])
name_line_spelled =
    spelling.line_of k57 k61 k65 refl (spelling.a_column (spelling.place_of k58 k59 k60 refl refl refl)) refl
    (spelling.place_of k62 k63 k64 refl refl refl) refl

abbrev said : MappingText
said = record { version = 1; source = emps; target = depts; lines = dept_line ∷ name_line ∷ []; conditions = []; rules = [] }

spelled : SpellsMapping deepest said tokens
spelled =
    spelling.mapping_of {rest = line_item dept_line ∷ line_item name_line ∷ []} t0 t1 t2 refl (spelling.version_one refl) refl emp_side dept_side
    (one_more (spelling.a_line dept_line_spelled) (one_more (spelling.a_line name_line_spelled) no_more))

is_text : IsMappingText keyed_text said
is_text = record {
  no_stop = ap (λ (s : Scanned). s.stop) scanned;
  spelled = subst (SpellsMapping deepest said) (sym (ap (λ (s : Scanned). s.lexemes) scanned)) spelled;
}

-- ---- the target's schema

abbrev pub schema : List Table
schema = model_tables depts

-- each person's department is one of the departments, by its number
abbrev pub link : Link
link = record { from = 1 ∷ []; table = 0; to = 0 ∷ [] }

links_of : (t : ℕ) (l : Link) → l ∈ every_link (table_of schema t) → (t ≡ 1) × (l ≡ link)
links_of zero l m = elim m [ ]
links_of (suc zero) l (here e) = (refl, sym e)
links_of (suc zero) l (there m) = elim m [ ]
links_of (suc (suc t)) l m = elim m [ ]

-- from persons to departments, and no further
leads : (t u : ℕ) → LeadsByLinks schema t u → (t ≡ 1) × (u ≡ 0)
leads t _ (directly l m) = let h = links_of t l m in (h.0, ap (λ (k : Link). k.table) h.1)
leads t _ (further {u = v} l h m) = ((leads t v h).0, ap (λ (k : Link). k.table) (links_of v l m).1)

acyclic : IsAcyclic schema
acyclic = record {
  no_cycle = λ t h. let p = leads t t h in absurd (omega (arith, p.0, p.1));
  within = λ t l m. let h = ap (λ (k : Link). k.table) (links_of t l m).1 in omega (arith, h);
}

depts_are : IsFaultless depts
depts_are = record { form = refl; acyclic = acyclic }

names_free : NoneReserved depts
names_free zero lt (inl e) = let h : 100 ≡ 110 = ap (λ (t : List ℕ). get_or t 0 0) e in omega (arith, h)
names_free zero lt (inr e) = let h : 100 ≡ 102 = ap (λ (t : List ℕ). get_or t 0 0) e in omega (arith, h)
names_free (suc zero) lt (inl e) = let h : 112 ≡ 110 = ap (λ (t : List ℕ). get_or t 0 0) e in omega (arith, h)
names_free (suc zero) lt (inr e) = let h : 112 ≡ 102 = ap (λ (t : List ℕ). get_or t 0 0) e in omega (arith, h)
names_free (suc (suc t)) lt r = absurd (omega (arith, lt))

-- ---- the rule

abbrev pub person_atom : Atom
person_atom = record { table = 1; cells = Var 0 ∷ Ex 0 ∷ [] }

abbrev pub dept_atom : Atom
dept_atom = record { table = 0; cells = Ex 0 ∷ Var 1 ∷ [] }

abbrev pub conclusion : List Atom
conclusion = person_atom ∷ dept_atom ∷ []

abbrev pub rule : Rule
rule = of_emps conclusion

abbrev pub mapping : Mapping
mapping = record { source = emps; target = depts; conditions = []; rules = rule ∷ [] }

-- the rule of the department's line alone
abbrev dept_rule : Rule
dept_rule = of_emps (dept_atom ∷ [])

-- the rules that the lines stand for, of which the first follows from the second
abbrev both : List Rule
both = dept_rule ∷ rule ∷ []

rules_are : (P : Program) → RulesOfLines P.list emps depts (dept_line ∷ name_line ∷ []) [] both
rules_are P = record { closed = []; closings = tt; are = refl }

-- ---- the first rule goes, and the second stays

dept_follows : (convert : Conversions) → CanGo convert (rule ∷ []) dept_rule
dept_follows convert = (refl, follows)
  where
    follows : (I K : List Fact) → SatisfyAll convert (rule ∷ []) I K → Satisfies convert dept_rule I K
    follows I K all texts m =
        let s = all rule (here refl) texts (record { premise = m.premise; derived = tt }) in (s.0, (λ a k. concluded a s k))
      where
        concluded : (a : Atom) (s : (values : ℕ → Value) × ((b : Atom) → b ∈ conclusion → fact_of_atom texts values b ∈ K))
            → a ∈ (dept_atom ∷ []) → fact_of_atom texts s.0 a ∈ K
        concluded a s (here e) = s.1 a (there (here e))
        concluded a s (there k) = elim k [ ]

-- an employee without texts, and a department of none: the first rule holds, and the second does not
abbrev one_emp : List Fact
one_emp = record { table = 0; row = Const [] ∷ Const [] ∷ [] } ∷ []

abbrev one_dept : List Fact
one_dept = record { table = 0; row = Const [] ∷ Const [] ∷ [] } ∷ []

no_text : ℕ → Value
no_text v = Const []

dept_holds : (convert : Conversions) → Satisfies convert dept_rule one_emp one_dept
unfolding no_text
dept_holds convert texts m = (no_text, (λ a k. concluded a k))
  where
    empty : premise_fact texts premise_atom ∈ one_emp → [] ≡ texts 1
    empty (here e) = let d : Const [] ∷ Const [] ∷ [] ≡ Const (texts 0) ∷ Const (texts 1) ∷ [] = ap (λ (f : Fact). f.row) e in (cc)
    empty (there k) = elim k [ ]

    concluded : (a : Atom) → a ∈ (dept_atom ∷ []) → fact_of_atom texts no_text a ∈ one_dept
    concluded a (here e) =
        subst (λ (b : Atom). fact_of_atom texts no_text b ∈ one_dept) e
        (here (ap (λ (t : Text). record { table = 0; row = Const [] ∷ Const t ∷ [] }) (empty (m.premise premise_atom (here refl)))))
    concluded a (there k) = elim k [ ]

rule_stays : (convert : Conversions) → ¬ (CanGo convert (dept_rule ∷ []) rule)
rule_stays convert g =
    let s = g.1 one_emp one_dept holds (λ x. []) (record { premise = λ a m. premise a m; derived = tt }) in
    no_person (s.1 person_atom (here refl))
  where
    holds : SatisfyAll convert (dept_rule ∷ []) one_emp one_dept
    holds d (here e) = subst (λ (r : Rule). Satisfies convert r one_emp one_dept) e (dept_holds convert)
    holds d (there m) = elim m [ ]

    premise : (a : Atom) → a ∈ rule.premise → premise_fact (λ x. []) a ∈ one_emp
    premise a (here e) = subst (λ (b : Atom). premise_fact (λ x. []) b ∈ one_emp) e (here refl)
    premise a (there m) = elim m [ ]

    no_person : {row : List Value} → ¬ (◌∈◌ {X = Fact} (record { table = 1; row = row }) one_dept)
    no_person (here e) = let h = ap (λ (f : Fact). f.table) e in omega (arith, h)
    no_person (there m) = elim m [ ]

pruned : IsPrunedAlways both (rule ∷ [])
pruned convert = (rule ∷ [], ([], refl, inr (rule_stays convert, refl)), inl (dept_follows convert, refl))

-- ---- no rule is tried on many cells

-- the texts of the variables in a frozen premise
abbrev frozen_at : ℕ → Text
frozen_at = frozen_text (marks 1)

-- a rule of employees that exports no other variables has one row at most on such a premise
one_row : (conclusion other : List Atom)
    → ((texts : ℕ → Text) → frozen_at 0 ≡ texts 0 → frozen_at 1 ≡ texts 1 → map texts (exported (of_emps conclusion)) ≡ map frozen_at (exported (of_emps conclusion)))
    → (ts : List Tuple) → IsRows no_conversions (of_emps conclusion) (frozen_premise (of_emps other)) ts → length ts ≤ 1
one_row conclusion other same [] r = omega arith
one_row conclusion other same (t ∷ []) r = omega arith
one_row conclusion other same (t ∷ u ∷ ts) r =
    let less = subst (λ v. tuple_cmp v u ≡ Less) (is t (here refl)) (r.ascend.0 u (here refl)) in
    absurd (never (map frozen_at (exported (of_emps conclusion))) (subst (λ v. tuple_cmp (map frozen_at (exported (of_emps conclusion))) v ≡ Less) (is u (there (here refl))) less))
  where
    texts_of : (texts : ℕ → Text) → premise_fact texts premise_atom ∈ frozen_premise (of_emps other) → (frozen_at 0 ≡ texts 0) × (frozen_at 1 ≡ texts 1)
    texts_of texts (here e) =
        let d : Const (frozen_at 0) ∷ Const (frozen_at 1) ∷ [] ≡ Const (texts 0) ∷ Const (texts 1) ∷ [] = ap (λ (f : Fact). f.row) e in ((cc), (cc))
    texts_of texts (there m) = elim m [ ]

    is : (v : Tuple) → v ∈ (t ∷ u ∷ ts) → v ≡ map frozen_at (exported (of_emps conclusion))
    is v m =
        let w = (r.exact v).0 m in
        let x = texts_of w.0 (w.1.premise premise_atom (here refl)) in w.2 ∙ same w.0 x.0 x.1

    never : (v : Tuple) → ¬ (tuple_cmp v v ≡ Less)
    never v e = absurd (cc (sym e ∙ tuple_total.antisymm v v ∙ ap ordering_reverse e))

few_depts : (rows : Rows) → AreRows no_conversions (dept_rule ∷ []) (frozen_premise rule) rows → ¬ (frozen_cells < canonical_cells (dept_rule ∷ []) rows)
few_depts [] a more = absurd a
few_depts (ts ∷ []) a more =
    let few = one_row (dept_atom ∷ []) conclusion (λ texts x y. ap (λ (t : Text). t ∷ []) (sym y)) ts a.0 in omega (arith, more, few)
few_depts (ts ∷ us ∷ rows) a more = absurd a.1

few_both : (rows : Rows) → AreRows no_conversions (rule ∷ []) (frozen_premise dept_rule) rows → ¬ (frozen_cells < canonical_cells (rule ∷ []) rows)
few_both [] a more = absurd a
few_both (ts ∷ []) a more =
    let few = one_row conclusion (dept_atom ∷ []) (λ texts x y. (λ i. sym x i ∷ sym y i ∷ [])) ts a.0 in omega (arith, more, few)
few_both (ts ∷ us ∷ rows) a more = absurd a.1

-- the first rule is tried beside the second, or beside none
first_test : (kept : List Rule) → PrunedAfter no_conversions (dept_rule ∷ []) (rule ∷ []) kept → ¬ (PassesFrozen frozen_cells (underived kept) dept_rule)
first_test kept (others, none_left, inl (gone, is)) p =
    let q = subst (λ (k : List Rule). PassesFrozen frozen_cells (underived k) dept_rule) (is ∙ none_left) p in
    few_on (frozen_premise dept_rule) q.rows (q.are no_conversions) q.more
first_test kept (others, none_left, inr (stays, is)) p =
    let q = subst (λ (k : List Rule). PassesFrozen frozen_cells (underived k) dept_rule) (is ∙ ap (λ (k : List Rule). rule ∷ k) none_left) p in
    few_both q.rows (q.are no_conversions) q.more

second_test : ¬ (PassesFrozen frozen_cells (underived (dept_rule ∷ [])) rule)
second_test q = few_depts q.rows (q.are no_conversions) q.more

no_test : (front : List Rule) (r : Rule) (back kept : List Rule) → both ≡ front ++ r ∷ back
    → PrunedAfter no_conversions (front ++ r ∷ []) back kept → ¬ (PassesBeside frozen_cells (front ++ kept) r)
no_test [] r back kept is behind p =
    let h : dept_rule ≡ r = cc is in
    let b : rule ∷ [] ≡ back = cc is in
    first_test kept
    (subst (λ (k : List Rule). PrunedAfter no_conversions (dept_rule ∷ []) k kept) (sym b)
    (subst (λ (d : Rule). PrunedAfter no_conversions (d ∷ []) back kept) (sym h) behind))
    (subst (λ (d : Rule). PassesFrozen frozen_cells (underived kept) d) (sym h) p.1)
no_test (x ∷ []) r back kept is behind p =
    let h : dept_rule ≡ x = cc is in
    let b : rule ≡ r = cc is in
    let e : [] ≡ back = cc is in
    let k : kept ≡ [] = subst (λ (rest : List Rule). PrunedAfter no_conversions (x ∷ r ∷ []) rest kept) (sym e) behind in
    second_test
    (subst (λ (d : Rule). PassesFrozen frozen_cells (underived (dept_rule ∷ [])) d) (sym b)
    (subst (λ (ds : List Rule). PassesFrozen frozen_cells (underived ds) r) (ap (λ (ds : List Rule). x ∷ ds) k ∙ ap (λ (d : Rule). d ∷ []) (sym h)) p.1))
no_test (x ∷ y ∷ front) r back kept is behind p =
    let h = ap length is in
    let k = length-append front (r ∷ back) in omega (arith, h, k)

not_tested : ¬ (PruningPassesLimit frozen_cells both)
not_tested p = no_test p.front p.rule p.back p.kept p.is (p.behind no_conversions) p.passes

taken : (P : Program) → (taking P.list P.tests).passes keyed_world (between_of said) (rule ∷ [])
taken P =
    let b = between_of said in (
      b,
      (omega arith, refl),
      (
        b,
        (refl, refl),
        (
          b,
          (refl, refl),
          (
            b,
            (refl, refl),
            (
              b,
              (refl, refl),
              (both, rules_are P, (both, (omega arith, refl), (both, (not_tested, refl), pruned))),
            ),
          ),
        ),
      ),
    )

pub accepted : (P : Program) → (accepting P.list P.tests).passes keyed_world keyed_text mapping
accepted P = (said, is_text, (said, (emps_are, refl), (said, (depts_are, refl), (said, (names_free, refl), (rule ∷ [], taken P, refl)))))
