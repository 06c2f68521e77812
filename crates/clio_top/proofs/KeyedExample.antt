-- The worked example of a key, to its end. The two numbers of the department, which are not known, are forced equal by its key, so that
-- an exchange writes exactly these files and this text.
use Rattle.std.proofs.Common.{◌≡◌, ◌⊎◌, ℕ, List, [], ◌∷◌, ◌++◌, inl, inr, refl, sym, ◌∙◌, ap, subst, arith, Bool, false}
use Rattle.std.specs.Prelude.{codes}
use Rattle.std.specs.Fmt.{digits}
use Rattle.std.specs.declared.cmp.Ordering.TheVariants.{Greater, Less}
use Rattle.csv.specs.Machine.{next_record}
use Rattle.csv.specs.Reading.{records_from, strip_bom}
use Rattle.csv.specs.Writing.{fields_text, is_blank}
use Rattle.dx_base.specs.Entries.{Entry}
use Rattle.dx_base.specs.Members.{◌∈◌, ◌⊆◌, ◌≈◌, Each, here, there}
use Rattle.dx_base.specs.Texts.{Text}
use Rattle.dx_model.specs.declared.facts.Fact.{Fact}
use Rattle.dx_model.specs.declared.facts.NullPair.{NullPair}
use Rattle.dx_model.specs.declared.rules.Atom.{Atom}
use Rattle.dx_model.specs.declared.rules.Rule.{Rule}
use Rattle.dx_model.specs.declared.tables.Link.{Link}
use Rattle.dx_model.specs.declared.values.NullId.{NullId}
use Rattle.dx_model.specs.declared.values.Value.{Value}
use Rattle.dx_model.specs.declared.values.Value.TheVariants.{Const, Null}
use Rattle.dx_model.specs.Chase.{ForcedEqual, IsForcedMap, IsForcedValue}
use Rattle.dx_model.specs.Instances.{IsHomomorphism, IsNullMap, given, image, values}
use Rattle.dx_model.specs.Rules.{Satisfies, canonical, fact_of_atom}
use Rattle.dx_model.specs.Solutions.{IsSolution}
use Rattle.dx_model.specs.Tables.{Determination, FactFits, IsKeyed, KeysHold, cell, table_of, values_in}
use Rattle.dx_model.specs.Values.{Conversions, Rows, RowsAscend, null_cmp, row_cmp, value_cmp}
use Rattle.dx_model.proofs.Ascending.{one_ascending}
use Rattle.dx_model.proofs.ByMembers.{values_part}
use Rattle.dx_model.proofs.Maps.{same_null-refl}
use Rattle.dx_model.proofs.OneMap.{one_map}
use Rattle.dx_model.proofs.Orders.{null_total}
use Rattle.dx_schema.specs.Tables.{tables_of}
use Rattle.dx_instance.specs.NullMaps.{pairs_of}
use Rattle.dx_instance.specs.Stored.{TableRows, facts, rows_of}
use Rattle.dx_instance.proofs.Placed.{row_total}
use Rattle.dx_instance.proofs.StoredFacts.{fact_from_row, row_from_fact}
use Rattle.dx_csv.specs.Table.{table_records}
use Rattle.dx_exchange.specs.declared.mode.Mode.{Mode}
use Rattle.dx_exchange.specs.declared.mode.Mode.TheVariants.{Plain}
use Rattle.dx_exchange.specs.declared.result.Exchange.{Exchange}
use Rattle.dx_exchange.specs.Exchanging.{IsExchange}
use Rattle.clio_files.specs.Files.{AreFiles, AreTableFiles, files_of, summary_of}
use Rattle.clio_files.specs.Sheets.{AreTargetNulls, PrintedFile, file_of, fold_sheet, nulls_sheet}
use Rattle.clio_files.specs.Texts.{texts_told}
use Rattle.clio_files.proofs.OneList.{table_files_are_one}
use Rattle.clio_steps.specs.Outcomes.{HasSolutionIn, ReadIn, Writing, wrote_all}
use Rattle.clio_steps.specs.Steps.{MappingAndRows, Program, exchange_input}
use Rattle.clio_steps.proofs.Spine.{one_read}
use Rattle.clio_top.specs.KeyedWorlds.{KeyedIsPlanned, KeyedIsWritten, keyed_files, keyed_summary, keyed_text, keyed_world}
use Rattle.clio_top.specs.Outcomes.{WrittenIn}
use Rattle.clio_top.specs.Promises.{IsExchanged}
use Rattle.clio_top.specs.Words.{Word}
use Rattle.clio_top.proofs.Completing.{planned}
use Rattle.clio_top.proofs.WrittenExample.{none_nested, plain_alone}
use Rattle.clio_top.proofs.TwoEmps.{it_ascii, TwoEmps, are_rows, emps, is_source, matches_are, rows, texts_are, tuples, whole}
use Rattle.clio_top.proofs.Examples.{ann_ascii, bob_ascii}
use Rattle.clio_top.proofs.KeyedRules.{accepted, conclusion, dept_atom, depts, emp_bytes, has_table, has_text, link, mapping, person_atom, rule, schema}

abbrev exchange : List Word
exchange = codes "exchange" ∷ []

-- ---- the rows

records_are : table_records emp_bytes
    ≡ (codes "name" ∷ codes "dept" ∷ []) ∷ (codes "ann" ∷ codes "it" ∷ []) ∷ (codes "bob" ∷ codes "it" ∷ []) ∷ []
unfolding records_from next_record strip_bom
records_are = refl

abbrev two : TwoEmps keyed_world
two = record {
  bytes = emp_bytes;
  held = has_table;
  few = omega arith;
  first = codes "ann";
  first_dept = codes "it";
  second = codes "bob";
  second_dept = codes "it";
  records = records_are;
  first_whole = whole (codes "ann") (codes "it") ann_ascii it_ascii;
  second_whole = whole (codes "bob") (codes "it") bob_ascii it_ascii;
  rows_less = refl;
  tuples_less = refl;
}

abbrev emp_rows : List TableRows
emp_rows = rows keyed_world two

-- the matches: ann's and bob's
abbrev matches : Rows
matches = tuples keyed_world two ∷ []

-- ---- the target

abbrev number_of : ℕ → NullId
number_of place = record { rule = 0; var = 0; row = place }

abbrev made : List Fact
made = canonical 0 (rule ∷ []) matches

abbrev dept_row : List Value
dept_row = Null (number_of 0) ∷ Const (codes "it") ∷ []

abbrev ann_row : List Value
ann_row = Const (codes "ann") ∷ Null (number_of 0) ∷ []

abbrev bob_row : List Value
bob_row = Const (codes "bob") ∷ Null (number_of 0) ∷ []

abbrev target : List TableRows
target = record { width = 2; rows = dept_row ∷ [] } ∷ record { width = 2; rows = ann_row ∷ bob_row ∷ [] } ∷ []

-- the facts of the target: the department, and its two persons
abbrev wanted_facts : List Fact
wanted_facts = facts target

-- the second number becomes the first
abbrev joined : List NullPair
joined = record { null = number_of 1; value = Null (number_of 0) } ∷ []

-- ---- the target is a solution

of_persons : (a : Fact) → a ∈ (record { table = 1; row = ann_row } ∷ record { table = 1; row = bob_row } ∷ []) → 1 ≡ a.table
of_persons a (here e) = ap (λ (f : Fact). f.table) e
of_persons a (there (here e)) = ap (λ (f : Fact). f.table) e
of_persons a (there (there m)) = elim m [ ]

target_fits : (f : Fact) → f ∈ wanted_facts → FactFits schema f
target_fits f (here e) = subst (FactFits schema) e (record { table = omega arith; width = refl })
target_fits f (there (here e)) = subst (FactFits schema) e (record { table = omega arith; width = refl })
target_fits f (there (there (here e))) = subst (FactFits schema) e (record { table = omega arith; width = refl })
target_fits f (there (there (there m))) = elim m [ ]

no_key : (t : ℕ) → 1 ≡ t → (d : Determination) → ¬ (d ∈ (table_of schema t).determinations)
no_key t e d m = elim (subst (λ (n : ℕ). d ∈ (table_of schema n).determinations) (sym e) m) [ ]

target_keys : KeysHold schema wanted_facts
target_keys a (here e) b (here g) same d m left = ap (λ (f : Fact). values_in d.right f.row) (sym e ∙ g)
target_keys a (here e) b (there n) same d m left =
    let h = ap (λ (f : Fact). f.table) e in
    let k = of_persons b n in absurd (omega (arith, h, k, same))
target_keys a (there n) b k same d m left = absurd (no_key a.table (of_persons a n) d m)

abbrev LeadsToDept : Fact → Link → Type 0
LeadsToDept a l = (b : Fact) × (b ∈ wanted_facts) × (b.table ≡ l.table) × (values_in l.to b.row ≡ values_in l.from a.row)

has_dept : (a : Fact) → values_in (1 ∷ []) a.row ≡ Null (number_of 0) ∷ [] → LeadsToDept a link
has_dept a is = (record { table = 0; row = dept_row }, here refl, refl, sym is)

target_links : (a : Fact) → a ∈ wanted_facts → Each (table_of schema a.table).links (LeadsToDept a)
target_links a (here e) l m = elim (subst (λ (f : Fact). l ∈ (table_of schema f.table).links) (sym e) m) [ ]
target_links a (there (here e)) l m =
    subst (LeadsToDept a) (sym (of_person a e l m)) (has_dept a (ap (λ (f : Fact). values_in (1 ∷ []) f.row) (sym e)))
  where
    of_person : (a : Fact) → record { table = 1; row = ann_row } ≡ a → (l : Link) → l ∈ (table_of schema a.table).links → l ≡ link
    of_person a e l m = elim (subst (λ (f : Fact). l ∈ (table_of schema f.table).links) (sym e) m) [ here g ↦ sym g | there n ↦ elim n [ ] ]
target_links a (there (there (here e))) l m =
    subst (LeadsToDept a) (sym (of_person a e l m)) (has_dept a (ap (λ (f : Fact). values_in (1 ∷ []) f.row) (sym e)))
  where
    of_person : (a : Fact) → record { table = 1; row = bob_row } ≡ a → (l : Link) → l ∈ (table_of schema a.table).links → l ≡ link
    of_person a e l m = elim (subst (λ (f : Fact). l ∈ (table_of schema f.table).links) (sym e) m) [ here g ↦ sym g | there n ↦ elim n [ ] ]
target_links a (there (there (there m))) l k = elim m [ ]

-- each employee is a person of the department
abbrev values_here : ℕ → Value
values_here v = Null (number_of 0)

satisfied : (convert : Conversions) → Satisfies convert rule (facts emp_rows) wanted_facts
satisfied convert texts m = (values_here, (λ a k. said_there a k))
  where
    person_there : ((codes "ann" ≡ texts 0) × (codes "it" ≡ texts 1)) ⊎ ((codes "bob" ≡ texts 0) × (codes "it" ≡ texts 1))
        → fact_of_atom texts values_here person_atom ∈ wanted_facts
    person_there (inl (n, d)) = there (here (ap (λ (t : Text). record { table = 1; row = Const t ∷ Null (number_of 0) ∷ [] }) n))
    person_there (inr (n, d)) = there (there (here (ap (λ (t : Text). record { table = 1; row = Const t ∷ Null (number_of 0) ∷ [] }) n)))

    dept_there : ((codes "ann" ≡ texts 0) × (codes "it" ≡ texts 1)) ⊎ ((codes "bob" ≡ texts 0) × (codes "it" ≡ texts 1))
        → fact_of_atom texts values_here dept_atom ∈ wanted_facts
    dept_there (inl (n, d)) = here (ap (λ (t : Text). record { table = 0; row = Null (number_of 0) ∷ Const t ∷ [] }) d)
    dept_there (inr (n, d)) = here (ap (λ (t : Text). record { table = 0; row = Null (number_of 0) ∷ Const t ∷ [] }) d)

    said_there : (a : Atom) → a ∈ conclusion → fact_of_atom texts values_here a ∈ wanted_facts
    said_there a (here e) =
        subst (λ (b : Atom). fact_of_atom texts values_here b ∈ wanted_facts) e (person_there (texts_are keyed_world two convert conclusion texts m))
    said_there a (there (here e)) =
        subst (λ (b : Atom). fact_of_atom texts values_here b ∈ wanted_facts) e (dept_there (texts_are keyed_world two convert conclusion texts m))
    said_there a (there (there k)) = elim k [ ]

solves : (convert : Conversions) → IsSolution convert (rule ∷ []) schema (facts emp_rows) wanted_facts
solves convert = record { fits = λ f m. target_fits f m; rules = λ d m. each_rule d m; keys = target_keys; links = target_links }
  where
    each_rule : (d : Rule) → d ∈ (rule ∷ []) → Satisfies convert d (facts emp_rows) wanted_facts
    each_rule d (here e) = subst (λ (r : Rule). Satisfies convert r (facts emp_rows) wanted_facts) e (satisfied convert)
    each_rule d (there m) = elim m [ ]

is_read : (P : Program) → ReadIn P keyed_world mapping emp_rows
is_read P = record {
  accepted = record { text = keyed_text; held = record { is = has_text; few = omega arith }; accepted = accepted P };
  source = is_source keyed_world two P;
}

has_solution : (P : Program) → HasSolutionIn P keyed_world
has_solution P = record {
  mapping = mapping;
  rows = emp_rows;
  matches = matches;
  matched = record {
    read = is_read P;
    are = (are_rows keyed_world two P.apply conclusion refl, tt);
    within = omega arith;
  };
  solution = wanted_facts;
  solves = solves P.apply;
}

pub keyed_is_planned : KeyedIsPlanned
keyed_is_planned P = planned P keyed_world exchange Plain false refl (has_solution P)

-- ---- what the key forces

target_is_keyed : IsKeyed schema wanted_facts
target_is_keyed = record { fits = λ f m. target_fits f m; keys = target_keys }

joined_is_map : IsNullMap joined
joined_is_map = ((λ e. let h : number_of 0 ≡ number_of 1 = cc e in let k = ap (λ (n : NullId). n.row) h in omega (arith, k)), (λ q m. elim m [ ]), tt)

-- the numbers made equal, what was made is the target
lands : image joined made ⊆ wanted_facts
lands f (here e) = there (here e)
lands f (there (here e)) = here e
lands f (there (there (here e))) = there (there (here e))
lands f (there (there (there (here e)))) = here e
lands f (there (there (there (there m)))) = elim m [ ]

covers : wanted_facts ⊆ image joined made
covers f (here e) = there (here e)
covers f (there (here e)) = here e
covers f (there (there (here e))) = there (there (here e))
covers f (there (there (there m))) = elim m [ ]

joins : IsHomomorphism joined made wanted_facts
joins = record { null_map = joined_is_map; inside = lands }

-- no constant is forced equal to a number that becomes the first
no_constant : (n : NullId) (t : Text) → given joined n ≡ Null (number_of 0) → ¬ (ForcedEqual schema made (Null n) (Const t))
no_constant n t is f = absurd (cc (sym is ∙ f wanted_facts joined target_is_keyed joins))

-- the key of departments is their name
abbrev dept_key : Determination
dept_key = record { left = 1 ∷ []; right = 0 ∷ 1 ∷ [] }

-- the two numbers are forced equal: both stand beside one name
numbers_join : ForcedEqual schema made (Null (number_of 1)) (Null (number_of 0))
numbers_join K g keyed h =
    let one = h.inside (record { table = 0; row = given g (number_of 0) ∷ Const (codes "it") ∷ [] }) (there (here refl)) in
    let other = h.inside (record { table = 0; row = given g (number_of 1) ∷ Const (codes "it") ∷ [] }) (there (there (there (here refl)))) in
    let same = keyed.keys _ other _ one refl dept_key (here refl) refl in ap (λ vs. cell vs 0) same

-- the nulls of what was made
nulls_made : (n : NullId) → Null n ∈ values made → (n ≡ number_of 0) ⊎ (n ≡ number_of 1)
nulls_made n (here e) = absurd (cc e)
nulls_made n (there (here e)) = inl (cc e)
nulls_made n (there (there (here e))) = inl (cc e)
nulls_made n (there (there (there (here e)))) = absurd (cc e)
nulls_made n (there (there (there (there (here e))))) = absurd (cc e)
nulls_made n (there (there (there (there (there (here e)))))) = inr (cc e)
nulls_made n (there (there (there (there (there (there (here e))))))) = inr (cc e)
nulls_made n (there (there (there (there (there (there (there (here e)))))))) = absurd (cc e)
nulls_made n (there (there (there (there (there (there (there (there m)))))))) = elim m [ ]

not_above : (m : NullId) → (m ≡ number_of 0) ⊎ (m ≡ number_of 1) → ¬ (value_cmp (Null (number_of 0)) (Null m) ≡ Greater)
not_above m (inl is) e = absurd (cc (subst (λ k. value_cmp (Null (number_of 0)) (Null k) ≡ Greater) is e))
not_above m (inr is) e = absurd (cc (subst (λ k. value_cmp (Null (number_of 0)) (Null k) ≡ Greater) is e))

first_here : (m : NullId) → Null (number_of 0) ≡ Null m → Null m ∈ values made
first_here m e = subst (λ v. v ∈ values made) e (there (here refl))

forced_at : (n : NullId) → (n ≡ number_of 0) ⊎ (n ≡ number_of 1) → IsForcedValue schema made n (given joined n)
forced_at n (inl is) = subst (λ k. IsForcedValue schema made k (given joined k)) (sym is) (record {
  forced = λ K g keyed h. refl;
  constant = λ t f. absurd (no_constant (number_of 0) t refl f);
  of_here = first_here;
  least = λ m there_is f. not_above m (nulls_made m there_is);
})
forced_at n (inr is) = subst (λ k. IsForcedValue schema made k (given joined k)) (sym is) (record {
  forced = numbers_join;
  constant = λ t f. absurd (no_constant (number_of 1) t refl f);
  of_here = first_here;
  least = λ m there_is f. not_above m (nulls_made m there_is);
})

joined_is_forced : IsForcedMap schema made joined
joined_is_forced = record {
  null_map = joined_is_map;
  here_alone = λ p m. in_made p m;
  gives = λ n m. forced_at n (nulls_made n m);
}
  where
    in_made : (p : NullPair) → p ∈ joined → Null p.null ∈ values made
    in_made p (here e) = subst (λ (q : NullPair). Null q.null ∈ values made) e (there (there (there (there (there (here refl))))))
    in_made p (there m) = elim m [ ]

-- a pair of a forced map is this one
pair_is : (m : List NullPair) → IsForcedMap schema made m → (p : NullPair) → p ∈ m → given m p.null ≡ p.value → ¬ (p.value ≡ Null p.null)
    → p ≡ record { null = number_of 1; value = Null (number_of 0) }
pair_is m f p k gives moves = of (nulls_made p.null (f.here_alone p k))
  where
    same : given m p.null ≡ given joined p.null
    same = one_map schema made m joined f joined_is_forced p.null (f.here_alone p k)

    of : (p.null ≡ number_of 0) ⊎ (p.null ≡ number_of 1) → p ≡ record { null = number_of 1; value = Null (number_of 0) }
    of (inl is) = absurd (moves (sym gives ∙ same ∙ ap (given joined) is ∙ ap Null (sym is)))
    of (inr is) =
        let v : p.value ≡ Null (number_of 0) = sym gives ∙ same ∙ ap (given joined) is in (λ i. record { null = is i; value = v i })

-- so what is forced is this map
one_pair : (m : List NullPair) → IsForcedMap schema made m → m ≡ joined
one_pair [] f =
    let h : Null (number_of 1) ≡ Null (number_of 0) =
    one_map schema made [] joined f joined_is_forced (number_of 1) (there (there (there (there (there (here refl)))))) in
    let same : number_of 1 ≡ number_of 0 = cc h in
    let k = ap (λ (n : NullId). n.row) same in absurd (omega (arith, k))
one_pair (p ∷ []) f = ap (λ (q : NullPair). q ∷ []) (pair_is (p ∷ []) f p (here refl) (rw (same_null-refl p.null) refl) f.null_map.0)
one_pair (p ∷ q ∷ ps) f = absurd (f.null_map.1 q (here refl) (ap (λ (r : NullPair). r.null) (second ∙ sym first)))
  where
    first : p ≡ record { null = number_of 1; value = Null (number_of 0) }
    first = pair_is (p ∷ q ∷ ps) f p (here refl) (rw (same_null-refl p.null) refl) f.null_map.0

    second : q ≡ record { null = number_of 1; value = Null (number_of 0) }
    second = of (nulls_made q.null (f.here_alone q (there (here refl))))
      where
        behind : given (q ∷ ps) q.null ≡ q.value
        behind = rw (same_null-refl q.null) refl

        apart : ¬ (q.null ≡ p.null)
        apart = f.null_map.1 q (here refl)

        of : (q.null ≡ number_of 0) ⊎ (q.null ≡ number_of 1) → q ≡ record { null = number_of 1; value = Null (number_of 0) }
        of (inr is) = absurd (apart (is ∙ sym (ap (λ (r : NullPair). r.null) first)))
        of (inl is) =
            let kept : given (p ∷ q ∷ ps) q.null ≡ given joined q.null = one_map schema made (p ∷ q ∷ ps) joined f joined_is_forced q.null (f.here_alone q (there (here refl))) in
            absurd (f.null_map.2.0 (sym (beyond is) ∙ kept ∙ ap (given joined) is ∙ ap Null (sym is)))
          where
            -- the first pair is of another null
            beyond : q.null ≡ number_of 0 → given (p ∷ q ∷ ps) q.null ≡ q.value
            beyond is =
                subst (λ (r : NullPair). given (r ∷ q ∷ ps) q.null ≡ q.value) (sym first)
                (subst (λ (n : NullId). given (record { null = number_of 1; value = Null (number_of 0) } ∷ q ∷ ps) n ≡ q.value) (sym is)
                (subst (λ (n : NullId). given (q ∷ ps) n ≡ q.value) is behind))

-- ---- what is written

module _ (P : Program) (e : Exchange) (x : IsExchange P.apply (exchange_input Plain (mapping, emp_rows)) e) where
  matches_found : e.matches ≡ matches
  matches_found = matches_are keyed_world two P.apply conclusion e.matches refl x.matches

  fold_is : pairs_of e.fold ≡ joined
  fold_is = one_pair (pairs_of e.fold) (subst (λ (r : Rows). IsForcedMap schema (canonical 0 (rule ∷ []) r) (pairs_of e.fold)) matches_found x.by_mode)

  onto : image joined made ≈ facts e.target
  onto =
      subst (λ (ps : List NullPair). image ps made ≈ facts e.target) fold_is
      (subst (λ (r : Rows). image (pairs_of e.fold) (canonical 0 (rule ∷ []) r) ≈ facts e.target) matches_found x.folded)

  same_facts : facts e.target ≈ wanted_facts
  same_facts = ((λ f m. lands f (onto.1 f m)), (λ f m. onto.0 f (covers f m)))

  rows_are : (t : ℕ) → RowsAscend (rows_of target t) → rows_of e.target t ≡ rows_of target t
  rows_are t ascend =
      one_ascending row_cmp row_total (rows_of e.target t) (rows_of target t) (x.ascend t) ascend
      (λ r m. row_from_fact target (record { table = t; row = r }) (same_facts.0 _ (fact_from_row e.target t r m)))
      (λ r m. row_from_fact e.target (record { table = t; row = r }) (same_facts.1 _ (fact_from_row target t r m)))

depts_ascend : RowsAscend (dept_row ∷ [])
depts_ascend = ((λ x m. elim m [ ]), tt)

persons_ascend : RowsAscend (ann_row ∷ bob_row ∷ [])
persons_ascend = ((λ x m. less x m), ((λ x m. elim m [ ]), tt))
  where
    less : (x : List Value) → x ∈ (bob_row ∷ []) → row_cmp ann_row x ≡ Less
    less x (here e) = subst (λ r. row_cmp ann_row r ≡ Less) e refl
    less x (there m) = elim m [ ]

abbrev table_files : List PrintedFile
table_files =
    record { name = codes "dept.csv"; bytes = codes "id,name\n?0.0.0,it\n"; count = 1 }
    ∷ record { name = codes "person.csv"; bytes = codes "name,dept\nann,?0.0.0\nbob,?0.0.0\n"; count = 2 }
    ∷ []

-- of any tables with these rows
are_table_files : (T : List TableRows) → rows_of T 0 ≡ dept_row ∷ [] → rows_of T 1 ≡ ann_row ∷ bob_row ∷ [] → AreTableFiles [] 0 (tables_of depts) T table_files
unfolding records_from next_record strip_bom digits fields_text is_blank
are_table_files T first second = (
  record {
    name = refl;
    bytes = record { sorted = dept_row ∷ []; ascend = depts_ascend; kept = λ r m. subst (λ rs. r ∈ rs) first m; only = λ r m. subst (λ rs. r ∈ rs) (sym first) m; is = refl; reads = refl };
    count = refl;
  },
  (
    record {
      name = refl;
      bytes = record {
        sorted = ann_row ∷ bob_row ∷ [];
        ascend = persons_ascend;
        kept = λ r m. subst (λ rs. r ∈ rs) second m;
        only = λ r m. subst (λ rs. r ∈ rs) (sym second) m;
        is = refl;
        reads = refl;
      };
      count = refl;
    },
    tt,
  ),
)

abbrev nulls : List NullId
nulls = number_of 0 ∷ []

nulls_of : (T : List Fact) (ns : List NullId) → T ≈ wanted_facts → AreTargetNulls T ns → ns ≡ nulls
nulls_of T ns same a =
    one_ascending null_cmp null_total ns nulls a.ascend ((λ n m. elim m [ ]), tt)
    (λ n m. among n (values_part T wanted_facts same.0 (Null n) ((a.exact n).0 m)))
    (λ n m. (a.exact n).1 (values_part wanted_facts T same.1 (Null n) (stands n m)))
  where
    among : (n : NullId) → Null n ∈ values wanted_facts → n ∈ nulls
    among n (here e) = here (cc e)
    among n (there (here e)) = absurd (cc e)
    among n (there (there (here e))) = absurd (cc e)
    among n (there (there (there (here e)))) = here (cc e)
    among n (there (there (there (there (here e))))) = absurd (cc e)
    among n (there (there (there (there (there (here e)))))) = here (cc e)
    among n (there (there (there (there (there (there m)))))) = elim m [ ]

    stands : (n : NullId) → n ∈ nulls → Null n ∈ values wanted_facts
    stands n (here e) = here (ap Null e)
    stands n (there m) = elim m [ ]

module _ (P : Program) (Wrote : Writing) where
  -- the files of these parts, which stand in this order
  abbrev listed : Rows → List NullPair → List NullId → List PrintedFile → List PrintedFile → List PrintedFile
  listed r fold ns tables documents =
      texts_told emps depts P.list Plain (rule ∷ []) ++ (tables ++ file_of (nulls_sheet (rule ∷ []) r ns) ∷ file_of (fold_sheet fold) ∷ documents)

  files_are : files_of (listed matches joined nulls table_files []) ≡ keyed_files
  unfolding digits fields_text is_blank
  files_are = refl

  summary_is : summary_of (listed matches joined nulls table_files []) ≡ keyed_summary
  unfolding digits
  summary_is = refl

  list_of : (e : Exchange) → IsExchange P.apply (exchange_input Plain (mapping, emp_rows)) e → (files : List PrintedFile)
      → AreFiles emps depts P.list Plain false (rule ∷ []) e files → files ≡ listed matches joined nulls table_files []
  list_of e x files a =
      let tables = table_files_are_one [] 0 (tables_of depts) e.target a.tables table_files a.tables_are (are_table_files e.target (rows_are P e x 0 depts_ascend) (rows_are P e x 1 persons_ascend)) in
      let ns = nulls_of (facts e.target) a.nulls (same_facts P e x) a.nulls_are in
      let documents = none_nested depts e.target a.documents a.documents_are in
      a.is ∙ ap (λ (r : Rows). listed r (pairs_of e.fold) a.nulls a.tables a.documents) (matches_found P e x)
      ∙ ap (λ (ps : List NullPair). listed matches ps a.nulls a.tables a.documents) (fold_is P e x)
      ∙ ap (λ (ks : List NullId). listed matches joined ks a.tables a.documents) ns
      ∙ ap (λ (ts : List PrintedFile). listed matches joined nulls ts a.documents) tables
      ∙ ap (λ (ds : List PrintedFile). listed matches joined nulls table_files ds) documents

  written_by : (e : Exchange) → IsExchange P.apply (exchange_input Plain (mapping, emp_rows)) e → (files : List PrintedFile)
      → AreFiles emps depts P.list Plain false (rule ∷ []) e files → Wrote (files_of files) (summary_of files) → Wrote keyed_files keyed_summary
  written_by e x files a w =
      let is = list_of e x files a in
      subst (λ (t : Text). Wrote keyed_files t) (ap summary_of is ∙ summary_is)
      (subst (λ (fs : List Entry). Wrote fs (summary_of files)) (ap files_of is ∙ files_are) w)

done_in : (P : Program) (e : Exchange) (Wrote : Writing) → WrittenIn P Plain false keyed_world e Wrote
    → Wrote keyed_files keyed_summary
done_in P e Wrote d =
    let is = one_read P keyed_world (d.mapping, d.rows) (mapping, emp_rows) d.exchanged.matched.read (is_read P) in
    let x = subst (λ (p : MappingAndRows). IsExchange P.apply (exchange_input Plain p) e) is d.exchanged.exchange in
    let files = subst (λ (p : MappingAndRows). AreFiles p.0.source p.0.target P.list Plain false p.0.rules e d.files) is
    d.are in
    written_by P Wrote e x d.files files d.written

written : (P : Program) (e : Exchange) (Wrote : Writing) → IsExchanged P keyed_world exchange e Wrote → Wrote keyed_files keyed_summary
written P e Wrote (mode, nested, w, d) =
    let plain = plain_alone mode nested w in
    let of_mode = subst (λ (m : Mode). WrittenIn P m nested keyed_world e Wrote) (sym plain.0) d in
    done_in P e Wrote (subst (λ (b : Bool). WrittenIn P Plain b keyed_world e Wrote) (sym plain.1) of_mode)

pub keyed_is_written : KeyedIsWritten
keyed_is_written P e before after d = written P e (wrote_all before after) d
