-- In the columns of flat roots that are not used nothing is kept.
use Rattle.std.proofs.Common.{◌≡◌, ℕ, suc, ◌+◌, ◌-◌, ◌<◌, ◌≤◌, List, [], ◌∷◌, ◌++◌, length, map, get_or, Option, Some, None, sym, ◌∙◌, ap, subst, arith, inl, inr}
use Rattle.std.proofs.lemmas.Bool.{cases_eq}
use Rattle.std.proofs.lemmas.List.{get_or-append-add}
use Rattle.dx_base.specs.Members.{◌∈◌, here, there, Each}
use Rattle.dx_base.proofs.Members.{from_append}
use Rattle.dx_model.specs.declared.values.Value.{Value}
use Rattle.dx_model.specs.declared.facts.Fact.{Fact}
use Rattle.dx_instance.specs.Cells.{NumberTable}
use Rattle.dx_instance.specs.Numbers.{Extends}
use Rattle.dx_instance.specs.Shown.{shown_tables}
use Rattle.dx_instance.specs.Stored.{IsSorting, TableRows, facts}
use Rattle.dx_instance.proofs.StoredFacts.{sorting_facts}
use Rattle.dx_schema.specs.Forest.{Forest, none, set}
use Rattle.dx_schema.specs.Tables.{NumberedSet, count, nowhere, level_numbers, numbered_sets, sets_of, schema_table, tables_of, tree_at}
use Rattle.dx_schema.proofs.Preorder.{length_placed}
use Rattle.dx_used.specs.Used.{Marks, blanked, fact_blanked, marks_at}
use Rattle.dx_used.proofs.Blanking.{blanked_twice}
use Rattle.clio_source.specs.declared.reading.Reading.{Reading}
use Rattle.clio_source.specs.Source.{as_facts, flat, shape_at, nested, roots}
use Rattle.clio_source.specs.Agreeing.{AllBlanked, IsFlatRoot}
use Rattle.clio_source.specs.Fitting.{AddsEmpty, AddsFacts, UnusedAreBlank, ReadFits, rows_shown}
use Rattle.clio_source.proofs.Fits.{many_tables}
use Rattle.clio_source.proofs.Numbers.{facts_of_one, facts_with_empty}
use Rattle.clio_source.proofs.Roots.{no_parent, numbers_between}

-- ---- nothing was read

pub blank_start : (used : Marks) (f : Forest) (r : Reading) → r.tables.items ≡ [] → UnusedAreBlank used f r
blank_start used f r e = λ fact m. elim (subst (λ (ts : List NumberTable). fact ∈ facts (shown_tables r.symbols ts)) e m) [ ]

-- ---- a table more

-- rows that are blank stay so
row_blank : (used : Marks) (n : ℕ) (whole : List (List Value)) (fact : Fact) → fact ∈ as_facts n (map (blanked (marks_at used n)) whole) → fact_blanked used fact ≡ fact
row_blank used n [] fact m = elim m [ ]
row_blank used n (row ∷ whole) fact (here e) =
    let once : Fact = record { table = n; row = blanked (marks_at used n) row } in
    let same : fact_blanked used once ≡ once = (λ i. record { table = n; row = blanked_twice (marks_at used n) row i }) in
    subst (λ (x : Fact). fact_blanked used x ≡ x) e same
row_blank used n (row ∷ whole) fact (there m) = row_blank used n whole fact m

pub blank_more : (used : Marks) (f : Forest) (n : ℕ) (before after : Reading) (t : NumberTable) (whole : List (List Value)) → ReadFits f n before → n < length (tables_of f) → Extends before.symbols after.symbols
    → after.tables.items ≡ before.tables.items ++ t ∷ [] → rows_shown after.symbols t ≡ map (blanked (marks_at used n)) whole → UnusedAreBlank used f before → UnusedAreBlank used f after
blank_more used f n before after t whole fit lt x e rows h = λ fact m is.
    let old = facts (shown_tables before.symbols before.tables.items) in
    let both = facts_of_one before.symbols after.symbols before.tables.items after.tables.items t n x fit.below e (many_tables f n before (omega (arith, lt)) fit) in
    elim (from_append old (subst (λ (fs : List Fact). fact ∈ fs) both m)) [
      | inl a ↦ h fact a is
      | inr b ↦ row_blank used n whole fact (subst (λ (rs : List (List Value)). fact ∈ as_facts n rs) rows b)
    ]

-- ---- a document more

-- after a root come the tables of its inner sets, and then the next root
next_after : (p : Option ℕ) (n : ℕ) (g : Forest) (r u : ℕ) (d : NumberedSet) → r ∈ level_numbers n g → u ∈ level_numbers n g → r < u → r + 1 + count (get_or (numbered_sets p n g) (r - n) d).inner ≤ u
next_after p n none r u d a b lt = elim a [ ]
next_after p n (set l i rest) r u d (here e) (here x) lt = absurd (omega (arith, e, x, lt))
next_after p n (set l i rest) r u d (here e) (there m) lt =
    let at : r - n ≡ 0 = omega (arith, e) in
    let same : count (get_or (numbered_sets p n (set l i rest)) (r - n) d).inner ≡ count i = ap (λ k. count (get_or (numbered_sets p n (set l i rest)) k d).inner) at in
    let h = numbers_between (suc (n + count i)) rest u m in
    omega (arith, h, same, e)
next_after p n (set l i rest) r u d (there a) (here x) lt =
    let h = numbers_between (suc (n + count i)) rest r a in absurd (omega (arith, h, x, lt))
next_after p n (set l i rest) r u d (there a) (there b) lt =
    let left = numbered_sets (Some n) (suc n) i in
    let next = suc (n + count i) in
    let h = numbers_between next rest r a in
    let at : r - n ≡ suc (length left + (r - next)) = omega (arith, h, length_placed (Some n) (suc n) i) in
    let same : count (get_or (numbered_sets p n (set l i rest)) (r - n) d).inner ≡ count (get_or (numbered_sets p next rest) (r - next) d).inner =
    ap (λ k. count (get_or (numbered_sets p n (set l i rest)) k d).inner) at ∙ ap (λ (s : NumberedSet). count s.inner) (get_or-append-add left (numbered_sets p next rest) (r - next) d) in
    let more = next_after p next rest r u d a b lt in
    omega (arith, more, same)

-- a nested root and its inner sets are no flat roots
none_flat : (f : Forest) (root u : ℕ) → root < length (tables_of f) → (schema_table f root).parent ≡ None → nested ≡ shape_at f root → root ≤ u → u < root + 1 + count (tree_at f root).inner → ¬ (IsFlatRoot f u)
none_flat f root u lt parent formed low high is = elim (cases_eq u root) [
  | inl e ↦
      let clash : flat ≡ nested = is.1 ∙ ap (shape_at f) e ∙ sym formed in
      absurd (cc clash)
  | inr other ↦
      let a_root : root ∈ roots f = ((no_parent f).exact root).1 (lt, parent) in
      let at : root - 0 ≡ root = omega arith in
      let same : count (get_or (numbered_sets None 0 f) (root - 0) nowhere).inner ≡ count (tree_at f root).inner = ap (λ k. count (get_or (sets_of f) k nowhere).inner) at in
      let h = next_after None 0 f root u nowhere a_root is.0 (omega (arith, low, other)) in
      absurd (omega (arith, h, same, high))
]

pub blank_document : (used : Marks) (f : Forest) (root last : ℕ) (before after : Reading) (between : List NumberTable) (said : List Fact) → root < length (tables_of f) → (schema_table f root).parent ≡ None → nested ≡ shape_at f root
    → last ≡ root + 1 + count (tree_at f root).inner → AddsEmpty f last before.tables.items between → AddsFacts before.symbols after.symbols between after.tables.items said
    → Each said (λ fact. (root ≤ fact.table) × (fact.table < last)) → UnusedAreBlank used f before → UnusedAreBlank used f after
blank_document used f root last before after between said lt parent formed end a p ranges h = λ fact m is.
    let same : facts (shown_tables before.symbols between) ≡ facts (shown_tables before.symbols before.tables.items) =
    ap (λ (ts : List NumberTable). facts (shown_tables before.symbols ts)) a.is ∙ facts_with_empty before.symbols before.tables.items a.more a.empty in
    elim (from_append (facts (shown_tables before.symbols between)) (p.shown.0 fact m)) [
      | inl old ↦ h fact (subst (λ (fs : List Fact). fact ∈ fs) same old) is
      | inr new ↦
          let w = ranges fact new in
          absurd (none_flat f root fact.table lt parent formed w.0 (omega (arith, w.1, end)) is)
    ]

-- ---- the instance

pub blank_sorted : (used : Marks) (f : Forest) (r : Reading) (J : List TableRows) → IsSorting (shown_tables r.symbols r.tables.items) J → UnusedAreBlank used f r → AllBlanked used f (facts J)
blank_sorted used f r J s h = λ fact m is. h fact ((sorting_facts (shown_tables r.symbols r.tables.items) J s).0 fact m) is
