-- Links by numbers, and links of tables.
use Rattle.std.proofs.Common.{◌≡◌, ℕ, zero, suc, ◌+◌, ◌-◌, ◌^◌, ◌<◌, ◌≤◌, List, [], ◌∷◌, ◌++◌, Option, Some, None, length, map, drop, get_or, refl, sym, ap, ◌∙◌, subst, arith, inl, inr, append_assoc, length-append}
use Rattle.std.specs.Prelude.{All, Contains, MatchOption}
use Rattle.std.proofs.lemmas.Bool.{cases_lt}
use Rattle.std.proofs.lemmas.List.{append-nil, drop_all, get_or-map, get_or_default, get_or_append_left, get_or-append_right, length-map, map-append}
use Rattle.dx_base.specs.Members.{◌∈◌}
use Rattle.dx_base.proofs.Members.{from_map, in_map, in_at, in_left, in_right, from_append, contains_from_in, in_from_contains}
use Rattle.dx_base.proofs.Lists.{cut_at}
use Rattle.dx_model.specs.declared.tables.Link.{Link}
use Rattle.dx_model.specs.Tables.{Table, table_of}
use Rattle.dx_schema.specs.declared.cycles.Edge.{Edge}
use Rattle.dx_schema.specs.Forest.{Forest}
use Rattle.dx_schema.specs.Tables.{TableOf, tables_of, schema_table, no_table, model_tables, as_numbers, AreTables, IsSchemaTable, IsLink}
use Rattle.dx_schema.specs.Marks.{LeadsTo, step, more, IsCycleOrNone, edges_of}
use Rattle.dx_schema.specs.Bounds.{HasFewRules}
use Rattle.dx_schema.proofs.Bounds.{tables_numbered}
use Rattle.dx_schema.specs.Links.{every_link, LeadsByLinks, directly, further, IsAcyclic, IsFirstCycle}
use Rattle.dx_schema.proofs.Marks.{LeadsTo-snoc}

-- a link of a table
abbrev pub IsLinkAt : List Table → ℕ → ℕ → Type 0
IsLinkAt schema k t = (l : Link) × (l ∈ every_link (table_of schema k)) × (l.table ≡ t)

edge_from : (n : ℕ) (schema : List Table) (e : Edge) → e ∈ edges_of n schema → (k : ℕ) × (e.from ≡ n + k) × (k < length schema) × IsLinkAt schema k e.to
edge_from n [] e m = elim m [ ]
edge_from n (t ∷ ts) e m =
    elim (from_append (map (λ (l : Link). record { from = n; to = l.table }) (every_link t)) m) [
      | inl a ↦
          let r = from_map (λ (l : Link). record { from = n; to = l.table }) (every_link t) {y = e} a in
          (0, ap (λ (d : Edge). d.from) (sym r.2) ∙ omega arith, omega arith, (r.0, r.1, ap (λ (d : Edge). d.to) r.2))
      | inr b ↦ let r = edge_from (suc n) ts e b in (suc r.0, r.1 ∙ omega arith, omega (arith, r.2), r.3)
    ]

edge_of : (n : ℕ) (schema : List Table) (k : ℕ) (l : Link) → l ∈ every_link (table_of schema k) → record { from = n + k; to = l.table } ∈ edges_of n schema
edge_of n [] zero l m = elim m [ ]
edge_of n [] (suc k) l m = elim m [ ]
edge_of n (t ∷ ts) zero l m =
    let P : ℕ → Type 0 = λ j. record { from = j; to = l.table } ∈ edges_of n (t ∷ ts) in
    subst P (omega arith) (in_left (edges_of (suc n) ts) (in_map (λ (d : Link). record { from = n; to = d.table }) m))
edge_of n (t ∷ ts) (suc k) l m =
    let P : ℕ → Type 0 = λ j. record { from = j; to = l.table } ∈ edges_of n (t ∷ ts) in
    let e : suc n + k ≡ n + suc k = omega arith in
    subst P e (in_right (map (λ (d : Link). record { from = n; to = d.table }) (every_link t)) (edge_of (suc n) ts k l m))

-- what a link by numbers is
edge_is : (schema : List Table) (es : List Edge) (e : Edge) → es ≡ edges_of 0 schema → Contains es e → (e.from < length schema) × IsLinkAt schema e.from e.to
edge_is schema es e all c =
    let r = edge_from 0 schema e (in_from_contains (edges_of 0 schema) e (rw (← all) c)) in
    let same : r.0 ≡ e.from = omega (arith, r.1) in
    (rw (← same) r.2, subst (λ k. IsLinkAt schema k e.to) same r.3)

front : {schema : List Table} {b c : ℕ} (a : ℕ) → IsLinkAt schema a b → LeadsByLinks schema b c → LeadsByLinks schema a c
front {schema = schema} {b = b} a h (directly l m) = further l (subst (λ t. LeadsByLinks schema a t) h.2 (directly h.0 h.1)) m
front {schema = schema} {b = b} a h (further l w m) = further l (front a h w) m

leads_from : {es : List Edge} {a b : ℕ} (schema : List Table) → es ≡ edges_of 0 schema → LeadsTo es a b → (a < length schema) × LeadsByLinks schema a b
leads_from {es = es} schema all (step e c) = let r = edge_is schema es e all c in (r.0, subst (λ t. LeadsByLinks schema e.from t) r.1.2 (directly r.1.0 r.1.1))
leads_from {es = es} schema all (more e c way) = let r = edge_is schema es e all c in (r.0, front e.from r.1 (leads_from schema all way).1)

contains_edge : (schema : List Table) (es : List Edge) (k : ℕ) (l : Link) → es ≡ edges_of 0 schema → l ∈ every_link (table_of schema k) → Contains es (record { from = k; to = l.table })
contains_edge schema es k l all m =
    let P : ℕ → Type 0 = λ j. record { from = j; to = l.table } ∈ edges_of 0 schema in
    let e : 0 + k ≡ k = omega arith in
    rw all (contains_from_in (subst P e (edge_of 0 schema k l m)))

leads_to : {schema : List Table} {a b : ℕ} (es : List Edge) → es ≡ edges_of 0 schema → LeadsByLinks schema a b → LeadsTo es a b
leads_to {schema = schema} {a = a} es all (directly l m) = step (record { from = a; to = l.table }) (contains_edge schema es a l all m)
leads_to {schema = schema} {a = a} es all (further {u = u} l w m) = LeadsTo-snoc (leads_to es all w) (record { from = u; to = l.table }) (contains_edge schema es u l all m) refl

-- each link of a table is a link, optional or not
pub every_fits : (tables : List TableOf) (t : TableOf) → IsSchemaTable tables t → (l : Link) → l ∈ (t.links ++ t.optional) → IsLink tables (length t.columns) l
every_fits tables t a l m = elim (from_append t.links m) [ inl i ↦ a.links l i | inr i ↦ a.optional l i ]

-- links of tables lead to tables
pub link_within : (tables : List TableOf) → AreTables tables → (t : ℕ) (l : Link) → l ∈ every_link (table_of (map as_numbers tables) t) → l.table < length tables
link_within tables a t l m = elim (cases_lt t (length tables)) [
  | inl lt ↦
      let at : table_of (map as_numbers tables) t ≡ as_numbers (get_or tables t no_table) = get_or-map as_numbers tables t no_table _ lt in
      (every_fits tables (get_or tables t no_table) (a.each_table (get_or tables t no_table) (in_at tables t no_table lt)) l (subst (λ (q : Table). l ∈ every_link q) at m)).table
  | inr ge ↦ absurd (nowhere (map as_numbers tables) t (rw (length-map tables as_numbers) ge) m)
]
  where
    nowhere : (schema : List Table) (t : ℕ) → length schema ≤ t → l ∈ every_link (table_of schema t) → ⊥
    nowhere [] zero g m = elim m [ ]
    nowhere [] (suc t) g m = elim m [ ]
    nowhere (s ∷ ss) zero g m = absurd (omega arith)
    nowhere (s ∷ ss) (suc t) g m = nowhere ss t (omega arith) m

-- links by numbers stay among the tables
pub edges_within : (tables : List TableOf) (es : List Edge) (count : ℕ) → AreTables tables → es ≡ edges_of 0 (map as_numbers tables) → count ≡ length tables → All (λ (e : Edge). (e.from < count) × (e.to < count)) es
edges_within tables es count a all n k d lt =
    let e = get_or es k d in
    let r = edge_is (map as_numbers tables) es e all (k, lt, get_or_default es k e d lt) in
    let to = link_within tables a e.from r.1.0 r.1.1 in
    (omega (arith, r.0, length-map tables as_numbers, n), rw n (rw (← r.1.2) to))

pub acyclic_when : (tables : List TableOf) (es : List Edge) (count : ℕ) → AreTables tables → es ≡ edges_of 0 (map as_numbers tables) → count ≡ length tables → IsCycleOrNone es count None → IsAcyclic (map as_numbers tables)
acyclic_when tables es count a all n none_so = record {
  no_cycle = λ t w. let way = leads_to es all w in none_so t (rw n (rw (← length-map tables as_numbers) (leads_from (map as_numbers tables) all way).0)) way;
  within = λ t l m. rw (length-map tables as_numbers) (link_within tables a t l m);
}

pub cycle_when : (tables : List TableOf) (es : List Edge) (count t : ℕ) → es ≡ edges_of 0 (map as_numbers tables) → count ≡ length tables → IsCycleOrNone es count (Some t) → IsFirstCycle (map as_numbers tables) t
cycle_when tables es count t all n h = record {
  within = rw (length-map tables as_numbers, ← n) h.0;
  cycle = (leads_from (map as_numbers tables) all h.1).1;
  first = λ u lt w. h.2 u lt (leads_to es all w);
}

-- the links of one more table
pub edges_more : (schema : List Table) (i : ℕ) (t : Table) (before between after whole : List Edge) (links others : List Link) → i < length schema → t ≡ get_or schema i t → links ≡ t.links → others ≡ t.optional
    → whole ≡ before ++ edges_of i (drop i schema) → between ≡ before ++ map (λ (l : Link). record { from = i; to = l.table }) links → after ≡ between ++ map (λ (l : Link). record { from = i; to = l.table }) others → whole ≡ after ++ edges_of (i + 1) (drop (i + 1) schema)
edges_more schema i t before between after whole links others lt is same same_open e first pushed =
    let next : suc i ≡ i + 1 = omega arith in
    let edge : Link → Edge = λ l. record { from = i; to = l.table } in
    let both : map edge (t.links ++ t.optional) ≡ map edge t.links ++ map edge t.optional = map-append edge t.links t.optional in
    rw (e, pushed, first, cut_at schema i t lt is, same, same_open, next, both) (simp append_assoc)

pub edges_done : (schema : List Table) (i : ℕ) (edges whole : List Edge) → length schema ≤ i → whole ≡ edges ++ edges_of i (drop i schema) → edges ≡ whole
edges_done schema i edges whole past e = sym (e ∙ rw (drop_all i schema past) (append-nil edges))

pub judged : (tables : List TableOf) (es : List Edge) (count : ℕ) (found : Option ℕ) → AreTables tables → es ≡ edges_of 0 (map as_numbers tables) → count ≡ length tables → IsCycleOrNone es count found
    → MatchOption found (IsAcyclic (map as_numbers tables)) (λ t. IsFirstCycle (map as_numbers tables) t)
judged tables es count None a all n h = acyclic_when tables es count a all n h
judged tables es count (Some t) a all n h = cycle_when tables es count t all n h

-- the links of a table as numbers are its links, and then its optional ones
pub every_at : (f : Forest) (t : ℕ) → t < length (tables_of f) → every_link (table_of (model_tables f) t) ≡ (schema_table f t).links ++ (schema_table f t).optional
every_at f t h = ap every_link (get_or-map as_numbers (tables_of f) t _ _ h)

-- a link by its number, where optional ones come after the others
pub link_first : (xs ys : List Link) (i : ℕ) (l d : Link) → i < length xs → l ≡ get_or xs i l → l ≡ get_or (xs ++ ys) i d
link_first xs ys i l d h e = e ∙ get_or_default xs i l d h ∙ sym (get_or_append_left xs ys d i h)

pub link_after : (xs ys : List Link) (i : ℕ) (l d : Link) → length xs ≤ i → i - length xs < length ys → l ≡ get_or ys (i - length xs) l → l ≡ get_or (xs ++ ys) i d
link_after xs ys i l d h lt e = e ∙ get_or_default ys (i - length xs) l d lt ∙ sym (get_or-append_right xs ys (length xs) i d refl h)

-- how many links a table has, optional ones too
pub links_counted : (tables : List TableOf) (f g : Forest) (i : ℕ) (t : TableOf) → tables ≡ tables_of f → f ≡ g → HasFewRules f → i < length (tables_of g) → t ≡ get_or tables i t
    → (length t.links + length t.optional < 2 ^ 32 - 1) × (length t.links + length t.optional ≡ length (every_link (table_of (model_tables g) i)))
links_counted tables f g i t e view few lt is =
    let same : tables ≡ tables_of g = e ∙ ap tables_of view in
    let lt' : i < length tables = rw same lt in
    let at : t ≡ schema_table g i = is ∙ (get_or_default tables i t no_table lt' ∙ ap (λ (ts : List TableOf). get_or ts i no_table) same) in
    let m : t ∈ tables_of g = subst (λ (ts : List TableOf). t ∈ ts) same (subst (λ (x : TableOf). x ∈ tables) (sym is) (in_at tables i t lt')) in
    let long : length (every_link (table_of (model_tables g) i)) ≡ length (t.links ++ t.optional) = ap length (every_at g i lt) ∙ ap (λ (x : TableOf). length (x.links ++ x.optional)) (sym at) in
    ((tables_numbered f g few view t m).links, sym (long ∙ length-append t.links t.optional))

-- a link of a table by its number
record IsOwn (g : Forest) (i : ℕ) (t : TableOf) : Type 0 where
  pub at : t ≡ schema_table g i
  pub every : every_link (table_of (model_tables g) i) ≡ t.links ++ t.optional
  pub fits : (l : Link) → l ∈ (t.links ++ t.optional) → IsLink (tables_of g) (length (schema_table g i).columns) l

own_table : (tables : List TableOf) (f g : Forest) (i : ℕ) (t : TableOf) → tables ≡ tables_of f → f ≡ g → AreTables tables → i < length (tables_of g) → t ≡ get_or tables i t → IsOwn g i t
own_table tables f g i t e view a lt is =
    let same : tables ≡ tables_of g = e ∙ ap tables_of view in
    let lt' : i < length tables = rw same lt in
    let at : t ≡ schema_table g i = is ∙ (get_or_default tables i t no_table lt' ∙ ap (λ (ts : List TableOf). get_or ts i no_table) same) in
    let m : t ∈ tables = subst (λ (x : TableOf). x ∈ tables) (sym is) (in_at tables i t lt') in
    let own : (l : Link) → l ∈ (t.links ++ t.optional) → IsLink tables (length t.columns) l = every_fits tables t (a.each_table t m) in
    record {
      at = at;
      every = every_at g i lt ∙ ap (λ (x : TableOf). x.links ++ x.optional) (sym at);
      fits = λ l n. subst (λ (ts : List TableOf). IsLink ts (length (schema_table g i).columns) l) same (subst (λ (x : TableOf). IsLink tables (length x.columns) l) at (own l n));
    }

abbrev pub IsLinkOf : Forest → ℕ → ℕ → Link → Type 0
IsLinkOf g i k l = (l ≡ get_or (every_link (table_of (model_tables g) i)) k (record { from = []; table = 0; to = [] })) × IsLink (tables_of g) (length (schema_table g i).columns) l

pub first_link : (tables : List TableOf) (f g : Forest) (i k : ℕ) (t : TableOf) (links : List Link) (l : Link) → tables ≡ tables_of f → f ≡ g → AreTables tables → i < length (tables_of g) → t ≡ get_or tables i t
    → links ≡ t.links → k < length links → l ≡ get_or links k l → IsLinkOf g i k l
first_link tables f g i k t links l e view a lt is e_links h at =
    let o = own_table tables f g i t e view a lt is in
    let h' : k < length t.links = rw (← e_links) h in
    let at' : l ≡ get_or t.links k l = at ∙ ap (λ (ls : List Link). get_or ls k l) e_links in (
      link_first t.links t.optional k l _ h' at' ∙ ap (λ (ls : List Link). get_or ls k (record { from = []; table = 0; to = [] })) (sym o.every),
      o.fits l (in_left t.optional (subst (λ (x : Link). x ∈ t.links) (sym at') (in_at t.links k l h'))),
    )

pub later_link : (tables : List TableOf) (f g : Forest) (i k j : ℕ) (t : TableOf) (links others : List Link) (l : Link) → tables ≡ tables_of f → f ≡ g → AreTables tables → i < length (tables_of g) → t ≡ get_or tables i t
    → links ≡ t.links → others ≡ t.optional → length links ≤ k → j ≡ k - length links → k < length (every_link (table_of (model_tables g) i)) → l ≡ get_or others j l → IsLinkOf g i k l
later_link tables f g i k j t links others l e view a lt is e_links e_others h e_j within at =
    let o = own_table tables f g i t e view a lt is in
    let long : length (every_link (table_of (model_tables g) i)) ≡ length t.links + length t.optional = ap length o.every ∙ length-append t.links t.optional in
    let same : length links ≡ length t.links = ap length e_links in
    let j' : j ≡ k - length t.links = omega (arith, e_j, same) in
    let h' : length t.links ≤ k = omega (arith, h, same) in
    let lt' : k - length t.links < length t.optional = omega (arith, long, within, h') in
    let at' : l ≡ get_or t.optional (k - length t.links) l = at ∙ (ap (λ (ls : List Link). get_or ls j l) e_others ∙ ap (λ (n : ℕ). get_or t.optional n l) j') in (
      link_after t.links t.optional k l _ h' lt' at' ∙ ap (λ (ls : List Link). get_or ls k (record { from = []; table = 0; to = [] })) (sym o.every),
      o.fits l (in_right t.links (subst (λ (x : Link). x ∈ t.optional) (sym at') (in_at t.optional (k - length t.links) l lt'))),
    )
