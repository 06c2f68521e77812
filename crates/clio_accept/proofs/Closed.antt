-- Closed hand-written rules: there is one closing at most, a rule has one or is too wide, and a closed rule fits as the rule did.
use Rattle.std.proofs.Common.{◌≡◌, ◌⊎◌, inl, inr, ℕ, zero, suc, ◌+◌, ◌*◌, ◌<◌, ◌≤◌, List, [], ◌∷◌, ◌++◌, Option, Some, None, unwrap_or, length, refl, sym, ap, ◌∙◌, subst, arith, length-append, get_or}
use Rattle.std.specs.Prelude.{map, slice_get, slice_index_or}
use Rattle.std.specs.List.{list_any}
use Rattle.std.proofs.lemmas.Bool.{cases_Bool, cases_lt, cases_eq, cond-true, cond-false}
use Rattle.dx_base.specs.Members.{◌∈◌, here, there, Each}
use Rattle.dx_base.proofs.Members.{from_append, from_map, in_at, in_flat_map, from_flat_map}
use Rattle.dx_base.proofs.Lists.{get_in}
use Rattle.dx_model.specs.declared.rules.Cell.{Cell}
use Rattle.dx_model.specs.declared.rules.Cell.TheVariants.{Var, Ex, Lit}
use Rattle.dx_model.specs.declared.rules.Atom.{Atom}
use Rattle.dx_model.specs.declared.rules.Rule.{Rule}
use Rattle.dx_model.specs.declared.tables.Link.{Link}
use Rattle.dx_model.specs.Rules.{cells_of}
use Rattle.dx_model.specs.Tables.{Table, table_of}
use Rattle.dx_model.specs.Solutions.{AtomFits, IsClosed, cells_in}
use Rattle.dx_model.specs.Fitting.{RuleFits, premise_variables}
use Rattle.dx_schema.specs.Forest.{Forest}
use Rattle.dx_schema.specs.Tables.{model_tables, tables_of}
use Rattle.dx_schema.specs.Links.{IsFaultless}
use Rattle.dx_schema.proofs.Valid.{are_tables}
use Rattle.dx_schema.proofs.Whole.{links_fit}
use Rattle.dx_logical.specs.Filled.{given_item, fresh_below, row_with_fresh}
use Rattle.dx_logical.proofs.Facts.{given_among}
use Rattle.dx_closing.specs.declared.growing.Growing.{Growing}
use Rattle.dx_closing.specs.Closing.{serves, supplied, through_link, through_links, through_atom, gone, begun, IsClosing}
use Rattle.dx_closing.proofs.Going.{one_closing}
use Rattle.dx_closing.proofs.Numbered.{closing_numbered}
use Rattle.dx_closing.proofs.Served.{closing_serves}
use Rattle.clio_accept.specs.declared.fault.AcceptFault.{AcceptFault}
use Rattle.clio_accept.specs.declared.fault.AcceptFault.TheVariants.{Memory}
use Rattle.clio_accept.specs.Mapping.{AreClosings, IsNarrowClosing, IsTooWide, TooWide, WidthRefused}
use Rattle.clio_accept.proofs.Few.{few_columns}

-- ---- one closing

same_rule : (d e f : Rule) → d.premise ≡ e.premise → d.derived ≡ f.derived → e.derived ≡ f.derived → d.conclusion ≡ e.conclusion → d ≡ e
same_rule d e f p q r s = λ i. record { premise = p i; derived = (q ∙ sym r) i; conclusion = s i }

one_rule : (schema : List Table) (d e f : Rule) → IsNarrowClosing schema d e → IsNarrowClosing schema d f → e ≡ f
one_rule schema d e f p q =
    same_rule e f d (p.closing.premise ∙ sym q.closing.premise) p.closing.derived q.closing.derived (one_closing schema d.conclusion e.conclusion f.conclusion p.closing.conclusion q.closing.conclusion)

pub one_closed : (schema : List Table) (ds es fs : List Rule) → AreClosings schema ds es → AreClosings schema ds fs → es ≡ fs
one_closed schema [] [] [] p q = refl
one_closed schema [] [] (f ∷ fs) p q = absurd q
one_closed schema [] (e ∷ es) fs p q = absurd p
one_closed schema (d ∷ ds) [] fs p q = absurd p
one_closed schema (d ∷ ds) (e ∷ es) [] p q = absurd q
one_closed schema (d ∷ ds) (e ∷ es) (f ∷ fs) p q =
    ap (λ r. r ∷ es) (one_rule schema d e f p.0 q.0) ∙ ap (λ rs. f ∷ rs) (one_closed schema ds es fs p.1 q.1)

-- ---- a closing or too wide

not_wide : (schema : List Table) (d e : Rule) → IsNarrowClosing schema d e → ¬ (IsTooWide schema d)
not_wide schema d e n (inl w) = let few = n.premise in absurd (omega (arith, few, w))
not_wide schema d e n (inr w) = let few = n.conclusion in let many = w e.conclusion n.closing.conclusion in absurd (omega (arith, few, many))

none_wide : (schema : List Table) (ds es : List Rule) → AreClosings schema ds es → Each ds (λ d. ¬ (IsTooWide schema d))
none_wide schema [] es p d m = elim m [ ]
none_wide schema (d ∷ ds) [] p x m = absurd p
none_wide schema (d ∷ ds) (e ∷ es) p x (here is) = subst (λ r. ¬ (IsTooWide schema r)) is (not_wide schema d e p.0)
none_wide schema (d ∷ ds) (e ∷ es) p x (there m) = none_wide schema ds es p.1 x m

pub never_closed : (schema : List Table) (ds es : List Rule) (e : AcceptFault) → AreClosings schema ds es → ¬ (WidthRefused schema ds e)
never_closed schema ds es e p r = none_wide schema ds es p r.0 r.1 r.2

-- after some of the first n steps there are as many atoms as steps, or after none of them
stops_or_not : (schema : List Table) (C : List Atom) (n : ℕ) → ((k : ℕ) × (k < n) × (length (gone schema (begun C) k).atoms ≡ k)) ⊎ ((k : ℕ) → k < n → ¬ (length (gone schema (begun C) k).atoms ≡ k))
stops_or_not schema C zero = inr (λ k h e. omega (arith, h))
stops_or_not schema C (suc n) = elim (stops_or_not schema C n) [
  | inl r ↦ inl (r.0, omega (arith, r.1), r.2)
  | inr none ↦ elim (cases_eq (length (gone schema (begun C) n).atoms) n) [
    | inl is ↦ inl (n, omega arith, is)
    | inr other ↦ inr (also none other)
  ]
]
  where
    also : ((k : ℕ) → k < n → ¬ (length (gone schema (begun C) k).atoms ≡ k)) → ¬ (length (gone schema (begun C) n).atoms ≡ n) → (k : ℕ) → k < suc n → ¬ (length (gone schema (begun C) k).atoms ≡ k)
    also none other k h = elim (cases_eq k n) [
      | inl e ↦ subst (λ (j : ℕ). ¬ (length (gone schema (begun C) j).atoms ≡ j)) (sym e) other
      | inr ne ↦ none k (omega (arith, h, ne))
    ]

narrow_or_wide : (schema : List Table) (C : List Atom) → ((E : List Atom) × IsClosing schema C E × (length E ≤ 64)) ⊎ ((E : List Atom) → IsClosing schema C E → 64 < length E)
narrow_or_wide schema C = elim (stops_or_not schema C 65) [
  | inl r ↦
      let lt = r.1 in
      let is = r.2 in
      inl ((gone schema (begun C) r.0).atoms, ap (λ k. (gone schema (begun C) k).atoms) is, omega (arith, lt, is))
  | inr none ↦ inr (λ E c. wide none E c)
]
  where
    wide : ((k : ℕ) → k < 65 → ¬ (length (gone schema (begun C) k).atoms ≡ k)) → (E : List Atom) → IsClosing schema C E → 64 < length E
    wide none E c = elim (cases_lt 64 (length E)) [
      | inl many ↦ many
      | inr few ↦ absurd (none (length E) (omega (arith, few)) (ap length c))
    ]

one_or_wide : (schema : List Table) (d : Rule) → ((e : Rule) × IsNarrowClosing schema d e) ⊎ IsTooWide schema d
one_or_wide schema d = elim (cases_lt 64 (length d.premise)) [
  | inl many ↦ inr (inl many)
  | inr few ↦ elim (narrow_or_wide schema d.conclusion) [
    | inl r ↦ inl (record { premise = d.premise; derived = d.derived; conclusion = r.0 }, record { closing = record { premise = refl; derived = refl; conclusion = r.1 }; premise = few; conclusion = r.2 })
    | inr wide ↦ inr (inr wide)
  ]
]

pub closed_or_wide : (schema : List Table) (ds : List Rule) → ((es : List Rule) × AreClosings schema ds es) ⊎ ((d : Rule) × (d ∈ ds) × IsTooWide schema d)
closed_or_wide schema [] = inl ([], tt)
closed_or_wide schema (d ∷ ds) = elim (one_or_wide schema d) [
  | inr wide ↦ inr (d, here refl, wide)
  | inl one ↦ elim (closed_or_wide schema ds) [
    | inl rest ↦ inl (one.0 ∷ rest.0, (one.1, rest.1))
    | inr wide ↦ inr (wide.0, there wide.1, wide.2)
  ]
]

-- one closing more
pub closings_push : (schema : List Table) (ds es : List Rule) (d e : Rule) → AreClosings schema ds es → IsNarrowClosing schema d e → AreClosings schema (ds ++ d ∷ []) (es ++ e ∷ [])
closings_push schema [] [] d e p n = (n, tt)
closings_push schema [] (f ∷ es) d e p n = absurd p
closings_push schema (c ∷ ds) [] d e p n = absurd p
closings_push schema (c ∷ ds) (f ∷ es) d e p n = (p.0, closings_push schema ds es d e p.1 n)

-- the rule of which one is the closing
pub closed_of : (schema : List Table) (ds es : List Rule) → AreClosings schema ds es → (e : Rule) → e ∈ es → (d : Rule) × (d ∈ ds) × IsNarrowClosing schema d e
closed_of schema [] [] p e m = elim m [ ]
closed_of schema [] (f ∷ es) p e m = absurd p
closed_of schema (d ∷ ds) [] p e m = absurd p
closed_of schema (d ∷ ds) (f ∷ es) p e (here is) = (d, here refl, subst (IsNarrowClosing schema d) is p.0)
closed_of schema (d ∷ ds) (f ∷ es) p e (there m) = let r = closed_of schema ds es p.1 e m in (r.0, there r.1, r.2)

-- ---- what closings keep of cells

module _ (Q : Cell → Type 0) (fresh : (v : ℕ) → Q (Ex v)) (empty : Q (Lit [])) where
  chosen_cell : (row : List Cell) (c : ℕ) → Each row Q → Q (slice_index_or row c (Lit []))
  chosen_cell [] c h = empty
  chosen_cell (x ∷ row) zero h = h x (here refl)
  chosen_cell (x ∷ row) (suc c) h = chosen_cell row c (λ y m. h y (there m))

  chosen_cells : (row : List Cell) (cs : List ℕ) → Each row Q → Each (cells_in cs row) Q
  chosen_cells row cs h x m = let k = from_map (λ c. slice_index_or row c (Lit [])) cs {y = x} m in subst Q k.2 (chosen_cell row k.0 h)

  filled_cells : (n : ℕ) (ks : List ℕ) (cells : List Cell) (w : ℕ) → Each cells Q → Each (row_with_fresh Ex n ks cells w) Q
  filled_cells n ks cells zero h x m = elim m [ ]
  filled_cells n ks cells (suc w) h x m = elim (from_append (row_with_fresh Ex n ks cells w) m) [
    | inl k ↦ filled_cells n ks cells w h x k
    | inr k ↦ last (given_item ks cells w) (λ y e. h y (given_among ks cells w y e)) k
  ]
    where
      last : (o : Option Cell) → ((y : Cell) → o ≡ Some y → Q y) → x ∈ (unwrap_or o (Ex (n + fresh_below ks cells w)) ∷ []) → Q x
      last None g (here e) = subst Q e (fresh (n + fresh_below ks cells w))
      last (Some y) g (here e) = subst Q e (g y refl)
      last o g (there k) = elim k [ ]

  abbrev Keeps : Growing → Type 0
  Keeps C = Each C.atoms (λ a. Each a.cells Q)

  link_keeps : (schema : List Table) (row : List Cell) (C : Growing) (l : Link) → Each row Q → Keeps C → Keeps (through_link schema row C l)
  link_keeps schema row C l r h =
      let cells = cells_in l.from row in
      let b = list_any (serves l cells) C.atoms in
      let D = supplied schema C l cells in
      elim (cases_Bool b) [
        | inl t ↦ let i = cond-true b C D t in rw i h
        | inr f ↦ let i = cond-false b C D f in rw i (more cells (chosen_cells row l.from r))
      ]
    where
      more : (cells : List Cell) → Each cells Q → Keeps (supplied schema C l cells)
      more cells k a m = elim (from_append C.atoms m) [ inl i ↦ h a i | inr i ↦ new i ]
        where
          new : a ∈ (record { table = l.table; cells = row_with_fresh Ex C.next l.to cells (table_of schema l.table).width } ∷ []) → Each a.cells Q
          new (here e) = subst (λ (b : Atom). Each b.cells Q) e (filled_cells C.next l.to cells (table_of schema l.table).width k)
          new (there i) = elim i [ ]

  links_keep : (schema : List Table) (row : List Cell) (C : Growing) (ls : List Link) → Each row Q → Keeps C → Keeps (through_links schema row C ls)
  links_keep schema row C [] r h = h
  links_keep schema row C (l ∷ ls) r h = links_keep schema row (through_link schema row C l) ls r (link_keeps schema row C l r h)

  atom_keeps : (schema : List Table) (C : Growing) (o : Option Atom) → ((a : Atom) → o ≡ Some a → a ∈ C.atoms) → Keeps C → Keeps (through_atom schema C o)
  atom_keeps schema C None g h = h
  atom_keeps schema C (Some a) g h = links_keep schema a.cells C (table_of schema a.table).links (h a (g a refl)) h

  gone_keeps : (schema : List Table) (C : Growing) (n : ℕ) → Keeps C → Keeps (gone schema C n)
  gone_keeps schema C zero h = h
  gone_keeps schema C (suc n) h = atom_keeps schema (gone schema C n) (slice_get (gone schema C n).atoms n) (λ a e. get_in (gone schema C n).atoms n a e) (gone_keeps schema C n h)

-- a variable of the closing is one of the conclusion
abbrev Kept : List Atom → Cell → Type 0
Kept C (Var x) = Var x ∈ cells_of C
Kept C (Ex v) = Unit {0}
Kept C (Lit t) = Unit {0}

kept_cell : (C : List Atom) (x : Cell) → x ∈ cells_of C → Kept C x
kept_cell C (Var x) m = m
kept_cell C (Ex v) m = tt
kept_cell C (Lit t) m = tt

variable_kept : (schema : List Table) (C E : List Atom) (x : ℕ) → IsClosing schema C E → Var x ∈ cells_of E → Var x ∈ cells_of C
variable_kept schema C E x c m =
    let all = gone_keeps (Kept C) (λ v. tt) tt schema (begun C) (length E) (λ a i y k. kept_cell C y (in_flat_map (λ (a : Atom). a.cells) i k)) in
    let r = from_flat_map (λ (a : Atom). a.cells) E {y = Var x} m in
    (subst (λ (F : List Atom). Each F (λ a. Each a.cells (Kept C))) c all) r.0 r.1 (Var x) r.2

-- ---- a closed rule fits

few_cells : (f : Forest) (E : List Atom) → IsFaultless f → Each E (AtomFits (model_tables f)) → length (cells_of E) ≤ 64 * length E
few_cells f [] ok h = omega arith
few_cells f (a ∷ E) ok h =
    let fit = h a (here refl) in
    let w = fit.width in
    let c = few_columns f a.table ok fit.table in
    let rest = few_cells f E ok (λ b m. h b (there m)) in
    omega (arith, w, c, rest, length-append a.cells (cells_of E))

pub closed_is_closed : (f : Forest) (d e : Rule) → IsFaultless f → Each d.conclusion (AtomFits (model_tables f)) → IsNarrowClosing (model_tables f) d e → IsClosed (model_tables f) e
closed_is_closed f d e ok fit n = closing_serves (model_tables f) d e (links_fit (tables_of f) (are_tables f ok.form)) fit n.closing

pub closed_fits : (source target : Forest) (d e : Rule) → IsFaultless target → RuleFits (model_tables source) (model_tables target) d → IsNarrowClosing (model_tables target) d e → RuleFits (model_tables source) (model_tables target) e
closed_fits source target d e ok fit n =
    let closed = closed_is_closed target d e ok fit.conclusion n in
    let variables : premise_variables e ≡ premise_variables d = ap (λ p. premise_variables (record { premise = p; derived = []; conclusion = [] })) n.closing.premise in
    let many : length e.derived ≡ length d.derived = ap length n.closing.derived in
    let cells = few_cells target e.conclusion ok closed.fits in
    let few = n.conclusion in
    let rule = fit.rule in
    record {
      rule = record {
        some_premise = rw n.closing.premise rule.some_premise;
        plain = rw n.closing.premise rule.plain;
        numbered = rw n.closing.premise rule.numbered;
        derived = rw (n.closing.derived, n.closing.premise) rule.derived;
        some_conclusion = some (model_tables target) d.conclusion e.conclusion n.closing.conclusion rule.some_conclusion;
        known = λ x m. let k = rule.known x (variable_kept (model_tables target) d.conclusion e.conclusion x n.closing.conclusion m) in omega (arith, k, variables, many);
        existentials = closing_numbered (model_tables target) d.conclusion e.conclusion (links_fit (tables_of target) (are_tables target ok.form)) fit.conclusion rule.existentials n.closing.conclusion;
        few_variables = rw (n.closing.premise, n.closing.derived) rule.few_variables;
        few_cells = omega (arith, cells, few);
      };
      premise = rw n.closing.premise fit.premise;
      conclusion = closed.fits;
    }
  where
    some : (schema : List Table) (C E : List Atom) → IsClosing schema C E → 0 < length C → 0 < length E
    some schema C [] c h = absurd (empty C c h)
      where
        empty : (F : List Atom) → F ≡ [] → 0 < length F → ⊥
        empty [] e k = omega (arith, k)
        empty (a ∷ F) e k = cc e
    some schema C (a ∷ E) c h = omega arith

-- ---- loops

map_same : {X : Type 0} (xs : List X) → map (λ x. x) xs ≡ xs
map_same [] = refl
map_same (x ∷ xs) = ap (λ ys. x ∷ ys) (map_same xs)

-- a loop that came to its end has closed all
pub all_closed : (schema : List Table) (taken ds es : List Rule) → AreClosings schema taken es → map (λ (d : Rule). d) taken ≡ ds → AreClosings schema ds es
all_closed schema taken ds es p is = subst (λ rs. AreClosings schema rs es) (sym (map_same taken) ∙ is) p

-- a rule at a place is too wide
pub one_wide : (schema : List Table) (ds : List Rule) (i : ℕ) (d : Rule) (e : AcceptFault) → i < length ds → d ≡ get_or ds i d → (e ≡ Memory) ⊎ (IsTooWide schema d × (e ≡ TooWide)) → (e ≡ Memory) ⊎ WidthRefused schema ds e
one_wide schema ds i d e lt is (inl m) = inl m
one_wide schema ds i d e lt is (inr w) = inr (d, subst (λ r. r ∈ ds) (sym is) (in_at ds i d lt), w.0, w.1)
