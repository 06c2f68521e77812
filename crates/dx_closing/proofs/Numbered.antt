-- The existential variables of a closing are numbered by first appearance.
use Rattle.std.proofs.Common.{◌≡◌, ℕ, zero, suc, ◌+◌, ◌<◌, ◌≤◌, cond, Option, Some, None, unwrap_or, is_some, List, [], ◌∷◌, ◌++◌, length, refl, sym, ◌∙◌, ap, subst, inl, inr, arith}
use Rattle.std.specs.Prelude.{flat_map, slice_get, slice_index_or}
use Rattle.std.specs.List.{list_any}
use Rattle.std.proofs.lemmas.Bool.{cases_Bool, cond-true, cond-false}
use Rattle.std.proofs.lemmas.List.{append-nil}
use Rattle.std.proofs.lemmas.List.Concat.{flat_map-append}
use Rattle.dx_base.specs.Members.{◌∈◌, here, there, Each}
use Rattle.dx_base.proofs.Members.{in_at, in_flat_map, from_flat_map, from_map}
use Rattle.dx_base.proofs.Lists.{get_in}
use Rattle.dx_model.specs.declared.rules.Cell.{Cell}
use Rattle.dx_model.specs.declared.rules.Cell.TheVariants.{Var, Ex, Lit}
use Rattle.dx_model.specs.declared.rules.Atom.{Atom}
use Rattle.dx_model.specs.declared.tables.Link.{Link}
use Rattle.dx_model.specs.Rules.{cells_of, existential_in, existentials}
use Rattle.dx_model.specs.Solutions.{AtomFits, cells_in}
use Rattle.dx_model.specs.Tables.{Table, table_of, AllInside}
use Rattle.dx_logical.specs.Filled.{given_item, fresh_below, row_with_fresh}
use Rattle.dx_model.specs.Fitting.{AreNumbered, ByFirstAppearance}
use Rattle.dx_schema.specs.Links.{LinkFits, LinksFit}
use Rattle.dx_closing.specs.declared.growing.Growing.{Growing}
use Rattle.dx_closing.specs.Closing.{serves, supplied, through_link, through_links, through_atom, gone, begun, IsClosing}
use Rattle.dx_closing.proofs.Numbers.{above_numbered, numbered_below}
use Rattle.dx_closing.proofs.Served.{gone_fits}
use Rattle.dx_closing.proofs.Steps.{fits_at}
use Rattle.dx_logical.proofs.Facts.{given_among, numbered_further}

-- the existential variables of these cells are below n
abbrev Below : ℕ → List Cell → Type 0
Below n cells = Each (flat_map existential_in cells) (λ v. v < n)

cell_numbered : (n F : ℕ) (cells : List Cell) (o : Option Cell) → Below n cells → ((x : Cell) → o ≡ Some x → x ∈ cells)
    → ByFirstAppearance (n + F) (existential_in (unwrap_or o (Ex (n + F))) ++ []) (n + (F + cond (is_some o) 0 1))
cell_numbered n F cells None b h = inr (refl, omega arith)
cell_numbered n F cells (Some (Var x)) b h = omega arith
cell_numbered n F cells (Some (Ex v)) b h = let l = b v (in_flat_map existential_in {x = Ex v} (h (Ex v) refl) (here refl)) in inl (omega (arith, l), omega arith)
cell_numbered n F cells (Some (Lit t)) b h = omega arith

row_numbered : (n : ℕ) (ks : List ℕ) (cells : List Cell) (w : ℕ) → Below n cells → ByFirstAppearance n (flat_map existential_in (row_with_fresh Ex n ks cells w)) (n + fresh_below ks cells w)
row_numbered n ks cells zero b = omega arith
row_numbered n ks cells (suc w) b =
    let last = unwrap_or (given_item ks cells w) (Ex (n + fresh_below ks cells w)) in
    let m = n + fresh_below ks cells (suc w) in
    subst (λ (xs : List ℕ). ByFirstAppearance n xs m) (sym (flat_map-append existential_in (row_with_fresh Ex n ks cells w) (last ∷ [])))
    (numbered_further n (n + fresh_below ks cells w) m (flat_map existential_in (row_with_fresh Ex n ks cells w)) (flat_map existential_in (last ∷ []))
    (row_numbered n ks cells w b) (cell_numbered n (fresh_below ks cells w) cells (given_item ks cells w) b (λ x g. given_among ks cells w x g)))

-- chosen cells have no other existential variables
chosen_below : (n : ℕ) (columns : List ℕ) (row : List Cell) → AllInside columns (length row) → Below n row → Below n (cells_in columns row)
chosen_below n columns row h b v m =
    let r = from_flat_map existential_in (cells_in columns row) {y = v} m in
    let k = from_map (λ c. slice_index_or row c (Lit [])) columns {y = r.0} r.1 in
    b v (in_flat_map existential_in {x = r.0} {xs = row} (rw (← k.2) (in_at row k.0 (Lit []) (h k.0 k.1))) r.2)

pub existentials-push : (C : List Atom) (a : Atom) → existentials (C ++ a ∷ []) ≡ existentials C ++ flat_map existential_in a.cells
existentials-push C a =
    let e : cells_of (C ++ a ∷ []) ≡ cells_of C ++ a.cells = flat_map-append (λ (b : Atom). b.cells) C (a ∷ []) ∙ ap (λ xs. cells_of C ++ xs) (append-nil a.cells) in
    ap (flat_map existential_in) e ∙ flat_map-append existential_in (cells_of C) a.cells

-- a conclusion that grows is numbered
abbrev IsNumbered : Growing → Type 0
IsNumbered C = ByFirstAppearance 0 (existentials C.atoms) C.next

-- one that has grown to D is numbered, and up to no lower number
record Goes (C D : Growing) : Type 0 where
  pub numbered : IsNumbered D
  pub more : C.next ≤ D.next

link_numbered : (schema : List Table) (row : List Cell) (C : Growing) (l : Link) → LinkFits schema (length row) l → Below C.next row → IsNumbered C → Goes C (through_link schema row C l)
link_numbered schema row C l fit b n =
    let cells = cells_in l.from row in
    let w = (table_of schema l.table).width in
    let D = supplied schema C l cells in
    let test = list_any (serves l cells) C.atoms in
    let new : Atom = record { table = l.table; cells = row_with_fresh Ex C.next l.to cells w } in
    let whole : IsNumbered D = subst (λ (xs : List ℕ). ByFirstAppearance 0 xs (C.next + fresh_below l.to cells w)) (sym (existentials-push C.atoms new))
    (numbered_further 0 C.next (C.next + fresh_below l.to cells w) (existentials C.atoms) (flat_map existential_in new.cells) n (row_numbered C.next l.to cells w (chosen_below C.next l.from row fit.from b))) in
    elim (cases_Bool test) [
      | inl t ↦ let i = cond-true test C D t in rw i (record { numbered = n; more = omega arith })
      | inr f ↦ let i = cond-false test C D f in rw i (record { numbered = whole; more = omega arith })
    ]

links_numbered : (schema : List Table) (row : List Cell) (C : Growing) (ls : List Link) → Each ls (LinkFits schema (length row)) → Below C.next row → IsNumbered C → Goes C (through_links schema row C ls)
links_numbered schema row C [] fit b n = record { numbered = n; more = omega arith }
links_numbered schema row C (l ∷ ls) fit b n =
    let D = through_link schema row C l in
    let p = link_numbered schema row C l (fit l (here refl)) b n in
    let q = links_numbered schema row D ls (λ k m. fit k (there m)) (λ v m. let h = b v m in omega (arith, h, p.more)) p.numbered in
    record { numbered = q.numbered; more = omega (arith, p.more, q.more) }

atom_numbered : (schema : List Table) (C : Growing) (o : Option Atom) → LinksFit schema → Each C.atoms (AtomFits schema) → ((a : Atom) → o ≡ Some a → a ∈ C.atoms) → IsNumbered C
    → IsNumbered (through_atom schema C o)
atom_numbered schema C None fits fit h n = n
atom_numbered schema C (Some a) fits fit h n =
    let m = h a refl in
    let f = fit a m in
    let each : Each (table_of schema a.table).links (LinkFits schema (length a.cells)) = λ l i. rw f.width (fits_at schema a.table fits f.table l i) in
    let below : Below C.next a.cells = λ v i. let r = from_flat_map existential_in a.cells {y = v} i in
    numbered_below 0 C.next (existentials C.atoms) n v (in_flat_map existential_in {x = r.0} (in_flat_map (λ (b : Atom). b.cells) {x = a} m r.1) r.2) in
    (links_numbered schema a.cells C (table_of schema a.table).links each below n).numbered

gone_numbered : (schema : List Table) (C : List Atom) (n : ℕ) → LinksFit schema → Each C (AtomFits schema) → AreNumbered C → IsNumbered (gone schema (begun C) n)
gone_numbered schema C zero fits fit k = rw (above_numbered 0 k.0 (existentials C) k.1) k.1
gone_numbered schema C (suc n) fits fit k =
    let D = gone schema (begun C) n in
    atom_numbered schema D (slice_get D.atoms n) fits (gone_fits schema C n fits fit) (λ a e. get_in D.atoms n a e) (gone_numbered schema C n fits fit k)

pub closing_numbered : (schema : List Table) (C E : List Atom) → LinksFit schema → Each C (AtomFits schema) → AreNumbered C → IsClosing schema C E → AreNumbered E
closing_numbered schema C E fits fit k c =
    let D = gone schema (begun C) (length E) in
    (D.next, subst (λ (F : List Atom). ByFirstAppearance 0 (existentials F) D.next) c (gone_numbered schema C (length E) fits fit k))
