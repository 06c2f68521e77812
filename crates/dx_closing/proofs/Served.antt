-- In a closing each link of each atom is served.
use Rattle.std.proofs.Common.{◌≡◌, ℕ, zero, suc, ◌+◌, ◌-◌, ◌<◌, true, Option, Some, None, List, [], ◌∷◌, ◌++◌, length, refl, sym, ◌∙◌, ap, subst, arith, inl, inr}
use Rattle.std.specs.Prelude.{slice_get, slice_index_or, nat_eq}
use Rattle.std.specs.List.{list_any}
use Rattle.std.proofs.lemmas.Bool.{cases_Bool, cases_lt, cond-true, cond-false, eqb-true, and_parts, false≢true}
use Rattle.std.proofs.lemmas.List.{length-map}
use Rattle.std.proofs.lemmas.Slice.Eq.{bytes_eq-Decides}
use Rattle.dx_base.specs.Members.{◌∈◌, here, there, Each, Distinct}
use Rattle.dx_base.proofs.Members.{in_left, in_right, from_append}
use Rattle.dx_base.proofs.Lists.{get_in}
use Rattle.dx_model.specs.declared.rules.Cell.{Cell}
use Rattle.dx_model.specs.declared.rules.Cell.TheVariants.{Var, Ex, Lit}
use Rattle.dx_model.specs.declared.rules.Atom.{Atom}
use Rattle.dx_model.specs.declared.tables.Link.{Link}
use Rattle.dx_model.specs.Tables.{Table, table_of, AllInside}
use Rattle.dx_model.specs.Solutions.{AtomFits, cells_in}
use Rattle.dx_logical.specs.Filled.{row_with_fresh}
use Rattle.dx_schema.specs.Links.{LinkFits, LinksFit}
use Rattle.dx_closing.specs.declared.growing.Growing.{Growing}
use Rattle.dx_closing.specs.Closing.{cells_are_one, has_cells, serves, supplied, through_link, through_links, through_atom, gone, begun, IsClosing}
use Rattle.dx_closing.specs.Laws.{ClosingServes}
use Rattle.dx_closing.proofs.Going.{gone_stays}
use Rattle.dx_closing.proofs.Growth.{adds_links, later}
use Rattle.dx_closing.proofs.Steps.{new_fits, fits_at}
use Rattle.dx_logical.proofs.Facts.{filled_at, map_given}

filled_cells : (n : ℕ) (ks : List ℕ) (cells : List Cell) (w : ℕ) → Distinct ks → length ks ≡ length cells → AllInside ks w → cells_in ks (row_with_fresh Ex n ks cells w) ≡ cells
filled_cells n ks cells w a e h =
    map_given ks cells (λ c. slice_index_or (row_with_fresh Ex n ks cells w) c (Lit [])) a e (λ c x m i. filled_at Ex n ks cells w c (Lit []) (h c m) ∙ rw i refl)

same_cell-true : (a b : Cell) → cells_are_one a b ≡ true → a ≡ b
same_cell-true (Var x) (Var y) e = ap Var (eqb-true x y e)
same_cell-true (Var x) (Ex w) e = absurd (false≢true e)
same_cell-true (Var x) (Lit t) e = absurd (false≢true e)
same_cell-true (Ex v) (Var y) e = absurd (false≢true e)
same_cell-true (Ex v) (Ex w) e = ap Ex (eqb-true v w e)
same_cell-true (Ex v) (Lit t) e = absurd (false≢true e)
same_cell-true (Lit s) (Var y) e = absurd (false≢true e)
same_cell-true (Lit s) (Ex w) e = absurd (false≢true e)
same_cell-true (Lit s) (Lit t) e = ap Lit ((bytes_eq-Decides s t).0 e)

has_cells-true : (row : List Cell) (cs : List ℕ) (xs : List Cell) → length cs ≡ length xs → has_cells row cs xs ≡ true → cells_in cs row ≡ xs
has_cells-true row [] [] e h = refl
has_cells-true row [] (x ∷ xs) e h = absurd (omega arith)
has_cells-true row (c ∷ cs) [] e h = absurd (omega arith)
has_cells-true row (c ∷ cs) (x ∷ xs) e h =
    let p = and_parts (cells_are_one (slice_index_or row c (Lit [])) x) (has_cells row cs xs) h in
    let a = same_cell-true (slice_index_or row c (Lit [])) x p.0 in
    let b = has_cells-true row cs xs (omega arith) p.1 in
    cc

-- an atom with the linked cells is there
abbrev pub Has : Link → List Cell → List Atom → Type 0
Has l cells E = (b : Atom) × (b ∈ E) × (b.table ≡ l.table) × (cells_in l.to b.cells ≡ cells)

found : (l : Link) (cells : List Cell) (E : List Atom) → length l.to ≡ length cells → list_any (serves l cells) E ≡ true → Has l cells E
found l cells [] e h = absurd (false≢true h)
found l cells (a ∷ E) e h = elim (cases_Bool (serves l cells a)) [
  | inl t ↦ let p = and_parts (nat_eq a.table l.table) (has_cells a.cells l.to cells) t in (a, here refl, eqb-true a.table l.table p.0, has_cells-true a.cells l.to cells e p.1)
  | inr n ↦ let r = found l cells E e (rw n at h) in (r.0, there r.1, r.2, r.3)
]

still : (l : Link) (cells : List Cell) (E more F : List Atom) → F ≡ E ++ more → Has l cells E → Has l cells F
still l cells E more F e h = (h.0, rw e (in_left more h.1), h.2, h.3)

-- after a link of a row, an atom has its cells
link_has : (schema : List Table) (row : List Cell) (C : Growing) (l : Link) → LinkFits schema (length row) l → Has l (cells_in l.from row) (through_link schema row C l).atoms
link_has schema row C l fit =
    let cells = cells_in l.from row in
    let b = list_any (serves l cells) C.atoms in
    let D = supplied schema C l cells in
    let e : length l.to ≡ length cells = sym (length-map l.from _ ∙ fit.same_length) in
    elim (cases_Bool b) [
      | inl t ↦ let i = cond-true b C D t in rw i (found l cells C.atoms e t)
      | inr n ↦ let i = cond-false b C D n in rw i (record { table = l.table; cells = row_with_fresh Ex C.next l.to cells (table_of schema l.table).width }, in_right C.atoms (here refl), refl, filled_cells C.next l.to cells (table_of schema l.table).width fit.to_distinct e fit.to)
    ]

have_one : (schema : List Table) (row : List Cell) (C : Growing) (k : Link) (ls : List Link) (l : Link) → l ∈ (k ∷ ls) → LinkFits schema (length row) k
    → (l ∈ ls → Has l (cells_in l.from row) (through_links schema row (through_link schema row C k) ls).atoms)
    → Has l (cells_in l.from row) (through_links schema row (through_link schema row C k) ls).atoms
have_one schema row C k ls l (here e) fit rest =
    let D = through_link schema row C k in
    let p = adds_links (λ t. 0) schema row D ls in
    let P : Link → Type 0 = λ j. Has j (cells_in j.from row) D.atoms in
    still l (cells_in l.from row) D.atoms p.more (through_links schema row D ls).atoms p.is (subst P e (link_has schema row C k fit))
have_one schema row C k ls l (there n) fit rest = rest n

links_have : (schema : List Table) (row : List Cell) (C : Growing) (ls : List Link) → ((l : Link) → l ∈ ls → LinkFits schema (length row) l)
    → (l : Link) → l ∈ ls → Has l (cells_in l.from row) (through_links schema row C ls).atoms
links_have schema row C [] fit l m = elim m [ ]
links_have schema row C (k ∷ ls) fit l m =
    have_one schema row C k ls l m (fit k (here refl)) (λ n. links_have schema row (through_link schema row C k) ls (λ j i. fit j (there i)) l n)

-- atoms that are supplied fit
fits_append : (schema : List Table) (E F : List Atom) → Each E (AtomFits schema) → Each F (AtomFits schema) → Each (E ++ F) (AtomFits schema)
fits_append schema E F p q a m = elim (from_append E m) [ inl i ↦ p a i | inr i ↦ q a i ]

link_fits : (schema : List Table) (row : List Cell) (C : Growing) (l : Link) → l.table < length schema → Each C.atoms (AtomFits schema) → Each (through_link schema row C l).atoms (AtomFits schema)
link_fits schema row C l h fit =
    let cells = cells_in l.from row in
    let b = list_any (serves l cells) C.atoms in
    let D = supplied schema C l cells in
    elim (cases_Bool b) [
      | inl t ↦ let i = cond-true b C D t in rw i fit
      | inr n ↦ let i = cond-false b C D n in rw i (fits_append schema C.atoms _ fit (new_fits schema C.next l cells h))
    ]

links_fit : (schema : List Table) (row : List Cell) (C : Growing) (ls : List Link) → ((l : Link) → l ∈ ls → l.table < length schema) → Each C.atoms (AtomFits schema) → Each (through_links schema row C ls).atoms (AtomFits schema)
links_fit schema row C [] h fit = fit
links_fit schema row C (l ∷ ls) h fit = links_fit schema row (through_link schema row C l) ls (λ k m. h k (there m)) (link_fits schema row C l (h l (here refl)) fit)

atom_fits : (schema : List Table) (C : Growing) (o : Option Atom) → LinksFit schema → Each C.atoms (AtomFits schema) → ((a : Atom) → o ≡ Some a → a.table < length schema) → Each (through_atom schema C o).atoms (AtomFits schema)
atom_fits schema C None fits fit h = fit
atom_fits schema C (Some a) fits fit h = links_fit schema a.cells C (table_of schema a.table).links (λ l m. (fits_at schema a.table fits (h a refl) l m).table) fit

pub gone_fits : (schema : List Table) (C : List Atom) (n : ℕ) → LinksFit schema → Each C (AtomFits schema) → Each (gone schema (begun C) n).atoms (AtomFits schema)
gone_fits schema C zero fits fit = fit
gone_fits schema C (suc n) fits fit =
    let p = gone_fits schema C n fits fit in
    atom_fits schema (gone schema (begun C) n) (slice_get (gone schema (begun C) n).atoms n) fits p (λ a e. (p a (get_in (gone schema (begun C) n).atoms n a e)).table)

-- the n-th atom is served after n + 1 steps
served_then : (schema : List Table) (C : List Atom) (n : ℕ) (a : Atom) (l : Link) → LinksFit schema → Each C (AtomFits schema) → slice_get (gone schema (begun C) n).atoms n ≡ Some a → l ∈ (table_of schema a.table).links
    → Has l (cells_in l.from a.cells) (gone schema (begun C) (suc n)).atoms
served_then schema C n a l fits fit e m =
    let f = gone_fits schema C n fits fit a (get_in (gone schema (begun C) n).atoms n a e) in
    let each : (k : Link) → k ∈ (table_of schema a.table).links → LinkFits schema (length a.cells) k = λ k i. rw f.width (fits_at schema a.table fits f.table k i) in
    rw e (links_have schema a.cells (gone schema (begun C) n) (table_of schema a.table).links each l m)

-- where a member stands
place_of : {X : Type 0} (xs : List X) (x : X) → x ∈ xs → (i : ℕ) × (i < length xs) × (slice_get xs i ≡ Some x)
place_of [] x m = elim m [ ]
place_of (y ∷ xs) x (here e) = (0, omega arith, ap Some e)
place_of (y ∷ xs) x (there m) = let r = place_of xs x m in (suc r.0, (let l = r.1 in omega arith), r.2)

get_left : {X : Type 0} (xs ys : List X) (i : ℕ) → i < length xs → slice_get (xs ++ ys) i ≡ slice_get xs i
get_left [] ys i h = absurd (omega arith)
get_left (x ∷ xs) ys zero h = refl
get_left (x ∷ xs) ys (suc i) h = get_left xs ys i (omega arith)

-- the n-th atom of a closing is there after n steps
there_by_then : (schema : List Table) (C E : List Atom) (n : ℕ) (a : Atom) → IsClosing schema C E → n < length E → slice_get E n ≡ Some a → slice_get (gone schema (begun C) n).atoms n ≡ Some a
there_by_then schema C E n a c h e =
    let s : (length E - n) + n ≡ length E = omega arith in
    let p = later schema (begun C) n (length E - n) in
    let q : E ≡ (gone schema (begun C) n).atoms ++ p.0 = sym c ∙ (rw s at p.1) in
    elim (cases_lt n (length (gone schema (begun C) n).atoms)) [
      | inl l ↦ sym (get_left (gone schema (begun C) n).atoms p.0 n l) ∙ (sym (ap (λ (xs : List Atom). slice_get xs n) q) ∙ e)
      | inr g ↦
          let t : gone schema (begun C) (length E) ≡ gone schema (begun C) n = rw s at (gone_stays schema (begun C) n (length E - n) g) in
          let u : length (gone schema (begun C) (length E)).atoms ≡ length (gone schema (begun C) n).atoms = ap (λ (D : Growing). length D.atoms) t in
          let v : length (gone schema (begun C) (length E)).atoms ≡ length E = ap length c in
          absurd (omega arith)
    ]

-- the links of each atom of a closing are served
pub served : (schema : List Table) (C E : List Atom) → LinksFit schema → Each C (AtomFits schema) → IsClosing schema C E
    → Each E (λ a. Each (table_of schema a.table).links (λ l. Has l (cells_in l.from a.cells) E))
served schema C E fits fit c a m l i =
    let r = place_of E a m in
    let h = served_then schema C r.0 a l fits fit (there_by_then schema C E r.0 a c r.1 r.2) i in
    let s : (length E - suc r.0) + suc r.0 ≡ length E = omega (arith, r.1) in
    let p = later schema (begun C) (suc r.0) (length E - suc r.0) in
    still l (cells_in l.from a.cells) (gone schema (begun C) (suc r.0)).atoms p.0 E (sym c ∙ (rw s at p.1)) h

pub closing_serves : ClosingServes
closing_serves schema d e fits fit c = record {
  fits = rw c.conclusion at (gone_fits schema d.conclusion (length e.conclusion) fits fit);
  links = served schema d.conclusion e.conclusion fits fit c.conclusion;
}
