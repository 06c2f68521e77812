-- What a conclusion becomes where its atoms are gone through.
use Rattle.std.proofs.Common.{◌≡◌, ℕ, zero, suc, ◌+◌, ◌-◌, ◌<◌, ◌≤◌, Option, Some, None, List, [], ◌∷◌, length, refl, sym, ◌∙◌, ap, arith, inl, inr}
use Rattle.std.specs.Prelude.{slice_get}
use Rattle.std.specs.List.{list_any}
use Rattle.std.proofs.lemmas.Bool.{cases_lt, cond_both}
use Rattle.std.proofs.lemmas.List.{length_push}
use Rattle.dx_model.specs.declared.rules.Cell.{Cell}
use Rattle.dx_model.specs.declared.rules.Atom.{Atom}
use Rattle.dx_model.specs.declared.tables.Link.{Link}
use Rattle.dx_model.specs.Tables.{Table, table_of}
use Rattle.dx_model.specs.Solutions.{cells_in}
use Rattle.dx_closing.specs.declared.growing.Growing.{Growing}
use Rattle.dx_closing.specs.Closing.{serves, supplied, through_link, through_links, through_atom, gone, begun, IsClosing}
use Rattle.dx_closing.specs.Laws.{OneClosing}

-- a conclusion only grows
pub link_grows : (schema : List Table) (row : List Cell) (C : Growing) (l : Link) → length C.atoms ≤ length (through_link schema row C l).atoms
link_grows schema row C l =
    let e : length (supplied schema C l (cells_in l.from row)).atoms ≡ length C.atoms + 1 = length_push C.atoms _ in
    let P : Growing → Type 0 = λ D. length C.atoms ≤ length D.atoms in
    cond_both (list_any (serves l (cells_in l.from row)) C.atoms) C (supplied schema C l (cells_in l.from row)) P (λ _. omega arith) (λ _. omega arith)

pub links_grow : (schema : List Table) (row : List Cell) (C : Growing) (ls : List Link) → length C.atoms ≤ length (through_links schema row C ls).atoms
links_grow schema row C [] = omega arith
links_grow schema row C (l ∷ ls) =
    let a = link_grows schema row C l in
    let b = links_grow schema row (through_link schema row C l) ls in
    omega (arith, a, b)

pub atom_grows : (schema : List Table) (C : Growing) (o : Option Atom) → length C.atoms ≤ length (through_atom schema C o).atoms
atom_grows schema C None = omega arith
atom_grows schema C (Some a) = links_grow schema a.cells C (table_of schema a.table).links

pub gone_grows : (schema : List Table) (C : Growing) (n k : ℕ) → length (gone schema C n).atoms ≤ length (gone schema C (k + n)).atoms
gone_grows schema C n zero = let e : 0 + n ≡ n = omega arith in rw e (omega arith)
gone_grows schema C n (suc k) =
    let e : suc k + n ≡ suc (k + n) = omega arith in
    let a = gone_grows schema C n k in
    let b = atom_grows schema (gone schema C (k + n)) (slice_get (gone schema C (k + n)).atoms (k + n)) in
    rw e (omega (arith, a, b))

pub get_past : {X : Type 0} (xs : List X) (i : ℕ) → length xs ≤ i → slice_get xs i ≡ None
get_past [] i h = refl
get_past (x ∷ xs) zero h = absurd (omega arith)
get_past (x ∷ xs) (suc i) h = get_past xs i (omega arith)

-- past the end nothing more comes
pub gone_stays : (schema : List Table) (C : Growing) (n k : ℕ) → length (gone schema C n).atoms ≤ n → gone schema C (k + n) ≡ gone schema C n
gone_stays schema C n zero h = let e : 0 + n ≡ n = omega arith in rw e refl
gone_stays schema C n (suc k) h =
    let e : suc k + n ≡ suc (k + n) = omega arith in
    let i = gone_stays schema C n k h in
    rw (e, i, get_past (gone schema C n).atoms (k + n) (omega arith)) refl

-- where it was too wide once, each closing is
pub closing_wide : (schema : List Table) (C E : List Atom) (n : ℕ) → IsClosing schema C E → 64 < length (gone schema (begun C) n).atoms → 64 < length E
closing_wide schema C E n c h = elim (cases_lt (length E) n) [
  | inl m ↦
      let e : (n - length E) + length E ≡ n = omega arith in
      let l : length (gone schema (begun C) (length E)).atoms ≡ length E = ap length c in
      let s : gone schema (begun C) n ≡ gone schema (begun C) (length E) = rw e at (gone_stays schema (begun C) (length E) (n - length E) (omega arith)) in
      let t : length (gone schema (begun C) n).atoms ≡ length (gone schema (begun C) (length E)).atoms = ap (λ (D : Growing). length D.atoms) s in
      omega arith
  | inr m ↦
      let e : (length E - n) + n ≡ length E = omega arith in
      let l : length (gone schema (begun C) (length E)).atoms ≡ length E = ap length c in
      let g : length (gone schema (begun C) n).atoms ≤ length (gone schema (begun C) (length E)).atoms = rw e at (gone_grows schema (begun C) n (length E - n)) in
      omega arith
]

-- there is one closing
one_way : (schema : List Table) (C E F : List Atom) → IsClosing schema C E → IsClosing schema C F → length E ≤ length F → E ≡ F
one_way schema C E F c d h =
    let e : (length F - length E) + length E ≡ length F = omega arith in
    let l : length (gone schema (begun C) (length E)).atoms ≡ length E = ap length c in
    let s : gone schema (begun C) (length F) ≡ gone schema (begun C) (length E) = rw e at (gone_stays schema (begun C) (length E) (length F - length E) (omega arith)) in
    sym c ∙ (sym (ap (λ (D : Growing). D.atoms) s) ∙ d)

pub one_closing : OneClosing
one_closing schema C E F c d = elim (cases_lt (length E) (length F)) [
  | inl l ↦ one_way schema C E F c d (omega arith)
  | inr g ↦ sym (one_way schema C F E d c g)
]

-- where all atoms are gone through there is the closing
pub at_end : (schema : List Table) (C : List Atom) (D : Growing) (n : ℕ) → D ≡ gone schema (begun C) n → length D.atoms ≤ n → n ≤ length D.atoms → IsClosing schema C D.atoms
at_end schema C D n d h g =
    let e : length D.atoms ≡ n = omega arith in
    rw e (sym (ap (λ (F : Growing). F.atoms) d))
