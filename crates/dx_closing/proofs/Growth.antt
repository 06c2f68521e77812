-- What is added where atoms are gone through.
use Rattle.std.proofs.Common.{◌≡◌, ℕ, zero, suc, ◌+◌, ◌≤◌, Option, Some, None, List, [], ◌∷◌, ◌++◌, length, refl, sym, ◌∙◌, ap, arith, inl, inr}
use Rattle.std.specs.Prelude.{slice_get}
use Rattle.std.specs.List.{list_any}
use Rattle.std.proofs.lemmas.Bool.{cases_Bool, cond-true, cond-false}
use Rattle.std.proofs.lemmas.List.{append-nil, append_assoc}
use Rattle.dx_model.specs.declared.rules.Cell.{Cell}
use Rattle.dx_model.specs.declared.rules.Atom.{Atom}
use Rattle.dx_model.specs.declared.tables.Link.{Link}
use Rattle.dx_model.specs.Tables.{Table, table_of}
use Rattle.dx_model.specs.Solutions.{cells_in}
use Rattle.dx_closing.specs.declared.growing.Growing.{Growing}
use Rattle.dx_closing.specs.Laws.{ClosingKeeps}
use Rattle.dx_closing.specs.Closing.{serves, supplied, through_link, through_links, through_atom, gone, begun}

-- f of each atom's table, together
abbrev pub total : (ℕ → ℕ) → List Atom → ℕ
total f [] = 0
total f (a ∷ more) = f a.table + total f more

-- f of the tables that the links lead to, together
abbrev pub total_links : (ℕ → ℕ) → List Link → ℕ
total_links f [] = 0
total_links f (l ∷ ls) = f l.table + total_links f ls

pub total-append : (f : ℕ → ℕ) (xs ys : List Atom) → total f (xs ++ ys) ≡ total f xs + total f ys
total-append f [] ys = omega arith
total-append f (x ∷ xs) ys = let e = total-append f xs ys in omega arith

-- D has what C has and then more, which together is n at most
pub record Adds (f : ℕ → ℕ) (C D : Growing) (n : ℕ) : Type 0 where
  pub more : List Atom
  pub is : D.atoms ≡ C.atoms ++ more
  pub bound : total f more ≤ n

pub adds_none : (f : ℕ → ℕ) (C : Growing) → Adds f C C 0
adds_none f C = record { more = []; is = sym (append-nil C.atoms); bound = omega arith }

pub adds_both : (f : ℕ → ℕ) (C D E : Growing) (m n : ℕ) → Adds f C D m → Adds f D E n → Adds f C E (m + n)
adds_both f C D E m n p q = record {
  more = p.more ++ q.more;
  is = q.is ∙ (ap (λ (xs : List Atom). xs ++ q.more) p.is ∙ append_assoc C.atoms p.more q.more);
  bound = omega (arith, total-append f p.more q.more, p.bound, q.bound);
}

pub adds_link : (f : ℕ → ℕ) (schema : List Table) (row : List Cell) (C : Growing) (l : Link) → Adds f C (through_link schema row C l) (f l.table)
adds_link f schema row C l =
    let b = list_any (serves l (cells_in l.from row)) C.atoms in
    let D = supplied schema C l (cells_in l.from row) in
    elim (cases_Bool b) [
      | inl t ↦ let e = cond-true b C D t in rw e (record { more = []; is = sym (append-nil C.atoms); bound = omega arith })
      | inr n ↦ let e = cond-false b C D n in rw e (record { more = _; is = refl; bound = omega arith })
    ]

pub adds_links : (f : ℕ → ℕ) (schema : List Table) (row : List Cell) (C : Growing) (ls : List Link) → Adds f C (through_links schema row C ls) (total_links f ls)
adds_links f schema row C [] = adds_none f C
adds_links f schema row C (l ∷ ls) =
    adds_both f C (through_link schema row C l) (through_links schema row (through_link schema row C l) ls) (f l.table) (total_links f ls)
    (adds_link f schema row C l) (adds_links f schema row (through_link schema row C l) ls)

-- what f gives for the links of an atom, if there is one
abbrev pub owed : (ℕ → ℕ) → List Table → Option Atom → ℕ
owed f schema None = 0
owed f schema (Some a) = total_links f (table_of schema a.table).links

pub adds_atom : (f : ℕ → ℕ) (schema : List Table) (C : Growing) (o : Option Atom) → Adds f C (through_atom schema C o) (owed f schema o)
adds_atom f schema C None = adds_none f C
adds_atom f schema C (Some a) = adds_links f schema a.cells C (table_of schema a.table).links

-- n steps later there is what there was and more
pub later : (schema : List Table) (C : Growing) (n k : ℕ) → (more : List Atom) × ((gone schema C (k + n)).atoms ≡ (gone schema C n).atoms ++ more)
later schema C n zero = let e : 0 + n ≡ n = omega arith in rw e ([], sym (append-nil (gone schema C n).atoms))
later schema C n (suc k) =
    let e : suc k + n ≡ suc (k + n) = omega arith in
    let p = later schema C n k in
    let q = adds_atom (λ t. 0) schema (gone schema C (k + n)) (slice_get (gone schema C (k + n)).atoms (k + n)) in
    rw e (p.0 ++ q.more, q.is ∙ (ap (λ (xs : List Atom). xs ++ q.more) p.1 ∙ append_assoc (gone schema C n).atoms p.0 q.more))

pub closing_keeps : ClosingKeeps
closing_keeps schema C E h =
    let p = later schema (begun C) 0 (length E) in
    let e : length E + 0 ≡ length E = omega arith in
    (p.0, sym h ∙ (rw e at p.1))
