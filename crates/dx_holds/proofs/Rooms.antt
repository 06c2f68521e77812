-- Existential variables and the numbers above them; what is asked of an instance.
use Rattle.std.proofs.Common.{◌≡◌, ◌∙◌, ℕ, suc, ◌+◌, ◌<◌, ◌≤◌, List, [], ◌∷◌, ◌++◌, inl, inr, refl, sym, ap, subst, arith, length, get_or, take}
use Rattle.std.specs.Prelude.{cond, nat_lt}
use Rattle.std.proofs.lemmas.Bool.{cases_lt}
use Rattle.std.proofs.lemmas.Bool.Decides.{nat_tests}
use Rattle.std.proofs.lemmas.List.{take_more, append-nil}
use Rattle.std.proofs.lemmas.Grind.{flat_map-append}
use Rattle.dx_base.specs.Members.{◌∈◌, here, there}
use Rattle.dx_base.proofs.Members.{from_append}
use Rattle.dx_model.specs.declared.rules.Atom.{Atom}
use Rattle.dx_model.specs.declared.rules.Cell.{Cell}
use Rattle.dx_model.specs.declared.rules.Cell.TheVariants.{Ex, Var, Lit}
use Rattle.dx_model.specs.declared.rules.Rule.{Rule}
use Rattle.dx_model.specs.Rules.{cells_of, exported}
use Rattle.dx_model.specs.Covers.{after_existential}
use Rattle.dx_model.specs.Fitting.{AtomsFitWidths}
use Rattle.dx_model.specs.Values.{Tuple}
use Rattle.dx_instance.specs.Stored.{TableRows, widths}
use Rattle.dx_instance.proofs.ValueNumbers.{wide_at}
use Rattle.dx_holds.specs.Rooms.{FitsRoom}
use Rattle.dx_holds.specs.Searching.{AtomsFitInstance}

greater : (v n : ℕ) → (n ≤ cond (nat_lt v n) n (suc v)) × (v < cond (nat_lt v n) n (suc v))
greater v n = elim (cases_lt v n) [
  | inl l ↦ (grind (arith, nat_tests), grind (arith, nat_tests))
  | inr l ↦ (grind (arith, nat_tests), grind (arith, nat_tests))
]

no_greater : (v n m : ℕ) → n ≤ m → v < m → cond (nat_lt v n) n (suc v) ≤ m
no_greater v n m a b = elim (cases_lt v n) [
  | inl l ↦ grind (arith, nat_tests)
  | inr l ↦ grind (arith, nat_tests)
]

-- an existential variable is below the number after them
pub ex_below : (cells : List Cell) (v : ℕ) → Ex v ∈ cells → v < after_existential cells
ex_below [] v m = elim m [ ]
ex_below (c ∷ cs) v (here e) = rw e (greater v (after_existential cs)).1
ex_below (Var x ∷ cs) v (there m) = ex_below cs v m
ex_below (Ex w ∷ cs) v (there m) = let h = ex_below cs v m in let g = (greater w (after_existential cs)).0 in omega (arith, h, g)
ex_below (Lit t ∷ cs) v (there m) = ex_below cs v m

pub after_least : (cells : List Cell) (n : ℕ) → ((v : ℕ) → Ex v ∈ cells → v < n) → after_existential cells ≤ n
after_least [] n h = omega arith
after_least (Var x ∷ cs) n h = after_least cs n (λ v m. h v (there m))
after_least (Ex w ∷ cs) n h = no_greater w (after_existential cs) n (after_least cs n (λ v m. h v (there m))) (h w (here refl))
after_least (Lit t ∷ cs) n h = after_least cs n (λ v m. h v (there m))

-- one atom more
pub above_more : (atoms : List Atom) (i old new : ℕ) (a : Atom) (cells : List Cell) → i < length atoms → a ≡ get_or atoms i a → cells ≡ a.cells → old ≤ new → ((v : ℕ) → Ex v ∈ cells → v < new)
    → ((v : ℕ) → Ex v ∈ cells_of (take i atoms) → v < old) → (v : ℕ) → Ex v ∈ cells_of (take (i + 1) atoms) → v < new
above_more atoms i old new a cells h e d up here_too before v m =
    let s : cells_of (take (i + 1) atoms) ≡ cells_of (take i atoms) ++ a.cells =
    ap cells_of (take_more atoms i a h ∙ ap (λ (x : Atom). take i atoms ++ x ∷ []) (sym e)) ∙ (flat_map-append (λ (x : Atom). x.cells) (take i atoms) (a ∷ []) ∙ ap (λ (l : List Cell). cells_of (take i atoms) ++ l) (append-nil a.cells)) in
    elim (from_append (cells_of (take i atoms)) (subst (λ (l : List Cell). Ex v ∈ l) s m)) [
      | inl l ↦ let q = before v l in omega (arith, q, up)
      | inr r ↦ here_too v (subst (λ (l : List Cell). Ex v ∈ l) (sym d) r)
    ]

-- a larger room fits as well
pub fits_larger : (d : Rule) (a b m n : ℕ) → a ≤ m → b ≤ n → FitsRoom (record { atoms = a; existentials = b }) d → FitsRoom (record { atoms = m; existentials = n }) d
fits_larger d a b m n h k f = record { atoms = omega (arith, h, f.atoms); existentials = omega (arith, k, f.existentials) }

pub is_asked : (I : List TableRows) (d : Rule) (t : Tuple) → AtomsFitWidths (widths I) d.conclusion → length t ≡ length (exported d) → AtomsFitInstance I d.conclusion t
is_asked I d t f l = record { tables = λ a m. wide_at I a.table (length a.cells) (f a m); tuple = l }
