-- The variables of a conclusion, in order.
use Rattle.std.proofs.Common.{◌≡◌, ℕ, zero, suc, ◌+◌, ◌<◌, List, [], ◌∷◌, ◌++◌, refl, sym, ◌∙◌, ap, arith, length, take, get_or}
use Rattle.std.specs.Prelude.{nat_eq}
use Rattle.std.specs.Ordering.{nat_cmp}
use Rattle.std.specs.Cmp.{unsigned_ties}
use Rattle.std.specs.List.{dedup, AllByRecursion}
use Rattle.std.specs.List.Sorted.{IsStrictlySortedBy, IsSorted, IsPermutation}
use Rattle.std.specs.declared.cmp.Ordering.TheVariants.{Less}
use Rattle.std.proofs.lemmas.List.{take_more}
use Rattle.std.proofs.lemmas.List.Kept.{IsStrictlySortedBy-dedup, Contains-dedup_nat, Contains-from_dedup}
use Rattle.std.proofs.lemmas.List.Sorted.{Contains-permutation, IsPermutation-sym}
use Rattle.std.proofs.lemmas.Cmp.{nat_cmp_total}
use Rattle.dx_model.specs.declared.rules.Cell.{Cell}
use Rattle.dx_model.specs.declared.rules.Cell.TheVariants.{Var, Ex, Lit}
use Rattle.dx_model.specs.declared.rules.Atom.{Atom}
use Rattle.dx_model.specs.declared.rules.Rule.{Rule}
use Rattle.dx_base.specs.Members.{◌∈◌, here, there}
use Rattle.dx_model.specs.Rules.{Increase, cells_of, exported}
use Rattle.dx_model.proofs.Canonical.{exported_exactly}
use Rattle.dx_base.proofs.Members.{contains_from_in, in_from_contains}
use Rattle.dx_instance.proofs.KeyFacts.{from_less}
use Rattle.dx_tgd.specs.Variables.{variables_in}

pub variables_append : (cs ds : List Cell) → variables_in (cs ++ ds) ≡ variables_in cs ++ variables_in ds
variables_append [] ds = refl
variables_append (Var x ∷ cs) ds = ap (λ (l : List ℕ). x ∷ l) (variables_append cs ds)
variables_append (Ex v ∷ cs) ds = variables_append cs ds
variables_append (Lit t ∷ cs) ds = variables_append cs ds

pub cells_more : (atoms : List Atom) (i : ℕ) (a : Atom) → i < length atoms → a ≡ get_or atoms i a → cells_of (take (i + 1) atoms) ≡ cells_of (take i atoms) ++ a.cells
cells_more [] i a h e = absurd (omega arith)
cells_more (b ∷ atoms) zero a h e = rw e (append_nil b.cells)
  where
    append_nil : (l : List Cell) → l ++ [] ≡ l
    append_nil [] = refl
    append_nil (x ∷ l) = ap (λ (m : List Cell). x ∷ m) (append_nil l)
cells_more (b ∷ atoms) (suc i) a h e =
    let n : suc i + 1 ≡ suc (i + 1) = omega arith in
    rw n (ap (λ (l : List Cell). b.cells ++ l) (cells_more atoms i a (omega arith) e) ∙ sym (assoc b.cells (cells_of (take i atoms)) a.cells))
  where
    assoc : (x y z : List Cell) → (x ++ y) ++ z ≡ x ++ (y ++ z)
    assoc [] y z = refl
    assoc (w ∷ x) y z = ap (λ (m : List Cell). w ∷ m) (assoc x y z)

pub in_variables_in : (x : ℕ) (cs : List Cell) → Var x ∈ cs → x ∈ variables_in cs
in_variables_in x [] m = elim m [ ]
in_variables_in x (c ∷ cs) (here e) = rw e (here refl)
in_variables_in x (Var y ∷ cs) (there m) = there (in_variables_in x cs m)
in_variables_in x (Ex v ∷ cs) (there m) = in_variables_in x cs m
in_variables_in x (Lit t ∷ cs) (there m) = in_variables_in x cs m

pub from_variables_in : (x : ℕ) (cs : List Cell) → x ∈ variables_in cs → Var x ∈ cs
from_variables_in x [] m = elim m [ ]
from_variables_in x (Var y ∷ cs) (here e) = here (ap Var e)
from_variables_in x (Var y ∷ cs) (there m) = there (from_variables_in x cs m)
from_variables_in x (Ex v ∷ cs) m = there (from_variables_in x cs m)
from_variables_in x (Lit t ∷ cs) m = there (from_variables_in x cs m)

up_unique : (xs ys : List ℕ) → Increase xs → Increase ys → ((x : ℕ) → x ∈ xs → x ∈ ys) → ((x : ℕ) → x ∈ ys → x ∈ xs) → xs ≡ ys
up_unique [] [] u v f g = refl
up_unique [] (y ∷ ys) u v f g = elim (g y (here refl)) [ ]
up_unique (x ∷ xs) [] u v f g = elim (f x (here refl)) [ ]
up_unique (x ∷ xs) (y ∷ ys) u v f g =
    let e : x ≡ y = first (f x (here refl)) (g y (here refl)) in
    let r : xs ≡ ys = up_unique xs ys u.1 v.1
    (λ z m. below z (u.0 z m) e (f z (there m))) (λ z m. above z (v.0 z m) e (g z (there m))) in
    cc
  where
    first : x ∈ (y ∷ ys) → y ∈ (x ∷ xs) → x ≡ y
    first (here e) q = sym e
    first (there m) (here e) = e
    first (there m) (there n) = absurd (less (v.0 x m) (u.0 y n))
      where
        less : y < x → x < y → ⊥
        less a b = omega arith

    below : (z : ℕ) → x < z → x ≡ y → z ∈ (y ∷ ys) → z ∈ ys
    below z h e (here d) = absurd (omega arith)
    below z h e (there m) = m

    above : (z : ℕ) → y < z → x ≡ y → z ∈ (x ∷ xs) → z ∈ xs
    above z h e (here d) = absurd (omega arith)
    above z h e (there m) = m

cell_variables_at : (cs : List Cell) (i : ℕ) (c : Cell) (x : ℕ) → i < length cs → c ≡ get_or cs i c → c ≡ Var x → variables_in (take (i + 1) cs) ≡ variables_in (take i cs) ++ x ∷ []
cell_variables_at cs i c x h e d = rw (take_more cs i c h, variables_append (take i cs) (get_or cs i c ∷ []), ← e, d) refl

pub cell_variables : (before : List ℕ) (cs : List Cell) (i : ℕ) (c : Cell) (x : ℕ) (vars : List ℕ) → i < length cs → c ≡ get_or cs i c → c ≡ Var x
    → vars ≡ before ++ variables_in (take i cs) → vars ++ x ∷ [] ≡ before ++ variables_in (take (i + 1) cs)
cell_variables before cs i c x vars h e d v = ap (λ (l : List ℕ). l ++ x ∷ []) v ∙ (assoc before (variables_in (take i cs)) ∙ ap (λ (l : List ℕ). before ++ l) (sym (cell_variables_at cs i c x h e d)))
  where
    assoc : (a b : List ℕ) → (a ++ b) ++ x ∷ [] ≡ a ++ (b ++ x ∷ [])
    assoc [] b = refl
    assoc (y ∷ a) b = ap (λ (l : List ℕ). y ∷ l) (assoc a b)

none_of : (c : Cell) → ((x : ℕ) → ¬ (c ≡ Var x)) → variables_in (c ∷ []) ≡ []
none_of (Var x) n = absurd (n x refl)
none_of (Ex v) n = refl
none_of (Lit t) n = refl

pub no_variable : (before : List ℕ) (cs : List Cell) (i : ℕ) (c : Cell) (vars : List ℕ) → i < length cs → c ≡ get_or cs i c → ((x : ℕ) → ¬ (c ≡ Var x))
    → vars ≡ before ++ variables_in (take i cs) → vars ≡ before ++ variables_in (take (i + 1) cs)
no_variable before cs i c vars h e n v = v ∙ ap (λ (l : List ℕ). before ++ l) (sym (ap variables_in (take_more cs i c h) ∙ (variables_append (take i cs) (get_or cs i c ∷ [])
    ∙ (ap (λ (d : Cell). variables_in (take i cs) ++ variables_in (d ∷ [])) (sym e) ∙ (ap (λ (l : List ℕ). variables_in (take i cs) ++ l) (none_of c n) ∙ append_nil (variables_in (take i cs)))))))
  where
    append_nil : (l : List ℕ) → l ++ [] ≡ l
    append_nil [] = refl
    append_nil (x ∷ l) = ap (λ (m : List ℕ). x ∷ m) (append_nil l)

all_less : (x : ℕ) (xs : List ℕ) → AllByRecursion (λ y. nat_cmp x y ≡ Less) xs → (y : ℕ) → y ∈ xs → nat_cmp x y ≡ Less
all_less x [] h y m = elim m [ ]
all_less x (z ∷ xs) h y (here e) = rw (← e) h.0
all_less x (z ∷ xs) h y (there m) = all_less x xs h.1 y m

up_from : (xs : List ℕ) → IsStrictlySortedBy nat_cmp xs → Increase xs
unfolding IsStrictlySortedBy
up_from [] h = tt
up_from (x ∷ xs) h = ((λ y m. from_less x y (all_less x xs h.0 y m)), up_from xs h.1)

pub sorted_is : (d : Rule) (found sorted : List ℕ) → found ≡ variables_in (cells_of d.conclusion) → IsPermutation found sorted → IsSorted nat_cmp sorted → dedup nat_eq sorted ≡ exported d
sorted_is d found sorted e p s =
    let x = exported_exactly d in
    up_unique (dedup nat_eq sorted) (exported d) (up_from (dedup nat_eq sorted) (IsStrictlySortedBy-dedup nat_cmp_total unsigned_ties sorted s)) x.0
    (λ y m. (x.1 y).1 (from_variables_in y (cells_of d.conclusion) (rw (← e) (in_from_contains found y (Contains-permutation sorted found y (IsPermutation-sym found sorted p) (Contains-from_dedup nat_eq sorted y (contains_from_in m)))))))
    (λ y m. in_from_contains (dedup nat_eq sorted) y (Contains-dedup_nat sorted y (Contains-permutation found sorted y p (contains_from_in (rw e (in_variables_in y (cells_of d.conclusion) ((x.1 y).0 m)))))))
