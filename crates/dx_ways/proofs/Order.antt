-- The order of picks is total and exact, and a list that ascends is one by its members.
use Rattle.std.proofs.Common.{◌≡◌, ℕ, ◌≤◌, List, [], ◌∷◌, length, refl, sym, ◌∙◌, ap, subst, arith}
use Rattle.std.specs.Cmp.{IsTotalOrder, tied_itself}
use Rattle.std.specs.Cmp.Lexicographic.{slice_cmp, texts_ties}
use Rattle.std.specs.Ordering.{nat_cmp, ordering_then, ordering_reverse, is_lt, is_eq}
use Rattle.std.specs.declared.cmp.Ordering.{Ordering}
use Rattle.std.specs.declared.cmp.Ordering.TheVariants.{Less, Equal, Greater}
use Rattle.std.proofs.lemmas.Bool.{true≢false}
use Rattle.std.proofs.lemmas.Cmp.{then_total, on_total, nat_cmp_total, nat_list_cmp_total}
use Rattle.std.proofs.lemmas.Map.Lookups.{exact_unsigned}
use Rattle.std.proofs.lemmas.Slice.Eq.{bytes_eq-Decides}
use Rattle.dx_base.specs.Members.{◌∈◌, here, there, ◌⊆◌, Each}
use Rattle.dx_lines.specs.declared.term.Term.{Term}
use Rattle.dx_lines.specs.declared.term.Term.TheVariants.{Var, Call}
use Rattle.dx_lines.specs.declared.candidate.Pick.{Pick}
use Rattle.dx_lines.specs.Ways.{pick, term_cmp, pick_cmp}
use Rattle.dx_ways.specs.Laws.{PicksAscend, OnePickList}

-- ---- the order

call_total : IsTotalOrder (λ (x y : ℕ × List ℕ). ordering_then (nat_cmp x.0 y.0) (slice_cmp nat_cmp x.1 y.1))
call_total = then_total (on_total (λ x. x.0) nat_cmp_total) (on_total (λ x. x.1) nat_list_cmp_total)

term_antisymm : (x y : Term) → term_cmp x y ≡ ordering_reverse (term_cmp y x)
term_antisymm (Var x) (Var y) = nat_cmp_total.antisymm x y
term_antisymm (Var x) (Call d ds) = refl
term_antisymm (Call c cs) (Var y) = refl
term_antisymm (Call c cs) (Call d ds) = call_total.antisymm (c, cs) (d, ds)

term_trans : (x y z : Term) → term_cmp x y ≡ Less → term_cmp y z ≡ Less → term_cmp x z ≡ Less
term_trans (Var x) (Var y) (Var z) a b = nat_cmp_total.trans x y z a b
term_trans (Var x) y (Call d ds) a b = refl
term_trans (Var x) (Call c cs) (Var z) a b = absurd (cc)
term_trans (Call c cs) (Var y) z a b = absurd (cc)
term_trans (Call c cs) (Call d ds) (Var z) a b = absurd (cc)
term_trans (Call c cs) (Call d ds) (Call f fs) a b = call_total.trans (c, cs) (d, ds) (f, fs) a b

term_congr : (x y z : Term) → term_cmp x y ≡ Equal → term_cmp x z ≡ term_cmp y z
term_congr (Var x) (Var y) (Var z) a = nat_cmp_total.congr x y z a
term_congr (Var x) (Var y) (Call d ds) a = refl
term_congr (Var x) (Call c cs) z a = absurd (cc)
term_congr (Call c cs) (Var y) z a = absurd (cc)
term_congr (Call c cs) (Call d ds) (Var z) a = refl
term_congr (Call c cs) (Call d ds) (Call f fs) a = call_total.congr (c, cs) (d, ds) (f, fs) a

pub term_total : IsTotalOrder term_cmp
term_total = record { antisymm = term_antisymm; trans = term_trans; congr = term_congr }

pub pick_total : IsTotalOrder pick_cmp
pick_total = then_total (on_total (λ (k : Pick). k.variable) nat_cmp_total) (on_total (λ (k : Pick). k.term) term_total)

then_equal : (o p : Ordering) → ordering_then o p ≡ Equal → (o ≡ Equal) × (p ≡ Equal)
then_equal Less p e = absurd (cc)
then_equal Equal p e = (refl, e)
then_equal Greater p e = absurd (cc)

list_exact : (xs ys : List ℕ) → slice_cmp nat_cmp xs ys ≡ Equal → xs ≡ ys
list_exact xs ys e = (bytes_eq-Decides xs ys).0 (texts_ties xs ys ∙ ap is_eq e)

pub term_exact : (x y : Term) → term_cmp x y ≡ Equal → x ≡ y
term_exact (Var x) (Var y) e = ap Var (exact_unsigned x y e)
term_exact (Var x) (Call d ds) e = absurd (cc)
term_exact (Call c cs) (Var y) e = absurd (cc)
term_exact (Call c cs) (Call d ds) e =
    let p = then_equal (nat_cmp c d) (slice_cmp nat_cmp cs ds) e in
    let a = exact_unsigned c d p.0 in
    let b = list_exact cs ds p.1 in
    cc

-- picks that are tied are one
pub pick_exact : (j k : Pick) → pick_cmp j k ≡ Equal → j ≡ k
pick_exact j k e =
    let p = then_equal (nat_cmp j.variable k.variable) (term_cmp j.term k.term) e in
    let a = exact_unsigned j.variable k.variable p.0 in
    let b = term_exact j.term k.term p.1 in
    ap (λ (y : ℕ). pick y j.term) a ∙ ap (pick k.variable) b

-- no pick is below itself
pub not_below : (j : Pick) → ¬ (pick_cmp j j ≡ Less)
not_below j e = absurd (true≢false (ap is_lt (sym e ∙ tied_itself pick_total j)))

not_both : (j k : Pick) → pick_cmp j k ≡ Less → ¬ (pick_cmp k j ≡ Less)
not_both j k a b = not_below j (pick_total.trans j k j a b)

-- the one that is not below is above
pub above : (j k : Pick) → pick_cmp j k ≡ Greater → pick_cmp k j ≡ Less
above j k e = pick_total.antisymm k j ∙ ap ordering_reverse e

-- ---- lists that ascend

-- what is in a list and is not its first one is in the rest
in_rest : (k y : Pick) (ks : List Pick) → ¬ (y ≡ k) → k ∈ (y ∷ ks) → k ∈ ks
in_rest k y ks n (here e) = absurd (n e)
in_rest k y ks n (there m) = m

not_same : (j k : Pick) → pick_cmp j k ≡ Less → ¬ (j ≡ k)
not_same j k l e = not_below j (subst (λ (i : Pick). pick_cmp j i ≡ Less) (sym e) l)

-- the first ones of two lists with the same members are one
first_same : (j k : Pick) (js ks : List Pick) → Each js (λ i. pick_cmp j i ≡ Less) → Each ks (λ i. pick_cmp k i ≡ Less) → j ∈ (k ∷ ks) → k ∈ (j ∷ js) → k ≡ j
first_same j k js ks a b (here e) n = e
first_same j k js ks a b (there m) (here e) = sym e
first_same j k js ks a b (there m) (there n) = absurd (not_both j k (a k n) (b j m))

pub one_ascending : OnePickList
one_ascending [] [] a b h = refl
one_ascending [] (k ∷ ks) a b h = elim ((h k).1 (here refl)) [ ]
one_ascending (j ∷ js) [] a b h = elim ((h j).0 (here refl)) [ ]
one_ascending (j ∷ js) (k ∷ ks) a b h =
    let e = first_same j k js ks a.0 b.0 ((h j).0 (here refl)) ((h k).1 (here refl)) in
    let to : (i : Pick) → i ∈ js → i ∈ ks = λ i m. in_rest i k ks (λ d. not_same j i (a.0 i m) (sym e ∙ d)) ((h i).0 (there m)) in
    let from : (i : Pick) → i ∈ ks → i ∈ js = λ i m. in_rest i j js (λ d. not_same k i (b.0 i m) (e ∙ d)) ((h i).1 (there m)) in
    let r = one_ascending js ks a.1 b.1 (λ i. (to i, from i)) in
    cc

-- members of a list whose first one stands in a list of later picks stand there too
in_later : (j k : Pick) (js ks : List Pick) → Each js (λ i. pick_cmp j i ≡ Less) → Each ks (λ i. pick_cmp k i ≡ Less) → (j ∷ js) ⊆ (k ∷ ks) → j ∈ ks → (j ∷ js) ⊆ ks
in_later j k js ks a b h n i (here e) = subst (λ (z : Pick). z ∈ ks) e n
in_later j k js ks a b h n i (there m) = in_rest i k ks (not_same k i (pick_total.trans k j i (b j n) (a i m))) (h i (there m))

-- a list that ascends is no longer than one that ascends and has its members
pub no_longer : (js ks : List Pick) → PicksAscend js → PicksAscend ks → js ⊆ ks → length js ≤ length ks
no_longer [] ks a b h = omega arith
no_longer (j ∷ js) [] a b h = elim (h j (here refl)) [ ]
no_longer (j ∷ js) (k ∷ ks) a b h =
    by (h j (here refl)) (λ (g : js ⊆ ks). no_longer js ks a.1 b.1 g) (λ (g : (j ∷ js) ⊆ ks). no_longer (j ∷ js) ks a b.1 g)
  where
    by : j ∈ (k ∷ ks) → (js ⊆ ks → length js ≤ length ks) → ((j ∷ js) ⊆ ks → length (j ∷ js) ≤ length ks) → length (j ∷ js) ≤ length (k ∷ ks)
    by (here e) f g = let l = f (λ i m. in_rest i k ks (λ d. not_same j i (a.0 i m) (sym e ∙ d)) (h i (there m))) in omega (arith, l)
    by (there n) f g = let l = g (in_later j k js ks a.0 b.0 h n) in omega (arith, l)
