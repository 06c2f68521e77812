-- Lists in which no member stands twice.
use Rattle.std.proofs.Common.{◌≡◌, ◌++◌, ◌∷◌, ℕ, suc, List, [], refl, sym, subst, arith, inl, inr}
use Rattle.std.specs.Prelude.{map}
use Rattle.std.specs.List.{AllPairs}
use Rattle.std.specs.declared.cmp.Ordering.TheVariants.{Less}
use Rattle.std.proofs.lemmas.Cmp.{nat_list_cmp_total}
use Rattle.dx_base.specs.Members.{◌∈◌, Distinct, here, there}
use Rattle.dx_base.proofs.Members.{contains_from_in, from_append, from_map}
use Rattle.dx_instance.proofs.TableFacts.{numbers_cmp}

never_less : (x : List ℕ) → ¬ (numbers_cmp x x ≡ Less)
never_less x e = let t = nat_list_cmp_total.antisymm x x in absurd (cc (rw e at t))

distinct_from : {X : Type 0} (xs : List X) → AllPairs (λ a b. ¬ (a ≡ b)) xs → Distinct xs
distinct_from [] h = tt
distinct_from (x ∷ xs) h = (
  (λ m. let c = contains_from_in m in h 0 (suc c.0) x (omega arith) (omega (arith, c.1)) (sym c.2)),
  distinct_from xs (λ i j d a b. h (suc i) (suc j) d (omega (arith, a)) (omega (arith, b))),
)

pub distinct_map : {X Y : Type 0} (f : X → Y) (xs : List X) → ((x y : X) → x ∈ xs → y ∈ xs → f x ≡ f y → x ≡ y) → Distinct xs → Distinct (map f xs)
distinct_map f [] apart d = tt
distinct_map f (x ∷ xs) apart d = (
  (λ m. let r = from_map f xs m in d.0 (subst (λ z. z ∈ xs) (apart r.0 x (there r.1) (here refl) r.2) r.1)),
  distinct_map f xs (λ a b m k. apart a b (there m) (there k)) d.1,
)

pub distinct_append : {X : Type 0} (xs ys : List X) → Distinct xs → Distinct ys → ((x : X) → x ∈ xs → ¬ (x ∈ ys)) → Distinct (xs ++ ys)
distinct_append [] ys d e n = e
distinct_append (x ∷ xs) ys d e n = (
  (λ m. elim (from_append xs m) [ inl l ↦ d.0 l | inr r ↦ n x (here refl) r ]),
  distinct_append xs ys d.1 e (λ y m. n y (there m)),
)
