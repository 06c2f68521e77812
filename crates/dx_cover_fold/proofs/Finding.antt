-- What is found first, and rows that compare as equal.
use Rattle.std.proofs.Common.{◌≡◌, ℕ, zero, suc, ◌<◌, Bool, true, cond, List, [], ◌∷◌, Option, Some, None, refl, sym, ◌∙◌, ap, subst, inl, inr, arith}
use Rattle.std.specs.Prelude.{map}
use Rattle.std.specs.Option.{option_map, option_or}
use Rattle.std.specs.List.{find, list_all}
use Rattle.std.specs.BTreeMap.{is_at}
use Rattle.std.specs.Ordering.{is_eq, ordering_reverse}
use Rattle.std.specs.declared.cmp.Ordering.{Ordering}
use Rattle.std.specs.declared.cmp.Ordering.TheVariants.{Less, Equal, Greater}
use Rattle.std.proofs.lemmas.Bool.{cases_Bool}
use Rattle.std.proofs.lemmas.List.Folds.{find-append}
use Rattle.std.proofs.lemmas.Cmp.{lists_total}
use Rattle.dx_base.proofs.Members.{map_agrees}
use Rattle.dx_base.proofs.Tests.{map_same, same_test, to_all, from_all}
use Rattle.dx_model.specs.declared.values.Value.{Value}
use Rattle.dx_model.specs.Values.{row_cmp, value_cmp}
use Rattle.dx_model.specs.Covers.{below, same_value}
use Rattle.dx_model.proofs.Orders.{slice_exact, value_exact, value_total}
use Rattle.dx_model.proofs.Before.{same_value-refl, same_value-true}
use Rattle.dx_instance.proofs.AfterFacts.{tie}

-- ---- what is found first

pub find_mapped : {X Y : Type 0} (f : X → Y) (p : Y → Bool) (xs : List X) → find p (map f xs) ≡ option_map f (find (λ x. p (f x)) xs)
find_mapped f p [] = refl
find_mapped f p (x ∷ xs) = elim (cases_Bool (p (f x))) [ inl t ↦ rw t refl | inr e ↦ rw e (find_mapped f p xs) ]

pub find_alike : {X : Type 0} (p q : X → Bool) (xs : List X) → ((x : X) → p x ≡ q x) → find p xs ≡ find q xs
find_alike p q [] h = refl
find_alike p q (x ∷ xs) h = let e = h x in let r = find_alike p q xs h in cc

-- tests that agree below n
pub find_below : (p q : ℕ → Bool) (n : ℕ) → ((l : ℕ) → l < n → p l ≡ q l) → find p (below n) ≡ find q (below n)
find_below p q zero h = refl
find_below p q (suc n) h =
    let first : find p (below n) ≡ find q (below n) = find_below p q n (λ l k. h l (omega (arith, k))) in
    let last : find p (n ∷ []) ≡ find q (n ∷ []) = ap (λ (b : Bool). cond b (Some n) None) (h n (omega arith)) in
    find-append p (below n) (n ∷ []) ∙ ap (λ z. option_or z (find p (n ∷ []))) first ∙ ap (option_or (find q (below n))) last ∙ sym (find-append q (below n) (n ∷ []))

pub map_or : {X Y : Type 0} (f : X → Y) (a b : Option X) → option_map f (option_or a b) ≡ option_or (option_map f a) (option_map f b)
map_or f None b = refl
map_or f (Some x) b = refl

pub map_map : {X Y Z : Type 0} (f : Y → Z) (g : X → Y) (a : Option X) → option_map f (option_map g a) ≡ option_map (λ x. f (g x)) a
map_map f g None = refl
map_map f g (Some x) = refl

-- ---- rows that compare as equal

turned : (o : Ordering) → o ≡ ordering_reverse o → o ≡ Equal
turned Less e = absurd (cc)
turned Equal e = refl
turned Greater e = absurd (cc)

pub row_itself : (q : List Value) → is_at (row_cmp q) q ≡ true
row_itself q = ap is_eq (turned (row_cmp q q) ((lists_total value_total).antisymm q q))

pub row_exact : (q r : List Value) → is_at (row_cmp q) r ≡ true → q ≡ r
row_exact q r e = slice_exact value_cmp value_exact q r (tie (row_cmp q r) e)

-- values agree one by one exactly if their rows compare as equal
pub all_agree : (f g : ℕ → Value) (xs : List ℕ) → list_all (λ x. same_value (f x) (g x)) xs ≡ is_at (row_cmp (map f xs)) (map g xs)
all_agree f g xs = same_test (list_all (λ x. same_value (f x) (g x)) xs) (is_at (row_cmp (map f xs)) (map g xs)) there_is back
  where
    there_is : list_all (λ x. same_value (f x) (g x)) xs ≡ true → is_at (row_cmp (map f xs)) (map g xs) ≡ true
    there_is t =
        let e : map f xs ≡ map g xs = map_same f g xs (λ x m. same_value-true (f x) (g x) (from_all (λ x. same_value (f x) (g x)) xs t m)) in
        subst (λ r. is_at (row_cmp (map f xs)) r ≡ true) e (row_itself (map f xs))

    back : is_at (row_cmp (map f xs)) (map g xs) ≡ true → list_all (λ x. same_value (f x) (g x)) xs ≡ true
    back t =
        let e : map f xs ≡ map g xs = row_exact (map f xs) (map g xs) t in
        to_all (λ x. same_value (f x) (g x)) xs (λ x m. let d : f x ≡ g x = map_agrees f g e m in rw (← d) (same_value-refl (f x)))
