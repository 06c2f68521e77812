-- Lists that grow by one item.
use Rattle.std.proofs.Common.{◌≡◌, ℕ, zero, suc, ◌+◌, ◌<◌, ◌≤◌, Bool, true, false, List, [], ◌∷◌, ◌++◌, refl, sym, ◌∙◌, ap, length, take, drop, get_or, arith, append_assoc, add-one}
use Rattle.std.specs.Prelude.{map, flat_map}
use Rattle.std.specs.List.{filter}
use Rattle.std.proofs.lemmas.List.{append-nil, map-append, take_more}
use Rattle.std.proofs.lemmas.List.Elements.{filter-append}
use Rattle.std.proofs.lemmas.Grind.{flat_map-append}
use Rattle.dx_model.specs.Covers.{below}

-- one item more of a map, after others
pub pushed : {X Y : Type 0} (f : X → Y) (xs : List X) (i : ℕ) (x : X) (start ys zs : List Y) → i < length xs → x ≡ get_or xs i x → ys ≡ start ++ map f (take i xs) → zs ≡ ys ++ f x ∷ []
    → zs ≡ start ++ map f (take (i + 1) xs)
pushed f xs i x start ys zs h e p q =
    q ∙ (ap (λ z. z ++ f x ∷ []) p ∙ (append_assoc start (map f (take i xs)) (f x ∷ [])
    ∙ ap (λ z. start ++ z) (ap (λ z. map f (take i xs) ++ f z ∷ []) e ∙ (sym (map-append f (take i xs) (get_or xs i x ∷ [])) ∙ ap (map f) (sym (take_more xs i x h))))))

below_more : (n : ℕ) → below (n + 1) ≡ below n ++ n ∷ []
below_more n = rw (add-one n) refl

-- one number more
pub map_more : {Y : Type 0} (f : ℕ → Y) (n : ℕ) (start ys zs : List Y) → ys ≡ start ++ map f (below n) → zs ≡ ys ++ f n ∷ [] → zs ≡ start ++ map f (below (n + 1))
map_more f n start ys zs p q =
    q ∙ (ap (λ z. z ++ f n ∷ []) p ∙ (append_assoc start (map f (below n)) (f n ∷ []) ∙ ap (λ z. start ++ z) (sym (map-append f (below n) (n ∷ [])) ∙ ap (map f) (sym (below_more n)))))

pub flat_more : {Y : Type 0} (f : ℕ → List Y) (n : ℕ) (start ys zs : List Y) → ys ≡ start ++ flat_map f (below n) → zs ≡ ys ++ f n → zs ≡ start ++ flat_map f (below (n + 1))
flat_more f n start ys zs p q =
    q ∙ (ap (λ z. z ++ f n) p ∙ (append_assoc start (flat_map f (below n)) (f n)
    ∙ ap (λ z. start ++ z) (ap (λ z. flat_map f (below n) ++ z) (sym (append-nil (f n))) ∙ (sym (flat_map-append f (below n) (n ∷ [])) ∙ ap (flat_map f) (sym (below_more n))))))

-- one number more that passes a test, or doesn't
pub kept_more : {Y : Type 0} (f : ℕ → List Y) (p : ℕ → Bool) (n : ℕ) (ys zs : List Y) → ys ≡ flat_map f (filter p (below n)) → p n ≡ true → zs ≡ ys ++ f n → zs ≡ flat_map f (filter p (below (n + 1)))
kept_more f p n ys zs e t q =
    q ∙ (ap (λ z. z ++ f n) e ∙ (ap (λ z. flat_map f (filter p (below n)) ++ z) (sym (append-nil (f n)))
    ∙ (sym (flat_map-append f (filter p (below n)) (n ∷ []))
    ∙ ap (flat_map f) (ap (λ z. filter p (below n) ++ z) (one n t) ∙ (sym (filter-append p (below n) (n ∷ [])) ∙ ap (filter p) (sym (below_more n)))))))
  where
    one : (n : ℕ) → p n ≡ true → n ∷ [] ≡ filter p (n ∷ [])
    one n t = rw t refl

pub left_out : {Y : Type 0} (f : ℕ → List Y) (p : ℕ → Bool) (n : ℕ) (ys : List Y) → ys ≡ flat_map f (filter p (below n)) → p n ≡ false → ys ≡ flat_map f (filter p (below (n + 1)))
left_out f p n ys e t =
    e ∙ ap (flat_map f) (sym (append-nil (filter p (below n))) ∙ (ap (λ z. filter p (below n) ++ z) (none n t) ∙ (sym (filter-append p (below n) (n ∷ [])) ∙ ap (filter p) (sym (below_more n)))))
  where
    none : (n : ℕ) → p n ≡ false → [] ≡ filter p (n ∷ [])
    none n t = rw t refl

-- what is left of a list after one item more
pub drop_next : {X : Type 0} (xs : List X) (n next : ℕ) (d x : X) (ys : List X) → next ≡ n + 1 → drop n xs ≡ x ∷ ys → (n < length xs) × (ys ≡ drop next xs) × (get_or xs n d ≡ x)
drop_next [] zero next d x ys e h = absurd (cc)
drop_next [] (suc n) next d x ys e h = absurd (cc)
drop_next (z ∷ xs) zero next d x ys e h =
    let one : next ≡ 1 = omega (arith, e) in
    let a : z ≡ x = cc in
    let b : ys ≡ xs = cc in
    (omega arith, rw one b, a)
drop_next (z ∷ xs) (suc n) next d x ys e h =
    let w = drop_next xs n (n + 1) d x ys refl h in
    let s : next ≡ suc (n + 1) = omega (arith, e) in
    (omega (arith, w.0), rw s w.1, w.2)

pub drop_none : {X : Type 0} (xs : List X) (n : ℕ) → length (drop n xs) ≡ 0 → length xs ≤ n
drop_none [] n h = omega arith
drop_none (x ∷ xs) zero h = absurd (omega (arith, h))
drop_none (x ∷ xs) (suc n) h = let k = drop_none xs n h in omega (arith, k)
