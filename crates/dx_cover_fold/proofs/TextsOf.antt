-- Texts and images of variables, found one by one.
use Rattle.std.proofs.Common.{◌≡◌, ℕ, ◌+◌, ◌<◌, ◌≤◌, false, List, [], ◌∷◌, length, get_or, drop, refl, inl, inr, eqb}
use Rattle.std.proofs.lemmas.Bool.{cases_Bool, eq-eqb, eqb-true}
use Rattle.std.proofs.lemmas.List.{drop_all}
use Rattle.dx_base.proofs.Lists.{cut_at}
use Rattle.dx_model.specs.declared.rules.Cell.{Cell}
use Rattle.dx_model.specs.declared.rules.Cell.TheVariants.{Ex}
use Rattle.dx_model.specs.Values.{Tuple}
use Rattle.dx_base.specs.Texts.{Text}
use Rattle.dx_model.specs.Rules.{text_of}
use Rattle.dx_model.specs.Covers.{image_of}

other : (x y : ℕ) → ¬ (x ≡ y) → eqb x y ≡ false
other x y n = elim (cases_Bool (eqb x y)) [ inl t ↦ absurd (n (eqb-true x y t)) | inr f ↦ f ]

-- ---- texts

pub text_here : (xs : List ℕ) (ts : Tuple) (i x y : ℕ) (t : Text) → i < length xs → i < length ts → y ≡ get_or xs i y → t ≡ get_or ts i t → x ≡ y → text_of (drop i xs) (drop i ts) x ≡ t
text_here xs ts i x y t l k a b e = rw (cut_at xs i y l a, cut_at ts i t k b, eq-eqb x y e) refl

pub text_past : (xs : List ℕ) (ts : Tuple) (i x y : ℕ) (t : Text) → i < length xs → i < length ts → y ≡ get_or xs i y → t ≡ get_or ts i t → ¬ (x ≡ y)
    → text_of (drop i xs) (drop i ts) x ≡ text_of (drop (i + 1) xs) (drop (i + 1) ts) x
text_past xs ts i x y t l k a b n = rw (cut_at xs i y l a, cut_at ts i t k b, other x y n) refl

no_texts : (xs : List ℕ) (x : ℕ) → text_of xs [] x ≡ []
no_texts [] x = refl
no_texts (y ∷ ys) x = refl

pub text_nowhere : (xs : List ℕ) (ts : Tuple) (i x : ℕ) → (length xs ≤ i → text_of (drop i xs) (drop i ts) x ≡ []) × (length ts ≤ i → text_of (drop i xs) (drop i ts) x ≡ [])
text_nowhere xs ts i x = ((λ h. rw (drop_all i xs h) refl), (λ h. rw (drop_all i ts h) (no_texts (drop i xs) x)))

-- ---- images

pub image_here : (xs : List ℕ) (cs : List Cell) (i x y : ℕ) (c : Cell) → i < length xs → i < length cs → y ≡ get_or xs i y → c ≡ get_or cs i c → x ≡ y → image_of (drop i xs) (drop i cs) x ≡ c
image_here xs cs i x y c l k a b e = rw (cut_at xs i y l a, cut_at cs i c k b, eq-eqb x y e) refl

pub image_past : (xs : List ℕ) (cs : List Cell) (i x y : ℕ) (c : Cell) → i < length xs → i < length cs → y ≡ get_or xs i y → c ≡ get_or cs i c → ¬ (x ≡ y)
    → image_of (drop i xs) (drop i cs) x ≡ image_of (drop (i + 1) xs) (drop (i + 1) cs) x
image_past xs cs i x y c l k a b n = rw (cut_at xs i y l a, cut_at cs i c k b, other x y n) refl

no_images : (xs : List ℕ) (x : ℕ) → image_of xs [] x ≡ Ex 0
no_images [] x = refl
no_images (y ∷ ys) x = refl

pub image_nowhere : (xs : List ℕ) (cs : List Cell) (i x : ℕ) → (length xs ≤ i → image_of (drop i xs) (drop i cs) x ≡ Ex 0) × (length cs ≤ i → image_of (drop i xs) (drop i cs) x ≡ Ex 0)
image_nowhere xs cs i x = ((λ h. rw (drop_all i xs h) refl), (λ h. rw (drop_all i cs h) (no_images (drop i xs) x)))
