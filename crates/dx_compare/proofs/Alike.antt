-- Two lists of sets are one exactly if their forests are.
use Rattle.std.proofs.Common.{◌≡◌, ◌↔◌, ℕ, zero, suc, ◌<◌, Bool, false, List, [], ◌∷◌, length, get_or, refl, sym, ap, ◌∙◌, arith}
use Rattle.std.specs.Prelude.{IsTrue}
use Rattle.std.proofs.lemmas.Bool.{false≢true}
use Rattle.dx_schema.specs.Forest.{Tree, forest_of}

-- a forest tells its sets
trees_once : (ts us : List Tree) → forest_of ts ≡ forest_of us → ts ≡ us
trees_once [] [] e = refl
trees_once [] (u ∷ us) e = cc
trees_once (t ∷ ts) [] e = cc
trees_once (t ∷ ts) (u ∷ us) e =
    let l : t.label ≡ u.label = cc in
    let i : t.inner ≡ u.inner = cc in
    let r : forest_of ts ≡ forest_of us = cc in
    let s = trees_once ts us r in
    λ j. record { label = l j; inner = i j } ∷ s j

at_any : (ts : List Tree) (i : ℕ) (d e : Tree) → i < length ts → get_or ts i d ≡ get_or ts i e
at_any [] i d e h = absurd (omega (arith, h))
at_any (t ∷ ts) zero d e h = refl
at_any (t ∷ ts) (suc i) d e h = at_any ts i d e (omega (arith, h))

-- lists that are not one have forests that are not
differ : (ts us : List Tree) → ¬ (ts ≡ us) → IsTrue false ↔ (forest_of ts ≡ forest_of us)
differ ts us h = ((λ t. absurd (false≢true t)), (λ e. absurd (h (trees_once ts us e))))

pub differ_long : (ts us : List Tree) → ¬ (length ts ≡ length us) → IsTrue false ↔ (forest_of ts ≡ forest_of us)
differ_long ts us h = differ ts us (λ e. h (ap length e))

-- so do lists with two sets at one place that are not one
pub differ_at : (ts us : List Tree) (i : ℕ) (t u : Tree) → i < length ts → length ts ≡ length us → t ≡ get_or ts i t → u ≡ get_or us i u
    → ¬ (t ≡ u) → IsTrue false ↔ (forest_of ts ≡ forest_of us)
differ_at ts us i t u lt long a b h =
    differ ts us (λ e. h (a ∙ ap (λ vs. get_or vs i t) e ∙ at_any us i t u (omega (arith, lt, long)) ∙ sym b))

-- what a test tells not to be so
pub told_apart : {P : Type 0} (b : Bool) → IsTrue b ↔ P → b ≡ false → ¬ P
told_apart b h n p = absurd (false≢true (sym n ∙ h.1 p))
