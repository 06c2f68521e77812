-- The texts of variables, and the row that cells say.
use Rattle.std.proofs.Common.{◌≡◌, ℕ, zero, suc, ◌+◌, ◌<◌, List, [], ◌∷◌, ◌++◌, refl, sym, ◌∙◌, ap, arith, length, get_or, take, drop}
use Rattle.std.specs.Prelude.{map}
use Rattle.std.proofs.lemmas.Bool.{ne_eqb}
use Rattle.std.proofs.lemmas.List.{take_more, map-append}
use Rattle.dx_model.specs.declared.values.Value.{Value}
use Rattle.dx_model.specs.declared.rules.Cell.{Cell}
use Rattle.dx_model.specs.declared.rules.Cell.TheVariants.{Var}
use Rattle.dx_base.proofs.Members.{in_at}
use Rattle.dx_base.specs.Members.{◌∈◌}
use Rattle.dx_model.specs.Rules.{text_of}

pub skip_same : (vars : List ℕ) (tuple : List (List ℕ)) (i x : ℕ) → i < length vars → length tuple ≡ length vars → ¬ (get_or vars i 0 ≡ x)
    → text_of (drop (i + 1) vars) (drop (i + 1) tuple) x ≡ text_of (drop i vars) (drop i tuple) x
skip_same [] tuple i x h l n = absurd (omega arith)
skip_same (y ∷ ys) [] i x h l n = absurd (omega arith)
skip_same (y ∷ ys) (t ∷ ts) zero x h l n = rw (ne_eqb x y (λ e. n (sym e))) refl
skip_same (y ∷ ys) (t ∷ ts) (suc i) x h l n =
    let e : suc i + 1 ≡ suc (i + 1) = omega arith in
    rw e (skip_same ys ts i x (omega arith) (omega arith) n)

-- one value more
pub maps_more : (f : Cell → Value) (cells : List Cell) (i : ℕ) (c : Cell) (row : List Value) (v : Value) → i < length cells → c ≡ get_or cells i c
    → row ≡ map f (take i cells) → v ≡ f c → row ++ v ∷ [] ≡ map f (take (i + 1) cells)
maps_more f cells i c row v h e r s = sym (ap (map f) (take_more cells i c h) ∙ (map-append f (take i cells) (get_or cells i c ∷ []) ∙ cc))

-- a cell that is a variable stands among the cells
pub var_there : (cells : List Cell) (i : ℕ) (c : Cell) (x : ℕ) → i < length cells → c ≡ get_or cells i c → c ≡ Var x → Var x ∈ cells
var_there cells i c x h e v = rw (← v, e) (in_at cells i c h)
