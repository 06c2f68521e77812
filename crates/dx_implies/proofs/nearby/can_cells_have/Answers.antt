use Rattle.std.proofs.Common.{◌≡◌, false, List, [], ◌∷◌, length, refl, sym, arith}
use Rattle.std.proofs.Math.Bool.{and-false}
use Rattle.dx_model.specs.declared.rules.Cell.{Cell}
use Rattle.dx_implies.specs.Near.{cell_can_have, cells_can_have}
use Rattle.dx_implies.proofs.nearby.can_cells_have.Goals as goal

longer : (a b : List Cell) → ¬ (length a ≡ length b) → cells_can_have a b ≡ false
longer [] [] h = absurd (h refl)
longer [] (n ∷ ns) h = refl
longer (m ∷ ms) [] h = refl
longer (m ∷ ms) (n ∷ ns) h = rw (longer ms ns (λ k. h (omega arith))) (and-false (cell_can_have m n))

pub returns-then-asked-made : goal.returns-then-asked-made
returns-then-asked-made c = sym (longer c.args.asked.now c.args.made.now (omega (arith, c.if-asked-made.true)))
