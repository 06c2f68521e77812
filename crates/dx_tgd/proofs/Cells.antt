-- Counting the cells of a conclusion.
use Rattle.std.proofs.Common.{◌≡◌, ℕ, zero, suc, ◌+◌, ◌<◌, ◌≤◌, List, [], ◌∷◌, ◌∙◌, ap, arith, length, take, get_or, length-append}
use Rattle.dx_model.specs.declared.rules.Atom.{Atom}
use Rattle.dx_model.specs.Rules.{cells_of}
use Rattle.dx_tgd.proofs.Numbers.{cells_more}

pub cells_longer : (atoms : List Atom) (i : ℕ) (a : Atom) → i < length atoms → a ≡ get_or atoms i a → length (cells_of (take (i + 1) atoms)) ≡ length (cells_of (take i atoms)) + length a.cells
cells_longer atoms i a h e = ap length (cells_more atoms i a h e) ∙ length-append (cells_of (take i atoms)) a.cells

pub cells_whole : (atoms : List Atom) (i : ℕ) → length (cells_of (take i atoms)) ≤ length (cells_of atoms)
cells_whole [] zero = omega arith
cells_whole [] (suc i) = omega arith
cells_whole (a ∷ atoms) zero = omega arith
cells_whole (a ∷ atoms) (suc i) = let h = cells_whole atoms i in omega (arith, h, length-append a.cells (cells_of (take i atoms)), length-append a.cells (cells_of atoms))
