-- Rows that ascend are searched.
use Rattle.std.proofs.Common.{◌≡◌, ℕ, ◌<◌, ◌≤◌, List, length, take, sym, subst, arith}
use Rattle.std.specs.Ordering.{nat_cmp}
use Rattle.std.specs.Cmp.Lexicographic.{slice_cmp}
use Rattle.std.specs.declared.cmp.Ordering.TheVariants.{Less, Greater}
use Rattle.std.proofs.lemmas.List.{take_all}
use Rattle.dx_base.specs.Members.{◌∈◌}
use Rattle.dx_instance.specs.Cells.{NumbersAscend, numbers_at}
use Rattle.dx_instance.proofs.TableFacts.{not_first}

pub all_are : (rows : List (List ℕ)) → take (length rows) rows ≡ rows
all_are rows = take_all (length rows) rows (omega arith)

pub ascend_all : (rows : List (List ℕ)) → NumbersAscend rows → NumbersAscend (take (length rows) rows)
ascend_all rows a = subst NumbersAscend (sym (all_are rows)) a

pub nowhere : (rows : List (List ℕ)) (low high : ℕ) (row : List ℕ) → high ≤ low → ((k : ℕ) → k < low → slice_cmp nat_cmp (numbers_at rows k) row ≡ Less)
    → ((k : ℕ) → high ≤ k → k < length rows → slice_cmp nat_cmp (numbers_at rows k) row ≡ Greater) → ¬ (row ∈ rows)
nowhere rows low high row h a b m = not_first rows (length rows) low high row (omega arith) h a b (subst (λ z. row ∈ z) (sym (all_are rows)) m)
