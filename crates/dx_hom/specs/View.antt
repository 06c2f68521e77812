-- Facts that are taken out, by their places.
use Rattle.std.specs.Prelude.{ℕ, Bool, true, false, List, [], length, map, replicate, slice_index_or, slice_set}
use Rattle.dx_instance.specs.Stored.{TableRows}

-- whether the fact at a place is taken out
abbrev pub gone_at : List (List Bool) → ℕ → ℕ → Bool
gone_at gone t p = slice_index_or (slice_index_or gone t []) p false

-- the marks with one more place taken out
abbrev pub marked : List (List Bool) → ℕ → ℕ → List (List Bool)
marked gone t p = slice_set gone t (slice_set (slice_index_or gone t []) p true)

-- a mark for each fact of an instance, none of them taken out
abbrev pub all_there : List TableRows → List (List Bool)
all_there I = map (λ (t : TableRows). replicate (length t.rows) false) I
