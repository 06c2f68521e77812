-- Tuples of texts, as they lie one after the other.
use Rattle.std.specs.Prelude.{ℕ, zero, suc, List, [], ◌∷◌, take, drop}
use Rattle.dx_base.specs.Texts.{Text}
use Rattle.dx_model.specs.Values.{Tuple}

-- the first n tuples of so many texts each
abbrev pub in_tuples : ℕ → ℕ → List Text → List Tuple
in_tuples zero width texts = []
in_tuples (suc n) width texts = take width texts ∷ in_tuples n width (drop width texts)
