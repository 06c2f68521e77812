-- What is told grew by nothing.
use Rattle.std.proofs.Common.{◌≡◌, ℕ, List, Some, sym, ◌∙◌, ap}
use Rattle.std.specs.Prelude.{Result, Ok, Err, OnErr}
use Rattle.std.proofs.lemmas.List.{append-nil}
use Rattle.dx_ports.specs.Told.{GrewByPrefix}

pub grew_by_none : {A E : Type 0} (r : Result A E) (old more new : List ℕ) → new ≡ old → OnErr r (GrewByPrefix (Some old) more (Some new))
grew_by_none (Ok x) old more new e = tt
grew_by_none (Err x) old more new e = (0, ap Some (e ∙ sym (append-nil old)))
