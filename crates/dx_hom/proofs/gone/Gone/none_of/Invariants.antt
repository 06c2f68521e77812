use Rattle.std.proofs.Common.{◌≡◌, take, Vec, Global, Bool}
use Rattle.std.specs.Prelude.{map}
use Rattle.dx_hom.specs.View.{all_there}
use Rattle.dx_hom.proofs.gone.Gone.none_of.Given as goal

abbrev pub invariant-loop-table : goal.invariant-loop-table
invariant-loop-table l = map (λ (v : Vec Bool Global). v.items) l.tables.items ≡ take l.table (all_there l.instance)
