use Rattle.std.proofs.Common.{◌≡◌, drop, length}
use Rattle.dx_base.specs.Members.{◌∈◌}
use Rattle.dx_model.specs.Values.{Tuple}
use Rattle.dx_model.specs.Rules.{text_of}
use Rattle.dx_tgd.proofs.planning.column_of.Given as goal

abbrev pub invariant-loop-i : goal.invariant-loop-i
invariant-loop-i l = record { listed : l.x ∈ drop l.i l.variables; same : (t : Tuple) → length t ≡ length l.variables → text_of (drop l.i l.variables) (drop l.i t) l.x ≡ text_of l.variables t l.x }
