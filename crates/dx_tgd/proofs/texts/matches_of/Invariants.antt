use Rattle.std.proofs.Common.{◌≡◌, take}
use Rattle.std.specs.Prelude.{map}
use Rattle.dx_model.specs.declared.matches.Places.{Places}
use Rattle.dx_tgd.specs.Texts.{tuples_in}
use Rattle.dx_tgd.proofs.texts.matches_of.Given as goal

abbrev pub invariant-loop-rows : goal.invariant-loop-rows
invariant-loop-rows l = map (λ (p : Places). p.tuples) l.rules ≡ tuples_in l.symbols (take l.rows-index l.tables)
