use Rattle.std.proofs.Common.{◌≡◌, drop}
use Rattle.dx_model.specs.Rules.{text_of}
use Rattle.dx_joins.specs.Shown.{texts_of}
use Rattle.dx_cover_fold.proofs.rows_said.text_for.Given as goal

abbrev pub invariant-loop-i : goal.invariant-loop-i
invariant-loop-i l = text_of l.variables (texts_of l.matches.symbols l.row) l.variable ≡ text_of (drop l.i l.variables) (drop l.i (texts_of l.matches.symbols l.row)) l.variable
