use Rattle.dx_tgd.proofs.Copied.{AreCopied}
use Rattle.dx_tgd.proofs.texts.places_of_rows.Given as goal

abbrev pub invariant-loop-place : goal.invariant-loop-place
invariant-loop-place l = AreCopied l.symbols l.rows l.place l.texts.items
