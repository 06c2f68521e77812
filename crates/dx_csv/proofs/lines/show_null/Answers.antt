use Rattle.dx_csv.proofs.LinesFacts.{null-calls}
use Rattle.dx_csv.proofs.lines.show_null.Goals as goal

pub returns-clause-plain : goal.returns-clause-plain
returns-clause-plain c = null-calls c.args.null.now c.push_null.ensures.fits
