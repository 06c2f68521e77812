use Rattle.dx_schema.specs.Names.{table_names_of}
use Rattle.dx_funcs.specs.Serving.{offered}
use Rattle.dx_script.proofs.FitsTest.{FitBelow}
use Rattle.dx_script.proofs.fitting.fits.Given as goal

abbrev pub invariant-loop-number : goal.invariant-loop-number
invariant-loop-number g l = FitBelow (table_names_of l.source) (table_names_of l.target) (offered l.host) l.keeps l.steps l.number
