use Rattle.std.proofs.Common.{◌≡◌, map}
use Rattle.clio_files.specs.declared.printed.Printed.{Printed}
use Rattle.clio_files.proofs.summaries.into_files.Given as goal

abbrev pub invariant-loop-one : goal.invariant-loop-one
invariant-loop-one l = l.files.items ≡ map (λ (p : Printed). p.file) l.yielded
