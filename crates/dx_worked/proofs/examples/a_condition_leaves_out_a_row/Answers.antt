use Rattle.dx_worked.proofs.Named.{named_are_read}
use Rattle.dx_worked.proofs.examples.a_condition_leaves_out_a_row.Goals as goal

pub returns : goal.returns
returns c = named_are_read
