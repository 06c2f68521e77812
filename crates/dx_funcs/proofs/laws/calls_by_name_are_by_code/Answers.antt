use Rattle.dx_funcs.proofs.Named.{calls_by_name_are_by_code as by_code}
use Rattle.dx_funcs.proofs.laws.calls_by_name_are_by_code.Goals as goal

pub returns : goal.returns
returns c = by_code
