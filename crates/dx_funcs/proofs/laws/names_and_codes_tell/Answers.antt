use Rattle.dx_funcs.proofs.Named.{each_is_told}
use Rattle.dx_funcs.proofs.laws.names_and_codes_tell.Goals as goal

pub returns : goal.returns
returns c = each_is_told
