use Rattle.dx_worked.proofs.Exchanged.{core_is_planned, core_is_written}
use Rattle.dx_worked.proofs.examples.core_mode_has_its_own_script.Goals as goal

pub returns : goal.returns
returns c = record { planned = core_is_planned; written = core_is_written }
