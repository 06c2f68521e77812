use Rattle.dx_script_text.proofs.Answered.{reads_script, reads_script_only, reads_told, reads_fault_only}
use Rattle.dx_script_text.proofs.read.read_script.Goals as goal

pub returns-clause-script : goal.returns-clause-script
returns-clause-script c = reads_script c.args.text.now c.read.result c.read.ensures

pub returns-clause-script_only : goal.returns-clause-script_only
returns-clause-script_only c = reads_script_only c.args.text.now c.read.result c.read.ensures

pub returns-clause-fault : goal.returns-clause-fault
returns-clause-fault c = reads_told c.args.text.now c.read.result c.read.ensures

pub returns-clause-fault_only : goal.returns-clause-fault_only
returns-clause-fault_only c = reads_fault_only c.args.text.now c.read.result c.read.ensures
