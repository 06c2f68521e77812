use Rattle.dx_schema_text.proofs.Answered.{reads_mapping, reads_mapping_only, reads_told, reads_fault_only}
use Rattle.dx_schema_text.proofs.read.read_mapping.Goals as goal

pub returns-clause-mapping : goal.returns-clause-mapping
returns-clause-mapping c = reads_mapping c.args.text.now c.read.result c.read.ensures

pub returns-clause-mapping_only : goal.returns-clause-mapping_only
returns-clause-mapping_only c = reads_mapping_only c.args.text.now c.read.result c.read.ensures

pub returns-clause-fault : goal.returns-clause-fault
returns-clause-fault c = reads_told c.args.text.now c.read.result c.read.ensures

pub returns-clause-fault_only : goal.returns-clause-fault_only
returns-clause-fault_only c = reads_fault_only c.args.text.now c.read.result c.read.ensures
