use Rattle.dx_query_text.proofs.Over.{reads_fault_only, reads_fit, reads_query, reads_query_only, reads_told}
use Rattle.dx_query_text.proofs.read.read_query.Goals as goal

pub returns-clause-query : goal.returns-clause-query
returns-clause-query c = reads_query c.args.target.now c.args.text.now c.read.result c.read.ensures

pub returns-clause-query_only : goal.returns-clause-query_only
returns-clause-query_only c = reads_query_only c.args.target.now c.args.text.now c.read.result c.read.ensures

pub returns-clause-fault : goal.returns-clause-fault
returns-clause-fault c = reads_told c.args.target.now c.args.text.now c.read.result c.read.ensures

pub returns-clause-fault_only : goal.returns-clause-fault_only
returns-clause-fault_only c = reads_fault_only c.args.target.now c.args.text.now c.read.result c.read.ensures

pub returns-clause-fit : goal.returns-clause-fit
returns-clause-fit c = reads_fit c.args.target.now c.args.text.now c.read.result c.read.ensures
