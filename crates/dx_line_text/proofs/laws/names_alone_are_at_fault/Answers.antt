use Rattle.dx_line_text.proofs.NamesAlone.{names_alone, unknown_alone}
use Rattle.dx_line_text.proofs.laws.names_alone_are_at_fault.Goals as goal

pub returns-clause-lines : goal.returns-clause-lines
returns-clause-lines c = names_alone

pub returns-clause-conditions : goal.returns-clause-conditions
returns-clause-conditions c = unknown_alone
