use Rattle.clio_rule_laws.proofs.Lines.{printed_lines_are_read}
use Rattle.clio_rule_laws.proofs.laws.printed_lines_are_read.Goals as goal

pub returns : goal.returns
returns c = printed_lines_are_read
