use Rattle.dx_csv.proofs.TableTextFacts.{printed-reads-back}
use Rattle.dx_csv.proofs.laws.printed_reads_back.Goals as goal

pub returns : goal.returns
returns c = printed-reads-back
