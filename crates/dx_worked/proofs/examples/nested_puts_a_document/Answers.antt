use Rattle.dx_worked.proofs.Exchanged.{document_is_planned, document_is_written}
use Rattle.dx_worked.proofs.examples.nested_puts_a_document.Goals as goal

pub returns : goal.returns
returns c = record { planned = document_is_planned; written = document_is_written }
