use Rattle.dx_csv.proofs.TextsDiffer.{table_texts_differ}
use Rattle.dx_csv.proofs.laws.table_texts_differ.Goals as goal

pub returns : goal.returns
returns c = table_texts_differ
