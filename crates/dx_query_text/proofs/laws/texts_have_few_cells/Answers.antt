use Rattle.dx_query_text.proofs.Few.{texts_have_few_cells}
use Rattle.dx_query_text.proofs.laws.texts_have_few_cells.Goals as goal

pub returns : goal.returns
returns c = texts_have_few_cells
