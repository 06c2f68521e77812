use Rattle.dx_schema.specs.Names.{table_names_of}
use Rattle.dx_script.proofs.Uncovered.{rewritten_means_uncovered}
use Rattle.dx_script.proofs.RuleFacts.{names_fit, widths_fit}
use Rattle.dx_script.proofs.laws.rewritten_means_uncovered.Goals as goal

pub returns : goal.returns
returns c = λ source target convert list R I tables K fit i.
    rewritten_means_uncovered (table_names_of source) (table_names_of target) convert list R I tables K (names_fit source target list R fit) (widths_fit source I i)
