use Rattle.dx_schema.specs.Names.{table_names_of}
use Rattle.dx_script.proofs.Steps.{plain_means_canonical}
use Rattle.dx_script.proofs.RuleFacts.{names_fit, widths_fit}
use Rattle.dx_script.proofs.laws.plain_means_canonical.Goals as goal

pub returns : goal.returns
returns c = λ source target convert list R I tables K fit i.
    plain_means_canonical (table_names_of source) (table_names_of target) convert list R I tables K (names_fit source target list R fit) (widths_fit source I i)
