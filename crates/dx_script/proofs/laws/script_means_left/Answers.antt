use Rattle.dx_schema.specs.Names.{table_names_of}
use Rattle.dx_script.proofs.Steps.{script_means_left}
use Rattle.dx_script.proofs.RuleFacts.{names_fit, widths_fit}
use Rattle.dx_script.proofs.laws.script_means_left.Goals as goal

pub returns : goal.returns
returns c = λ source target convert list keeps R I tables K fit i.
    script_means_left (table_names_of source) (table_names_of target) convert list keeps R I tables K (names_fit source target list R fit) (widths_fit source I i)
