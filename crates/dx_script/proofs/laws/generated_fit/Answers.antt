use Rattle.dx_schema.specs.Names.{table_names_of}
use Rattle.dx_script.proofs.BothFit.{generated_fit}
use Rattle.dx_script.proofs.RuleFacts.{names_fit}
use Rattle.dx_script.proofs.laws.generated_fit.Goals as goal

pub returns : goal.returns
returns c = λ source target list R fit. generated_fit (table_names_of source) (table_names_of target) list R (names_fit source target list R fit)
