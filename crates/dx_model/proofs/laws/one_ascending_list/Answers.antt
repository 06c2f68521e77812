use Rattle.dx_model.proofs.Ascending.{one_fact_list}
use Rattle.dx_model.proofs.laws.one_ascending_list.Goals as goal

pub returns : goal.returns
returns c = one_fact_list
