use Rattle.dx_queries.proofs.Exist.{answers_exist, one_certain_list, one_list, within_or_passes}
use Rattle.dx_queries.proofs.laws.answers_are_listed.Goals as goal

pub returns : goal.returns
returns c = record { exist = answers_exist; one = one_list; within = within_or_passes; certain = one_certain_list }
