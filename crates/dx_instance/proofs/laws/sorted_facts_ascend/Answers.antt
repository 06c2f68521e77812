use Rattle.dx_instance.proofs.LawFacts.{sorted_facts}
use Rattle.dx_instance.proofs.laws.sorted_facts_ascend.Goals as goal

pub returns : goal.returns
returns c = sorted_facts
