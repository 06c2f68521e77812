use Rattle.dx_instance.proofs.TextFacts.{texts_differ}
use Rattle.dx_instance.proofs.laws.value_texts_differ.Goals as goal

pub returns : goal.returns
returns c = texts_differ
