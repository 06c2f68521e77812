use Rattle.dx_instance.proofs.NoTexts.{no_value_texts}
use Rattle.dx_instance.proofs.laws.no_value_texts.Goals as goal

pub returns : goal.returns
returns c = no_value_texts
