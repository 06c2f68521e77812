use Rattle.dx_tgd_text.proofs.Written.{texts_have_whole_rules}
use Rattle.dx_tgd_text.proofs.laws.texts_have_whole_rules.Goals as goal

pub returns : goal.returns
returns c = texts_have_whole_rules
