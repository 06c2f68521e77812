use Rattle.dx_schema_text.proofs.FewRules as few
use Rattle.dx_schema_text.proofs.laws.texts_have_few_rules.Goals as goal

pub returns : goal.returns
returns c = few.texts_have_few_rules
