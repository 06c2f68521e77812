use Rattle.dx_schema_text.proofs.Fronts.{spelled_are_texts, standing_goes_on}
use Rattle.dx_schema_text.proofs.laws.texts_are_spelled.Goals as goal

pub returns-clause-spelled : goal.returns-clause-spelled
returns-clause-spelled c = spelled_are_texts

pub returns-clause-fronts : goal.returns-clause-fronts
returns-clause-fronts c = standing_goes_on
