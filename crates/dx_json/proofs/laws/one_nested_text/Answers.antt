use Rattle.dx_json.proofs.OneText.{has_text, text_is_one}
use Rattle.dx_json.proofs.laws.one_nested_text.Goals as goal

pub returns-clause-one : goal.returns-clause-one
returns-clause-one c = text_is_one

pub returns-clause-some : goal.returns-clause-some
returns-clause-some c = has_text
