use Rattle.dx_schema_text.proofs.SpelledWords.{said_is_writable}
use Rattle.dx_schema_text.proofs.laws.what_is_said_is_writable.Goals as goal

pub returns : goal.returns
returns c = said_is_writable
