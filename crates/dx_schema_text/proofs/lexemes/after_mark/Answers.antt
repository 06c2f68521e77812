use Rattle.std.proofs.Common.{rules}
use Rattle.dx_schema_text.proofs.lexemes.after_mark.Goals as goal

pub returns-in-Some : goal.returns-in-Some
returns-in-Some c = (c.in-Some.first.now, search rules)
