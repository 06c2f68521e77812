use Rattle.std.proofs.Common.{rules, arith}
use Rattle.dx_rule_text.proofs.Escapes.{plain_character}
use Rattle.dx_rule_text.proofs.strings.push_escaped.Goals as goal

pub returns-in_default : goal.returns-in_default
returns-in_default c =
    rw (plain_character c.args.character (omega arith) (omega arith)) (search rules)
