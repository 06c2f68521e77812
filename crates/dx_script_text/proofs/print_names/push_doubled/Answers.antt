use Rattle.std.proofs.Common.{rules, arith}
use Rattle.dx_script_tokens.proofs.Doubled.{plain_character}
use Rattle.dx_script_text.proofs.print_names.push_doubled.Goals as goal

pub returns-in_default : goal.returns-in_default
returns-in_default c =
    rw (plain_character c.args.character (omega arith)) (search rules)
