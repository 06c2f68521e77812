use Rattle.dx_script_tokens.proofs.Utf8.{inside_part}
use Rattle.dx_script_tokens.proofs.scanner.inside.Goals as goal

pub returns-in-len2-up : goal.returns-in-len2-up
returns-in-len2-up c = inside_part c.args.bytes.now c.in-len2-up.len_at_least
