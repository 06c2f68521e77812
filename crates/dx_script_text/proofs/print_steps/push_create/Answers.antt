use Rattle.std.specs.Prelude.{codes}
use Rattle.dx_script_text.proofs.Pushes.{create_pushed}
use Rattle.dx_script_text.proofs.print_steps.push_create.Goals as goal

pub returns : goal.returns
returns c = create_pushed (codes "CREATE TABLE target.") _ (codes " (") _ (codes ");\n") _ _ _ _ _ _ c.in_ok-push_str.ensures.bytes c.in_ok-push_name.ensures c.in_ok-push_str-2.ensures.bytes c.in_ok-push_columns.ensures c.in_ok-push_str-3.ensures.bytes
