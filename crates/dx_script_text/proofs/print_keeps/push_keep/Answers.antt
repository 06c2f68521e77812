use Rattle.std.specs.Prelude.{codes, decimal}
use Rattle.dx_script_text.proofs.Pushes.{keep_pushed}
use Rattle.dx_script_text.proofs.print_keeps.push_keep.Goals as goal

pub returns : goal.returns
returns c =
    keep_pushed (codes "CREATE TABLE k") (decimal c.args.rule) (codes " AS SELECT * FROM m") (decimal c.args.rule) (codes " AS m WHERE ") _ (codes ";\n") _ _ _ _
    c.in_ok-write.ensures.bytes c.in_ok-push_all.ensures c.in_ok-push_str.ensures.bytes
