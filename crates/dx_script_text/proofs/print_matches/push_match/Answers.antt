use Rattle.std.specs.Prelude.{codes, decimal}
use Rattle.dx_script_text.proofs.Pushes.{match_pushed}
use Rattle.dx_script_text.proofs.print_matches.push_match.Goals as goal

pub returns : goal.returns
returns c =
    match_pushed (codes "CREATE TABLE m") (decimal c.args.rule) (codes " AS SELECT DISTINCT ") _ (codes " FROM ") _ _ (codes ";\n") _ _ _ _ _ _ _
    c.in_ok-write.ensures.bytes c.in_ok-push_select.ensures c.in_ok-push_str.ensures.bytes c.in_ok-push_sources.ensures c.in_ok-push_where.ensures c.in_ok-push_str-2.ensures.bytes
