use Rattle.std.proofs.Common.{◌≡◌, map, rules}
use Rattle.clio_files.specs.Comparisons.{source_front, target_front}
use Rattle.clio_files.specs.Files.{printed_view}
use Rattle.clio_files.proofs.Compared.{both_added, on_ok}
use Rattle.clio_files.proofs.comparisons.push_direction.Goals as goal

pub returns-in_ok-front-in-Refuted-2 : goal.returns-in_ok-front-in-Refuted-2
returns-in_ok-front-in-Refuted-2 c =
    let front : c.as_str.result.now ≡ source_front c.args.direction.now = search rules in
    let back : c.as_str-in-Refuted.result.now ≡ target_front c.args.direction.now = search rules in
    rw c.in-Refuted.is
    (on_ok c.push_tables-in-Refuted.result
    (both_added c.args.direction.now c.as_str.result.now c.as_str-in-Refuted.result.now c.args.source.now c.args.target.now c.in-Refuted.rule c.in-Refuted.rows c.in-Refuted.made
    (map printed_view c.args.files.now.items) (map printed_view c.push_tables.new.files.items) (map printed_view c.push_tables-in-Refuted.new.files.items) front back c.in_ok-push_tables-in-Refuted.ensures)
    c.push_tables-in-Refuted.ensures)
