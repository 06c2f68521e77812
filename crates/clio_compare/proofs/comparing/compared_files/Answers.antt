use Rattle.std.proofs.Common.{map}
use Rattle.clio_files.specs.Files.{printed_view}
use Rattle.clio_compare.proofs.comparing.compared_files.Goals as goal

pub returns : goal.returns
returns c =
    (map printed_view c.in_ok-printed.printed.items, c.in_ok-printed.ensures, c.in_ok-into_files.ensures, rw c.deref.ensures.value at c.in_ok-text.ensures)
