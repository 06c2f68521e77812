use Rattle.std.proofs.lemmas.Bool.{false≢true}
use Rattle.dx_csv.proofs.print.text_of.Goals as goal

pub unreachable-requires : goal.unreachable-requires
unreachable-requires c = false≢true (c.in-Err.ensures.succeeds c.requires)
