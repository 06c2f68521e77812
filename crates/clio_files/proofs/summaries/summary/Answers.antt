use Rattle.clio_files.proofs.SheetLists.{all_lines}
use Rattle.clio_files.proofs.summaries.summary.Goals as goal

pub returns : goal.returns
returns c = all_lines c.args.printed.now c.loop-one.one-index c.loop-one.text.items c.loop-one-test.false c.loop-one.invariant
