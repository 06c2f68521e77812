use Rattle.clio_files.proofs.TextFiles.{all_contents}
use Rattle.clio_files.proofs.summaries.contents.Goals as goal

pub returns : goal.returns
returns c = all_contents c.args.printed.now c.loop-one.one-index c.loop-one.text.items c.loop-one-test.false c.loop-one.invariant
