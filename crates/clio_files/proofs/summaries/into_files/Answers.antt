use Rattle.std.proofs.Common.{rules}
use Rattle.std.proofs.lemmas.Iterator.Adapters.{YieldsList-from_vec}
use Rattle.std.proofs.lemmas.Iterator.Consumers.{YieldsList-end}
use Rattle.clio_files.proofs.SheetLists.{files_taken}
use Rattle.clio_files.proofs.summaries.into_files.Goals as goal

pub returns : goal.returns
returns c =
    let end =
    YieldsList-end (YieldsList-from_vec c.args.printed.items (search rules) (search rules)) c.loop-one.yielded c.loop-one.one-iterator
    c.loop-one.yielded_by c.next.result c.next.new.self c.in-None.is c.next.ensures.steps in
    files_taken c.loop-one.files.items c.loop-one.yielded c.args.printed.items c.loop-one.invariant end.0
