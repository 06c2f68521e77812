use Rattle.std.proofs.Common.{length}
use Rattle.json.specs.Json.{value}
use Rattle.dx_json.proofs.Streams.{Passed}
use Rattle.dx_json.proofs.shredding.push_array.Given as goal

abbrev pub invariant-items : goal.invariant-items
invariant-items l = Passed (value 126) l.list.tree.now.label l.list.tree.now.inner l.list.at.now l.initial.reader l.initial.out l.reader l.place l.met l.out

abbrev pub decreases-items : goal.decreases-items
decreases-items l = length l.reader
