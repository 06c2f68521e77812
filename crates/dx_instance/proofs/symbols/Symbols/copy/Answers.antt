use Rattle.std.proofs.Common.{◌++◌}
use Rattle.dx_instance.proofs.NumberFacts.{apart_later}
use Rattle.dx_instance.proofs.symbols.Symbols.copy.Goals as goal

pub set_of-requires : goal.set_of-requires
set_of-requires c = rw c.as_slice.ensures.keys (apart_later (c.self.inside.ordered ++ c.self.inside.greater.items) c.self.inside.later.keys c.self.invariant.1)
