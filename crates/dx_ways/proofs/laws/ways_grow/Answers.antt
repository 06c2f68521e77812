use Rattle.dx_ways.proofs.WaysAre.{ways_grow}
use Rattle.dx_ways.proofs.laws.ways_grow.Goals as goal

pub returns : goal.returns
returns c = ways_grow
