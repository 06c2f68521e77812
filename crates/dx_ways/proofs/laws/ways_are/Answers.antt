use Rattle.dx_ways.proofs.WaysAre.{ways_are}
use Rattle.dx_ways.proofs.laws.ways_are.Goals as goal

pub returns : goal.returns
returns c = ways_are
