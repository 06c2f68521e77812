use Rattle.dx_ways.proofs.WaysAre.{ways_ascend}
use Rattle.dx_ways.proofs.laws.ways_ascend.Goals as goal

pub returns : goal.returns
returns c = ways_ascend
