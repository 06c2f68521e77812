use Rattle.dx_keys.proofs.RootMaps.{MapTo}
use Rattle.dx_keys.proofs.reading.read_map.Given as goal

abbrev pub invariant-loop-number : goal.invariant-loop-number
invariant-loop-number l = MapTo l.symbols l.roots l.number l.map
