use Rattle.dx_instance.specs.Keys.{SecondKeys}
use Rattle.dx_instance.proofs.ties.second_keys.Given as goal

abbrev pub invariant-loop-number : goal.invariant-loop-number
invariant-loop-number l = SecondKeys l.symbols l.seconds.items l.number
