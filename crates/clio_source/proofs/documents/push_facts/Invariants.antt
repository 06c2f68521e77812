use Rattle.clio_source.proofs.Numbers.{ArePut}
use Rattle.clio_source.proofs.documents.push_facts.Given as goal

abbrev pub invariant-loop-place : goal.invariant-loop-place
invariant-loop-place l = ArePut l.initial.symbols l.symbols l.initial.tables.items l.tables.items l.root l.facts l.place
