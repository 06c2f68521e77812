use Rattle.dx_csv.proofs.PlainFacts.{Begun}
use Rattle.dx_csv.proofs.plain.push_plain.Given as goal

-- of the record so many fields are read
abbrev pub invariant-loop-number : goal.invariant-loop-number
invariant-loop-number l = Begun l.text l.from l.start l.number l.initial.fields l.fields
