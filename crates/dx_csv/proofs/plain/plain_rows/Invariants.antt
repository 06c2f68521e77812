use Rattle.dx_csv.proofs.PlainFacts.{Rows}
use Rattle.dx_csv.proofs.plain.plain_rows.Given as goal

-- so many records are read
abbrev pub invariant-loop-turn : goal.invariant-loop-turn
invariant-loop-turn l = Rows l.text l.from l.at l.width l.count l.turn l.fields
