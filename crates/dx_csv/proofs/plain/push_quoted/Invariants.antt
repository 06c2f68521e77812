use Rattle.dx_csv.proofs.OneField.{InQuotes}
use Rattle.dx_csv.proofs.plain.push_quoted.Given as goal

-- of the field so much is read
abbrev pub invariant-loop-part : goal.invariant-loop-part
invariant-loop-part l = InQuotes l.text l.start l.from l.initial.fields l.fields
