use Rattle.dx_instance.proofs.table.Table.indexed_among.Given as goal

abbrev pub invariant-loop-i : goal.invariant-loop-i
invariant-loop-i l = Unit {0}
