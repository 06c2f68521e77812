use Rattle.std.proofs.Common.{◌≡◌, ◌++◌}
use Rattle.std.specs.Prelude.{codes, string_bytes}
use Rattle.dx_gen.specs.Demo.{each_below, emp_record}
use Rattle.dx_gen.proofs.rows.emp_text.Given as goal

abbrev pub invariant-loop-number : goal.invariant-loop-number
invariant-loop-number l = string_bytes l.out ≡ codes "eid,name,dname\n" ++ each_below emp_record l.number
