use Rattle.std.proofs.Common.{arith, take}
use Rattle.dx_tgd_text.proofs.Derivings.{arg_found, arg_missing, front_found, front_missing, front_past}
use Rattle.dx_tgd_text.proofs.derived.read_arg.Goals as goal
use Rattle.dx_tgd_text.proofs.derived.read_arg.Goals.{in_default-via-in-Some+else-number-variables, in_default-via-in_default}

pub returns-in-Some : goal.returns-in-Some
returns-in-Some c =
    let f = front_found c.in-Name.name c.args.known.now c.args.variables c.in-Some.number c.requires c.in-Some.ensures.1 (omega (arith, c.if-number-variables.true)) in
    rw c.in-Name.is (f.0, arg_found c.in-Name.name c.in-Name.place (take c.args.variables c.args.known.now) f.1)

pub returns-in_default : goal.returns-in_default
returns-in_default c =
    elim c.in_default.branch [
      | in_default-via-in-Some+else-number-variables w ↦
          rw c.in-Name.is
          (arg_missing c.in-Name.name c.in-Name.place (take c.args.variables c.args.known.now)
          (front_past c.in-Name.name c.args.known.now c.args.variables w.in-Some.number c.requires w.in-Some.ensures.1 (omega (arith, w.if-number-variables.false))))
      | in_default-via-in_default w ↦
          rw c.in-Name.is
          (arg_missing c.in-Name.name c.in-Name.place (take c.args.variables c.args.known.now) (front_missing c.in-Name.name c.args.known.now c.args.variables w.in_default.ensures))
    ]
