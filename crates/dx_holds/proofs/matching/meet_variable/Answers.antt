use Rattle.std.proofs.Common.{arith, ap, length, vec_capacity}
use Rattle.dx_holds.proofs.Narrowing.{answer_before, met_now, room_for}
use Rattle.dx_holds.proofs.matching.meet_variable.Goals as goal

pub returns-in-Some-clause-cases : goal.returns-in-Some-clause-cases
returns-in-Some-clause-cases c =
    let m = rw (c.in-Some.is, c.as_slice.ensures.value) at c.found_at.ensures in
    answer_before c.args.target.now (vec_capacity c.args.found.now) c.args.found.now.items c.args.cell c.in-Some.entry c.requires.good m.0 m.1 c.is.result (rw (c.cell.ensures, c.cell-value.ensures) at c.is.ensures)

pub push_reserved-requires : goal.push_reserved-requires
push_reserved-requires c =
    let new = rw (c.in_default.is, c.as_slice.ensures.value) at c.found_at.ensures in
    let r = room_for c.args.target.now (vec_capacity c.args.found.now) c.args.found.now.items c.args.cell c.requires.good new c.requires.below in
    let e = ap length c.as_slice.ensures.value in
    omega (arith, r, e, c.as_slice.ensures.len)

pub returns-clause-cases : goal.returns-clause-cases
returns-clause-cases c =
    let new = rw (c.in_default.is, c.as_slice.ensures.value) at c.found_at.ensures in
    rw c.push_reserved.ensures.items (met_now c.args.target.now (vec_capacity c.args.found.now) c.args.found.now.items c.args.cell c.requires.good c.requires.cell new c.requires.below)
