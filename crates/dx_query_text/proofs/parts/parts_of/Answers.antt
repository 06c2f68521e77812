use Rattle.std.proofs.Common.{◌≡◌, ◌<◌, arith, ◌∙◌, ap}
use Rattle.std.specs.Prelude.{Err}
use Rattle.dx_query_text.proofs.Telling.{given, left_inside, told_read, told_stopped, told_open, told_left}
use Rattle.dx_query_text.proofs.parts.parts_of.Goals as goal

pub fault_at-requires-clause-inside : goal.fault_at-requires-clause-inside
fault_at-requires-clause-inside c =
    let some : 0 < c.in-Err-Left.left = omega arith in
    left_inside c.args.tokens.now c.in-Err-Left.left some (rw c.in-Err-Left.field-0-is at c.in-Err-Left.ensures)

pub returns-in-None : goal.returns-in-None
returns-in-None c = told_read c.args.end c.args.stop c.args.tokens.now c.in-Ok.parts c.in-None.is c.in-Ok.ensures

pub returns-in-Some : goal.returns-in-Some
returns-in-Some c = told_stopped c.args.end c.args.stop c.in-Some.place c.in-Some.kind c.args.tokens.now c.in-Ok.parts c.in-Some.is c.in-Ok.ensures

pub returns-in-Err-Left-eq0 : goal.returns-in-Err-Left-eq0
returns-in-Err-Left-eq0 c =
    let none : c.in-Err-Left-eq0.field-0-0 ≡ 0 = omega arith in
    let read : given c.args.tokens.now ≡ Err c.in-Err-Left-eq0.field-0-0 = rw c.in-Err-Left-eq0.field-0-is at c.in-Err-Left-eq0.ensures in
    told_open c.args.end c.args.stop c.args.tokens.now c.at_stop.result (read ∙ ap (λ n. Err n) none) c.at_stop.ensures

pub returns-in-Err-Left : goal.returns-in-Err-Left
returns-in-Err-Left c =
    let some : 0 < c.in-Err-Left.left = omega arith in
    told_left c.args.end c.args.stop c.args.tokens.now c.in-Err-Left.left c.fault_at.result some (rw c.in-Err-Left.field-0-is at c.in-Err-Left.ensures) c.fault_at.ensures
