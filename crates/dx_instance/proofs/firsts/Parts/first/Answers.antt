use Rattle.std.proofs.Common.{ap}
use Rattle.dx_instance.specs.Cells.{NumberTable}
use Rattle.dx_instance.proofs.PartsFacts.{added_new, first_new, first_there, parts_new, parts_there}
use Rattle.dx_instance.proofs.firsts.Parts.first.Goals as goal

pub returns-in-Some-clause-first : goal.returns-in-Some-clause-first
returns-in-Some-clause-first c f e a = first_there f c.args.place c.in-Some.at c.index.result.now c.args.part.now c.args.self.now e a c.in-Some.ensures.0 c.in-Some.ensures.1 c.index.ensures

pub returns-in-Some-clause-parts : goal.returns-in-Some-clause-parts
returns-in-Some-clause-parts c f e a = parts_there f c.args.place c.in-Some.at c.args.part.now c.args.self.now e a c.in-Some.ensures.0 c.in-Some.ensures.1

pub returns-clause-width : goal.returns-clause-width
returns-clause-width c = ap (λ (t : NumberTable). t.width) (added_new c.in_ok-add.field-0 c.args.self.now.rows c.add.new.self c.args.part.now c.in_default.ensures c.in_ok-add.ensures.is_new c.in_ok-add.ensures.added)

pub returns-clause-first : goal.returns-clause-first
returns-clause-first c f e a = first_new f c.args.place c.args.part.now c.args.self.now e a c.in_default.ensures

pub returns-clause-parts : goal.returns-clause-parts
returns-clause-parts c f e a =
    parts_new f c.args.place c.args.part.now c.args.self.now (record { rows = c.add.new.self; places = c.push.new.self }) e a c.in_default.ensures
    (ap (λ (t : NumberTable). t.rows) (added_new c.in_ok-add.field-0 c.args.self.now.rows c.add.new.self c.args.part.now c.in_default.ensures c.in_ok-add.ensures.is_new c.in_ok-add.ensures.added)) c.in_ok-push.ensures.items
