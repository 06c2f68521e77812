use Rattle.dx_schema_text.proofs.Among.{lines_push, conditions_push, rules_push}
use Rattle.dx_schema_text.proofs.mapping.mapping_made.Goals as goal

pub items-preserved-in-Continue-1 : goal.items-preserved-in-Continue-1
items-preserved-in-Continue-1 c =
    let r = lines_push c.items.yielded c.in-Some.item c.in-Line.line c.items.lines c.push.new.self c.items.conditions c.items.rules c.in-Line.is c.in_ok-push-in-Line.ensures.ok (c.items.invariant.lines_are, c.items.invariant.conditions_are, c.items.invariant.rules_are) in
    record { lines_are = r.0; conditions_are = r.1; rules_are = r.2 }

pub items-preserved-in-Continue-branch-2 : goal.items-preserved-in-Continue-branch-2
items-preserved-in-Continue-branch-2 c =
    let r = rules_push c.items.yielded c.in-Some.item c.in-Rule.rule c.items.lines c.items.conditions c.items.rules c.push-in-Rule.new.self c.in-Rule.is c.in_ok-push-in-Rule.ensures.ok (c.items.invariant.lines_are, c.items.invariant.conditions_are, c.items.invariant.rules_are) in
    record { lines_are = r.0; conditions_are = r.1; rules_are = r.2 }

pub items-preserved : goal.items-preserved
items-preserved c =
    let r = conditions_push c.items.yielded c.in-Some.item c.in-Only.only c.items.lines c.items.conditions c.push-in-Only.new.self c.items.rules c.in-Only.is c.in_ok-push-in-Only.ensures.ok (c.items.invariant.lines_are, c.items.invariant.conditions_are, c.items.invariant.rules_are) in
    record { lines_are = r.0; conditions_are = r.1; rules_are = r.2 }
