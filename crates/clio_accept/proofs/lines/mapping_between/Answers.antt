use Rattle.dx_funcs.specs.Judging.{tested}
use Rattle.dx_funcs.specs.Serving.{offered}
use Rattle.dx_stages.specs.Running.{Answers}
use Rattle.dx_stages.proofs.Running.{as_error}
use Rattle.clio_accept.specs.declared.fault.AcceptFault.TheVariants.{Memory}
use Rattle.clio_accept.specs.Mapping.{limit_refusal, text_refusal}
use Rattle.clio_accept.specs.Accepting.{mapping_of, texts_between}
use Rattle.clio_accept.proofs.Ruled.{between_fit}
use Rattle.clio_accept.proofs.LineRules.{MarksRead, all_rules, leaving_stops, limit_stops, lines_stop, naming_stops, rules_taken, testing_stops, width_stops, writing_stops}
use Rattle.clio_accept.proofs.lines.mapping_between.Goals as goal

pub push_closed-requires-clause-fits : goal.push_closed-requires-clause-fits
push_closed-requires-clause-fits g c d m = (c.in_ok-written.ensures.fit c.requires.whole d m).conclusion

pub push_closed-requires-clause-numbered : goal.push_closed-requires-clause-numbered
push_closed-requires-clause-numbered g c d m = (c.in_ok-written.ensures.fit c.requires.whole d m).rule.existentials

pub returns-in_err-count_lines : goal.returns-in_err-count_lines
returns-in_err-count_lines g c =
    let list = offered c.args.host.now in
    let tests = tested c.args.tests.now in
    let b = texts_between c.args.said.source c.args.said.target c.args.said.lines.now c.args.said.conditions.now c.args.said.by_hand.now in
    let fault = c.in_err-count_lines.field-0.0 in
    as_error _ fault (Answers Memory (mapping_of list tests) b) c.from_residual.ensures.1 (lines_stop list tests b fault c.in_err-count_lines.ensures.many)

pub returns-in_err-lines : goal.returns-in_err-lines
returns-in_err-lines g c =
    let list = offered c.args.host.now in
    let tests = tested c.args.tests.now in
    let b = texts_between c.args.said.source c.args.said.target c.args.said.lines.now c.args.said.conditions.now c.args.said.by_hand.now in
    let fault = c.in_err-lines.field-0.0 in
    as_error _ (text_refusal fault) (Answers Memory (mapping_of list tests) b) c.from_residual-in_err-lines.ensures.1 (naming_stops list tests b fault c.in_ok-count_lines.ensures.few c.in_err-lines.ensures.fault)

pub returns-in_err-conditions : goal.returns-in_err-conditions
returns-in_err-conditions g c =
    let list = offered c.args.host.now in
    let tests = tested c.args.tests.now in
    let b = texts_between c.args.said.source c.args.said.target c.args.said.lines.now c.args.said.conditions.now c.args.said.by_hand.now in
    let fault = c.in_err-conditions.field-0.0 in
    as_error _ (text_refusal fault) (Answers Memory (mapping_of list tests) b) c.from_residual-in_err-conditions.ensures.1
    (testing_stops list tests b fault c.in_ok-count_lines.ensures.few c.in_ok-lines.ensures.none c.in_err-conditions.ensures.fault)

pub returns-in_err-written : goal.returns-in_err-written
returns-in_err-written g c =
    let list = offered c.args.host.now in
    let tests = tested c.args.tests.now in
    let b = texts_between c.args.said.source c.args.said.target c.args.said.lines.now c.args.said.conditions.now c.args.said.by_hand.now in
    let fault = c.in_err-written.field-0.0 in
    as_error _ (text_refusal fault) (Answers Memory (mapping_of list tests) b) c.from_residual-in_err-written.ensures.1
    (writing_stops list tests b fault c.in_ok-count_lines.ensures.few c.in_ok-lines.ensures.none c.in_ok-conditions.ensures.none c.in_err-written.ensures.fault)

pub returns-in_err-rules : goal.returns-in_err-rules
returns-in_err-rules g c =
    let list = offered c.args.host.now in
    let tests = tested c.args.tests.now in
    let b = texts_between c.args.said.source c.args.said.target c.args.said.lines.now c.args.said.conditions.now c.args.said.by_hand.now in
    let fault = c.in_err-rules.field-0.0 in
    let r : MarksRead list tests b = record { few = c.in_ok-count_lines.ensures.few; named = c.in_ok-lines.ensures.none; tested = c.in_ok-conditions.ensures.none; written = c.in_ok-written.ensures.none } in
    as_error _ (limit_refusal fault) (Answers Memory (mapping_of list tests) b) c.from_residual-in_err-rules.ensures.1
    (limit_stops list tests b fault r (rw (c.items.ensures, c.in_ok-lines.ensures.lines) at c.in_err-rules.ensures.fault))

pub returns-in_err-push_closed : goal.returns-in_err-push_closed
returns-in_err-push_closed g c =
    let list = offered c.args.host.now in
    let tests = tested c.args.tests.now in
    let b = texts_between c.args.said.source c.args.said.target c.args.said.lines.now c.args.said.conditions.now c.args.said.by_hand.now in
    let fault = c.in_err-push_closed.field-0.0 in
    let r : MarksRead list tests b = record { few = c.in_ok-count_lines.ensures.few; named = c.in_ok-lines.ensures.none; tested = c.in_ok-conditions.ensures.none; written = c.in_ok-written.ensures.none } in
    as_error _ fault (Answers Memory (mapping_of list tests) b) c.from_residual-in_err-push_closed.ensures.1
    (width_stops list tests b c.in_ok-written.written.items fault r (rw (c.items.ensures, c.in_ok-lines.ensures.lines) at c.in_ok-rules.ensures.passed_none) c.in_ok-written.ensures.rules c.in_err-push_closed.ensures.wide)

pub pruned-requires : goal.pruned-requires
pruned-requires g c =
    let list = offered c.args.host.now in
    let tests = tested c.args.tests.now in
    let b = texts_between c.args.said.source c.args.said.target c.args.said.lines.now c.args.said.conditions.now c.args.said.by_hand.now in
    let r : MarksRead list tests b = record { few = c.in_ok-count_lines.ensures.few; named = c.in_ok-lines.ensures.none; tested = c.in_ok-conditions.ensures.none; written = c.in_ok-written.ensures.none } in
    let e = c.in_ok-push_closed.ensures.closings in
    let all = all_rules list b c.in_ok-written.written.items c.in_ok-rules.rules.items e.0 c.push_closed.new.rules.items c.in_ok-written.ensures.rules
    (rw (c.items.ensures, c.in_ok-lines.ensures.lines) at c.in_ok-rules.ensures.rules) e.1 e.2 in
    between_fit list tests b c.push_closed.new.rules.items c.requires r (rw (c.items.ensures, c.in_ok-lines.ensures.lines) at c.in_ok-rules.ensures.passed_none) all

pub returns-in_err-left : goal.returns-in_err-left
returns-in_err-left g c =
    let list = offered c.args.host.now in
    let tests = tested c.args.tests.now in
    let b = texts_between c.args.said.source c.args.said.target c.args.said.lines.now c.args.said.conditions.now c.args.said.by_hand.now in
    let r : MarksRead list tests b = record { few = c.in_ok-count_lines.ensures.few; named = c.in_ok-lines.ensures.none; tested = c.in_ok-conditions.ensures.none; written = c.in_ok-written.ensures.none } in
    let e = c.in_ok-push_closed.ensures.closings in
    let all = all_rules list b c.in_ok-written.written.items c.in_ok-rules.rules.items e.0 c.push_closed.new.rules.items c.in_ok-written.ensures.rules
    (rw (c.items.ensures, c.in_ok-lines.ensures.lines) at c.in_ok-rules.ensures.rules) e.1 e.2 in
    let fault = c.in_err-left.field-0.0 in
    as_error _ fault (Answers Memory (mapping_of list tests) b) c.from_residual-in_err-left.ensures.1
    (leaving_stops list tests b c.push_closed.new.rules.items fault r (rw (c.items.ensures, c.in_ok-lines.ensures.lines) at c.in_ok-rules.ensures.passed_none) all c.in_err-left.ensures)

pub returns : goal.returns
returns g c =
    let list = offered c.args.host.now in
    let tests = tested c.args.tests.now in
    let b = texts_between c.args.said.source c.args.said.target c.args.said.lines.now c.args.said.conditions.now c.args.said.by_hand.now in
    let r : MarksRead list tests b = record { few = c.in_ok-count_lines.ensures.few; named = c.in_ok-lines.ensures.none; tested = c.in_ok-conditions.ensures.none; written = c.in_ok-written.ensures.none } in
    let e = c.in_ok-push_closed.ensures.closings in
    let all = all_rules list b c.in_ok-written.written.items c.in_ok-rules.rules.items e.0 c.push_closed.new.rules.items c.in_ok-written.ensures.rules
    (rw (c.items.ensures, c.in_ok-lines.ensures.lines) at c.in_ok-rules.ensures.rules) e.1 e.2 in
    rules_taken list tests b c.push_closed.new.rules.items c.in_ok-left.left c.in_ok-conditions.conditions r (rw (c.items.ensures, c.in_ok-lines.ensures.lines) at c.in_ok-rules.ensures.passed_none) all
    c.in_ok-left.ensures c.in_ok-conditions.ensures.conditions
