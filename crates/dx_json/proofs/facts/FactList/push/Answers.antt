use Rattle.std.proofs.Common.{◌++◌, ◌∷◌, [], ap, ◌∙◌, arith}
use Rattle.dx_json.specs.declared.facts.Line.{Line}
use Rattle.dx_json.proofs.LineFacts.{all_taken, facts_pushed, lines_pushed}
use Rattle.dx_json.proofs.facts.FactList.push.Goals as goal

pub invariant_of-self-2 : goal.invariant_of-self-2
invariant_of-self-2 c =
    let line : Line = record { table = c.args.table; start = c.in_ok-start.start; end = c.in_ok-end.end } in
    lines_pushed c.self.inside.texts c.loop-text.self-inside.texts c.args.constants.now c.self.inside.lines.items c.push-2.new.self.items line c.self.invariant
    (all_taken c.self.inside.texts c.loop-text.self-inside.texts c.args.constants.now c.loop-text.text-index c.loop-text.invariant.texts (omega (arith, c.loop-text-test.false)))
    (c.in_ok-push-2.ensures.items ∙ ap (λ v. v.items ++ line ∷ []) c.loop-text.invariant.lines) (c.in_ok-start.ensures ∙ c.len.ensures) (c.in_ok-end.ensures ∙ c.len-2.ensures)

pub returns : goal.returns
returns c =
    let line : Line = record { table = c.args.table; start = c.in_ok-start.start; end = c.in_ok-end.end } in
    facts_pushed c.self.inside.texts c.loop-text.self-inside.texts c.args.constants.now c.self.inside.lines.items c.push-2.new.self.items line c.args.self.now c.self.invariant
    (all_taken c.self.inside.texts c.loop-text.self-inside.texts c.args.constants.now c.loop-text.text-index c.loop-text.invariant.texts (omega (arith, c.loop-text-test.false)))
    (c.in_ok-push-2.ensures.items ∙ ap (λ v. v.items ++ line ∷ []) c.loop-text.invariant.lines) (c.in_ok-start.ensures ∙ c.len.ensures) (c.in_ok-end.ensures ∙ c.len-2.ensures) c.self.view_is
