use Rattle.std.proofs.Common.{◌≡◌, ◌<◌, ℕ, ◌-◌, ◌∙◌, sym, subst, length, get_or, arith}
use Rattle.dx_base.specs.Members.{◌∈◌}
use Rattle.dx_base.proofs.Members.{in_at}
use Rattle.dx_funcs.specs.Serving.{offered}
use Rattle.dx_model.specs.declared.rules.Derived.{Derived}
use Rattle.dx_scriptgen.proofs.Selecting.{cell_selected, call_selected, code_listed}
use Rattle.dx_scriptgen.proofs.matches.select_of.Goals as goal

pub returns-then-variable-firsts : goal.returns-then-variable-firsts
returns-then-variable-firsts g c = λ all e.
    cell_selected (offered c.args.host.now) all c.args.rule.now c.args.variable c.args.firsts.now c.in_ok-copy_cell.field-0 c.index-firsts-variable.result e c.if-variable-firsts.true c.index-firsts-variable.is
    c.in_ok-copy_cell.ensures

pub by_code-requires : goal.by_code-requires
by_code-requires g c =
    let within : c.args.variable - length c.args.firsts.now < length c.args.rule.now.derived = omega (arith, c.if-variable-firsts.false, c.requires.known, c.requires.firsts) in
    code_listed (offered c.args.host.now) c.args.rule.now (c.args.variable - length c.args.firsts.now) c.index-items-variable.result (λ e m. (c.requires.calls e m).listed) within
    (rw c.items.ensures at c.index-items-variable.is)

pub cells_at-requires : goal.cells_at-requires
cells_at-requires g c =
    let place : ℕ = c.args.variable - length c.args.firsts.now in
    let within : place < length c.args.rule.now.derived = omega (arith, c.if-variable-firsts.false, c.requires.known, c.requires.firsts) in
    let e : Derived = c.index-items-variable.result in
    let member : e ∈ c.args.rule.now.derived = subst (λ z. z ∈ c.args.rule.now.derived) (sym (rw c.items.ensures at c.index-items-variable.is)) (in_at c.args.rule.now.derived place e within) in
    λ x m. let h = (c.requires.calls e member).within x (rw c.items-2.ensures at m) in omega (arith, h, c.requires.firsts)

pub returns : goal.returns
returns g c = λ all q.
    let place : ℕ = c.args.variable - length c.args.firsts.now in
    let within : place < length c.args.rule.now.derived = omega (arith, c.if-variable-firsts.false, c.requires.known, c.requires.firsts) in
    let e : Derived = c.index-items-variable.result in
    let is : e ≡ get_or c.args.rule.now.derived place e = rw c.items.ensures at c.index-items-variable.is in
    let member : e ∈ c.args.rule.now.derived = subst (λ z. z ∈ c.args.rule.now.derived) (sym is) (in_at c.args.rule.now.derived place e within) in
    call_selected (offered c.args.host.now) all c.args.rule.now c.args.variable place c.args.firsts.now c.in_ok-copy.field-0 c.in_ok-cells_at.field-0 e q c.if-variable-firsts.false c.requires.known (omega arith) is
    (c.in_ok-copy.ensures ∙ c.by_code.ensures.name)
    (λ y m. let h = (c.requires.calls e member).within y m in omega (arith, h, c.requires.firsts)) (λ none. rw c.items-2.ensures at (c.in_ok-cells_at.ensures none))
