use Rattle.std.proofs.Common.{◌<◌, ◌≤◌, ◌⊎◌, ℕ, get_or, length, arith, inl, inr, min}
use Rattle.std.proofs.lemmas.Bool.{cases_lt}
use Rattle.std.proofs.lemmas.List.{get_or_default}
use Rattle.dx_cover_fold.proofs.PlanFacts.{found_first, found_past, plan_column, plan_nothing}
use Rattle.dx_cover_fold.proofs.plan.plan_variable.Goals as goal

pub loop-i-init : goal.loop-i-init
loop-i-init c = found_first c.args.variables.now c.args.width c.args.variable

pub loop-i-preserved : goal.loop-i-preserved
loop-i-preserved c =
    let l : c.loop-i.i < length c.args.variables.now = omega (arith, c.loop-i-test.true, c.min-i-end.ensures) in
    let k : c.loop-i.i < c.args.width = omega (arith, c.loop-i-test.true, c.min-i-end.ensures) in
    found_past c.args.variables.now c.args.width c.args.variable c.loop-i.i (get_or c.args.variables.now c.loop-i.i 0) l k (get_or_default c.args.variables.now c.loop-i.i 0 _ l) c.if-variable-variables.false c.loop-i.invariant

pub returns-then-variable-variables : goal.returns-then-variable-variables
returns-then-variable-variables c =
    let l : c.loop-i.i < length c.args.variables.now = omega (arith, c.loop-i-test.true, c.min-i-end.ensures) in
    let k : c.loop-i.i < c.args.width = omega (arith, c.loop-i-test.true, c.min-i-end.ensures) in
    plan_column c.args.matches.now.symbols c.args.variables.now c.args.width c.args.variable c.loop-i.i (get_or c.args.variables.now c.loop-i.i 0) l k (get_or_default c.args.variables.now c.loop-i.i 0 _ l) c.if-variable-variables.true c.loop-i.invariant

nowhere : (m n i : ℕ) → min m n ≤ i → (m ≤ i) ⊎ (n ≤ i)
nowhere m n i h = elim (cases_lt i m) [ inl l ↦ inr (omega arith) | inr g ↦ inl g ]

pub returns : goal.returns
returns c =
    plan_nothing c.args.matches.now.symbols c.args.variables.now c.args.width c.args.variable c.loop-i.i c.code.result (nowhere (length c.args.variables.now) c.args.width c.loop-i.i (omega (arith, c.loop-i-test.false, c.min-i-end.ensures)))
    c.loop-i.invariant (rw c.in_ok-from_str.ensures at c.code.ensures)
