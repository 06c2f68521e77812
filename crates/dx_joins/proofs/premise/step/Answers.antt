use Rattle.std.proofs.Common.{◌∙◌, ◌⊎◌, ap, sym, List, ℕ, length}
use Rattle.dx_base.specs.Members.{◌∈◌}
use Rattle.dx_joins.specs.Collecting.{RowsExactly, Collection, CollectsRows, MoreThan}
use Rattle.dx_joins.specs.Planning.{StepsTo}
use Rattle.dx_joins.proofs.Carrying.{few_rows, from_plan, plan_steps, step_done, step_full}
use Rattle.dx_joins.proofs.premise.step.Goals as goal

pub join-requires : goal.join-requires
join-requires c =
    let e = c.in_ok-plan.ensures in
    record {
      plan = e.plan;
      left = c.requires.partial.wide ∙ sym (ap length (e.left ∙ c.deref.ensures.value));
      width = ap (λ (x : Collection). x.width) c.new-out.ensures ∙ sym (ap length e.kept);
    }

pub returns-then-branch-clause-rows : goal.returns-then-branch-clause-rows
returns-then-branch-clause-rows c =
    let plan = c.in_ok-plan.plan in
    let e = c.in_ok-plan.ensures in
    let P : List ℕ → Type 0 = from_plan c.args.marked.now.source.now.tables c.args.marked.now.marks.now c.args.partial.now c.args.pattern.now plan in
    let Q : List ℕ → Type 0 = StepsTo c.args.marked.now.source.now.tables c.args.marked.now.marks.now c.args.partial.now c.args.pattern.now c.args.kept.now in
    let full : MoreThan c.new-out.result.most (λ t. (t ∈ c.new-out.result.rows) ⊎ P t) = rw c.if-branch.true at c.in_ok-join.ensures in
    step_full c.new-out.result c.args.most P Q (ap (λ (x : Collection). x.most) c.new-out.ensures) (ap (λ (x : Collection). x.rows) c.new-out.ensures)
    (λ t. (plan_steps c.args.marked.now.source.now.tables c.args.marked.now.marks.now c.args.partial.now c.args.pattern.now plan c.args.kept.now (e.left ∙ c.deref.ensures.value) (e.right ∙ c.deref-2.ensures.value) e.kept t).0) full

pub returns-clause-rows : goal.returns-clause-rows
returns-clause-rows c =
    let plan = c.in_ok-plan.plan in
    let e = c.in_ok-plan.ensures in
    let P : List ℕ → Type 0 = from_plan c.args.marked.now.source.now.tables c.args.marked.now.marks.now c.args.partial.now c.args.pattern.now plan in
    let Q : List ℕ → Type 0 = StepsTo c.args.marked.now.source.now.tables c.args.marked.now.marks.now c.args.partial.now c.args.pattern.now c.args.kept.now in
    let gains : CollectsRows c.new-out.result c.join.new.out P = rw c.if-branch.false at c.in_ok-join.ensures in
    step_done c.finish.result c.new-out.result c.join.new.out c.args.most (length c.args.kept.now) P Q (ap (λ (x : Collection). x.most) c.new-out.ensures) (ap (λ (x : Collection). x.width) c.new-out.ensures)
    (ap (λ (x : Collection). x.rows) c.new-out.ensures)
    (plan_steps c.args.marked.now.source.now.tables c.args.marked.now.marks.now c.args.partial.now c.args.pattern.now plan c.args.kept.now (e.left ∙ c.deref.ensures.value) (e.right ∙ c.deref-2.ensures.value) e.kept) gains c.finish.ensures

pub returns-clause-within : goal.returns-clause-within
returns-clause-within c =
    let P : List ℕ → Type 0 = from_plan c.args.marked.now.source.now.tables c.args.marked.now.marks.now c.args.partial.now c.args.pattern.now c.in_ok-plan.plan in
    let gains : CollectsRows c.new-out.result c.join.new.out P = rw c.if-branch.false at c.in_ok-join.ensures in
    few_rows c.finish.result c.join.new.out.most c.args.most (MoreThan c.join.new.out.most (λ t. t ∈ c.join.new.out.rows)) (RowsExactly c.join.new.out.width (λ t. t ∈ c.join.new.out.rows))
    (gains.most ∙ ap (λ (x : Collection). x.most) c.new-out.ensures) c.finish.ensures
