use Rattle.std.proofs.Common.{◌∙◌, ◌⊎◌, subst, arith, ℕ, List}
use Rattle.dx_base.specs.Members.{◌∈◌}
use Rattle.dx_instance.specs.Shown.{numbers_of_table}
use Rattle.dx_joins.specs.Collecting.{CollectsRows, MoreThan}
use Rattle.dx_joins.specs.Planning.{Pairs}
use Rattle.dx_joins.proofs.ByPlace.{by_more, by_full, by_all}
use Rattle.dx_joins.proofs.join.Pairing.join_all.Goals as goal

pub join_pair-requires-clause-ready : goal.join_pair-requires-clause-ready
join_pair-requires-clause-ready c = record { plan = c.requires.plan; left = c.requires.left; width = c.loop-place.invariant.width ∙ c.requires.width }

pub returns-then-branch : goal.returns-then-branch
returns-then-branch c =
    let E : List ℕ → List ℕ → Type 0 = λ s t. Pairs c.args.self.now.plan.now c.args.self.now.marks.now c.args.left.now s t in
    let full : MoreThan c.loop-place.out.most (λ t. (t ∈ c.loop-place.out.rows) ⊎ E c.row-right.result.now t) = rw c.if-branch.true at c.in_ok-join_pair.ensures in
    by_full E (numbers_of_table c.args.self.now.source.now.tables c.args.self.now.table).rows c.args.out.now c.loop-place.out c.loop-place.place (omega (arith, c.loop-place-test.true, c.count-place-end.ensures)) c.loop-place.invariant
    (subst (λ (r : List ℕ). MoreThan c.loop-place.out.most (λ t. (t ∈ c.loop-place.out.rows) ⊎ E r t)) c.row-right.ensures.row full)

pub loop-place-preserved : goal.loop-place-preserved
loop-place-preserved c =
    let E : List ℕ → List ℕ → Type 0 = λ s t. Pairs c.args.self.now.plan.now c.args.self.now.marks.now c.args.left.now s t in
    let more : CollectsRows c.loop-place.out c.join_pair.new.out (E c.row-right.result.now) = rw c.if-branch.false at c.in_ok-join_pair.ensures in
    by_more E (numbers_of_table c.args.self.now.source.now.tables c.args.self.now.table).rows c.args.out.now c.loop-place.out c.join_pair.new.out c.loop-place.place c.loop-place.invariant
    (subst (λ (r : List ℕ). CollectsRows c.loop-place.out c.join_pair.new.out (E r)) c.row-right.ensures.row more)

pub returns : goal.returns
returns c =
    by_all (λ s t. Pairs c.args.self.now.plan.now c.args.self.now.marks.now c.args.left.now s t) (numbers_of_table c.args.self.now.source.now.tables c.args.self.now.table).rows c.args.out.now c.loop-place.out c.loop-place.place
    (omega (arith, c.loop-place-test.false, c.count-place-end.ensures, c.loop-place.auto.place-end)) c.loop-place.invariant
