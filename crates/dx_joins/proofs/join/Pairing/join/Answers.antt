use Rattle.std.proofs.Common.{◌∙◌, ◌⊎◌, subst, arith, ℕ, List}
use Rattle.dx_base.specs.Members.{◌∈◌}
use Rattle.dx_instance.specs.Shown.{numbers_of_table}
use Rattle.dx_joins.specs.Collecting.{CollectsRows, MoreThan}
use Rattle.dx_joins.specs.Planning.{PairsWith}
use Rattle.dx_joins.proofs.ByPlace.{by_more, by_full, by_all}
use Rattle.dx_joins.proofs.join.Pairing.join.Goals as goal

pub join_left-requires-clause-ready : goal.join_left-requires-clause-ready
join_left-requires-clause-ready c = record {
  plan = c.requires.plan;
  left = c.row-left.ensures.width ∙ c.requires.left;
  width = c.loop-place.invariant.width ∙ c.requires.width;
}

pub returns-then-branch : goal.returns-then-branch
returns-then-branch c =
    let E : List ℕ → List ℕ → Type 0 = λ r t. PairsWith c.args.self.now.plan.now c.args.self.now.marks.now (numbers_of_table c.args.self.now.source.now.tables c.args.self.now.table).rows r t in
    let full : MoreThan c.loop-place.out.most (λ t. (t ∈ c.loop-place.out.rows) ⊎ E c.row-left.result.now t) = rw c.if-branch.true at c.in_ok-join_left.ensures in
    by_full E c.args.rows.now.rows c.args.out.now c.loop-place.out c.loop-place.place (omega (arith, c.loop-place-test.true, c.count-place-end.ensures.count)) c.loop-place.invariant
    (subst (λ (r : List ℕ). MoreThan c.loop-place.out.most (λ t. (t ∈ c.loop-place.out.rows) ⊎ E r t)) c.row-left.ensures.row full)

pub loop-place-preserved : goal.loop-place-preserved
loop-place-preserved c =
    let E : List ℕ → List ℕ → Type 0 = λ r t. PairsWith c.args.self.now.plan.now c.args.self.now.marks.now (numbers_of_table c.args.self.now.source.now.tables c.args.self.now.table).rows r t in
    let more : CollectsRows c.loop-place.out c.join_left.new.out (E c.row-left.result.now) = rw c.if-branch.false at c.in_ok-join_left.ensures in
    by_more E c.args.rows.now.rows c.args.out.now c.loop-place.out c.join_left.new.out c.loop-place.place c.loop-place.invariant
    (subst (λ (r : List ℕ). CollectsRows c.loop-place.out c.join_left.new.out (E r)) c.row-left.ensures.row more)

pub returns : goal.returns
returns c =
    by_all (λ r t. PairsWith c.args.self.now.plan.now c.args.self.now.marks.now (numbers_of_table c.args.self.now.source.now.tables c.args.self.now.table).rows r t) c.args.rows.now.rows c.args.out.now c.loop-place.out c.loop-place.place
    (omega (arith, c.loop-place-test.false, c.count-place-end.ensures.count, c.loop-place.auto.place-end)) c.loop-place.invariant
