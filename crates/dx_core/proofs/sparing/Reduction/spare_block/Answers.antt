use Rattle.std.proofs.Common.{◌∙◌, length, refl, sym}
use Rattle.std.proofs.lemmas.Bool.{true≢false}
use Rattle.dx_base.proofs.Members.{in_at}
use Rattle.dx_model.proofs.Reduction.{reduct_itself, reduct_of_reduct}
use Rattle.dx_core.specs.Left.{facts_left}
use Rattle.dx_core.proofs.Spared.{all_tried, known_start, needed_row, none_tried, same_needed}
use Rattle.dx_core.proofs.sparing.Reduction.spare_block.Goals as goal
use Rattle.dx_core.proofs.sparing.Reduction.spare_block.Goals.{then-branch, else-branch}

pub loop-at-init : goal.loop-at-init
loop-at-init c =
    let s = c.args.self.now in record {
      numbers = refl;
      reduct = reduct_itself (facts_left s.numbers s.taken);
      needed = none_tried s.numbers (facts_left s.numbers s.taken) c.args.block.now.rows;
      block = c.in_ok-task.ensures.block;
      known = known_start s.numbers (facts_left s.numbers s.taken) c.args.block.now.nulls c.in_ok-task.task.known.items
          (length c.args.block.now.nulls) refl c.in_ok-task.ensures.known;
      others = λ f m n. m;
      same = λ e. refl;
    }

pub spare_row-requires-clause-ready : goal.spare_row-requires-clause-ready
spare_row-requires-clause-ready c =
    let i = c.loop-at.invariant in
    record { tried = rw (i.numbers, i.block) c.requires.block; rigid = rw (i.numbers, i.block) i.known }

pub spare_row-requires-clause-at : goal.spare_row-requires-clause-at
spare_row-requires-clause-at c =
    rw c.loop-at.invariant.block
    (rw (← c.items-at-items.ensures) (in_at c.items-at-items.result.now c.loop-at.at-index _ c.loop-at-test.true))

pub loop-at-preserved : goal.loop-at-preserved
loop-at-preserved c =
    let s = c.args.self.now in
    let e = c.loop-at.invariant.numbers in
    let d = c.loop-at.invariant.block in
    let r = rw e at c.in_ok-spare_row.ensures.reduct in
    record {
      numbers = c.spare_row.ensures.numbers ∙ e;
      reduct = reduct_of_reduct _ _ _ c.loop-at.invariant.reduct r;
      needed = needed_row s.numbers (facts_left s.numbers c.loop-at.self.taken) (facts_left s.numbers c.spare_row.new.self.taken)
          c.args.block.now.rows c.loop-at.at-index (record { table = 0; place = 0 }) (rw c.items-at-items.ensures at c.loop-at-test.true) r
          (same_needed s.numbers c.loop-at.self.numbers c.spare_row.new.self.taken _ e
          (rw c.items-at-items.ensures at c.in_ok-spare_row.ensures.needed)) c.loop-at.invariant.needed;
      block = c.spare_row.ensures.block ∙ d;
      known = rw (e, d) at c.in_ok-spare_row.ensures.known;
      others = λ f m n. (rw (e, d) at c.in_ok-spare_row.ensures.others) f (c.loop-at.invariant.others f m n) n;
      same = elim c.if-branch.branch [
        | then-branch w ↦ λ q. absurd (true≢false (sym w.spared-is ∙ q))
        | else-branch w ↦ λ q. c.in_ok-spare_row.ensures.same w.if-branch.false ∙ c.loop-at.invariant.same (sym w.spared-is ∙ q)
      ];
    }

pub returns : goal.returns
returns c =
    let s = c.args.self.now in record {
      numbers = c.loop-at.invariant.numbers;
      reduct = c.loop-at.invariant.reduct;
      needed = all_tried s.numbers (facts_left s.numbers c.loop-at.self.taken) c.args.block.now.rows c.loop-at.at-index
          (rw c.items-at-items.ensures at c.loop-at-test.false) c.loop-at.invariant.needed;
      others = c.loop-at.invariant.others;
      same = c.loop-at.invariant.same;
    }
