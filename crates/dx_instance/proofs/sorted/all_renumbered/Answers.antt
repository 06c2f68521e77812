use Rattle.std.proofs.Common.{sym, subst, List}
use Rattle.std.proofs.Common.{refl}
use Rattle.dx_base.specs.Members.{◌∈◌, here, there}
use Rattle.dx_instance.specs.Cells.{NumberTable}
use Rattle.dx_instance.specs.Shown.{renumbered}
use Rattle.dx_instance.proofs.SortFacts.{image_more}
use Rattle.dx_instance.proofs.sorted.all_renumbered.Goals as goal

pub into_renumbered-requires : goal.into_renumbered-requires
into_renumbered-requires c = (c.loop-rows.invariant.fit _ (subst (λ (l : List NumberTable). c.in-Some.rows ∈ l) (sym c.in-Some.ensures.steps.0) (here refl))).within

pub loop-rows-preserved : goal.loop-rows-preserved
loop-rows-preserved c = record {
  all = image_more (renumbered c.args.ranks.now) c.loop-rows.all.items c.push.new.self.items _ _ _ c.in-Some.rows c.into_renumbered.result c.in-Some.ensures.steps.0 c.in_ok-push.ensures.items c.into_renumbered.ensures c.loop-rows.invariant.all;
  fit = λ t m. c.loop-rows.invariant.fit t (subst (λ (l : List NumberTable). t ∈ l) (sym c.in-Some.ensures.steps.0) (there m));
}
