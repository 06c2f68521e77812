use Rattle.dx_base.proofs.Members.{in_at}
use Rattle.dx_cover_fold.specs.declared.number_at.NumberAt.TheVariants.{Column}
use Rattle.dx_cover_fold.proofs.numbers_said.numbers_said.Goals as goal

pub number_of-requires : goal.number_of-requires
number_of-requires c = c.requires _ (in_at c.args.plan.now c.loop-at.at-index (Column 0) c.loop-at-test.true)
