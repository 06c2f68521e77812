use Rattle.std.specs.Option.{option_copied}
use Rattle.dx_hom.proofs.Reading.{answer_left}
use Rattle.dx_hom.proofs.find.Search.find_left.Goals as goal

pub returns-clause-exact : goal.returns-clause-exact
returns-clause-exact c =
    answer_left c.args.left.now.instance.now c.args.left.now.gone.now c.args.fixed.now (option_copied c.args.avoid) c.args.from.now c.search.new.found.cells
    c.requires.fixed_nulls c.search.result c.search.ensures.cases
