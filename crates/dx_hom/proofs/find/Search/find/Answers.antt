use Rattle.std.specs.Option.{option_copied}
use Rattle.dx_hom.proofs.Reading.{answer, answer_found}
use Rattle.dx_hom.proofs.find.Search.find.Goals as goal

pub returns-clause-exact : goal.returns-clause-exact
returns-clause-exact c =
    answer c.args.into.now c.args.fixed.now (option_copied c.args.avoid) c.args.from.now c.search.new.found.cells c.requires.fixed_nulls
    c.search.result (rw c.self.invariant.2 at c.search.ensures.cases)

pub returns-clause-found : goal.returns-clause-found
returns-clause-found c =
    answer_found c.args.into.now c.args.fixed.now (option_copied c.args.avoid) c.args.from.now c.search.new.found.cells c.requires.fixed_nulls
    c.search.result (rw c.self.invariant.2 at c.search.ensures.cases)
