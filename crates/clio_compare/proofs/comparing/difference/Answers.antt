use Rattle.clio_compare.proofs.Pairs.{derived_found}
use Rattle.clio_compare.proofs.comparing.difference.Goals as goal

pub returns-clause-some : goal.returns-clause-some
returns-clause-some c =
    derived_found (c.args.first.now, c.args.second.now) c.derived_in.result (c.have_same_sets.ensures.0 c.if-not-have_same_sets.false)
    (c.are_free.ensures.0 c.if-not-are_free.false) c.derived_in.ensures.some
