use Rattle.std.proofs.Common.{◌∙◌, [], below_more, get_or}
use Rattle.dx_base.proofs.Members.{in_at}
use Rattle.dx_instance.specs.Stored.{facts}
use Rattle.dx_judge.proofs.Said.{tuples_all}
use Rattle.dx_judge.proofs.opening.first_tuple.Goals as goal

pub tuple_holds-requires-clause-tuple : goal.tuple_holds-requires-clause-tuple
tuple_holds-requires-clause-tuple c = record {
  variables_are = c.deref.ensures.value ∙ c.in_ok-variables.ensures;
  long = rw (c.tuple-tuple.ensures, c.deref.ensures.value, c.in_ok-variables.ensures)
      (c.requires.tuples.long (get_or c.args.places.now.tuples c.loop-place.place [])
      (in_at c.args.places.now.tuples c.loop-place.place [] (rw c.len-place-end.ensures at c.loop-place-test.true)));
}

pub loop-place-preserved : goal.loop-place-preserved
loop-place-preserved c = below_more _ _ c.loop-place.invariant ((rw c.tuple-tuple.ensures at c.in_ok-tuple_holds.ensures).0 c.if-not-branch.false)

pub returns : goal.returns
returns c =
    tuples_all c.args.rule.now (facts c.args.given.now.plain.now) c.args.places.now.tuples c.loop-place.place
    (rw c.len-place-end.ensures at c.loop-place-test.false) c.loop-place.invariant
