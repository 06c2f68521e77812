use Rattle.std.proofs.Common.{◌∙◌, None, Some}
use Rattle.std.proofs.lemmas.List.{length-map}
use Rattle.dx_base.proofs.Members.{item_in}
use Rattle.dx_model.specs.declared.matches.Places.{Places}
use Rattle.dx_instance.specs.Stored.{facts}
use Rattle.dx_model.specs.Matches.{rows_of_matches}
use Rattle.dx_judge.proofs.Said.{hold_more, is_open, none_open, tuple_here, tuples_few, tuples_long}
use Rattle.dx_judge.proofs.opening.first_open.Goals as goal

pub first_tuple-requires-clause-conclusion : goal.first_tuple-requires-clause-conclusion
first_tuple-requires-clause-conclusion c =
    c.requires.conclusions c.index-rules-i.result (item_in c.args.rules.now c.loop-i.i c.index-rules-i.result c.loop-i-test.true c.index-rules-i.is)

pub first_tuple-requires-clause-tuples : goal.first_tuple-requires-clause-tuples
first_tuple-requires-clause-tuples c = record {
  long = tuples_long c.args.rules.now c.args.matches.now c.items.result.now c.loop-i.i c.index-rules-i.result c.index-items-i.result c.items.ensures c.requires.matches.many
      c.loop-i-test.true c.index-rules-i.is c.index-items-i.is c.requires.matches.long;
  few = tuples_few c.args.rules.now c.args.matches.now c.items.result.now c.loop-i.i c.index-rules-i.result c.index-items-i.result c.items.ensures c.requires.matches.many
      c.loop-i-test.true c.index-rules-i.is c.index-items-i.is c.requires.matches.few;
}

pub returns-in-Some : goal.returns-in-Some
returns-in-Some c =
    let many = length-map c.args.matches.now.rules (λ (p : Places). p.tuples) ∙ c.requires.matches.many in
    is_open c.args.rules.now (rows_of_matches c.args.matches.now) (facts c.args.given.now.plain.now) c.loop-i.i c.in-Some.place c.loop-i-test.true many
    (tuple_here c.args.rules.now c.args.matches.now c.items.result.now c.loop-i.i c.index-rules-i.result c.index-items-i.result c.items.ensures c.requires.matches.many
    c.loop-i-test.true c.index-rules-i.is c.index-items-i.is (facts c.args.given.now.plain.now) (Some c.in-Some.place) (rw c.in-Some.is at c.in_ok-place.ensures))
    c.loop-i.invariant

pub loop-i-preserved : goal.loop-i-preserved
loop-i-preserved c =
    hold_more c.args.rules.now (rows_of_matches c.args.matches.now) (facts c.args.given.now.plain.now) c.loop-i.i
    (tuple_here c.args.rules.now c.args.matches.now c.items.result.now c.loop-i.i c.index-rules-i.result c.index-items-i.result c.items.ensures c.requires.matches.many
    c.loop-i-test.true c.index-rules-i.is c.index-items-i.is (facts c.args.given.now.plain.now) None (rw c.in_default.is at c.in_ok-place.ensures)) c.loop-i.invariant

pub returns : goal.returns
returns c = none_open c.args.rules.now (rows_of_matches c.args.matches.now) (facts c.args.given.now.plain.now) c.loop-i.i c.loop-i-test.false c.loop-i.invariant
