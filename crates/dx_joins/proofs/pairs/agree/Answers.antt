use Rattle.std.proofs.Common.{◌≡◌, ◌++◌, rules, tests}
use Rattle.std.specs.Prelude.{slice_index}
use Rattle.std.proofs.lemmas.Iterator.{cases_from_all, YieldsList-from_slice, YieldsList-from_zip}
use Rattle.std.proofs.lemmas.Iterator.Adapters.{serves_from_places}
use Rattle.dx_instance.proofs.AskedFacts.{first_in_zip, maps_to}
use Rattle.dx_joins.proofs.pairs.agree.Goals as goal

pub all-requires-clause-callable : goal.all-requires-clause-callable
all-requires-clause-callable c =
    let firsts = c.args.firsts.now in
    let right = c.args.right.now in
    serves_from_places (YieldsList-from_zip (YieldsList-from_slice firsts (cc)) (YieldsList-from_slice right (cc))) (λ x q m. search rules) (λ x k h e.
    let b = c.requires.within x.0.now (first_in_zip firsts right k (x.0.now, x.1.now) h e) in
    search (rules, b))

pub returns : goal.returns
returns c =
    let firsts = c.args.firsts.now in
    let right = c.args.right.now in
    let at = slice_index (c.args.left.now ++ right) in
    let by_call = cases_from_all c.all.new.self _ _ (λ p. at p.0 ≡ p.1) (λ p. ¬ (at p.0 ≡ p.1)) c.all.ensures.ran (YieldsList-from_zip (YieldsList-from_slice firsts (cc)) (YieldsList-from_slice right (cc))) (λ x q k. search (rules, tests)) (λ x q k. search (rules, tests)) in
    maps_to at _ firsts right c.requires.many by_call
