use Rattle.std.proofs.Common.{◌≡◌, ◌∙◌, ◌<◌, ℕ, List, [], arith, get_or, length}
use Rattle.std.proofs.lemmas.List.{get_or_default}
use Rattle.dx_base.specs.Members.{◌∈◌, Each}
use Rattle.dx_base.proofs.Loops.{all_so, each_item, each_more, not_so}
use Rattle.dx_model.specs.declared.values.Value.{Value}
use Rattle.dx_model.specs.Rules.{cells_of, exported, fact_of_atom}
use Rattle.dx_model.specs.Values.{Tuple}
use Rattle.dx_instance.specs.Stored.{facts}
use Rattle.dx_holds.specs.Searching.{texts}
use Rattle.dx_holds.proofs.Rooms.{ex_below, is_asked}
use Rattle.dx_holds.proofs.room.satisfied.Goals as goal

tuple_there : (ts : List Tuple) (i n : ℕ) (t : Tuple) → i < n → n ≡ length ts → t ≡ get_or ts i [] → (i < length ts) × (t ≡ get_or ts i t)
tuple_there ts i n t h m e = let b : i < length ts = rw (← m) h in (b, e ∙ get_or_default ts i [] t b)

pub invariant_of-question : goal.invariant_of-question
invariant_of-question c =
    let t = tuple_there c.args.places.now.tuples c.loop-place.place c.len-place-end.result c.tuple.result.now c.loop-place-test.true c.len-place-end.ensures c.tuple.ensures in
    record {
      fit = rw c.items-atoms.ensures (is_asked c.args.target.now c.args.rule.now c.tuple.result.now c.requires.conclusion
          (each_item (λ (t : Tuple). length t ≡ length (exported c.args.rule.now)) c.args.places.now.tuples c.loop-place.place c.tuple.result.now t.0 t.1 c.requires.tuples));
    }

pub completes-requires : goal.completes-requires
completes-requires c = record {
  variables = λ v m.
      let h = ex_below (cells_of c.args.rule.now.conclusion) v (rw c.items-atoms.ensures at m) in
      omega (arith, h, c.requires.room.existentials, c.loop-place.invariant.existentials, c.loop-place.invariant.found);
  atoms = rw c.items-atoms.ensures (omega (arith, c.requires.room.atoms, c.loop-place.invariant.atoms, c.loop-place.invariant.done));
}

pub returns-then-not-completes-clause-value : goal.returns-then-not-completes-clause-value
returns-then-not-completes-clause-value c =
    let t = tuple_there c.args.places.now.tuples c.loop-place.place c.len-place-end.result c.tuple.result.now c.loop-place-test.true c.len-place-end.ensures c.tuple.ensures in
    not_so c.if-not-completes.true (rw c.items-atoms.ensures at c.completes.ensures.value)
    (each_item (λ (t : Tuple). (values : ℕ → Value) × Each c.args.rule.now.conclusion (λ a. fact_of_atom (texts c.args.rule.now.conclusion t) values a ∈ facts c.args.target.now)) c.args.places.now.tuples c.loop-place.place c.tuple.result.now t.0 t.1)

pub loop-place-preserved : goal.loop-place-preserved
loop-place-preserved c =
    let t = tuple_there c.args.places.now.tuples c.loop-place.place c.len-place-end.result c.tuple.result.now c.loop-place-test.true c.len-place-end.ensures c.tuple.ensures in
    record {
      found = omega (arith, c.loop-place.invariant.found, c.completes.ensures.found_capacity);
      done = omega (arith, c.loop-place.invariant.done, c.completes.ensures.done_capacity);
      atoms = c.loop-place.invariant.atoms;
      existentials = c.loop-place.invariant.existentials;
      held = each_more (λ (t : Tuple). (values : ℕ → Value) × Each c.args.rule.now.conclusion (λ a. fact_of_atom (texts c.args.rule.now.conclusion t) values a ∈ facts c.args.target.now)) c.args.places.now.tuples c.loop-place.place c.tuple.result.now
          t.0 t.1 c.loop-place.invariant.held ((rw c.items-atoms.ensures at c.completes.ensures.value).0 c.if-not-completes.false);
    }

pub returns-clause-value : goal.returns-clause-value
returns-clause-value c =
    all_so (λ (t : Tuple). (values : ℕ → Value) × Each c.args.rule.now.conclusion (λ a. fact_of_atom (texts c.args.rule.now.conclusion t) values a ∈ facts c.args.target.now)) c.args.places.now.tuples c.loop-place.place
    (rw c.len-place-end.ensures at c.loop-place-test.false) c.loop-place.invariant.held (λ q. q)
