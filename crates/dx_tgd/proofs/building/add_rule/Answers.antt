use Rattle.std.proofs.Common.{◌∙◌, ℕ, List, subst}
use Rattle.std.specs.List.{AllZip}
use Rattle.dx_instance.specs.Stored.{widths}
use Rattle.dx_tgd.specs.Planned.{IsPlannedAtom, built}
use Rattle.dx_tgd.proofs.Steps.{RuleAt, more_at, room_at, stand_at}
use Rattle.dx_tgd.proofs.building.add_rule.Goals as goal

pub add_place-requires-clause-stand : goal.add_place-requires-clause-stand
add_place-requires-clause-stand c =
    let at : RuleAt c.args.target.now.symbols c.plan.new.self.symbols c.loop-place.target.symbols c.args.number c.args.rule.now c.args.rows.now c.count.result c.loop-place.place c.row.result.now c.deref-in-loop-place.result.now = record {
      grows = c.in_ok-plan.ensures.grows;
      same = c.loop-place.invariant.symbols;
      texts = c.requires.tuples.texts;
      wide = c.row.ensures.width ∙ c.requires.tuples.width;
      count = c.count.ensures.count;
      place = rw (← c.count-place-end.ensures.count) c.loop-place-test.true;
      read = c.row.ensures.row;
      plan = rw c.deref-in-loop-place.ensures.value (subst (λ (vars : List ℕ). AllZip (IsPlannedAtom c.plan.new.self.symbols c.args.number vars c.count.result) c.in_ok-plan.plan.items c.args.rule.now.conclusion) (c.deref.ensures.value ∙ c.in_ok-variables.ensures) c.in_ok-plan.ensures.planned);
    } in
    stand_at c.args.target.now.symbols c.plan.new.self.symbols c.loop-place.target.symbols c.args.number c.args.rule.now c.args.rows.now c.count.result c.loop-place.place c.row.result.now c.deref-in-loop-place.result.now at (widths (built c.loop-place.target)) (widths (built c.args.target.now)) c.loop-place.invariant.gains.widths_stay c.requires.fits

pub add_place-requires-clause-room : goal.add_place-requires-clause-room
add_place-requires-clause-room c =
    let at : RuleAt c.args.target.now.symbols c.plan.new.self.symbols c.loop-place.target.symbols c.args.number c.args.rule.now c.args.rows.now c.count.result c.loop-place.place c.row.result.now c.deref-in-loop-place.result.now = record {
      grows = c.in_ok-plan.ensures.grows;
      same = c.loop-place.invariant.symbols;
      texts = c.requires.tuples.texts;
      wide = c.row.ensures.width ∙ c.requires.tuples.width;
      count = c.count.ensures.count;
      place = rw (← c.count-place-end.ensures.count) c.loop-place-test.true;
      read = c.row.ensures.row;
      plan = rw c.deref-in-loop-place.ensures.value (subst (λ (vars : List ℕ). AllZip (IsPlannedAtom c.plan.new.self.symbols c.args.number vars c.count.result) c.in_ok-plan.plan.items c.args.rule.now.conclusion) (c.deref.ensures.value ∙ c.in_ok-variables.ensures) c.in_ok-plan.ensures.planned);
    } in
    room_at c.args.target.now.symbols c.plan.new.self.symbols c.loop-place.target.symbols c.args.number c.args.rule.now c.args.rows.now c.count.result c.loop-place.place c.row.result.now c.deref-in-loop-place.result.now at (built c.args.target.now) (built c.loop-place.target) c.loop-place.invariant.gains c.requires.room

pub loop-place-preserved : goal.loop-place-preserved
loop-place-preserved c =
    let at : RuleAt c.args.target.now.symbols c.plan.new.self.symbols c.loop-place.target.symbols c.args.number c.args.rule.now c.args.rows.now c.count.result c.loop-place.place c.row.result.now c.deref-in-loop-place.result.now = record {
      grows = c.in_ok-plan.ensures.grows;
      same = c.loop-place.invariant.symbols;
      texts = c.requires.tuples.texts;
      wide = c.row.ensures.width ∙ c.requires.tuples.width;
      count = c.count.ensures.count;
      place = rw (← c.count-place-end.ensures.count) c.loop-place-test.true;
      read = c.row.ensures.row;
      plan = rw c.deref-in-loop-place.ensures.value (subst (λ (vars : List ℕ). AllZip (IsPlannedAtom c.plan.new.self.symbols c.args.number vars c.count.result) c.in_ok-plan.plan.items c.args.rule.now.conclusion) (c.deref.ensures.value ∙ c.in_ok-variables.ensures) c.in_ok-plan.ensures.planned);
    } in
    record {
      symbols = c.in_ok-add_place.ensures.symbols ∙ c.loop-place.invariant.symbols;
      gains = more_at c.args.target.now.symbols c.plan.new.self.symbols c.loop-place.target.symbols c.args.number c.args.rule.now c.args.rows.now c.count.result c.loop-place.place c.row.result.now c.deref-in-loop-place.result.now at (built c.args.target.now) (built c.loop-place.target) (built c.add_place.new.target) c.loop-place.invariant.gains c.in_ok-add_place.ensures.gained;
    }
