use Rattle.std.proofs.Common.{◌≡◌, ◌++◌, List, get_or, length, sym, take, arith, ◌∙◌, ap, subst}
use Rattle.std.proofs.lemmas.List.{get_or_default, take_all}
use Rattle.dx_model.specs.declared.covers.CellMap.{CellMap}
use Rattle.std.specs.Prelude.{flat_map}
use Rattle.dx_model.specs.Covers.{places_by, rule_at}
use Rattle.dx_cover_fold.specs.Found.{FindsAmong, no_map}
use Rattle.dx_cover_fold.specs.Matched.{matched_tuples}
use Rattle.dx_cover_fold.proofs.CoverFacts.{few_maps, maps_more}
use Rattle.dx_cover_fold.proofs.covering.Covering.by_rule.Goals as goal

pub overflow_cast-number : goal.overflow_cast-number
overflow_cast-number c =
    let few = few_maps (rule_at c.args.self.now.rules.now c.args.self.now.rule) (rule_at c.args.self.now.rules.now c.args.other) in
    omega (arith, c.loop-number-test.true, ap length (c.maps-maps.ensures.used c.args.self.now.rules.now c.requires.covers), few)

pub by_map-requires-clause-number : goal.by_map-requires-clause-number
by_map-requires-clause-number c =
    ap (λ (l : List CellMap). get_or l c.loop-number.number no_map) (sym (c.maps-maps.ensures.used c.args.self.now.rules.now c.requires.covers)) ∙ get_or_default c.maps-maps.result.now c.loop-number.number no_map c.index-maps-number.result c.loop-number-test.true ∙ sym c.index-maps-number.is

pub by_map-requires-clause-begun : goal.by_map-requires-clause-begun
by_map-requires-clause-begun c = record { own = c.requires.begun.own; many = ap length c.deref.ensures.value ∙ c.loop-number.invariant.0 ∙ c.requires.begun.many }

pub returns-clause-finds : goal.returns-clause-finds
returns-clause-finds c = λ C p.
    let all : take c.loop-number.number c.maps-maps.result.now ≡ c.maps-maps.result.now = take_all c.loop-number.number c.maps-maps.result.now (omega (arith, c.loop-number-test.false)) in
    subst (λ (l : List CellMap). FindsAmong c.args.self.now.rules.now (matched_tuples c.args.self.now.matches.now) c.args.self.now.rule (C ++ flat_map (places_by (matched_tuples c.args.self.now.matches.now) c.args.other) l) c.loop-number.found.items) (all ∙ c.maps-maps.ensures.used c.args.self.now.rules.now c.requires.covers)
    (c.loop-number.invariant.1.finds C p)

pub loop-number-preserved : goal.loop-number-preserved
loop-number-preserved c = (
  c.in_ok-found.ensures.many ∙ ap length c.deref.ensures.value ∙ c.loop-number.invariant.0,
  record {
    finds = λ C p.
        let more = maps_more (matched_tuples c.args.self.now.matches.now) c.args.other c.loop-number.number c.maps-maps.result.now c.index-maps-number.result C c.loop-number-test.true c.index-maps-number.is in
        let so_far = c.loop-number.invariant.1.finds C p in
        let next = c.in_ok-found.ensures.finds (C ++ flat_map (places_by (matched_tuples c.args.self.now.matches.now) c.args.other) (take c.loop-number.number c.maps-maps.result.now)) (rw c.deref.ensures.value so_far) in
        subst (λ z. FindsAmong c.args.self.now.rules.now (matched_tuples c.args.self.now.matches.now) c.args.self.now.rule z c.in_ok-found.found.items) more next;
  },
)
