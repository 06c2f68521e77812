use Rattle.std.proofs.Common.{◌∙◌, ◌++◌, arith, sym, ap, subst, ℕ, List}
use Rattle.std.proofs.lemmas.Bool.{true≢false}
use Rattle.dx_base.specs.Members.{◌∈◌}
use Rattle.dx_base.proofs.Members.{in_right}
use Rattle.dx_joins.specs.Looking.{numbers_at_places}
use Rattle.dx_joins.proofs.Places.{places_within, joined_agree}
use Rattle.dx_joins.proofs.Collections.{gains_nothing}
use Rattle.dx_joins.proofs.Pairing.{paired}
use Rattle.dx_joins.proofs.join.Pairing.join_pair.Goals as goal

pub agree-requires-clause-within : goal.agree-requires-clause-within
agree-requires-clause-within c =
    let p = c.args.self.now.plan.now in
    let w = places_within p.left.items p.right.items p.right.items p.firsts.items (λ x m. in_right p.left.items m) c.requires.ready.plan.firsts in
    λ i m. let h = w i (subst (λ (l : List ℕ). i ∈ l) c.deref.ensures.value m) in omega (arith, h, c.requires.ready.left, c.requires.right)

pub returns-then-not-are_marked : goal.returns-then-not-are_marked
returns-then-not-are_marked c = gains_nothing c.args.out.now _ (λ t p. true≢false (sym (c.are_marked.ensures.1 p.marked) ∙ c.if-not-are_marked.true))

pub returns-then-not-agree : goal.returns-then-not-agree
returns-then-not-agree c =
    let p = c.args.self.now.plan.now in
    gains_nothing c.args.out.now _ (λ t q. true≢false (sym (c.agree.ensures.1 (ap (λ (l : List ℕ). numbers_at_places (c.args.left.now ++ c.args.right.now) l) c.deref.ensures.value
    ∙ joined_agree p.left.items p.right.items p.kept.items p.firsts.items c.args.left.now c.args.right.now t c.requires.ready.plan.firsts q.joined)) ∙ c.if-not-agree.true))

pub gather-requires : goal.gather-requires
gather-requires c = record {
  within =
      let p = c.args.self.now.plan.now in
      let w = places_within p.left.items p.right.items p.kept.items p.places.items c.requires.ready.plan.known c.requires.ready.plan.places in
      λ i m. let h = w i (subst (λ (l : List ℕ). i ∈ l) c.deref-2.ensures.value m) in omega (arith, h, c.requires.ready.left, c.requires.right);
}

pub returns : goal.returns
returns c =
    let p = c.args.self.now.plan.now in
    let agree = ap (λ (l : List ℕ). numbers_at_places (c.args.left.now ++ c.args.right.now) l) (sym c.deref.ensures.value) ∙ c.agree.ensures.0 c.if-not-agree.false in
    let buffer = c.deref-3.ensures.value ∙ c.in_ok-gather.ensures ∙ ap (λ (l : List ℕ). numbers_at_places (c.args.left.now ++ c.args.right.now) l) c.deref-2.ensures.value in
    paired c.push.result p c.args.self.now.marks.now c.args.left.now c.args.right.now c.deref-3.result.now c.args.out.now c.push.new.self c.requires.ready.plan c.requires.ready.left (c.are_marked.ensures.0 c.if-not-are_marked.false)
    agree buffer c.push.ensures
