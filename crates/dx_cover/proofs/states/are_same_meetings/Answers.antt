use Rattle.std.proofs.Common.{◌≡◌, true, false, rules, tests, List, [], ◌∷◌, length, refl, sym, arith}
use Rattle.std.specs.Prelude.{◌&&◌}
use Rattle.std.proofs.lemmas.Iterator.{cases_from_all, YieldsList-from_slice, YieldsList-from_zip}
use Rattle.std.proofs.Math.Bool.{and-false}
use Rattle.dx_model.specs.declared.covers.Meeting.{Meeting}
use Rattle.dx_model.specs.Covers.{same_cell}
use Rattle.dx_cover.specs.States.{same_meetings}
use Rattle.dx_cover.proofs.Same.{same_by_meetings}
use Rattle.dx_cover.proofs.states.are_same_meetings.Goals as goal

longer : (a b : List Meeting) → ¬ (length a ≡ length b) → same_meetings a b ≡ false
longer [] [] h = absurd (h refl)
longer [] (n ∷ ns) h = refl
longer (m ∷ ms) [] h = refl
longer (m ∷ ms) (n ∷ ns) h = rw (longer ms ns (λ k. h (omega arith))) (and-false (same_cell m.cell n.cell && same_cell m.met n.met))

pub returns-then-a-b : goal.returns-then-a-b
returns-then-a-b c = sym (longer c.args.a.now c.args.b.now (omega (arith, c.if-a-b.true)))

pub returns : goal.returns
returns c =
    let a = c.args.a.now in
    let b = c.args.b.now in
    let by_call = cases_from_all c.all.new.self _ _ (λ (p : Meeting × Meeting). (same_cell p.0.cell p.1.cell && same_cell p.0.met p.1.met) ≡ true) (λ p. ¬ ((same_cell p.0.cell p.1.cell && same_cell p.0.met p.1.met) ≡ true)) c.all.ensures.ran (YieldsList-from_zip (YieldsList-from_slice a (cc)) (YieldsList-from_slice b (cc))) (λ x q k. search (rules, tests)) (λ x q k. search (rules, tests)) in
    same_by_meetings _ a b (omega (arith, c.if-a-b.false)) by_call
