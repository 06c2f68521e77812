use Rattle.std.proofs.Common.{◌≡◌, ◌<◌, ◌++◌, ◌∷◌, [], ℕ, List, ap, arith, length, refl, subst, sym}
use Rattle.std.proofs.lemmas.List.{length-append}
use Rattle.dx_base.specs.Members.{◌∈◌, Each, here}
use Rattle.dx_base.proofs.Members.{in_left, in_right}
use Rattle.dx_base.proofs.Loops.{each_push}
use Rattle.dx_instance.specs.Shown.{numbers_of_table}
use Rattle.dx_solver.specs.Domains.{IsImageRow}
use Rattle.dx_solver.proofs.RowFacts.{place_all, place_more}
use Rattle.dx_solver.proofs.rows.candidates.Goals as goal

pub loop-place-preserved : goal.loop-place-preserved
loop-place-preserved c =
    let T = c.args.question.now.numbers.now.tables in
    let out = c.args.question.now.taken.now in
    let atom = c.args.atom.now in
    let old = c.loop-place.places.items in
    let new = c.push.new.self.items in
    let p = c.in-Some.place in
    let place = c.in-Some.ensures in
    let pushed : new ≡ old ++ p ∷ [] = c.in_ok-push.ensures.items in
    let long = simp length-append at (ap length pushed) in
    record {
      all = λ a k. place_more (IsImageRow T out a atom) (λ q. q ∈ new) c.loop-place.next p
          (λ q h i. subst (λ (l : List ℕ). q ∈ l) (sym pushed) (in_left (p ∷ []) (c.loop-place.invariant.all a k q h i)))
          (place.2 a k) (λ i. subst (λ (l : List ℕ). p ∈ l) (sym pushed) (in_right old (here refl)));
      within = subst (λ (l : List ℕ). Each l (λ q. q < length (numbers_of_table T atom.table).rows)) (sym pushed)
          (each_push (λ q. q < length (numbers_of_table T atom.table).rows) old p c.loop-place.invariant.within place.1);
      few = omega (arith, long, c.loop-place.invariant.few, place.0);
      next = omega (arith, place.1);
    }

pub returns-clause-all : goal.returns-clause-all
returns-clause-all c =
    let T = c.args.question.now.numbers.now.tables in
    let out = c.args.question.now.taken.now in
    let atom = c.args.atom.now in
    let none = rw c.in_default.is at c.next_candidate.ensures in
    λ a k. place_all (IsImageRow T out a atom) (λ q. q ∈ c.loop-place.places.items) c.loop-place.next
    (length (numbers_of_table T atom.table).rows) (c.loop-place.invariant.all a k) (none a k) (λ q i. i.place)
