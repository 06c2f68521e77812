use Rattle.std.proofs.Common.{◌∙◌, ℕ, arith, subst, sym}
use Rattle.std.proofs.lemmas.Bool.{false≢true}
use Rattle.dx_base.proofs.Members.{item_in}
use Rattle.dx_solver.specs.Questions.{FitsAtom}
use Rattle.dx_solver.proofs.spreading.spread.Goals as goal

pub spread_one-requires : goal.spread_one-requires
spread_one-requires c =
    let atoms = c.args.question.now.atoms.now in
    let atom = c.index-atoms-place.result in
    let m = item_in atoms c.in-Some.place atom (omega arith) c.index-atoms-place.is in
    subst (λ (n : ℕ). FitsAtom c.args.question.now.numbers.now.tables n atom) (sym c.loop.invariant.many) (c.requires atom m)

pub returns-then-not-alive-clause-kept : goal.returns-then-not-alive-clause-kept
returns-then-not-alive-clause-kept c = λ a k all.
    let atoms = c.args.question.now.atoms.now in
    let atom = c.index-atoms-place.result in
    let m = item_in atoms c.in-Some.place atom (omega arith) c.index-atoms-place.is in
    let r = c.in_ok-alive.ensures.kept a (c.loop.invariant.kept a k all) (all atom m) in
    absurd (false≢true (sym c.if-not-alive.true ∙ r.0))

pub loop-preserved : goal.loop-preserved
loop-preserved c =
    let atoms = c.args.question.now.atoms.now in
    let atom = c.index-atoms-place.result in
    let m = item_in atoms c.in-Some.place atom (omega arith) c.index-atoms-place.is in
    record {
      kept = λ a k all. (c.in_ok-alive.ensures.kept a (c.loop.invariant.kept a k all) (all atom m)).1;
      many = c.in_ok-alive.ensures.many ∙ c.loop.invariant.many;
      lighter = omega (arith, c.in_ok-alive.ensures.lighter, c.loop.invariant.lighter);
    }
