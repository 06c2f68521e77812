use Rattle.std.proofs.Common.{◌<◌, ℕ, arith, subst, sym, List}
use Rattle.std.proofs.lemmas.List.{take_all}
use Rattle.dx_base.specs.Members.{◌∈◌}
use Rattle.dx_base.proofs.Loops.{each_more}
use Rattle.dx_solver.specs.declared.atom.Term.{Term}
use Rattle.dx_solver.specs.declared.atom.Term.TheVariants.{Variable}
use Rattle.dx_solver.specs.declared.atom.PatternAtom.{PatternAtom}
use Rattle.dx_implies.proofs.asking.above_atoms.Goals as goal

pub loop-atom-init : goal.loop-atom-init
loop-atom-init c = λ p m. elim m [ ]

pub loop-atom-preserved : goal.loop-atom-preserved
loop-atom-preserved c =
    each_more (λ (p : PatternAtom). (v : ℕ) → Variable v ∈ p.terms → v < c.above_terms-above.result) c.args.atoms.now c.loop-atom.atom-index c.atom-item.result c.loop-atom-test.true c.atom-item.is
    (λ p m v k. let h = c.loop-atom.invariant p m v k in omega (arith, h, c.above_terms-above.ensures.least))
    (λ v k. c.above_terms-above.ensures.above v (subst (λ (ts : List Term). Variable v ∈ ts) (sym c.items.ensures) k))

pub returns : goal.returns
returns c = rw (take_all c.loop-atom.atom-index c.args.atoms.now c.loop-atom-test.false) at c.loop-atom.invariant
