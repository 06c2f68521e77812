use Rattle.std.proofs.Common.{◌≡◌, ◌∙◌, ◌<◌, ℕ, arith, refl, sym, get_or}
use Rattle.std.proofs.lemmas.List.{take_all}
use Rattle.dx_base.proofs.Loops.{each_more}
use Rattle.dx_solver.specs.declared.atom.Term.{Term}
use Rattle.dx_solver.specs.declared.atom.Term.TheVariants.{Number, Variable}
use Rattle.dx_implies.proofs.Asked.{same_default, same_variable}
use Rattle.dx_implies.proofs.asking.above_terms.Goals as goal
use Rattle.dx_implies.proofs.asking.above_terms.Goals.{in-Variable, in_default}

pub loop-term-preserved : goal.loop-term-preserved
loop-term-preserved c =
    let i = c.loop-term.term-index in
    let t = get_or c.args.terms.now i (Number 0) in
    let is : t ≡ get_or c.args.terms.now i t = same_default c.args.terms.now i (Number 0) t c.loop-term-test.true in
    elim c.match-term.branch [
      | in-Variable w ↦ rw w.above-is (record {
        least = omega (arith, c.loop-term.invariant.least, w.greater-above.ensures.first);
        above = each_more (λ (z : Term). (v : ℕ) → z ≡ Variable v → v < w.greater-above.result) c.args.terms.now i t c.loop-term-test.true is
            (λ z m v e. let h = c.loop-term.invariant.above z m v e in omega (arith, h, w.greater-above.ensures.first))
            (λ v e. let d = same_variable w.in-Variable.variable v (sym w.in-Variable.is ∙ e) in omega (arith, d, w.greater-above.ensures.second));
      })
      | in_default w ↦ rw w.above-is (record {
        least = c.loop-term.invariant.least;
        above = each_more (λ (z : Term). (v : ℕ) → z ≡ Variable v → v < c.loop-term.above) c.args.terms.now i t c.loop-term-test.true is c.loop-term.invariant.above (λ v e. absurd (w.in_default.not-Variable v e));
      })
    ]

pub returns-clause-above : goal.returns-clause-above
returns-clause-above c = λ v m. (rw (take_all c.loop-term.term-index c.args.terms.now c.loop-term-test.false) at c.loop-term.invariant.above) (Variable v) m v refl
