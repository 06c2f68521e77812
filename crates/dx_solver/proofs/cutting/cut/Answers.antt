use Rattle.std.proofs.Common.{◌≡◌, ◌∙◌, ℕ, arith, length, refl, subst, sym}
use Rattle.dx_base.proofs.Members.{contains_from_in}
use Rattle.dx_solver.specs.declared.atom.PatternAtom.{PatternAtom}
use Rattle.dx_solver.specs.Domains.{IsImageRow}
use Rattle.dx_solver.specs.Questions.{FitsAtom}
use Rattle.dx_solver.proofs.RowFacts.{image_of}
use Rattle.dx_solver.proofs.cutting.cut.Goals as goal
use Rattle.dx_solver.proofs.cutting.cut.Goals.{in-Some+in_ok-cut_at+then-branch+in_ok-push, in-Some+in_ok-cut_at+else-branch, in_default}

pub returns-then-rows-eq0-clause-kept : goal.returns-then-rows-eq0-clause-kept
returns-then-rows-eq0-clause-kept c = λ a k s.
    let i = image_of c.args.question.now.numbers.now.tables c.args.question.now.taken.now a c.args.atom.now s in
    let m = c.in_ok-places.ensures.all a (rw c.as_slice-2.ensures.value k) s.0 i in
    let at = contains_from_in m in
    let none : length c.as_slice-rows.result.now ≡ 0 = omega arith in
    let same = c.as_slice-rows.ensures.value in
    absurd (omega (arith, at.1, rw same at none))

pub cut_at-requires-clause-fits : goal.cut_at-requires-clause-fits
cut_at-requires-clause-fits c =
    let T = c.args.question.now.numbers.now.tables in
    let fits : FitsAtom T (length c.loop-column.domains.items) c.args.atom.now =
    subst (λ (n : ℕ). FitsAtom T n c.args.atom.now) (sym c.loop-column.invariant.many) c.requires in
    subst (λ (x : PatternAtom). FitsAtom T (length c.loop-column.domains.items) x) (sym c.in-Some.ensures.0) fits

pub loop-column-preserved : goal.loop-column-preserved
loop-column-preserved c =
    let T = c.args.question.now.numbers.now.tables in
    let out = c.args.question.now.taken.now in
    let old = c.loop-column.invariant in
    elim c.match-of.branch [
      | in-Some+in_ok-cut_at+then-branch+in_ok-push w ↦ rw w.domains-is (record {
        kept = λ a p k m i. w.in_ok-cut_at.ensures.kept a p (old.kept a p k m i) m
            (subst (λ (x : PatternAtom). IsImageRow T out a x p) (sym w.in-Some.ensures.0) i);
        many = w.in_ok-cut_at.ensures.many ∙ old.many;
        lighter = omega (arith, w.in_ok-cut_at.ensures.lighter, old.lighter);
      })
      | in-Some+in_ok-cut_at+else-branch w ↦ rw w.domains-is (record {
        kept = λ a p k m i. w.in_ok-cut_at.ensures.kept a p (old.kept a p k m i) m
            (subst (λ (x : PatternAtom). IsImageRow T out a x p) (sym w.in-Some.ensures.0) i);
        many = w.in_ok-cut_at.ensures.many ∙ old.many;
        lighter = omega (arith, w.in_ok-cut_at.ensures.lighter, old.lighter);
      })
      | in_default w ↦ rw w.domains-is old
    ]

pub returns-clause-kept : goal.returns-clause-kept
returns-clause-kept c = λ a k s.
    let i = image_of c.args.question.now.numbers.now.tables c.args.question.now.taken.now a c.args.atom.now s in
    let m = c.in_ok-places.ensures.all a (rw c.as_slice-2.ensures.value k) s.0 i in
    (refl, c.loop-column.invariant.kept a s.0 k (rw c.as_slice-rows.ensures.value m) i)
