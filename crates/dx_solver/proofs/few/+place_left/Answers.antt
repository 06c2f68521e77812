use Rattle.std.proofs.Common.{◌∙◌, ℕ, ap, arith, length, subst, sym}
use Rattle.dx_base.proofs.Members.{item_in}
use Rattle.dx_instance.specs.Shown.{numbers_of_table}
use Rattle.dx_solver.specs.Domains.{IsImageRow}
use Rattle.dx_solver.specs.Questions.{FitsAtom}
use Rattle.dx_solver.proofs.RowFacts.{image_of, place_all, place_more}
use Rattle.dx_solver.proofs.few.+place_left.Goals as goal

pub next_candidate-requires : goal.next_candidate-requires
next_candidate-requires t c =
    let T = c.args.question.now.numbers.now.tables in
    let atoms = c.args.question.now.atoms.now in
    let atom = c.index-atoms-place.result in
    subst (λ (n : ℕ). FitsAtom T n atom) (sym c.requires.many)
    (c.requires.fits atom (item_in atoms _ atom (omega arith) c.index-atoms-place.is))

pub count-requires : goal.count-requires
count-requires t c =
    let atom = c.index-atoms-place.result in
    (c.requires.fits atom (item_in c.args.question.now.atoms.now _ atom (omega arith) c.index-atoms-place.is)).table

pub fixed-requires : goal.fixed-requires
fixed-requires t c =
    let atom = c.index-atoms-place.result in
    let fits = c.requires.fits atom (item_in c.args.question.now.atoms.now _ atom (omega arith) c.index-atoms-place.is) in
    ap length c.items.ensures ∙ (fits.width ∙ sym c.row-row.ensures.width)

pub loop-at-preserved : goal.loop-at-preserved
loop-at-preserved t c =
    let T = c.args.question.now.numbers.now.tables in
    let out = c.args.question.now.taken.now in
    let atom = c.index-atoms-place.result in
    let nothing = rw (c.in-Nothing.is, c.deref.ensures.value) at c.in_ok-found.ensures in
    record {
      none = λ a k s. place_more (IsImageRow T out a atom) (λ q. ⊥) c.loop-at.next c.in-Some-next_candidate.at (c.loop-at.invariant.none a k s)
          (c.in-Some-next_candidate.ensures.2 a k)
          (λ i. nothing a (c.in_ok-below.ensures.kept a k (rw (c.row-row.ensures.row, c.items.ensures) i.row)) s);
      next = omega (arith, c.in-Some-next_candidate.ensures.1);
    }

pub returns : goal.returns
returns t c = λ a k s.
    let T = c.args.question.now.numbers.now.tables in
    let out = c.args.question.now.taken.now in
    let atoms = c.args.question.now.atoms.now in
    let atom = c.index-atoms-place.result in
    let st = s.stands atom (item_in atoms _ atom (omega arith) c.index-atoms-place.is) in
    let none = rw c.in_default-next_candidate.is at c.next_candidate.ensures in
    place_all (IsImageRow T out a atom) (λ q. ⊥) c.loop-at.next (length (numbers_of_table T atom.table).rows) (c.loop-at.invariant.none a k s)
    (none a k) (λ q i. i.place) st.0 (image_of T out a atom st)
