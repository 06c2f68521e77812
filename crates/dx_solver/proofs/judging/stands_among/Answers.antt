use Rattle.std.proofs.Common.{◌∙◌, arith, sym, length}
use Rattle.std.proofs.lemmas.Bool.{false≢true}
use Rattle.dx_instance.specs.Shown.{numbers_of_table}
use Rattle.dx_solver.specs.Domains.{HasKey, IsImageRow}
use Rattle.dx_solver.specs.Questions.{answered}
use Rattle.dx_solver.proofs.RowFacts.{has_key, image_of, no_more, no_to}
use Rattle.dx_solver.proofs.judging.stands_among.Goals as goal

pub loop-place-preserved : goal.loop-place-preserved
loop-place-preserved c =
    let T = c.args.question.now.numbers.now.tables in
    let out = c.args.question.now.taken.now in
    let xs = answered c.args.xs.now in
    let atom = c.args.atom.now in
    let key = c.first_key-key.result in
    let place = c.in-Some.ensures in
    let has = rw c.items.ensures at c.first_key-key.ensures in
    record {
      none = no_more (IsImageRow T out xs atom) (HasKey (numbers_of_table T atom.table).rows key) 0 c.loop-place.next
          c.in-Some.place c.loop-place.invariant.none (λ p i. has_key T out xs atom key p has i) place.3
          (λ i. absurd (false≢true (sym c.if-is_image.false ∙ c.is_image.ensures.1 i)));
      next = omega (arith, place.1);
    }

pub returns : goal.returns
returns c =
    let T = c.args.question.now.numbers.now.tables in
    let out = c.args.question.now.taken.now in
    let xs = answered c.args.xs.now in
    let atom = c.args.atom.now in
    let key = c.first_key-key.result in
    let has = rw c.items.ensures at c.first_key-key.ensures in
    let none = rw c.in_default.is at c.next_place.ensures in (
      (λ t. absurd (false≢true t)),
      (λ s.
          let i = image_of T out xs atom s in
          absurd (no_to (IsImageRow T out xs atom) (HasKey (numbers_of_table T atom.table).rows key) 0 c.loop-place.next
          (length (numbers_of_table T atom.table).rows) c.loop-place.invariant.none (λ p k. has_key T out xs atom key p has k) none
          s.0 (omega arith) i.place i)),
    )
