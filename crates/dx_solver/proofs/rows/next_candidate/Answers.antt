use Rattle.std.proofs.Common.{◌∙◌, arith, length, sym}
use Rattle.std.proofs.lemmas.Bool.{false≢true}
use Rattle.dx_instance.specs.Shown.{numbers_of_table}
use Rattle.dx_solver.specs.Domains.{HasKey, IsImageRow}
use Rattle.dx_solver.proofs.RowFacts.{has_key, key_for, no_more, no_to}
use Rattle.dx_solver.proofs.rows.next_candidate.Goals as goal

pub loop-place-preserved : goal.loop-place-preserved
loop-place-preserved c =
    let T = c.args.question.now.numbers.now.tables in
    let out = c.args.question.now.taken.now in
    let ds = c.args.domains.now in
    let atom = c.args.atom.now in
    let key = c.key_of-key.result in
    let place = c.in-Some.ensures in
    let has = rw c.items-terms.ensures at c.key_of-key.ensures in
    record {
      after = omega (arith, place.0, c.loop-place.invariant.after);
      none = λ f k. no_more (IsImageRow T out f atom) (HasKey (numbers_of_table T atom.table).rows key) c.args.from c.loop-place.next
          c.in-Some.place (c.loop-place.invariant.none f k)
          (λ p i. has_key T out f atom key p (key_for ds atom.terms f key has k) i) place.3
          (λ i. absurd (false≢true (sym c.if-is_candidate.false ∙ c.is_candidate.ensures f k i)));
    }

pub returns-then-is_candidate : goal.returns-then-is_candidate
returns-then-is_candidate c =
    let T = c.args.question.now.numbers.now.tables in
    let out = c.args.question.now.taken.now in
    let ds = c.args.domains.now in
    let atom = c.args.atom.now in
    let key = c.key_of-key.result in
    let place = c.in-Some.ensures in
    let has = rw c.items-terms.ensures at c.key_of-key.ensures in (
      omega (arith, place.0, c.loop-place.invariant.after),
      place.1,
      (λ f k. no_to (IsImageRow T out f atom) (HasKey (numbers_of_table T atom.table).rows key) c.args.from c.loop-place.next
          c.in-Some.place (c.loop-place.invariant.none f k)
          (λ p i. has_key T out f atom key p (key_for ds atom.terms f key has k) i) place.3),
    )

pub returns : goal.returns
returns c =
    let T = c.args.question.now.numbers.now.tables in
    let out = c.args.question.now.taken.now in
    let ds = c.args.domains.now in
    let atom = c.args.atom.now in
    let key = c.key_of-key.result in
    let none = rw c.in_default.is at c.next_place.ensures in
    let has = rw c.items-terms.ensures at c.key_of-key.ensures in
    λ f k. no_to (IsImageRow T out f atom) (HasKey (numbers_of_table T atom.table).rows key) c.args.from c.loop-place.next
    (length (numbers_of_table T atom.table).rows) (c.loop-place.invariant.none f k)
    (λ p i. has_key T out f atom key p (key_for ds atom.terms f key has k) i) none
