use Rattle.std.proofs.Common.{◌≡◌, ◌++◌, ◌∷◌, ◌∙◌, [], ℕ, List, ap, arith, get_or, length, length-append, subst, vec_capacity}
use Rattle.std.specs.Prelude.{Some}
use Rattle.std.proofs.lemmas.List.{get_or_default}
use Rattle.dx_base.proofs.Members.{in_at}
use Rattle.dx_model.specs.declared.rules.Cell.TheVariants.{Ex}
use Rattle.dx_holds.specs.Searching.{NoneLeft, texts}
use Rattle.dx_model.specs.Rules.{atom_at}
use Rattle.dx_holds.proofs.Narrowing.{begins_on, cut, in_cells}
use Rattle.dx_holds.proofs.Parts.{begins_longer, done_few, done_room, fails_after, or_else, since_longer, state_more, tried_all, tried_fail, tried_skip}
use Rattle.dx_holds.proofs.searching.+extend.Goals as goal

pub next_place-requires-clause-atom : goal.next_place-requires-clause-atom
next_place-requires-clause-atom t c = in_at c.args.question.now.atoms.now c.in-Some.next c.index-question-next.result c.in-Some.ensures.0

pub next_place-requires-clause-ready : goal.next_place-requires-clause-ready
next_place-requires-clause-ready t c = record {
  good = rw (c.loop-place.invariant.found_capacity, c.loop-place.invariant.found_same) c.requires.state.good;
  room = λ v m.
      rw c.loop-place.invariant.found_capacity (c.requires.room.variables v (in_cells c.args.question.now.atoms.now (get_or c.args.question.now.atoms.now c.in-Some.next c.index-question-next.result) (Ex v) (in_at c.args.question.now.atoms.now c.in-Some.next c.index-question-next.result c.in-Some.ensures.0) m));
}

pub push_reserved-requires : goal.push_reserved-requires
push_reserved-requires t c =
    let new = rw c.as_slice-2.ensures.value at c.in-Some.ensures.1 in
    let r = done_room (texts c.args.question.now.atoms.now c.args.question.now.tuple.now) c.args.question.now.atoms.now c.args.question.now.target.now (vec_capacity c.args.found.now) c.args.found.now.items c.args.done.now.items c.in-Some.next c.requires.state c.in-Some.ensures.0 new in
    omega (arith, r, c.requires.room.atoms, c.loop-place.invariant.done_capacity, c.loop-place.done.ok.0, ap length c.loop-place.invariant.done_same)

pub extend-requires : goal.extend-requires
extend-requires t c =
    let new = rw c.as_slice-2.ensures.value at c.in-Some.ensures.1 in
    let r = done_room (texts c.args.question.now.atoms.now c.args.question.now.tuple.now) c.args.question.now.atoms.now c.args.question.now.target.now (vec_capacity c.args.found.now) c.args.found.now.items c.args.done.now.items c.in-Some.next c.requires.state c.in-Some.ensures.0 new in
    let is : get_or c.args.question.now.atoms.now c.in-Some.next c.index-question-next.result ≡ atom_at c.args.question.now.atoms.now c.in-Some.next = get_or_default c.args.question.now.atoms.now c.in-Some.next c.index-question-next.result _ c.in-Some.ensures.0 in
    let met = rw (is, c.loop-place.invariant.found_capacity, c.loop-place.invariant.found_same) at c.in-Some-next_place.ensures.cases in
    let pushed = c.push_reserved.ensures.items ∙ ap (λ (l : List ℕ). l ++ c.in-Some.next ∷ []) c.loop-place.invariant.done_same in
    let longer = ap length pushed ∙ length-append c.args.done.now.items (c.in-Some.next ∷ []) in
    let found_longer = begins_longer c.args.found.now.items c.next_place.new.found.items met.1.begins in
    let s = state_more (texts c.args.question.now.atoms.now c.args.question.now.tuple.now) c.args.question.now.atoms.now c.args.question.now.target.now (vec_capacity c.args.found.now) c.args.found.now.items c.next_place.new.found.items c.args.done.now.items c.in-Some.next c.in-Some-next_place.place c.requires.state c.in-Some.ensures.0 new met.0.1 met.1 in (
      omega (arith, c.decreases, r, longer),
      (
        rw (c.next_place.ensures.capacity, c.loop-place.invariant.found_capacity, pushed) s,
        (
          record {
            variables = rw (c.next_place.ensures.capacity, c.loop-place.invariant.found_capacity) c.requires.room.variables;
            atoms = omega (arith, c.requires.room.atoms, c.push_reserved.ensures.capacity, c.loop-place.invariant.done_capacity);
          },
          omega (arith, found_longer, c.len-mark.ensures, c.args.found.now.ok.0),
        ),
      ),
    )

pub extend-requires-then-extend : goal.extend-requires-then-extend
extend-requires-then-extend t c =
    let is : get_or c.args.question.now.atoms.now c.in-Some.next c.index-question-next.result ≡ atom_at c.args.question.now.atoms.now c.in-Some.next = get_or_default c.args.question.now.atoms.now c.in-Some.next c.index-question-next.result _ c.in-Some.ensures.0 in
    let new = rw c.as_slice-2.ensures.value at c.in-Some.ensures.1 in
    let r = done_room (texts c.args.question.now.atoms.now c.args.question.now.tuple.now) c.args.question.now.atoms.now c.args.question.now.target.now (vec_capacity c.args.found.now) c.args.found.now.items c.args.done.now.items c.in-Some.next c.requires.state c.in-Some.ensures.0 new in
    let met = rw (is, c.loop-place.invariant.found_capacity, c.loop-place.invariant.found_same) at c.in-Some-next_place.ensures.cases in
    let pushed = c.push_reserved.ensures.items ∙ ap (λ (l : List ℕ). l ++ c.in-Some.next ∷ []) c.loop-place.invariant.done_same in
    let longer = ap length pushed ∙ length-append c.args.done.now.items (c.in-Some.next ∷ []) in
    let done_longer = begins_longer c.push_reserved.new.self.items c.extend.new.done.items c.if-extend.ensures.done_begins in
    let found_longer = begins_longer c.args.found.now.items c.next_place.new.found.items met.1.begins in
    let more_found = begins_longer c.next_place.new.found.items c.extend.new.found.items c.if-extend.ensures.found_begins in
    let s = c.if-extend.ensures.cases.0 in
    let few = done_few (texts c.args.question.now.atoms.now c.args.question.now.tuple.now) c.args.question.now.atoms.now c.args.question.now.target.now _ c.extend.new.found.items c.extend.new.done.items s in (
      omega (arith, c.decreases, r, longer, done_longer, few),
      (
        rw c.if-extend.ensures.found_capacity s,
        (
          record {
            variables = rw (c.if-extend.ensures.found_capacity, c.next_place.ensures.capacity, c.loop-place.invariant.found_capacity) c.requires.room.variables;
            atoms = omega (arith, c.requires.room.atoms, c.if-extend.ensures.done_capacity, c.push_reserved.ensures.capacity, c.loop-place.invariant.done_capacity);
          },
          since_longer c.args.since (length c.args.found.now.items) (length c.extend.new.found.items) (omega (arith, found_longer, more_found)) c.requires.since,
        ),
      ),
    )

pub returns-then-extend-clause-cases : goal.returns-then-extend-clause-cases
returns-then-extend-clause-cases t c =
    let T : ℕ → List ℕ = texts c.args.question.now.atoms.now c.args.question.now.tuple.now in
    let is : get_or c.args.question.now.atoms.now c.in-Some.next c.index-question-next.result ≡ atom_at c.args.question.now.atoms.now c.in-Some.next = get_or_default c.args.question.now.atoms.now c.in-Some.next c.index-question-next.result _ c.in-Some.ensures.0 in
    let met = rw (is, c.loop-place.invariant.found_capacity, c.loop-place.invariant.found_same) at c.in-Some-next_place.ensures.cases in
    let pushed = c.push_reserved.ensures.items ∙ ap (λ (l : List ℕ). l ++ c.in-Some.next ∷ []) c.loop-place.invariant.done_same in
    let mark : c.len-mark.result ≡ length c.args.found.now.items = c.len-mark.ensures ∙ c.args.found.now.ok.0 in
    or_else _ _ _ c.extend-then-extend.result
    (fails_after T c.args.question.now.atoms.now c.args.question.now.target.now _ c.args.found.now.items c.extend.new.found.items c.args.done.now.items c.extend.new.done.items
    (begins_on c.args.found.now.items c.next_place.new.found.items c.extend.new.found.items met.1.begins c.if-extend.ensures.found_begins)
    (begins_on c.args.done.now.items c.push_reserved.new.self.items c.extend.new.done.items (c.in-Some.next ∷ [], pushed) c.if-extend.ensures.done_begins) c.if-extend.ensures.cases.0.good
    (subst (λ (m : ℕ). NoneLeft c.args.question.now.atoms.now c.extend.new.found.items c.extend.new.done.items (Some m)) mark c.if-extend.ensures.cases.1))
    (rw (c.if-extend.ensures.found_capacity, c.next_place.ensures.capacity, c.loop-place.invariant.found_capacity) at c.extend-then-extend.ensures.cases)

pub loop-place-preserved : goal.loop-place-preserved
loop-place-preserved t c =
    let is : get_or c.args.question.now.atoms.now c.in-Some.next c.index-question-next.result ≡ atom_at c.args.question.now.atoms.now c.in-Some.next = get_or_default c.args.question.now.atoms.now c.in-Some.next c.index-question-next.result _ c.in-Some.ensures.0 in
    let met = rw (is, c.loop-place.invariant.found_capacity, c.loop-place.invariant.found_same) at c.in-Some-next_place.ensures.cases in
    let pushed = c.push_reserved.ensures.items ∙ ap (λ (l : List ℕ). l ++ c.in-Some.next ∷ []) c.loop-place.invariant.done_same in
    let T : ℕ → List ℕ = texts c.args.question.now.atoms.now c.args.question.now.tuple.now in
    record {
      found_capacity = c.truncate.ensures.capacity ∙ (c.extend.ensures.found_capacity ∙ (c.next_place.ensures.capacity ∙ c.loop-place.invariant.found_capacity));
      done_capacity = c.truncate-in-Some-next_place.ensures.capacity ∙ (c.extend.ensures.done_capacity ∙ (c.push_reserved.ensures.capacity ∙ c.loop-place.invariant.done_capacity));
      found_same = c.truncate.ensures.items ∙ cut c.args.found.now.items c.extend.new.found.items c.len-mark.result (c.len-mark.ensures ∙ c.args.found.now.ok.0) (begins_on c.args.found.now.items c.next_place.new.found.items c.extend.new.found.items met.1.begins c.extend.ensures.found_begins);
      done_same = c.truncate-in-Some-next_place.ensures.items ∙ cut c.args.done.now.items c.extend.new.done.items c.len-before.result (c.len-before.ensures ∙ c.args.done.now.ok.0) (begins_on c.args.done.now.items c.push_reserved.new.self.items c.extend.new.done.items (c.in-Some.next ∷ [], pushed) c.extend.ensures.done_begins);
      tried = tried_fail T c.args.question.now.atoms.now c.args.question.now.target.now c.args.found.now.items c.args.done.now.items c.in-Some.next (vec_capacity c.args.found.now) c.in-Some-next_place.place c.next_place.new.found.items
          (tried_skip T c.args.question.now.atoms.now c.args.question.now.target.now c.args.found.now.items c.args.done.now.items c.in-Some.next c.loop-place.from c.in-Some-next_place.place c.loop-place.invariant.tried met.0.2)
          met.1 (rw pushed at c.if-extend.ensures.cases);
    }

pub returns-clause-cases : goal.returns-clause-cases
returns-clause-cases t c =
    let T : ℕ → List ℕ = texts c.args.question.now.atoms.now c.args.question.now.tuple.now in
    let new = rw c.as_slice-2.ensures.value at c.in-Some.ensures.1 in
    let is : get_or c.args.question.now.atoms.now c.in-Some.next c.index-question-next.result ≡ atom_at c.args.question.now.atoms.now c.in-Some.next = get_or_default c.args.question.now.atoms.now c.in-Some.next c.index-question-next.result _ c.in-Some.ensures.0 in
    let last = rw (is, c.loop-place.invariant.found_same) at c.in_default-next_place.ensures.cases in
    tried_all T c.args.question.now.atoms.now c.args.question.now.target.now c.args.found.now.items c.args.done.now.items c.in-Some.next c.loop-place.from c.in-Some.ensures.0 new c.loop-place.invariant.tried last.1
