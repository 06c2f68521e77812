use Rattle.std.proofs.Common.{◌≡◌, ◌<◌, ◌^◌, ◌∙◌, [], ap, arith, length, sym, vec_capacity}
use Rattle.dx_base.proofs.Members.{in_at}
use Rattle.dx_instance.specs.Stored.{rows_of, table_at}
use Rattle.dx_holds.specs.Searching.{texts}
use Rattle.dx_holds.proofs.Narrowing.{cut, skips_more, skips_on}
use Rattle.dx_holds.proofs.matching.next_place.Goals as goal

pub candidate-requires-clause-good : goal.candidate-requires-clause-good
candidate-requires-clause-good c = (vec_capacity c.args.found.now, rw (c.as_slice.ensures.value, c.loop-place.invariant.same) c.requires.ready.good)

pub meet_row-requires-clause-ready : goal.meet_row-requires-clause-ready
meet_row-requires-clause-ready c = record {
  good = rw (c.loop-place.invariant.capacity, c.loop-place.invariant.same) c.requires.ready.good;
  room = rw c.loop-place.invariant.capacity c.requires.ready.room;
}

pub returns-then-meet_row-clause-small : goal.returns-then-meet_row-clause-small
returns-then-meet_row-clause-small c =
    let few : length (rows_of c.args.question.now.target.now c.args.atom.now.table) < 2 ^ 32 =
    c.tables.ensures.few (table_at c.args.question.now.target.now c.args.atom.now.table) (in_at c.args.question.now.target.now c.args.atom.now.table (record { width = 0; rows = [] }) (c.args.question.now.fit.tables c.args.atom.now c.requires.atom).0) in
    omega (arith, few, c.in-Some.ensures.1)

pub returns-then-meet_row-clause-cases : goal.returns-then-meet_row-clause-cases
returns-then-meet_row-clause-cases c =
    let next = rw (c.as_slice.ensures.value, c.loop-place.invariant.same) at c.in-Some.ensures in (
      (
        omega (arith, c.loop-place.invariant.later, next.0),
        next.1,
        skips_on (texts c.args.question.now.atoms.now c.args.question.now.tuple.now) c.args.question.now.target.now 0 c.args.found.now.items c.args.atom.now c.args.from c.loop-place.next c.in-Some.place c.loop-place.invariant.skips next.2,
      ),
      rw (c.loop-place.invariant.capacity, c.loop-place.invariant.same) at c.if-meet_row.ensures.cases,
    )

pub overflow_add-next : goal.overflow_add-next
overflow_add-next c =
    let few : length (rows_of c.args.question.now.target.now c.args.atom.now.table) < 2 ^ 32 =
    c.tables.ensures.few (table_at c.args.question.now.target.now c.args.atom.now.table) (in_at c.args.question.now.target.now c.args.atom.now.table (record { width = 0; rows = [] }) (c.args.question.now.fit.tables c.args.atom.now c.requires.atom).0) in
    omega (arith, few, c.in-Some.ensures.1)

pub loop-place-preserved : goal.loop-place-preserved
loop-place-preserved c =
    let next = rw (c.as_slice.ensures.value, c.loop-place.invariant.same) at c.in-Some.ensures in
    let misses = c.if-meet_row.ensures.cases in
    let mark : c.len-mark.result ≡ length c.loop-place.found.items = c.len-mark.ensures ∙ (c.args.found.now.ok.0 ∙ ap length (sym c.loop-place.invariant.same)) in
    record {
      capacity = c.truncate.ensures.capacity ∙ (c.meet_row.ensures.capacity ∙ c.loop-place.invariant.capacity);
      same = c.truncate.ensures.items ∙ (cut c.loop-place.found.items c.meet_row.new.found.items c.len-mark.result mark misses.begins ∙ c.loop-place.invariant.same);
      later = omega (arith, c.loop-place.invariant.later, next.0);
      skips = skips_more (texts c.args.question.now.atoms.now c.args.question.now.tuple.now) c.args.question.now.target.now 0 c.args.found.now.items c.args.atom.now c.args.from c.in-Some.place
          (skips_on (texts c.args.question.now.atoms.now c.args.question.now.tuple.now) c.args.question.now.target.now 0 c.args.found.now.items c.args.atom.now c.args.from c.loop-place.next c.in-Some.place c.loop-place.invariant.skips next.2)
          (λ values g. misses.none values (rw c.loop-place.invariant.same g));
    }

pub returns-clause-cases : goal.returns-clause-cases
returns-clause-cases c =
    let last = rw (c.in_default.is, c.as_slice.ensures.value, c.loop-place.invariant.same) at c.candidate.ensures in (
      c.loop-place.invariant.same,
      skips_on (texts c.args.question.now.atoms.now c.args.question.now.tuple.now) c.args.question.now.target.now 0 c.args.found.now.items c.args.atom.now c.args.from c.loop-place.next _ c.loop-place.invariant.skips last,
    )
