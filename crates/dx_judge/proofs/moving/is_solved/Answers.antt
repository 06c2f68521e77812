use Rattle.std.proofs.Common.{◌≡◌, ℕ, arith, length, rules, subst}
use Rattle.dx_base.specs.Members.{Each}
use Rattle.dx_base.proofs.Options.{some_left, none_of}
use Rattle.dx_solver.specs.Questions.{FitsAtom}
use Rattle.dx_judge.proofs.Asked.{known_nulls, none_moves, some_fit, some_move}
use Rattle.dx_judge.proofs.Orders.{can_turn}
use Rattle.dx_judge.proofs.moving.is_solved.Goals as goal

pub atoms_of-requires-clause-orders : goal.atoms_of-requires-clause-orders
atoms_of-requires-clause-orders c = λ f m. rw c.deref.ensures.value
    (can_turn c.args.into.now.plain.now c.args.into.now.orders.items c.args.into.now.instance c.requires.turned c.tables.ensures.rows f (c.requires.fit f m))

pub atoms_of-requires-clause-known : goal.atoms_of-requires-clause-known
atoms_of-requires-clause-known c = rw c.deref-2.ensures.value (known_nulls c.args.from.now c.in_ok-nulls.nulls.items c.in_ok-nulls.ensures)

pub atoms_of-requires-clause-nulls : goal.atoms_of-requires-clause-nulls
atoms_of-requires-clause-nulls c = record {
  ascend = rw c.deref-2.ensures.value c.in_ok-nulls.ensures.ascend;
  few = search rules;
}

pub can_stand-requires : goal.can_stand-requires
can_stand-requires c =
    let many : length c.in_ok-nulls.nulls.items ≡ c.len-in-Some.result = omega (arith, c.in_ok-nulls.nulls.ok.0, c.len-in-Some.ensures) in
    subst (λ (n : ℕ). Each c.deref-in-Some.result.now (FitsAtom c.numbers-numbers.result.tables n)) many
    (rw c.deref-in-Some.ensures.value
    (some_fit c.args.into.now.plain.now c.args.into.now.orders.items c.args.into.now.instance c.requires.turned c.tables.ensures.rows
    c.numbers-numbers.result.symbols c.numbers-numbers.result.tables c.numbers-numbers.ensures.fit c.numbers-numbers.ensures.shown
    c.in_ok-nulls.nulls.items c.args.from.now (known_nulls c.args.from.now c.in_ok-nulls.nulls.items c.in_ok-nulls.ensures) c.requires.fit
    c.in-Some.atoms.items
    (rw (c.deref.ensures.value, c.deref-2.ensures.value) at (some_left _ _ c.in_ok-atoms_of.field-0 c.in-Some.atoms c.in-Some.is c.in_ok-atoms_of.ensures))))

pub returns-in-None : goal.returns-in-None
returns-in-None c =
    none_moves c.args.into.now.plain.now c.args.into.now.orders.items c.args.into.now.instance c.requires.turned c.tables.ensures.rows
    c.numbers-numbers.result.symbols c.numbers-numbers.result.tables c.numbers-numbers.ensures.fit c.numbers-numbers.ensures.shown
    c.in_ok-nulls.nulls.items c.args.from.now (known_nulls c.args.from.now c.in_ok-nulls.nulls.items c.in_ok-nulls.ensures) c.requires.fit
    (rw c.deref.ensures.value at (none_of _ _ c.in_ok-atoms_of.field-0 c.in-None.is c.in_ok-atoms_of.ensures))

pub returns : goal.returns
returns c =
    some_move c.args.into.now.plain.now c.args.into.now.orders.items c.args.into.now.instance c.requires.turned c.tables.ensures.rows
    c.numbers-numbers.result.symbols c.numbers-numbers.result.tables c.numbers-numbers.ensures.fit c.numbers-numbers.ensures.shown
    c.in_ok-nulls.nulls.items c.args.from.now (known_nulls c.args.from.now c.in_ok-nulls.nulls.items c.in_ok-nulls.ensures) c.requires.fit
    c.in-Some.atoms.items
    (rw (c.deref.ensures.value, c.deref-2.ensures.value) at (some_left _ _ c.in_ok-atoms_of.field-0 c.in-Some.atoms c.in-Some.is c.in_ok-atoms_of.ensures))
    c.can_stand.result (rw c.deref-in-Some.ensures.value at c.can_stand.ensures)
