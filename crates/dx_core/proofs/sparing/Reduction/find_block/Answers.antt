use Rattle.std.proofs.Common.{◌∙◌, ap, length}
use Rattle.dx_core.proofs.Asked.{few_nulls}
use Rattle.dx_core.proofs.Found.{moves_found, some_found, within_found}
use Rattle.dx_core.proofs.Spared.{nothing_known, unknown_long}
use Rattle.dx_core.proofs.sparing.Reduction.find_block.Goals as goal

pub atoms_of-requires-clause-few : goal.atoms_of-requires-clause-few
atoms_of-requires-clause-few c =
    rw c.items-nulls.ensures (few_nulls c.args.self.now.numbers c.len.ensures.fit c.args.block.now c.requires.block)

pub returns-clause-some : goal.returns-clause-some
returns-clause-some c =
    let s = c.args.self.now in
    let are = rw (c.items-nulls.ensures, c.none-none.ensures, c.items.ensures) at c.in_ok-atoms.ensures.atoms in
    let exact = rw (c.deref.ensures.value, c.deref-2.ensures.value) at c.in_ok-answer.ensures.exact in
    some_found s.numbers c.len.ensures.fit c.args.block.now c.requires.block s.taken c.in_ok-atoms.atoms.items are
    c.in_ok-known.known.items (λ v. v.items) c.in_ok-answer.answer exact c.requires.reduct
    (λ v n. nothing_known _ v n c.in_ok-known.known.items c.in_ok-known.ensures)

pub returns-clause-within : goal.returns-clause-within
returns-clause-within c =
    let s = c.args.self.now in
    let are = rw (c.items-nulls.ensures, c.none-none.ensures, c.items.ensures) at c.in_ok-atoms.ensures.atoms in
    let exact = rw (c.deref.ensures.value, c.deref-2.ensures.value) at c.in_ok-answer.ensures.exact in
    let long = rw c.deref-2.ensures.value at c.in_ok-answer.ensures.long in
    within_found s.numbers c.len.ensures.fit c.args.block.now c.requires.block s.taken c.in_ok-atoms.atoms.items are
    c.in_ok-known.known.items (λ v. v.items) c.in_ok-answer.answer exact long
    (unknown_long c.in_ok-known.known.items _ c.in_ok-known.ensures ∙ ap (λ xs. length xs) c.items-nulls.ensures)

pub returns-clause-moves : goal.returns-clause-moves
returns-clause-moves c =
    let s = c.args.self.now in
    let are = rw (c.items-nulls.ensures, c.none-none.ensures, c.items.ensures) at c.in_ok-atoms.ensures.atoms in
    let exact = rw (c.deref.ensures.value, c.deref-2.ensures.value) at c.in_ok-answer.ensures.exact in
    let long = rw c.deref-2.ensures.value at c.in_ok-answer.ensures.long in
    moves_found s.numbers c.len.ensures.fit c.args.block.now c.requires.block s.taken c.in_ok-atoms.atoms.items are
    c.in_ok-known.known.items (λ v. v.items) c.in_ok-answer.answer exact long
    (unknown_long c.in_ok-known.known.items _ c.in_ok-known.ensures ∙ ap (λ xs. length xs) c.items-nulls.ensures)
