use Rattle.std.proofs.Common.{◌∙◌, sym}
use Rattle.dx_base.proofs.Members.{in_at}
use Rattle.dx_blocks.specs.declared.numbered.At.{At}
use Rattle.dx_core.proofs.Atoms.{atoms_all, none_so_far, row_added, row_skipped}
use Rattle.dx_core.proofs.asking.atoms_of.Goals as goal
use Rattle.dx_core.proofs.asking.atoms_of.Goals.{then-not-has+in_ok-atom_of+in_ok-push, else-not-has}

pub loop-at-init : goal.loop-at-init
loop-at-init c = none_so_far c.args.numbers.now c.args.nulls.now c.args.taken.now c.args.rows.now c.new-atoms.result.items c.new-atoms.ensures.items

pub loop-at-preserved : goal.loop-at-preserved
loop-at-preserved c =
    let N = c.args.numbers.now in
    let d : At = record { table = 0; place = 0 } in
    elim c.if-not-has.branch [
      | then-not-has+in_ok-atom_of+in_ok-push w ↦ rw w.atoms-is (row_added N c.args.nulls.now c.args.taken.now c.args.rows.now
          c.loop-at.at-index d c.loop-at-test.true c.loop-at.atoms.items c.loop-at.invariant c.len.ensures.fit w.push.new.self.items
          w.in_ok-atom_of.field-0 (c.requires.rows _ (in_at c.args.rows.now c.loop-at.at-index d c.loop-at-test.true))
          (sym c.has.ensures ∙ w.if-not-has.true) w.in_ok-atom_of.ensures w.in_ok-push.ensures.items)
      | else-not-has w ↦ rw w.atoms-is (row_skipped N c.args.nulls.now c.args.taken.now c.args.rows.now c.loop-at.at-index d
          c.loop-at-test.true c.loop-at.atoms.items c.loop-at.invariant (sym c.has.ensures ∙ w.if-not-has.false))
    ]

pub atom_of-requires-clause-row : goal.atom_of-requires-clause-row
atom_of-requires-clause-row c = c.requires.rows _ (in_at c.args.rows.now c.loop-at.at-index (record { table = 0; place = 0 }) c.loop-at-test.true)

pub returns-clause-atoms : goal.returns-clause-atoms
returns-clause-atoms c =
    (atoms_all c.args.numbers.now c.args.nulls.now c.args.taken.now c.args.rows.now c.loop-at.at-index c.loop-at.atoms.items
    c.loop-at-test.false c.loop-at.invariant).atoms

pub returns-clause-fit : goal.returns-clause-fit
returns-clause-fit c =
    (atoms_all c.args.numbers.now c.args.nulls.now c.args.taken.now c.args.rows.now c.loop-at.at-index c.loop-at.atoms.items
    c.loop-at-test.false c.loop-at.invariant).fit
