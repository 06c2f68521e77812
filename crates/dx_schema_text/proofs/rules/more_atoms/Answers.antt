use Rattle.std.proofs.Common.{sym}
use Rattle.std.proofs.lemmas.Result.{err_from_is_err_and}
use Rattle.std.specs.Prelude.{codes}
use Rattle.dx_grammar.proofs.Loops.{loop_on, loop_shorter, loop_fails, loop_stops}
use Rattle.dx_schema_text.specs.Grammar.{mark_is}
use Rattle.dx_schema_text.specs.Reading.{comma_atom}
use Rattle.dx_schema_text.proofs.Follows.{comma_atom_consumes}
use Rattle.dx_schema_text.proofs.rules.more_atoms.Goals as goal

pub returns-in_err-next : goal.returns-in_err-next
returns-in_err-next c =
    let p = err_from_is_err_and c.from_residual.result c.from_residual.ensures.1 in
    rw (p.1, p.2) (loop_fails (mark_is (codes ",")) (comma_atom c.args.strings) (comma_atom_consumes c.args.strings) c.in_err-next.field-0.0 c.atoms.atoms c.atoms.rest.now _ (sym c.atoms-test.ensures) c.in_err-next.ensures c.atoms.invariant)

pub atoms-smaller : goal.atoms-smaller
atoms-smaller c = loop_shorter (mark_is (codes ",")) (comma_atom c.args.strings) (comma_atom_consumes c.args.strings) c.atoms.rest.now c.in_ok-next.after.now c.in_ok-next.next (sym c.atoms-test.ensures) c.in_ok-next.ensures

pub atoms-preserved : goal.atoms-preserved
atoms-preserved c = loop_on (mark_is (codes ",")) (comma_atom c.args.strings) (comma_atom_consumes c.args.strings) c.atoms.atoms c.push.new.self c.atoms.rest.now c.in_ok-next.after.now c.in_ok-next.next _ (sym c.atoms-test.ensures) c.in_ok-next.ensures c.in_ok-push.ensures.ok c.atoms.invariant

pub returns : goal.returns
returns c = loop_stops (mark_is (codes ",")) (comma_atom c.args.strings) (comma_atom_consumes c.args.strings) c.atoms.atoms c.atoms.rest.now _ (sym c.atoms-test.ensures) c.atoms.invariant
