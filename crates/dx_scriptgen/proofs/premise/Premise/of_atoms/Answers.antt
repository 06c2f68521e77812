use Rattle.std.proofs.Common.{◌≡◌, ◌<◌, length, arith}
use Rattle.dx_base.proofs.Loops.{each_item}
use Rattle.dx_model.specs.declared.rules.Atom.{Atom}
use Rattle.dx_schema.specs.Tables.{schema_table, tables_of}
use Rattle.dx_scriptgen.proofs.Premises.{one_atom, more_cells, few_atoms}
use Rattle.dx_scriptgen.proofs.premise.Premise.of_atoms.Goals as goal

pub add_atom-requires-clause-table : goal.add_atom-requires-clause-table
add_atom-requires-clause-table c =
    each_item (λ (a : Atom). a.table < length (tables_of c.args.source.now)) c.args.atoms.now c.loop-alias.alias c.index-atoms-alias.result c.loop-alias-test.true c.index-atoms-alias.is c.requires.tables

pub add_atom-requires-clause-width : goal.add_atom-requires-clause-width
add_atom-requires-clause-width c =
    each_item (λ (a : Atom). length a.cells ≡ length (schema_table c.args.source.now a.table).columns) c.args.atoms.now c.loop-alias.alias c.index-atoms-alias.result c.loop-alias-test.true c.index-atoms-alias.is c.requires.widths

pub loop-alias-preserved : goal.loop-alias-preserved
loop-alias-preserved c = (
  more_cells c.args.atoms.now c.loop-alias.alias c.index-atoms-alias.result c.loop-alias-test.true c.index-atoms-alias.is c.add_atom.ensures.some c.loop-alias.invariant.0,
  one_atom _ c.args.atoms.now c.loop-alias.alias c.index-atoms-alias.result c.loop-alias.premise c.add_atom.new.self _ c.loop-alias-test.true c.index-atoms-alias.is c.in_ok-add_atom.ensures.met c.loop-alias.invariant.1,
)

pub overflow_cast-alias : goal.overflow_cast-alias
overflow_cast-alias c = omega (arith, few_atoms c.args.atoms.now c.loop-alias.alias c.loop-alias-test.true c.loop-alias.invariant.0 c.requires.few)
