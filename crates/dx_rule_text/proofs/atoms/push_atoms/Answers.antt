use Rattle.std.proofs.Common.{◌<◌, length}
use Rattle.dx_base.proofs.Loops.{each_item}
use Rattle.dx_model.specs.declared.rules.Atom.{Atom}
use Rattle.dx_schema.specs.Tables.{tables_of}
use Rattle.dx_rule_text.proofs.Printing.{each_first, each_other}
use Rattle.dx_rule_text.proofs.atoms.push_atoms.Goals as goal

pub push_atom-requires : goal.push_atom-requires
push_atom-requires c =
    each_first (λ (a : Atom). a.table < length (tables_of c.args.schema.now)) c.args.atoms.now c.in-Some.atom.now c.in-Some.others.now c.in-Some.ensures.cases.0 c.requires

pub push_atom-requires-in-loop-other : goal.push_atom-requires-in-loop-other
push_atom-requires-in-loop-other c =
    let all = each_other (λ (a : Atom). a.table < length (tables_of c.args.schema.now)) c.args.atoms.now c.in-Some.atom.now c.in-Some.others.now c.in-Some.ensures.cases.0 c.requires in
    each_item (λ (a : Atom). a.table < length (tables_of c.args.schema.now)) c.in-Some.others.now c.loop-other.other-index c.other-item.result c.loop-other-test.true c.other-item.is all
