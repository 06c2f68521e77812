use Rattle.std.proofs.Common.{◌<◌, ◌∙◌, ◌++◌, ◌∷◌, [], ap, sym, length}
use Rattle.dx_base.proofs.Loops.{each_item}
use Rattle.dx_model.specs.declared.rules.Atom.{Atom}
use Rattle.dx_schema.specs.Names.{TableNames, table_names_of}
use Rattle.dx_schema.specs.Tables.{tables_of}
use Rattle.dx_script.specs.Names.{table_numbered}
use Rattle.dx_script.proofs.Made.{named_at}
use Rattle.dx_cover.proofs.Covering.{one_more}
use Rattle.dx_scriptgen.proofs.matches.table_names.Goals as goal

pub name-requires : goal.name-requires
name-requires c =
    each_item (λ (a : Atom). a.table < length (tables_of c.args.source.now)) c.args.atoms.now c.loop-atom.atom-index c.atom-item.result c.loop-atom-test.true c.atom-item.is c.requires.tables

pub loop-atom-preserved : goal.loop-atom-preserved
loop-atom-preserved c =
    let a = c.atom-item.result in
    let h : a.table < length (tables_of c.args.source.now) =
    each_item (λ (b : Atom). b.table < length (tables_of c.args.source.now)) c.args.atoms.now c.loop-atom.atom-index a c.loop-atom-test.true c.atom-item.is c.requires.tables in
    one_more (λ (b : Atom). (table_numbered (table_names_of c.args.source.now) b.table).name) c.args.atoms.now c.loop-atom.atom-index a c.loop-atom.names c.push.new.self c.loop-atom-test.true c.atom-item.is
    c.loop-atom.invariant
    (c.in_ok-push.ensures.ok ∙ ap (λ z. c.loop-atom.names ++ z ∷ []) (c.in_ok-copy.ensures ∙ (c.name.ensures ∙ ap (λ (z : TableNames). z.name) (sym (named_at c.args.source.now a.table h)))))
