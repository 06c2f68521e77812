use Rattle.std.proofs.Common.{◌<◌, ◌∙◌, ap, sym, length}
use Rattle.dx_base.proofs.Loops.{each_item}
use Rattle.dx_model.specs.declared.rules.Atom.{Atom}
use Rattle.dx_schema.specs.Names.{TableNames, table_names_of}
use Rattle.dx_schema.specs.Tables.{tables_of}
use Rattle.dx_script.specs.Generated.{insert_step}
use Rattle.dx_script.proofs.Made.{named_at}
use Rattle.dx_scriptgen.proofs.Lists.{pushed}
use Rattle.dx_scriptgen.proofs.inserts.push_inserts.Goals as goal

pub name-requires : goal.name-requires
name-requires c =
    each_item (λ (a : Atom). a.table < length (tables_of c.args.target.now)) c.args.rule.now.conclusion c.loop-atom.atom-index c.atom-item.result
    (rw c.items-atom-items.ensures at c.loop-atom-test.true) (rw c.items-atom-items.ensures at c.atom-item.is) c.requires.tables

pub loop-atom-preserved : goal.loop-atom-preserved
loop-atom-preserved c =
    let a = c.atom-item.result in
    let within = rw c.items-atom-items.ensures at c.loop-atom-test.true in
    let is = rw c.items-atom-items.ensures at c.atom-item.is in
    let h : a.table < length (tables_of c.args.target.now) =
    each_item (λ (b : Atom). b.table < length (tables_of c.args.target.now)) c.args.rule.now.conclusion c.loop-atom.atom-index a within is c.requires.tables in
    let n = c.in_ok-copy.ensures ∙ (c.name.ensures ∙ ap (λ (z : TableNames). z.name) (sym (named_at c.args.target.now a.table h))) in
    let o = c.in_ok-outs_of.ensures c.args.rule.now c.requires.variables in
    let i = c.items.ensures in
    pushed (insert_step (table_names_of c.args.target.now) c.args.kept c.args.number c.args.rule.now) c.args.rule.now.conclusion c.loop-atom.atom-index a c.args.steps.now c.loop-atom.steps c.push.new.self within is
    c.loop-atom.invariant (c.in_ok-push.ensures.ok ∙ cc)
