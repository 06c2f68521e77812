use Rattle.std.proofs.Common.{◌<◌, ◌≤◌, arith, length}
use Rattle.dx_base.proofs.Loops.{each_item, each_more}
use Rattle.dx_base.proofs.Members.{each_all}
use Rattle.dx_model.specs.declared.rules.Atom.{Atom}
use Rattle.dx_instance.specs.Stored.{rows_of}
use Rattle.dx_implies.proofs.Bounds.{few_texts}
use Rattle.dx_implies.proofs.bounding.most_texts.Goals as goal

pub count-requires : goal.count-requires
count-requires c =
    each_item (λ (a : Atom). a.table < length c.args.source.now) c.args.atoms.now c.loop-atom.atom-index c.atom-item.result c.loop-atom-test.true c.atom-item.is c.requires

pub loop-atom-preserved : goal.loop-atom-preserved
loop-atom-preserved c =
    each_more (λ (a : Atom). length (rows_of c.args.source.now a.table) ≤ c.max-rows.result) c.args.atoms.now c.loop-atom.atom-index c.atom-item.result c.loop-atom-test.true c.atom-item.is
    (λ a m. let l = c.loop-atom.invariant a m in omega (arith, l, c.max-rows.ensures, c.count.ensures)) (omega (arith, c.max-rows.ensures, c.count.ensures))

pub returns : goal.returns
returns c = λ x known.
    few_texts c.numbers.result.symbols c.numbers.result.tables c.args.source.now c.args.atoms.now x c.loop-atom.rows c.min.result c.numbers.ensures.fit c.numbers.ensures.shown known
    (each_all (λ (a : Atom). length (rows_of c.args.source.now a.table) ≤ c.loop-atom.rows) c.args.atoms.now c.loop-atom.atom-index c.loop-atom-test.false c.loop-atom.invariant)
    (omega (arith, c.min.ensures, c.len.ensures.len))
