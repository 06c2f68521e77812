use Rattle.std.proofs.Common.{◌++◌, subst, take}
use Rattle.dx_model.specs.declared.rules.Atom.{Atom}
use Rattle.dx_model.specs.Rules.{cells_of}
use Rattle.dx_used.specs.Counting.{CountsCells}
use Rattle.dx_used.proofs.MarkFacts.{counted_all, counted_item}
use Rattle.dx_used.proofs.mentions.add_atoms.Goals as goal

pub loop-atom-preserved : goal.loop-atom-preserved
loop-atom-preserved c before h = counted_item (λ (a : Atom). a.cells) before c.args.atoms.now c.loop-atom.atom-index c.atom-item.result c.add_cells.new.counts c.loop-atom-test.true c.atom-item.is (subst (λ cs. CountsCells ((before ++ cells_of (take c.loop-atom.atom-index c.args.atoms.now)) ++ cs) c.add_cells.new.counts) c.items.ensures (c.add_cells.ensures.counts (before ++ cells_of (take c.loop-atom.atom-index c.args.atoms.now)) (c.loop-atom.invariant before h)))

pub returns : goal.returns
returns c = record { counts = λ before h. counted_all cells_of before c.args.atoms.now c.loop-atom.atom-index c.loop-atom.counts c.loop-atom-test.false (c.loop-atom.invariant before h) }
