use Rattle.std.proofs.Common.{length, sym, subst}
use Rattle.dx_instance.specs.Shown.{NumbersBelow, NumberedInstance}
use Rattle.dx_tgd.proofs.Built.{gains_numbers, put_fit, within_tables}
use Rattle.dx_tgd.proofs.builder.Builder.add.Goals as goal

pub invariant_of-self : goal.invariant_of-self
invariant_of-self c =
    put_fit c.push.result (length c.self.inside.symbols) c.self.inside.tables.items c.args.table c.index_mut.result.now c.push.new.self c.args.numbers.now c.self.invariant
    (within_tables c.args.self.now c.self.inside.symbols c.self.inside.tables.items c.args.table c.self.view_is c.requires.table_there) c.index_mut.ensures.value
    (subst (λ (b : NumberedInstance). NumbersBelow (length b.symbols) c.args.numbers.now) (sym c.self.view_is) c.requires.below) c.push.ensures.ok c.push.ensures.err

pub returns-clause-added : goal.returns-clause-added
returns-clause-added c =
    gains_numbers c.push.result c.args.self.now c.self.inside.symbols c.self.inside.tables.items c.args.table c.index_mut.result.now c.push.new.self c.args.numbers.now c.self.view_is c.requires.table_there c.index_mut.ensures.value c.push.ensures.ok
