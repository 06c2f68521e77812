use Rattle.std.proofs.Common.{sym, ◌∙◌}
use Rattle.dx_csv.proofs.ColumnFacts.{on_both, settled_unused, settled_used}
use Rattle.dx_csv.proofs.interning.Grid.settle_column.Goals as goal

pub returns-then-not-is_used-clause-settled : goal.returns-then-not-is_used-clause-settled
returns-then-not-is_used-clause-settled c =
    settled_unused c.args.used.now c.args.symbols.now c.args.self.now.texts.now c.args.self.now.width c.args.self.now.count c.args.column c.args.cells.now.items (sym c.is_used.ensures ∙ c.if-not-is_used.true) c.requires.settled

pub returns-clause-settled : goal.returns-clause-settled
returns-clause-settled c =
    on_both c.intern_column.result
    (settled_used c.args.used.now c.args.symbols.now c.intern_column.new.symbols c.args.self.now.texts.now c.args.self.now.width c.args.self.now.count c.args.column c.args.cells.now.items c.intern_column.new.cells.items
    (sym c.is_used.ensures ∙ c.if-not-is_used.false) c.intern_column.ensures.grows)
    c.requires.settled c.intern_column.ensures.numbered c.intern_column.ensures.others
