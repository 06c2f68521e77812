use Rattle.std.proofs.Common.{◌≡◌}
use Rattle.dx_base.specs.Members.{◌∈◌}
use Rattle.dx_instance.proofs.PartFacts.{next_by}
use Rattle.dx_instance.proofs.table.Table.next_with.Goals as goal

pub returns-in-Some : goal.returns-in-Some
returns-in-Some c =
    let deref : (c.in-Some.index.now ∈ c.self.inside.indexes.items) × (c.in-Some.index.now.column ≡ c.args.column) = rw c.deref.ensures.value at c.in-Some.ensures in
    rw (← c.self.view_is) (next_by c.self.inside.rows.rows c.self.inside.indexes.items c.in-Some.index.now c.args.column c.args.number c.args.from c.next.result c.self.invariant.indexed deref c.next.ensures)
