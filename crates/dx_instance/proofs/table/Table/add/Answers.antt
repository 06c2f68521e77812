use Rattle.std.proofs.Common.{◌++◌, ◌∷◌, ℕ, [], subst, ap, arith, length}
use Rattle.dx_instance.specs.Cells.{NumberTable}
use Rattle.dx_instance.specs.Chains.{AreChains}
use Rattle.dx_instance.proofs.PartFacts.{parts_more, parts_same}
use Rattle.dx_instance.proofs.TableFacts.{stands}
use Rattle.dx_instance.proofs.table.Table.add.Goals as goal

pub returns-in-Some-clause-is_new : goal.returns-in-Some-clause-is_new
returns-in-Some-clause-is_new c = stands c.args.self.now.rows c.in-Some.field-0 c.args.row.now c.in-Some.ensures.0 c.in-Some.ensures.1

pub invariant_of-self : goal.invariant_of-self
invariant_of-self c =
    parts_same c.self.inside.sorted c.self.inside.rows c.push_keyed.new.self c.self.inside.chains c.push_keyed.new.chains c.self.inside.indexes.items c.clear.new.self.items c.self.invariant c.in_err-push_keyed.ensures.err
    c.in_err-push_keyed.ensures.same c.clear.ensures.items

pub invariant_of-self-2 : goal.invariant_of-self-2
invariant_of-self-2 c =
    parts_more c.self.inside.sorted c.self.inside.rows c.push_keyed.new.self c.self.inside.chains c.push_keyed.new.chains c.self.inside.indexes.items c.clear.new.self.items c.args.row.now c.self.invariant c.in_ok-push_keyed.ensures.ok
    (λ keys a. subst (λ (k : ℕ). AreChains c.push_keyed.new.chains (keys ++ k ∷ [])) c.row_key.ensures (c.in_ok-push_keyed.ensures.chained keys a))
    (omega (arith, c.requires.room, ap (λ (t : NumberTable). length t.rows) c.self.view_is)) c.clear.ensures.items
