use Rattle.std.proofs.Common.{◌∙◌, refl, sym}
use Rattle.dx_instance.specs.NullMaps.{map_of_entries}
use Rattle.dx_instance.proofs.NullFacts.{none_put, none_removed, put_stored, removed_stored}
use Rattle.dx_instance.proofs.null_map.put.Goals as goal

pub returns-then-is_same-clause-ok : goal.returns-then-is_same-clause-ok
returns-then-is_same-clause-ok c =
    removed_stored c.args.tree.now.entries c.remove.new.self.entries c.args.null c.args.value (map_of_entries c.args.tree.now.entries) refl (sym c.is_same.ensures ∙ c.if-is_same.true) c.remove.ensures.updates.0

pub returns-then-is_same-clause-proper : goal.returns-then-is_same-clause-proper
returns-then-is_same-clause-proper c = none_removed _ c.args.tree.now.entries c.remove.new.self.entries c.requires c.remove.ensures.entries

pub returns-clause-ok : goal.returns-clause-ok
returns-clause-ok c =
    put_stored c.args.tree.now.entries c.insert.new.self.entries c.args.null c.args.value (map_of_entries c.args.tree.now.entries) refl (sym c.is_same.ensures ∙ c.if-is_same.false) c.in_ok-insert.ensures.updates.0

pub returns-clause-proper : goal.returns-clause-proper
returns-clause-proper c = none_put c.args.tree.now.entries c.insert.new.self.entries c.args.null c.args.value c.requires (sym c.is_same.ensures ∙ c.if-is_same.false) c.in_ok-insert.ensures.entries
