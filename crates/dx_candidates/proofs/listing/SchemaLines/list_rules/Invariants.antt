use Rattle.std.proofs.Common.{◌≡◌, take}
use Rattle.std.specs.List.{flat_map}
use Rattle.dx_schema.specs.Tables.{model_tables}
use Rattle.dx_candidates.specs.Listing.{rules_of_pair}
use Rattle.dx_candidates.proofs.listing.SchemaLines.list_rules.Given as goal

abbrev pub invariant-loop-pair : goal.invariant-loop-pair
invariant-loop-pair l = l.rules ≡ flat_map (rules_of_pair l.self.lines.now (model_tables l.self.source.now) (model_tables l.self.target.now) l.plan.sources l.plan.targets) (take l.pair-index l.pair-items)
