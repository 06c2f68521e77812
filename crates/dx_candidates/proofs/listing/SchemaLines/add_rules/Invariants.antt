use Rattle.std.proofs.Common.{◌≡◌, ◌++◌, take}
use Rattle.std.specs.Prelude.{map}
use Rattle.std.specs.List.{filter}
use Rattle.dx_lines.specs.Rules.{rule_by}
use Rattle.dx_schema.specs.Tables.{model_tables}
use Rattle.dx_candidates.specs.Listing.{is_needed}
use Rattle.dx_candidates.proofs.listing.SchemaLines.add_rules.Given as goal

abbrev pub invariant-loop-picks : goal.invariant-loop-picks
invariant-loop-picks l = l.rules ≡ l.initial.rules ++ map (rule_by l.self.lines.now l.pair.source.now.relation l.pair.target.now.relation) (filter (is_needed l.self.lines.now (model_tables l.self.source.now) (model_tables l.self.target.now) l.pair.source.now l.pair.target.now) (take l.picks-index l.picks-items))
