use Rattle.std.proofs.Common.{◌≡◌}
use Rattle.dx_schema_text.specs.Reading.{lines_among, conditions_among, rules_among}
use Rattle.dx_schema_text.proofs.mapping.mapping_made.Given as goal

abbrev pub invariant-items : goal.invariant-items
invariant-items l = record { lines_are : l.lines ≡ lines_among l.yielded; conditions_are : l.conditions ≡ conditions_among l.yielded; rules_are : l.rules ≡ rules_among l.yielded }
