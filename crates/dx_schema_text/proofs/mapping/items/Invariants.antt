use Rattle.std.proofs.Common.{◌≡◌, length}
use Rattle.dx_grammar.specs.Readers.{many, with_front}
use Rattle.dx_schema_text.specs.Reading.{begins_item, item_reader}
use Rattle.dx_schema_text.proofs.mapping.items.Given as goal

abbrev pub invariant-items : goal.invariant-items
invariant-items l = with_front l.items (many (begins_item l.conditions) (item_reader l.conditions) l.rest) ≡ many (begins_item l.conditions) (item_reader l.conditions) l.fn.tokens

abbrev pub decreases-items : goal.decreases-items
decreases-items l = length l.rest
