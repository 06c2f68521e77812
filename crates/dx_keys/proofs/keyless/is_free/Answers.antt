use Rattle.std.proofs.Common.{◌∙◌, sym}
use Rattle.std.proofs.lemmas.Bool.{false≢true}
use Rattle.dx_base.proofs.Lists.{not_empty}
use Rattle.dx_schema.specs.Tables.{schema_table}
use Rattle.dx_keys.proofs.Unforced.{no_keys}
use Rattle.dx_keys.proofs.keyless.is_free.Goals as goal

pub returns-else-is_empty : goal.returns-else-is_empty
returns-else-is_empty c = (
  (λ t. absurd (false≢true (sym c.if-is_empty.false ∙ t))),
  (λ e. absurd (not_empty c.keys_of.result.now _ c.is_empty.ensures c.if-is_empty.false (c.keys_of.ensures ∙ no_keys (schema_table c.args.schema.now c.args.table) e))),
)
