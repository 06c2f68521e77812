use Rattle.std.proofs.Common.{◌∙◌, sym}
use Rattle.clio_source.proofs.PassingRows.{nothing_asked}
use Rattle.clio_source.proofs.passing.passing_rows.Goals as goal

pub returns-then-is_empty : goal.returns-then-is_empty
returns-then-is_empty g c = nothing_asked g.M.Meaning.passes c.args.conditions.now c.args.rows (sym c.is_empty.ensures ∙ c.if-is_empty.true)
