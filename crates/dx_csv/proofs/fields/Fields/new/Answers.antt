use Rattle.dx_csv.proofs.FieldFacts.{none-have}
use Rattle.dx_csv.proofs.fields.Fields.new.Goals as goal

pub returns : goal.returns
returns c = none-have _ c.new.ensures.bytes c.new-2.ensures.items
