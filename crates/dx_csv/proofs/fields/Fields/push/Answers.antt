use Rattle.std.proofs.Common.{[]}
use Rattle.dx_csv.proofs.FieldFacts.{none-open}
use Rattle.dx_csv.proofs.fields.Fields.push.Goals as goal

pub returns : goal.returns
returns c fields h = c.end.ensures fields c.args.field.now (c.in_ok-add.ensures fields [] (none-open c.args.self.now fields h))
