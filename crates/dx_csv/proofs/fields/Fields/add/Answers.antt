use Rattle.std.proofs.Common.{refl}
use Rattle.dx_csv.proofs.FieldFacts.{more-open}
use Rattle.dx_csv.proofs.fields.Fields.add.Goals as goal

pub returns : goal.returns
returns c = more-open c.args.self.now _ c.args.more.now c.in_ok-push_str.ensures.bytes refl c.utf8.more
