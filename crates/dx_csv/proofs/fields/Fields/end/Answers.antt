use Rattle.std.proofs.Common.{◌∙◌, refl}
use Rattle.dx_csv.proofs.FieldFacts.{end-open}
use Rattle.dx_csv.proofs.fields.Fields.end.Goals as goal

pub returns : goal.returns
returns c = end-open c.args.self.now _ c.in-Ok.end refl c.in_ok-push.ensures.items (c.in-Ok.ensures.1 ∙ c.len.ensures ∙ c.args.self.now.text.bytes.ok.0)
