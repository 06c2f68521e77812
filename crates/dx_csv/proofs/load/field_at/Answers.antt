use Rattle.std.proofs.Common.{◌∙◌, [], get_or, sym}
use Rattle.std.proofs.lemmas.Option.{none-some, slice_get-get_or}
use Rattle.csv.specs.Records.{fields_of}
use Rattle.csv.proofs.RecordFacts.{field-get}
use Rattle.dx_csv.proofs.TableFacts.{field_at-slice_get}
use Rattle.dx_csv.proofs.load.field_at.Goals as goal

pub unreachable-requires : goal.unreachable-requires
unreachable-requires c =
    let fields = fields_of c.args.given.now in
    none-some (get_or fields c.args.place []) (c.in-None.ensures.value ∙ (field_at-slice_get fields c.args.place ∙ slice_get-get_or fields c.args.place [] c.requires))

pub returns : goal.returns
returns c = sym (field-get (fields_of c.args.given.now) c.args.place c.in-Some.field.now (sym c.in-Some.ensures.value))
