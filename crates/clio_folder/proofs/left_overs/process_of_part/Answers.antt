use Rattle.std.proofs.Common.{refl}
use Rattle.clio_folder.specs.Parts.{IsPartName}
use Rattle.clio_folder.proofs.Names.{anyway, name_begins, name_ends}
use Rattle.clio_folder.proofs.left_overs.process_of_part.Goals as goal

pub returns : goal.returns
returns c =
    let name = c.args.name.now in
    let front = c.in_ok-strip_prefix.ensures.cases in
    let split = c.in_ok-number.ensures.cases in
    let back = c.if-not-ends_with.ensures.cases in
    anyway c.ok.result (IsPartName name) (
      name_begins name _ front.0 front.1.1 refl,
      name_ends name c.in_ok-strip_prefix.field-0.now c.in_ok-number.time.now _ front.0 split.1 back.0 front.2 front.3 split.4 split.7 back.1.0 refl back.2 back.1.1,
    )
