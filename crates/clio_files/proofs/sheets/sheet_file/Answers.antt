use Rattle.std.proofs.Common.{◌∷◌, ◌∙◌}
use Rattle.clio_files.proofs.SheetLists.{sheet_is}
use Rattle.clio_files.proofs.sheets.sheet_file.Goals as goal

pub returns : goal.returns
returns c = λ s named h.
    sheet_is s c.args.records c.in_ok-from_str.field-0 c.into_bytes.result.items c.saturating_sub.result
    (c.in_ok-from_str.ensures ∙ named) h
    (c.into_bytes.ensures (s.header ∷ s.records) h.printed) c.saturating_sub.ensures
