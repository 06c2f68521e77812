use Rattle.std.proofs.Common.{refl, ◌∙◌, ap}
use Rattle.dx_chase.specs.Parts.{demands_in}
use Rattle.dx_chase.proofs.PartFacts.{adds_part, demands_more, lies_more}
use Rattle.dx_chase.proofs.asked.add_rows.Goals as goal

pub returns-clause-adds : goal.returns-clause-adds
returns-clause-adds c =
    adds_part c.args.tables.now c.args.table c.args.determination _ _ c.requires.table c.requires.determination
    (ap (demands_in c.args.tables.now) c.in_ok-push.ensures.items ∙ demands_more c.args.tables.now c.args.parts.now.items _)

pub returns-clause-lie : goal.returns-clause-lie
returns-clause-lie c =
    rw (c.in_ok-push.ensures.items, c.in_ok-end.ensures, c.row_total.ensures)
    (lies_more c.args.tables.now 0 c.args.parts.now.items c.args.count _ c.requires.lie refl c.requires.table c.requires.determination)
