use Rattle.dx_scriptgen.proofs.keeps.all_parts.Goals as goal

pub parts_of-requires-clause-known : goal.parts_of-requires-clause-known
parts_of-requires-clause-known c = record { rules = c.requires.rules; widths = c.requires.widths; covers = c.in_ok-covers.ensures }
