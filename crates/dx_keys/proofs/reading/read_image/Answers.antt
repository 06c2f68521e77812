use Rattle.std.proofs.Common.{List, length, subst, sym}
use Rattle.dx_base.specs.Members.{Each}
use Rattle.dx_instance.specs.Cells.{NumberTable}
use Rattle.dx_instance.specs.Shown.{NumberRowsFit}
use Rattle.dx_instance.proofs.SortFacts.{images_fit, parts_rows}
use Rattle.dx_keys.proofs.reading.read_image.Goals as goal

pub from_rows-requires-clause-fit : goal.from_rows-requires-clause-fit
from_rows-requires-clause-fit c =
    subst (λ (l : List NumberTable). Each l (NumberRowsFit (length c.args.symbols))) (sym c.in_ok-all.ensures)
    (images_fit (length c.args.symbols) (length c.args.symbols) c.args.roots.now c.args.tables.items c.requires.roots.within (parts_rows c.args.symbols c.args.tables.items c.requires.fit))
