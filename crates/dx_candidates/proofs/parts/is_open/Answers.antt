use Rattle.std.proofs.Common.{◌<◌, length, get_or, arith}
use Rattle.std.proofs.lemmas.Grind.{common_steps}
use Rattle.dx_base.proofs.Members.{in_at}
use Rattle.dx_candidates.proofs.parts.is_open.Goals as goal

pub links_of-requires : goal.links_of-requires
links_of-requires c =
    let h : c.in-Some.parent < length c.args.occurrences.now = grind (arith, common_steps) in
    c.requires.tables (get_or c.args.occurrences.now c.in-Some.parent c.index-occurrences-parent.result) (in_at c.args.occurrences.now c.in-Some.parent c.index-occurrences-parent.result h)
