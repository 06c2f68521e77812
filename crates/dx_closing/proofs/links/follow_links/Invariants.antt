use Rattle.std.proofs.Common.{◌≡◌, drop}
use Rattle.dx_schema.specs.Tables.{model_tables}
use Rattle.dx_closing.specs.Closing.{through_links}
use Rattle.dx_closing.specs.Laws.{IsRoomy}
use Rattle.dx_closing.proofs.links.follow_links.Given as goal

abbrev pub invariant-loop-link : goal.invariant-loop-link
invariant-loop-link l =
    (through_links (model_tables l.target) l.row l.growing (drop l.link-index l.links) ≡ through_links (model_tables l.target) l.row l.initial.growing l.links)
    × IsRoomy (model_tables l.target) l.growing
