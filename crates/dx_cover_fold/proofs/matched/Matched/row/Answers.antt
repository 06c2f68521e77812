use Rattle.std.proofs.Common.{◌<◌, [], length, ap, arith, sym, ◌∙◌}
use Rattle.dx_base.proofs.Members.{in_at}
use Rattle.dx_instance.specs.Cells.{NumberTable, numbers_at}
use Rattle.dx_cover_fold.proofs.CoverFacts.{places_are}
use Rattle.dx_cover_fold.proofs.matched.Matched.row.Goals as goal

pub returns-clause-texts : goal.returns-clause-texts
returns-clause-texts c =
    let many = places_are c.args.self.now c.args.rule c.requires.rule ∙ ap (λ (t : NumberTable). length t.rows) (sym c.rows.ensures.rows) in
    let there : c.args.place < length c.rows.result.now.rows = omega (arith, c.requires.place, many) in
    rw c.row.ensures.row (c.rows.ensures.texts (numbers_at c.rows.result.now.rows c.args.place) (in_at c.rows.result.now.rows c.args.place [] there))
