use Rattle.std.proofs.Common.{◌<◌, ◌∙◌, length, ap, refl, List, Bool, true}
use Rattle.std.proofs.lemmas.List.{length-map}
use Rattle.dx_solver.specs.Marks.{with_mark}
use Rattle.dx_solver.proofs.Marks.{mark_seen}
use Rattle.dx_solver.proofs.taken.Taken.take_out.Goals as goal

pub returns : goal.returns
returns c =
    let h : c.args.table < length c.self.inside.tables.items = rw (← c.self.view_is, length-map) at c.requires.table in
    mark_seen c.self.inside.tables.items c.args.table c.args.place true c.index_mut.result.now _ h c.index_mut.ensures.value refl
    ∙ ap (λ (g : List (List Bool)). with_mark g c.args.table c.args.place true) c.self.view_is
