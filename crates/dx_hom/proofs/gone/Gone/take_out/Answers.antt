use Rattle.std.proofs.Common.{◌<◌, ◌∙◌, length, ap, refl, List, Bool}
use Rattle.std.proofs.lemmas.List.{length-map}
use Rattle.dx_hom.specs.View.{marked}
use Rattle.dx_hom.proofs.Placing.{marked_seen}
use Rattle.dx_hom.proofs.gone.Gone.take_out.Goals as goal

pub returns : goal.returns
returns c =
    let h : c.args.table < length c.self.inside.tables.items = rw (← c.self.view_is, length-map) at c.requires.table in
    marked_seen c.self.inside.tables.items c.args.table c.args.place c.index_mut.result.now _ h c.index_mut.ensures.value refl
    ∙ ap (λ (g : List (List Bool)). marked g c.args.table c.args.place) c.self.view_is
