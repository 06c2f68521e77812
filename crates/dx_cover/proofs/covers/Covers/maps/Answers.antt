use Rattle.std.proofs.Common.{◌≡◌, ◌∙◌, ap}
use Rattle.dx_cover.specs.Covering.{maps_in}
use Rattle.dx_cover.proofs.Covering.{found_maps, row_wide, used_at}
use Rattle.dx_cover.proofs.covers.Covers.maps.Goals as goal

pub bounds-items-j : goal.bounds-items-j
bounds-items-j c =
    let w = row_wide c.self.inside.maps c.args.i c.index-items-i.result c.self.invariant (rw c.self.view_is c.requires.from) (rw (← c.items.ensures) c.index-items-i.is) in
    rw c.items-2.ensures (rw (w, c.self.view_is) c.requires.to)

there : (c : goal.After-items-3) → c.items-3.result.now ≡ maps_in c.args.self.now c.args.i c.args.j
there c =
    let w = row_wide c.self.inside.maps c.args.i c.index-items-i.result c.self.invariant (rw c.self.view_is c.requires.from) (rw (← c.items.ensures) c.index-items-i.is) in
    c.items-3.ensures
    ∙ (found_maps c.self.inside.maps c.args.i c.args.j c.index-items-i.result c.index-items-j.result (rw c.self.view_is c.requires.from) (rw (w, c.self.view_is) c.requires.to)
    (rw (← c.items.ensures) c.index-items-i.is) (rw (← c.items-2.ensures) c.index-items-j.is)
    ∙ ap (λ z. maps_in z c.args.i c.args.j) c.self.view_is)

pub returns-clause-maps : goal.returns-clause-maps
returns-clause-maps c = there c

pub returns-clause-used : goal.returns-clause-used
returns-clause-used c = λ R e. there c ∙ used_at R c.args.self.now c.args.i c.args.j e c.requires.from c.requires.to
