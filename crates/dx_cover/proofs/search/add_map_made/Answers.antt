use Rattle.std.proofs.Common.{◌∙◌, [], ◌∷◌, ap}
use Rattle.dx_cover.specs.Search.{found_after}
use Rattle.dx_cover.proofs.search.add_map_made.Goals as goal

pub returns : goal.returns
returns c = c.in_ok-add_map.ensures ∙ ap (λ z. found_after c.args.found.now.items (z ∷ [])) c.in_ok-map.ensures
