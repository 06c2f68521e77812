use Rattle.std.proofs.Common.{◌∙◌, ap}
use Rattle.std.specs.List.{list_any}
use Rattle.dx_cover.specs.States.{same_state}
use Rattle.dx_cover.proofs.search.is_remembered.Goals as goal

pub returns : goal.returns
returns c = c.is_known.ensures ∙ ap (λ z. list_any (same_state z) c.args.states.now) c.in_ok-state.ensures
