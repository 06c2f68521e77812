use Rattle.std.proofs.Common.{◌∙◌, List, ap, length, sym}
use Rattle.dx_model.specs.Values.{Tuple}
use Rattle.dx_model.proofs.TupleFacts.{length_tuples}
use Rattle.dx_model.proofs.tuples.Tuples.len.Goals as goal

pub returns : goal.returns
returns c = sym (length_tuples c.self.inside.count c.self.inside.width c.self.inside.texts.items) ∙ ap (λ (ts : List Tuple). length ts) c.self.view_is
