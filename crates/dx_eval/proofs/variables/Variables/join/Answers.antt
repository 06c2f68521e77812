use Rattle.std.proofs.Common.{◌∙◌, ◌-◌, List, ℕ, ap, refl}
use Rattle.std.specs.Prelude.{map}
use Rattle.dx_eval.specs.Variables.{renamed}
use Rattle.dx_eval.proofs.Joined.{joined_already, joined_by_name}
use Rattle.dx_eval.proofs.variables.Variables.join.Goals as goal

pub returns-then-x-y : goal.returns-then-x-y
returns-then-x-y c = joined_already c.args.x c.args.y c.args.self.count c.args.self.rows.items c.if-x-y.true

pub returns : goal.returns
returns c =
    joined_by_name c.args.x c.args.y c.args.self.count c.min.result c.max.result (c.args.self.count - 1) c.args.self.rows.items c.in_ok-rows.rows.items c.if-x-y.false c.requires.first c.requires.second c.min.ensures c.max.ensures refl
    (c.in_ok-rows.ensures ∙ ap (λ (l : List (List ℕ)). map (map (renamed c.min.result c.max.result (c.args.self.count - 1))) l) c.deref.ensures.value)
