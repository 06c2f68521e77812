use Rattle.std.proofs.Common.{◌∙◌, ◌∷◌, [], sym, arith}
use Rattle.std.proofs.lemmas.Bool.{true≢false}
use Rattle.std.proofs.lemmas.List.{length-append}
use Rattle.dx_joins.specs.Derivations.{IsVariableWanted}
use Rattle.dx_joins.proofs.Wanting.{want_more, want_none}
use Rattle.dx_joins.proofs.shown.wanted_variables.Goals as goal
use Rattle.dx_joins.proofs.shown.wanted_variables.Goals.{then-is_wanted+in_ok-push, else-is_wanted}

pub loop-x-preserved : goal.loop-x-preserved
loop-x-preserved c = elim c.if-is_wanted.branch [
  | then-is_wanted+in_ok-push w ↦
      let inv = c.loop-x.invariant in
      let r = want_more (IsVariableWanted c.args.derived.now c.args.shown.now) c.loop-x.variables.items c.loop-x.x inv.below inv.all in
      rw (w.variables-is, w.in_ok-push.ensures.items) (record { below = r.0; all = r.1; few = omega (arith, inv.few, length-append c.loop-x.variables.items (c.loop-x.x ∷ [])) })
  | else-is_wanted w ↦
      let inv = c.loop-x.invariant in
      let r = want_none (IsVariableWanted c.args.derived.now c.args.shown.now) c.loop-x.variables.items c.loop-x.x (λ n. true≢false (sym (c.is_wanted.ensures.1 n) ∙ w.if-is_wanted.false)) inv.below inv.all in
      rw w.variables-is (record { below = r.0; all = r.1; few = omega (arith, inv.few) })
]
