use Rattle.std.proofs.Common.{◌∙◌, ◌+◌, ◌++◌, ◌∷◌, [], sym, ap, List, ℕ}
use Rattle.std.specs.List.{range_with_len}
use Rattle.std.proofs.lemmas.List.{append_assoc}
use Rattle.dx_base.proofs.Ranges.{range_more}
use Rattle.dx_joins.proofs.shown.names_of.Goals as goal

pub loop-i-preserved : goal.loop-i-preserved
loop-i-preserved c = c.in_ok-push.ensures.items ∙ ap (λ (l : List ℕ). l ++ ((c.args.first + c.loop-i.i) ∷ [])) c.loop-i.invariant ∙ append_assoc c.args.wanted.now (range_with_len c.args.first c.loop-i.i) ((c.args.first + c.loop-i.i) ∷ []) ∙ ap (λ (l : List ℕ). c.args.wanted.now ++ l) (sym (range_more c.args.first c.loop-i.i))
