use Rattle.std.proofs.Common.{sym, ◌∙◌}
use Rattle.std.proofs.lemmas.Bool.{false≢true}
use Rattle.dx_instance.specs.Stored.{facts}
use Rattle.dx_judge.proofs.Moves.{ground_stays, maps_answered}
use Rattle.dx_judge.proofs.mapping.maps_into.Goals as goal

pub returns-then-not-branch : goal.returns-then-not-branch
returns-then-not-branch c = (
  (λ t. absurd (false≢true t)),
  (λ w. absurd (false≢true (sym c.if-not-branch.true
      ∙ c.in_ok-ground_facts_stay.ensures.1 (ground_stays (facts c.args.from.now) (facts c.args.into.now) w)))),
)

pub blocks_move-requires-clause-widths : goal.blocks_move-requires-clause-widths
blocks_move-requires-clause-widths c = rw c.in_ok-turned.ensures.plain c.requires

pub returns : goal.returns
returns c =
    maps_answered (facts c.args.from.now) (facts c.args.into.now) c.blocks_move.result (c.in_ok-ground_facts_stay.ensures.0 c.if-not-branch.false)
    (rw c.in_ok-turned.ensures.plain at c.blocks_move.ensures)
