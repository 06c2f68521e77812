use Rattle.std.proofs.Common.{◌≡◌, ◌-◌, ◌<◌, length, get_or}
use Rattle.dx_schema.specs.Tables.{model_tables}
use Rattle.dx_logical.specs.Unfolding.{none, continued}
use Rattle.dx_logical.specs.Counting.{choice_at}
use Rattle.dx_logical.specs.Laws.{IsSmallUnfolding}
use Rattle.dx_logical.proofs.Numbering.{rest_choices}
use Rattle.dx_logical.proofs.choices.CountedSchema.+follow_choice.Given as goal

abbrev pub decreases-follow_choice : goal.decreases-follow_choice
decreases-follow_choice l = l.choice.depth

abbrev pub invariant-loop-number : goal.invariant-loop-number
invariant-loop-number l = record {
  left : l.left ≡ length (rest_choices (model_tables l.self.schema.now) (l.choice.depth - 1) l.start.table l.number);
  few : l.left < l.self.counts.now.most;
  rest : l.rest < l.left;
  same : continued (model_tables l.self.schema.now) l.start.place l.start.own l.relation (get_or (rest_choices (model_tables l.self.schema.now) (l.choice.depth - 1) l.start.table l.number) l.rest none)
      ≡ continued (model_tables l.self.schema.now) l.start.place l.start.own l.initial.relation (choice_at (model_tables l.self.schema.now) l.choice.depth l.start.table l.choice.number);
  small : IsSmallUnfolding l.relation;
}
