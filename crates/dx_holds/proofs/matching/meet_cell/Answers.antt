use Rattle.std.proofs.Common.{◌≡◌, ℕ, refl, sym, subst, vec_capacity}
use Rattle.std.specs.Prelude.{MatchBool}
use Rattle.dx_base.specs.Members.{here}
use Rattle.dx_model.specs.declared.values.Value.{Value}
use Rattle.dx_model.specs.declared.rules.Cell.{Cell}
use Rattle.dx_model.specs.Rules.{cell_value}
use Rattle.dx_instance.specs.Places.{value_at}
use Rattle.dx_holds.specs.Searching.{Misses, AddsExactly, texts}
use Rattle.dx_holds.proofs.Narrowing.{answer_known}
use Rattle.dx_holds.proofs.matching.meet_cell.Goals as goal

pub meet_variable-requires-clause-cell : goal.meet_variable-requires-clause-cell
meet_variable-requires-clause-cell c = c.requires.stands

pub meet_variable-requires-clause-good : goal.meet_variable-requires-clause-good
meet_variable-requires-clause-good c = c.requires.ready.good

pub meet_variable-requires-clause-below : goal.meet_variable-requires-clause-below
meet_variable-requires-clause-below c = c.requires.ready.room c.in-Ex.variable (here c.in-Ex.is)

pub returns-in-Ex-clause-cases : goal.returns-in-Ex-clause-cases
returns-in-Ex-clause-cases c =
    subst
    (λ (k : Cell). MatchBool c.meet_variable.result
    (AddsExactly c.args.question.now.target.now (vec_capacity c.args.found.now) c.args.found.now.items (λ values. cell_value (texts c.args.question.now.atoms.now c.args.question.now.tuple.now) values k ≡ value_at c.args.question.now.target.now c.args.at.table c.args.at.place c.args.at.column) c.meet_variable.new.found.items)
    (Misses c.args.question.now.target.now c.args.found.now.items (λ values. cell_value (texts c.args.question.now.atoms.now c.args.question.now.tuple.now) values k ≡ value_at c.args.question.now.target.now c.args.at.table c.args.at.place c.args.at.column) c.meet_variable.new.found.items))
    (sym c.in-Ex.is) c.meet_variable.ensures.cases

pub returns-in_default : goal.returns-in_default
returns-in_default c = record {
  capacity = refl;
  cases = answer_known c.args.question.now.target.now (vec_capacity c.args.found.now) c.args.found.now.items (λ (values : ℕ → Value). cell_value (texts c.args.question.now.atoms.now c.args.question.now.tuple.now) values c.args.cell.now)
      (value_at c.args.question.now.target.now c.args.at.table c.args.at.place c.args.at.column) c.shows.result c.requires.ready.good (λ values. rw c.cell.ensures at (c.shows.ensures values c.in_default.not-Ex));
}
