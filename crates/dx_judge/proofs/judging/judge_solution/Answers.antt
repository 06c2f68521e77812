use Rattle.std.proofs.Common.{◌∙◌, inr, refl, sym}
use Rattle.std.proofs.lemmas.Bool.{false≢true}
use Rattle.dx_schema.specs.Tables.{model_tables}
use Rattle.dx_judge.proofs.Shown.{universal_answered}
use Rattle.dx_judge.proofs.judging.judge_solution.Goals as goal

-- the chase leaves the widths as they are
pub maps_into-requires : goal.maps_into-requires
maps_into-requires c =
    c.requires.given ∙ sym c.requires.widths ∙ sym c.in_ok-other.ensures.1.imaged.widths_stay

pub returns-then-branch : goal.returns-then-branch
returns-then-branch c =
    universal_answered (model_tables c.args.target.now) c.args.canonical c.in_ok-other.other c.args.given.now c.judge_universal.result
    c.in_ok-other.ensures (c.in_ok-maps_into.ensures.0 c.if-branch.true) c.judge_universal.ensures

pub returns : goal.returns
returns c = (
  c.in_ok-other.other,
  c.in_ok-other.ensures,
  inr (
    (λ w. false≢true (sym c.if-branch.false ∙ c.in_ok-maps_into.ensures.1 w)),
    refl,
  ),
)
