use Rattle.std.proofs.Common.{◌≡◌, ℕ, List, Result, Ok, Err, ◌∙◌, subst}
use Rattle.std.specs.Prelude.{IfOk}
use Rattle.std.specs.List.{AllZip}
use Rattle.std.specs.declared.alloc.AllocError.{AllocError}
use Rattle.dx_model.specs.declared.values.Value.{Value}
use Rattle.dx_model.specs.declared.rules.Cell.{Cell}
use Rattle.dx_model.specs.Rules.{exported}
use Rattle.dx_instance.specs.Cells.{NumberTable}
use Rattle.dx_cover_fold.specs.declared.index.Index.{Index}
use Rattle.dx_cover_fold.specs.declared.number_at.NumberAt.{NumberAt}
use Rattle.dx_cover_fold.specs.Codes.{IsPlanned}
use Rattle.dx_cover_fold.specs.Found.{Indexes, IndexesCells, images_by}
use Rattle.dx_cover_fold.proofs.CodeFacts.{plan_columns}
use Rattle.dx_cover_fold.proofs.covering.index_by.Goals as goal

indexed : (r : Result Index AllocError) (S : List Value) (t : NumberTable) (variables : List ℕ) (cells : List Cell) (plan : List NumberAt) → AllZip (IsPlanned S variables t.width) cells plan → IfOk r (Indexes t.rows plan)
    → IfOk r (IndexesCells S t variables cells)
indexed (Ok index) S t variables cells plan p h = record { plan = plan; planned = p; indexes = h }
indexed (Err e) S t variables cells plan p h = tt

same_plan : (S : List Value) (xs ys : List ℕ) (w u : ℕ) (cs ds : List Cell) (plan : List NumberAt) → xs ≡ ys → w ≡ u → cs ≡ ds → AllZip (IsPlanned S xs w) cs plan → AllZip (IsPlanned S ys u) ds plan
same_plan S xs ys w u cs ds plan e f g h = rw (← e, ← f, ← g) h

pub build-requires : goal.build-requires
build-requires c =
    rw (c.deref-3.ensures.value, ← c.width.ensures) (plan_columns c.args.matches.now.symbols c.deref.result.now c.width.result c.deref-2.result.now c.in_ok-plan.plan.items c.in_ok-plan.ensures)

pub returns : goal.returns
returns c =
    let planned = same_plan c.args.matches.now.symbols c.deref.result.now (exported c.args.to.now) c.width.result c.args.rows.now.width c.deref-2.result.now (images_by c.args.from.now c.args.map.now) c.in_ok-plan.plan.items
    (c.deref.ensures.value ∙ c.in_ok-others.ensures) c.width.ensures (c.deref-2.ensures.value ∙ c.in_ok-cells.ensures) c.in_ok-plan.ensures in
    indexed c.build.result c.args.matches.now.symbols c.args.rows.now (exported c.args.to.now) (images_by c.args.from.now c.args.map.now) c.in_ok-plan.plan.items planned
    (subst (λ (p : List NumberAt). IfOk c.build.result (Indexes c.args.rows.now.rows p)) c.deref-3.ensures.value c.build.ensures)
