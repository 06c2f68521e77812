use Rattle.std.proofs.Common.{◌∙◌, ◌↔◌, ◌++◌, ap, subst, arith, List, ℕ, length}
use Rattle.std.proofs.lemmas.List.{length-append}
use Rattle.dx_base.specs.Members.{◌∈◌}
use Rattle.dx_joins.specs.Collecting.{RowsExactly}
use Rattle.dx_joins.specs.Planning.{StepsTo}
use Rattle.dx_joins.proofs.Carrying.{carry_more, found, never}
use Rattle.dx_joins.proofs.premise.next.Goals as goal

pub step-requires-clause-kept : goal.step-requires-clause-kept
step-requires-clause-kept c =
    let names = c.deref-3.ensures.value ∙ c.in_ok-names.ensures in
    let long = ap length names in
    let l = ap length c.deref.ensures.value in
    let r = ap length c.deref-2.ensures.value in
    let a = length-append c.deref.result.now c.deref-2.result.now in
    record {
      known = λ x m.
          let at = c.in_ok-kept.ensures.some x (subst (λ (l : List ℕ). x ∈ l) c.deref-4.ensures.value m) in
          subst (λ (l : List ℕ). x ∈ l) (names ∙ (ap (λ (l : List ℕ). l ++ c.deref-2.result.now) c.deref.ensures.value ∙ ap (λ (l : List ℕ). c.args.partial.now.variables.items ++ l) c.deref-2.ensures.value)) at;
      few = omega (arith, long, l, r, a, c.in_ok-kept.ensures.few, ap length c.deref-4.ensures.value, c.requires.few);
    }

pub unreachable-requires : goal.unreachable-requires
unreachable-requires c = never c.in_ok-rows.field-0 (StepsTo c.args.marked.now.source.now.tables c.args.marked.now.marks.now c.args.partial.now c.args.pattern.now c.deref-4.result.now) _ c.in-None.is c.in_ok-rows.ensures.rows

pub returns : goal.returns
returns c = λ done k.
    let names = c.deref-3.ensures.value ∙ c.in_ok-names.ensures in
    let kept = c.in_ok-kept.ensures in
    let onto = c.deref-4.ensures.value in
    let is = found c.in_ok-rows.field-0 c.in-Some.rows _ (RowsExactly (length c.deref-4.result.now) (StepsTo c.args.marked.now.source.now.tables c.args.marked.now.marks.now c.args.partial.now c.args.pattern.now c.deref-4.result.now)) c.in-Some.is c.in_ok-rows.ensures.rows in
    let same = subst (λ (l : List ℕ). (t : List ℕ) → (t ∈ c.in-Some.rows.rows) ↔ StepsTo c.args.marked.now.source.now.tables c.args.marked.now.marks.now c.args.partial.now c.args.pattern.now l t) onto is.exact in
    carry_more c.args.marked.now.source.now.tables c.args.marked.now.marks.now done c.args.later.now c.args.wanted.now c.deref-3.result.now c.args.pattern.now c.args.partial.now (record { variables = c.in_ok-kept.kept; rows = c.in-Some.rows })
    (names ∙ (ap (λ (l : List ℕ). l ++ c.deref-2.result.now) c.deref.ensures.value ∙ ap (λ (l : List ℕ). c.args.partial.now.variables.items ++ l) c.deref-2.ensures.value)) kept.some kept.all kept.once kept.few (is.width ∙ ap length onto) same k
