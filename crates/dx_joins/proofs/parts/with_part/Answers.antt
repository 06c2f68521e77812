use Rattle.std.proofs.Common.{◌≡◌, ◌∙◌, ◌++◌, ap, subst, arith, ℕ, List, length}
use Rattle.dx_base.specs.Members.{◌∈◌}
use Rattle.dx_joins.specs.Products.{IsProduct}
use Rattle.dx_joins.proofs.Products.{few_both, part_grows}
use Rattle.dx_joins.proofs.parts.with_part.Goals as goal

pub product-requires-clause-kept : goal.product-requires-clause-kept
product-requires-clause-kept c =
    let old = c.args.whole.now.variables.items in
    let more = c.in_ok-part.part.variables.items in
    let b = c.in_ok-part.ensures in
    let is : c.deref-3.result.now ≡ old ++ more = c.deref-3.ensures.value ∙ c.in_ok-variables.ensures ∙ ap (λ (l : List ℕ). l ++ c.deref-2.result.now) c.deref.ensures.value ∙ ap (λ (l : List ℕ). old ++ l) c.deref-2.ensures.value in
    let few = few_both old more c.args.shown.now c.requires.whole.once b.once (λ x m k. c.requires.whole.apart x m (b.known x k)) c.requires.whole.wanted b.wanted in
    record { known = λ x m. subst (λ (l : List ℕ). x ∈ l) is m; few = omega (arith, ap length is, few, c.requires.whole.few) }

pub returns : goal.returns
returns c =
    let old = c.args.whole.now.variables.items in
    let is = c.in_ok-variables.ensures ∙ ap (λ (l : List ℕ). l ++ c.deref-2.result.now) c.deref.ensures.value ∙ ap (λ (l : List ℕ). old ++ l) c.deref-2.ensures.value in
    part_grows c.args.marked.now.source.now.tables c.args.marked.now.marks.now c.args.most c.args.patterns.now c.args.shown.now c.args.whole.now c.in_ok-part.part (record { variables = c.in_ok-variables.variables; rows = c.in_ok-rows.rows }) is c.in_ok-part.ensures
    (subst (λ (l : List ℕ). IsProduct c.args.most c.args.whole.now c.in_ok-part.part l c.in_ok-rows.rows) c.deref-3.ensures.value c.in_ok-rows.ensures.rows)
