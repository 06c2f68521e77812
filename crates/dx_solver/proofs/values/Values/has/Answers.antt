use Rattle.std.proofs.Common.{◌≡◌, ◌∙◌, ℕ, List, sym, subst}
use Rattle.std.specs.List.Sorted.{IsStrictlyIncreasing}
use Rattle.dx_base.specs.Members.{◌∈◌}
use Rattle.dx_solver.proofs.ValueFacts.{is_among}
use Rattle.dx_solver.proofs.values.Values.has.Goals as goal

pub returns : goal.returns
returns c m =
    let xs = c.deref.result.now in
    let up = subst (λ (l : List ℕ). IsStrictlyIncreasing l) (sym c.deref.ensures.value) c.self.invariant in
    let same : xs ≡ c.args.self.now = c.deref.ensures.value ∙ c.self.view_is in
    let there = subst (λ (l : List ℕ). c.args.number ∈ l) (sym same) m in
    c.is_ok.ensures.value ∙ is_among xs c.args.number c.binary_search.result c.binary_search.ensures.position up there
