use Rattle.std.proofs.Common.{◌≤◌, ◌<◌, ℕ, List, Option, None, Some, arith, get_or, length, rules, subst, tests}
use Rattle.std.specs.Prelude.{MatchOption}
use Rattle.std.specs.List.{AllWithin, HoldsAt}
use Rattle.std.proofs.lemmas.Iterator.{IsFirst-from_position, YieldsList-from_slice}
use Rattle.dx_base.specs.Members.{Each}
use Rattle.dx_base.proofs.Members.{contains_from_in}
use Rattle.dx_solver.specs.declared.atom.Term.TheVariants.{Number}
use Rattle.dx_solver.specs.declared.atom.Term.{Term}
use Rattle.dx_solver.specs.Domains.{choice_count}
use Rattle.dx_solver.proofs.choosing.free_column.Goals as goal

first : {X : Type 0} (P Q : X → Type 0) (o : Option ℕ) (xs : List X) (d : X)
    → MatchOption o (AllWithin Q xs 0 (length xs)) (λ i. (i < length xs) × HoldsAt P xs i × AllWithin Q xs 0 i)
    → MatchOption o (Each xs Q) (λ i. (i < length xs) × P (get_or xs i d))
first P Q None xs d h = λ x m. let c = contains_from_in m in subst Q c.2 (h c.0 x (omega arith) c.1)
first P Q (Some i) xs d h = (h.0, h.1 d)

pub returns : goal.returns
returns c =
    let ds = c.args.domains.now in
    let terms = c.args.terms.now in
    let free : Term → Type 0 = λ t. 1 < choice_count ds t in
    let bound : Term → Type 0 = λ t. choice_count ds t ≤ 1 in
    let by_call = IsFirst-from_position _ _ _ free bound c.position.ensures.ran (YieldsList-from_slice terms (cc)) (λ x q k. search (rules, tests)) (λ x q k. search (rules, tests)) in
    first free bound _ terms (Number 0) by_call
