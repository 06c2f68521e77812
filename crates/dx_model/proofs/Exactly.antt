-- The canonical instance satisfies its rules, and what is universal maps into its image under the forced map.
use Rattle.dx_model.specs.Rules.{canonical}
use Rattle.dx_model.specs.Instances.{image}
use Rattle.dx_model.specs.Laws.{CanonicalSatisfies, MoreSatisfies, UniversalExactly}
use Rattle.dx_model.proofs.Universal.{canonical_satisfies}
use Rattle.dx_model.proofs.Closed.{chased_universal}
use Rattle.dx_model.proofs.ByMembers.{maps_join}

pub satisfies_itself : CanonicalSatisfies
satisfies_itself convert R I rows are d k = canonical_satisfies convert I 0 R rows (canonical 0 R rows) are (λ f m. m) d k

pub more_satisfies : MoreSatisfies
more_satisfies convert R I A B inside satisfied d k texts match = let v = satisfied d k texts match in (v.0, λ a m. inside _ (v.1 a m))

pub universal_exactly : UniversalExactly
universal_exactly convert R schema I K rows m are closed forced keys solution =
    let C = image m (canonical 0 R rows) in
    let T = chased_universal convert R schema I rows m are closed forced keys in (
      (λ u. u.into C T.solution),
      (λ into. record { solution = solution; into = λ L other. maps_join K C L into (T.into L other) }),
    )
