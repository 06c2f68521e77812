-- More source rows have fewer solutions, so each certain answer stays.
use Rattle.std.proofs.Common.{◌≡◌, List, sym, subst}
use Rattle.dx_base.specs.Members.{◌≈◌}
use Rattle.dx_base.proofs.Members.{same_sym}
use Rattle.dx_model.specs.declared.facts.Fact.{Fact}
use Rattle.dx_model.specs.declared.rules.Rule.{Rule}
use Rattle.dx_model.specs.Values.{Conversions}
use Rattle.dx_model.specs.Solutions.{IsUniversal}
use Rattle.dx_model.specs.Tables.{Table}
use Rattle.dx_model.proofs.RowsExist.{match_of}
use Rattle.dx_queries.proofs.Certain as answers
use Rattle.dx_core_laws.specs.Laws.{AnswersGrow, CertainStays, FewerMapsIntoMore, SolvesFewer, UniversalByRows}

pub solves_fewer : SolvesFewer
solves_fewer convert R schema I J K s sol = record {
  fits = sol.fits;
  rules = λ d k texts w. sol.rules d k texts (match_of convert d I J texts s w);
  keys = sol.keys;
  links = sol.links;
}

pub fewer_maps_into_more : FewerMapsIntoMore
fewer_maps_into_more convert R schema I J T U s u v = u.into U (solves_fewer convert R schema I J U s v.solution)

pub certain_stays : CertainStays
certain_stays convert R schema I J q t s c K k = c K (solves_fewer convert R schema I J K s k)

pub answers_grow : AnswersGrow
answers_grow convert R schema I J T U q rows others s u v a b t m =
    (b.exact t).1
    ((answers.universal_tells convert R schema J U q t v).1
    (certain_stays convert R schema I J q t s ((answers.universal_tells convert R schema I T q t u).0 ((a.exact t).0 m))))

pub universal_by_rows : UniversalByRows
universal_by_rows convert R schema I J T s u = record {
  solution = solves_fewer convert R schema J I T s.1 u.solution;
  into = λ K k. u.into K (solves_fewer convert R schema I J K s.0 k);
}

-- a universal solution for the same rules, schema and rows
pub brought : (convert : Conversions) (R S : List Rule) (schema tables : List Table) (I J T : List Fact) → R ≡ S → schema ≡ tables → I ≈ J
    → IsUniversal convert S tables J T → IsUniversal convert R schema I T
brought convert R S schema tables I J T p q r u =
    universal_by_rows convert R schema J I T (same_sym r)
    (subst (λ (X : List Rule). IsUniversal convert X schema J T) (sym p) (subst (λ (X : List Table). IsUniversal convert S X J T) (sym q) u))
