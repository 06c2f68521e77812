-- What the listed answers on an instance are of sources for which it is universal.
use Rattle.std.specs.Prelude.{List}
use Rattle.dx_model.specs.declared.facts.Fact.{Fact}
use Rattle.dx_model.specs.declared.rules.Rule.{Rule}
use Rattle.dx_model.specs.Values.{Conversions, Tuple}
use Rattle.dx_model.specs.Tables.{Table}
use Rattle.dx_model.specs.Solutions.{IsUniversal}
use Rattle.dx_queries.specs.declared.query.Query.{Query}
use Rattle.dx_queries.specs.Results.{AreCertain}

-- for each source for which K is universal under some rules, these are the certain answers
abbrev pub ListsCertain : List Fact → Query → List Tuple → Type 0
ListsCertain K q rows =
    (convert : Conversions) (R : List Rule) (schema : List Table) (I : List Fact) → IsUniversal convert R schema I K
    → AreCertain convert R schema I q rows
