-- What is listed on a universal target are the certain answers.
use Rattle.std.proofs.Common.{List, Result, Ok, Err}
use Rattle.std.specs.Prelude.{IfOk}
use Rattle.dx_model.specs.declared.facts.Fact.{Fact}
use Rattle.dx_model.specs.Values.{Tuple}
use Rattle.dx_queries.specs.declared.query.Query.{Query}
use Rattle.dx_queries.specs.Results.{AreConstantAnswers}
use Rattle.dx_queries.proofs.Certain.{listed_are_certain}
use Rattle.dx_certain.specs.declared.fault.CertainFault.{CertainFault}
use Rattle.dx_certain.specs.Listing.{ListsCertain}

pub lists_certain : (K : List Fact) (q : Query) (r : Result (List Tuple) CertainFault) → IfOk r (AreConstantAnswers K q) → IfOk r (ListsCertain K q)
lists_certain K q (Ok rows) are = λ convert R schema I u. listed_are_certain convert R schema I K q rows u are
lists_certain K q (Err e) are = tt
