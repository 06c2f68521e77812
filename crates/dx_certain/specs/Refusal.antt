-- Why a list of answers is refused.
use Rattle.std.specs.Prelude.{◌≡◌, ℕ, List}
use Rattle.dx_base.specs.declared.file.Count.TheVariants.{AnswerCells}
use Rattle.dx_model.specs.declared.facts.Fact.{Fact}
use Rattle.dx_queries.specs.declared.query.Query.{Query}
use Rattle.dx_queries.specs.Results.{AnswersPassLimit}
use Rattle.dx_certain.specs.declared.fault.CertainFault.{CertainFault}
use Rattle.dx_certain.specs.declared.fault.CertainFault.TheVariants.{Limit, Memory}

-- the limit is refused if the answers pass it; for want of memory there is no reason
abbrev pub IsCertainRefusal : List Fact → Query → ℕ → CertainFault → Type 0
IsCertainRefusal K q limit Memory = Unit {0}
IsCertainRefusal K q limit (Limit l) = (l ≡ record { what = AnswerCells; number = limit }) × AnswersPassLimit K q limit
