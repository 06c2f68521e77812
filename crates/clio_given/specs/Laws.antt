-- What holds of given files.
use Rattle.std.specs.Prelude.{◌≡◌, List}
use Rattle.dx_model.specs.Tables.{IsInstance}
use Rattle.dx_stages.specs.Worlds.{World}
use Rattle.dx_stages.specs.Laws.{IsDecided, PassesOne}
use Rattle.dx_schema.specs.Tables.{model_tables}
use Rattle.dx_instance.specs.Stored.{TableRows, facts}
use Rattle.clio_given.specs.Given.{TargetRequest, given_stages}

-- files say at most one given target
abbrev pub OneGiven : Type 0
OneGiven = PassesOne given_stages

-- files say a given target or are refused for one reason, and never both
abbrev pub GivenOrRefused : Type 0
GivenOrRefused = IsDecided (λ e f. e ≡ f) (λ (w : TargetRequest). Unit {0}) given_stages

-- what files say is an instance of the schema
abbrev pub GivenFits : Type 0
GivenFits =
    (c : World) (w : TargetRequest) (I : List TableRows) → given_stages.passes c w I
    → IsInstance (model_tables w.schema) (facts I)
