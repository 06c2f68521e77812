-- What is read if only some columns count.
use Rattle.std.specs.Prelude.{◌≡◌, ℕ, List, Result, Ok, Err}
use Rattle.dx_base.specs.Members.{◌∈◌, Each}
use Rattle.dx_ports.specs.States.{InputState}
use Rattle.dx_model.specs.declared.facts.Fact.{Fact}
use Rattle.dx_stages.specs.declared.stop.Stop.{Stop}
use Rattle.dx_stages.specs.Stages.{Stage}
use Rattle.dx_stages.specs.Running.{Ran}
use Rattle.dx_schema.specs.Forest.{Forest}
use Rattle.dx_instance.specs.Stored.{TableRows, facts, widths}
use Rattle.dx_used.specs.Used.{AgreeOnUsed, Marks, fact_blanked}
use Rattle.clio_source.specs.Source.{flat, shape_at, roots}

-- The stage ran so and passes an instance, with which the one that was read agrees on the used columns, and a number,
-- which is the one beside what was read.
abbrev pub RanAgreeing : {E A : Type 0} → Marks → Stage E A (List TableRows × ℕ) → A
    → Result (List TableRows × ℕ) (Stop E) → InputState → InputState → Type 0
RanAgreeing used s a (Ok q) old new =
    (I : List TableRows) × AgreeOnUsed used (facts I) (facts q.0) × (widths I ≡ widths q.0)
    × Ran s a (Ok (I, q.1)) old new
RanAgreeing used s a (Err e) old new = Ran s a (Err e) old new

-- the table of a flat root, whose file is a table
abbrev pub IsFlatRoot : Forest → ℕ → Type 0
IsFlatRoot f table = (table ∈ roots f) × (flat ≡ shape_at f table)

-- in the columns of flat roots that are not used the facts have nothing but the empty constant
abbrev pub AllBlanked : Marks → Forest → List Fact → Type 0
AllBlanked used f facts = Each facts (λ (fact : Fact). IsFlatRoot f fact.table → fact_blanked used fact ≡ fact)
