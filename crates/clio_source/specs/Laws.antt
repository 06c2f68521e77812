-- What holds of the source of files.
use Rattle.std.specs.Prelude.{◌≡◌, ◌<◌, ◌↔◌, ℕ, List, [], None, Ok, length}
use Rattle.dx_base.specs.Members.{◌∈◌, ◌≈◌}
use Rattle.dx_ports.specs.States.{InputState}
use Rattle.dx_stages.specs.Laws.{IsDecided, PassesOne}
use Rattle.dx_stages.specs.Running.{Ran}
use Rattle.dx_stages.specs.Worlds.{World}
use Rattle.dx_schema.specs.Forest.{Forest}
use Rattle.dx_schema.specs.Inner.{PlacesAscend}
use Rattle.dx_schema.specs.Tables.{schema_table, tables_of}
use Rattle.dx_instance.specs.Stored.{TableRows, facts}
use Rattle.dx_used.specs.Passing.{Passes}
use Rattle.clio_source.specs.Agreeing.{RanAgreeing}
use Rattle.clio_source.specs.Source.{SourceRequest, roots, source_left, source_stages}

-- files say at most one source, whatever the tests are
abbrev pub OneSource : Type 0
OneSource = (passes : Passes) → PassesOne (source_stages passes)

-- files say a source or are refused for one reason, and never both
abbrev pub ReadOrRefused : Type 0
ReadOrRefused = (passes : Passes) → IsDecided (λ e f. e ≡ f) (λ (w : SourceRequest). Unit {0}) (source_stages passes)

-- the same of a source beside the number of bytes that are left
abbrev pub OneSourceLeft : Type 0
OneSourceLeft = (passes : Passes) → PassesOne (source_left passes)

abbrev pub ReadOrRefusedLeft : Type 0
ReadOrRefusedLeft = (passes : Passes) → IsDecided (λ e f. e ≡ f) (λ (w : SourceRequest). Unit {0}) (source_left passes)

-- beside a number or without one, it is the same source
abbrev pub SourceIsOfBoth : Type 0
SourceIsOfBoth =
    (passes : Passes) (c : World) (w : SourceRequest) (I : List TableRows)
    → (source_stages passes).passes c w I ↔ ((left : ℕ) × (source_left passes).passes c w (I, left))

-- the roots of a schema are its tables without a parent, in order
pub record ListsRoots (f : Forest) : Type 0 where
  pub exact : (t : ℕ) → t ∈ roots f ↔ ((t < length (tables_of f)) × ((schema_table f t).parent ≡ None))
  pub ascending : PlacesAscend (roots f)

abbrev pub RootsHaveNoParent : Type 0
RootsHaveNoParent = (f : Forest) → ListsRoots f

-- if no column has a mark, what is read has just the facts of what the stages pass
abbrev pub AllIsRead : Type 0
AllIsRead =
    (passes : Passes) (w : SourceRequest) (J : List TableRows) (left : ℕ) (old new : InputState)
    → RanAgreeing [] (source_left passes) w (Ok (J, left)) old new
    → (I : List TableRows) × (facts I ≈ facts J) × Ran (source_left passes) w (Ok (I, left)) old new
