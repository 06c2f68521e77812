-- The faults of the layers below, as limits.
use Rattle.std.specs.Prelude.{◌≡◌, ◌⊎◌, Bool, true, List, Option, None, Some}
use Rattle.dx_base.specs.declared.file.Limit.{Limit}
use Rattle.dx_base.specs.declared.file.Count.TheVariants.{Variants, Occurrences, Ways, Candidates}
use Rattle.dx_base.specs.declared.limits.TheConstants.{VARIANTS, OCCURRENCES, WAYS, CANDIDATES}
use Rattle.dx_model.specs.Tables.{Table}
use Rattle.dx_logical.specs.declared.fault.ManyFault.{ManyFault}
use Rattle.dx_logical.specs.declared.fault.ManyFault.TheVariants as unfolded
use Rattle.dx_lines.specs.declared.line.Line.{Line}
use Rattle.dx_lines.specs.Limits.{first_or, passed_by, passed_limit}
use Rattle.dx_ways.specs.declared.fault.WaysFault.{WaysFault}
use Rattle.dx_ways.specs.declared.fault.WaysFault.TheVariants as many
use Rattle.dx_candidates.specs.declared.fault.CandFault.{CandFault}
use Rattle.dx_candidates.specs.declared.fault.CandFault.TheVariants.{TooMany, Memory}

-- the limit of variants
abbrev pub variants_limit : Limit
variants_limit = record { what = Variants; number = VARIANTS }

-- the limit of occurrences
abbrev pub occurrences_limit : Limit
occurrences_limit = record { what = Occurrences; number = OCCURRENCES }

-- the limit of ways
abbrev pub ways_limit : Limit
ways_limit = record { what = Ways; number = WAYS }

-- the limit of candidates
abbrev pub candidates_limit : Limit
candidates_limit = record { what = Candidates; number = CANDIDATES }

-- a fault of unfoldings, as a fault of candidates
abbrev pub unfoldings_fault : ManyFault → CandFault
unfoldings_fault unfolded.TooMany = TooMany variants_limit
unfoldings_fault unfolded.TooWide = TooMany occurrences_limit
unfoldings_fault unfolded.Memory = Memory

-- the first limit that the variants of a schema pass
abbrev pub schema_limit : List Table → Option Limit
schema_limit schema = first_or (passed_by schema) None

-- a fault is want of memory, or this limit
abbrev pub IsFirst : Option Limit → CandFault → Type 0
IsFirst first e = (e ≡ Memory) ⊎ ((l : Limit) × (first ≡ Some l) × (e ≡ TooMany l))

-- a fault of ways, as a fault of candidates
abbrev pub ways_fault : WaysFault → CandFault
ways_fault many.TooMany = TooMany ways_limit
ways_fault many.Memory = Memory

-- a fault is want of memory, or the first limit that these lines pass between two schemas
abbrev pub IsCandidateFault : List Line → List Table → List Table → CandFault → Type 0
IsCandidateFault lines source target e =
    (e ≡ Memory) ⊎ ((l : Limit) × (passed_limit lines source target ≡ Some l) × (e ≡ TooMany l))

-- a fault is want of memory, or this limit, which is passed
abbrev pub IsLimitFault : Limit → Bool → CandFault → Type 0
IsLimitFault limit is_passed e = (e ≡ Memory) ⊎ ((e ≡ TooMany limit) × (is_passed ≡ true))
