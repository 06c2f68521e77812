-- A source beside the number of bytes that are left, and without it.
use Rattle.std.proofs.Common.{ℕ, List, Result, Ok, Err}
use Rattle.dx_ports.specs.States.{InputState}
use Rattle.dx_instance.specs.Stored.{TableRows}
use Rattle.dx_stages.specs.declared.stop.Stop.{Stop}
use Rattle.dx_stages.specs.declared.stop.Stop.TheVariants as stops
use Rattle.dx_stages.specs.Worlds.{World}
use Rattle.dx_stages.specs.Stages.{Stage, saying}
use Rattle.dx_stages.specs.Running.{FailedAt, Meets, Ran}
use Rattle.dx_used.specs.Passing.{Passes}
use Rattle.clio_source.specs.declared.fault.SourceRefusal.{SourceRefusal}
use Rattle.clio_source.specs.Source.{SourceRequest, source_left, source_stages}
use Rattle.clio_source.proofs.Decided.{of_both}

-- what was computed, without the number beside it
abbrev pub first_of : {E A B : Type 0} → Result (A × B) E → Result A E
first_of (Ok q) = Ok q.0
first_of (Err e) = Err e

module _ {E : Type 0} (f : SourceRefusal → E) (passes : Passes) (w : SourceRequest) where
  abbrev left : Stage E SourceRequest (List TableRows × ℕ)
  left = saying f (source_left passes)

  abbrev whole : Stage E SourceRequest (List TableRows)
  whole = saying f (source_stages passes)

  meets : (r : Result (List TableRows × ℕ) (Stop E)) (c : World) → Meets left c w r → Meets whole c w (first_of r)
  meets (Ok q) c m = (of_both passes c w q.0).1 (q.1, m)
  meets (Err (stops.Refused e)) c m = m
  meets (Err (stops.Failed n)) c m = m
  meets (Err stops.Memory) c m = tt

  failed : (r : Result (List TableRows × ℕ) (Stop E)) (old new : InputState) → FailedAt old new r → FailedAt old new (first_of r)
  failed (Ok q) old new h = h
  failed (Err (stops.Refused e)) old new h = h
  failed (Err (stops.Failed n)) old new h = h
  failed (Err stops.Memory) old new h = h

  -- a run that gives both gives the source
  pub ran_first : (r : Result (List TableRows × ℕ) (Stop E)) (old new : InputState) → Ran left w r old new → Ran whole w (first_of r) old new
  ran_first r old new x = record {
    kept = x.kept;
    counted = x.counted;
    failed = failed r old new x.failed;
    finds = record {
      found = x.finds.found;
      told = x.finds.told;
      once = x.finds.once;
      asked = x.finds.asked;
      meets = λ c g. meets r c (x.finds.meets c g);
    };
    answered = x.answered;
  }
