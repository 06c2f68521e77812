use Rattle.std.proofs.Common.{◌≡◌, map, take, drop}
use Rattle.dx_base.specs.Firsts.{first_of}
use Rattle.dx_line_text.specs.Naming.{place_fault, place_of_text}
use Rattle.dx_line_text.proofs.places.read_places.Given as goal

-- the places so far are read, and the first fault is that of the rest
abbrev pub invariant-loop-place : goal.invariant-loop-place
invariant-loop-place l =
    (l.columns ≡ map (place_of_text l.schema) (take l.place-index l.places))
    × (first_of (map (place_fault l.schema) l.places) ≡ first_of (map (place_fault l.schema) (drop l.place-index l.places)))
