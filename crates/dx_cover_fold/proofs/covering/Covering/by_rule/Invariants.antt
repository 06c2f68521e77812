use Rattle.std.proofs.Common.{◌≡◌, ◌++◌, List, length, take}
use Rattle.std.specs.Prelude.{flat_map}
use Rattle.dx_model.specs.declared.covers.Cover.{Cover}
use Rattle.dx_model.specs.Covers.{places_by}
use Rattle.dx_cover_fold.specs.Found.{FindsAmong}
use Rattle.dx_cover_fold.specs.Matched.{matched_tuples}
use Rattle.dx_cover_fold.proofs.covering.Covering.by_rule.Given as goal

-- for each place the first of the choices so far is found
pub record SoFar (P : List Cover → Type 0) (Q : List Cover → Type 0) : Type 0 where
  pub finds : (C : List Cover) → P C → Q C

abbrev pub invariant-loop-number : goal.invariant-loop-number
invariant-loop-number l =
    (length l.found.items ≡ length l.initial.found.items)
    × SoFar (λ C. FindsAmong l.self.rules.now (matched_tuples l.self.matches.now) l.self.rule C l.initial.found.items) (λ C. FindsAmong l.self.rules.now (matched_tuples l.self.matches.now) l.self.rule (C ++ flat_map (places_by (matched_tuples l.self.matches.now) l.other) (take l.number l.maps)) l.found.items)
