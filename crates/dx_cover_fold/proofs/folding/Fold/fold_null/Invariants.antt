use Rattle.std.proofs.Common.{◌≡◌, ◌-◌, suc, length}
use Rattle.dx_model.specs.Covers.{IsPlace, folded, least_cover}
use Rattle.dx_cover_fold.specs.Matched.{matched_tuples}
use Rattle.dx_cover_fold.proofs.folding.Fold.fold_null.Given as goal

abbrev pub invariant-loop-step : goal.invariant-loop-step
invariant-loop-step l =
    IsPlace l.self.rules.now (matched_tuples l.self.matches.now) l.now.rule l.now.row
    × (folded l.self.rules.now (matched_tuples l.self.matches.now) (least_cover l.self.rules.now (matched_tuples l.self.matches.now)) (suc (length l.self.rules.now)) l.fn.null
    ≡ folded l.self.rules.now (matched_tuples l.self.matches.now) (least_cover l.self.rules.now (matched_tuples l.self.matches.now)) (suc (length l.self.rules.now) - l._step) l.now)
