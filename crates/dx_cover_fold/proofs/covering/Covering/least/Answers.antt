use Rattle.std.proofs.Common.{sym, ◌∙◌, subst}
use Rattle.dx_cover_fold.specs.Found.{FindsAmong}
use Rattle.dx_cover_fold.specs.Matched.{matched_tuples}
use Rattle.dx_cover_fold.proofs.CoverFacts.{choices_below, rule_more, rule_past}
use Rattle.dx_cover_fold.proofs.covering.Covering.least.Goals as goal
use Rattle.dx_cover_fold.proofs.covering.Covering.least.Goals.{then-before+in_ok-found-2, else-before}

pub by_rule-requires-clause-begun : goal.by_rule-requires-clause-begun
by_rule-requires-clause-begun c = record { own = c.requires.own; many = c.loop-other.invariant.0 }

pub loop-other-preserved : goal.loop-other-preserved
loop-other-preserved c = elim c.if-before.branch [
  | then-before+in_ok-found-2 w ↦
      let t = sym (c.before-in-loop-other.ensures c.args.self.now.rules.now c.requires.covers) ∙ w.if-before.true in
      rw w.found-is (
        w.in_ok-found-2.ensures.many ∙ c.loop-other.invariant.0,
        subst (λ z. FindsAmong c.args.self.now.rules.now (matched_tuples c.args.self.now.matches.now) c.args.self.now.rule z w.in_ok-found-2.found.items) (rule_more c.args.self.now.rules.now (matched_tuples c.args.self.now.matches.now) c.args.self.now.rule c.loop-other.other t)
            (w.in_ok-found-2.ensures.finds (choices_below c.args.self.now.rules.now (matched_tuples c.args.self.now.matches.now) c.args.self.now.rule c.loop-other.other) c.loop-other.invariant.1),
      )
  | else-before w ↦
      let f = sym (c.before-in-loop-other.ensures c.args.self.now.rules.now c.requires.covers) ∙ w.if-before.false in
      rw w.found-is (
        c.loop-other.invariant.0,
        subst (λ z. FindsAmong c.args.self.now.rules.now (matched_tuples c.args.self.now.matches.now) c.args.self.now.rule z c.loop-other.found.items) (rule_past c.args.self.now.rules.now (matched_tuples c.args.self.now.matches.now) c.args.self.now.rule c.loop-other.other f) c.loop-other.invariant.1,
      )
]
