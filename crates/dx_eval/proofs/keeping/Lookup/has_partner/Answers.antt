use Rattle.std.proofs.Common.{◌∙◌, ℕ, List, length, subst, sym}
use Rattle.dx_base.specs.Members.{◌∈◌}
use Rattle.dx_base.proofs.Loops.{not_so}
use Rattle.dx_eval.proofs.Partners.{own_within}
use Rattle.dx_eval.proofs.keeping.Lookup.has_partner.Goals as goal

pub gather-requires : goal.gather-requires
gather-requires c = rw c.args.self.now.own (own_within c.args.self.now.tests.now (length c.args.row.now) c.requires.stand.0 c.requires.stand.1)

pub returns-then-not-holds_alone : goal.returns-then-not-holds_alone
returns-then-not-holds_alone c = not_so c.if-not-holds_alone.true c.holds_alone.ensures (λ q. q.0)

pub returns : goal.returns
returns c =
    let e = c.deref.ensures.value ∙ c.in_ok-gather.ensures in
    let alone = c.holds_alone.ensures.0 c.if-not-holds_alone.false in (
      (λ t. (alone, subst (λ (z : List ℕ). z ∈ c.args.self.now.keys.now.rows) e (c.has_row.ensures.0 t))),
      (λ q. c.has_row.ensures.1 (subst (λ (z : List ℕ). z ∈ c.args.self.now.keys.now.rows) (sym e) q.1)),
    )
