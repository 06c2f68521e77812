use Rattle.std.proofs.Common.{◌∙◌, ◌^◌, ◌∷◌, ◌++◌, [], List, ap, append_assoc, arith, inl, inr, refl, subst}
use Rattle.dx_base.specs.Members.{here, there}
use Rattle.dx_solver.specs.declared.node.Node.{Node}
use Rattle.dx_solver.specs.declared.domain.Domain.{Domain}
use Rattle.dx_solver.specs.Domains.{DomainHas, domain_size}
use Rattle.dx_solver.proofs.DomainFacts.{worth_two}
use Rattle.dx_solver.proofs.SearchFacts.{two_only}
use Rattle.dx_solver.proofs.node.fork.Goals as goal

pub returns : goal.returns
returns c =
    let old = c.args.nodes.now.items in
    let v = c.args.variable in
    let other = c.in_ok-other.other in
    let one = c.in_ok-one.one in
    let is = ap (λ (d : Domain). domain_size (2 ^ 32) d) c.requires.values in
    let l = c.in_ok-other.ensures.lighter (omega (arith, is, c.in_ok-rest.ensures.few)) in
    let k = c.in_ok-one.ensures.lighter (omega (arith, is, c.requires.many)) in
    record {
      more = other ∷ (one ∷ []);
      added = c.in_ok-push-2.ensures.items
          ∙ (ap (λ (l : List Node). l ++ one ∷ []) c.in_ok-push.ensures.items ∙ append_assoc old (other ∷ []) (one ∷ []));
      less = worth_two other one _ l k;
      many = two_only other one _ c.in_ok-other.ensures.many c.in_ok-one.ensures.many;
      all = λ a u keeps.
          elim (c.in_ok-rest.ensures.all (a v) (subst (λ (d : Domain). DomainHas d (a v)) c.requires.values (keeps v))) [
            | inl e ↦ (one, there (here refl), c.in_ok-one.ensures.kept a keeps (rw c.items.ensures e))
            | inr h ↦ (other, here refl, c.in_ok-other.ensures.kept a keeps h)
          ];
    }
