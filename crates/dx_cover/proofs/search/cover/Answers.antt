use Rattle.std.proofs.Common.{◌∙◌, ap, arith, length, subst}
use Rattle.dx_base.specs.Members.{◌∈◌}
use Rattle.dx_base.proofs.Members.{in_left, in_right}
use Rattle.dx_cover.proofs.Covering.{existential_few}
use Rattle.dx_cover.proofs.Memory.{all_last}
use Rattle.dx_cover.proofs.Searching.{search_finds_used}
use Rattle.dx_cover.proofs.search.cover.Goals as goal

pub returns : goal.returns
returns c =
    (rw (c.new.ensures.items, c.new-bound.ensures.items, c.items-rest.ensures, c.items.ensures) at c.in_ok-extend.ensures.found) ∙ search_finds_used c.args.i.now c.args.j.now

pub existentials-requires : goal.existentials-requires
existentials-requires c = existential_few c.args.i.now c.requires.rule

pub extend-requires-clause-widths : goal.extend-requires-clause-widths
extend-requires-clause-widths c = λ a b m n e.
    c.requires.widths.one a (in_left c.args.j.now.conclusion (rw c.items-rest.ensures at m)) b (in_right c.args.i.now.conclusion (rw c.items.ensures at n)) e

pub extend-requires-clause-last : goal.extend-requires-clause-last
extend-requires-clause-last c = rw c.items-rest.ensures (all_last c.args.i.now.conclusion)

pub extend-requires-clause-memory : goal.extend-requires-clause-memory
extend-requires-clause-memory c = record {
  few = omega (arith, ap length c.new.ensures.items);
  gone = λ s m. elim (subst (λ z. s ∈ z) c.new-2.ensures.items m) [ ];
  dead = λ s m. elim (subst (λ z. s ∈ z) c.new-3.ensures.items m) [ ];
}
