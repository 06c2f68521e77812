use Rattle.std.proofs.Common.{ap, subst, arith, ℕ, List, inl, length}
use Rattle.dx_base.specs.Members.{◌∈◌}
use Rattle.dx_joins.specs.Products.{GivesRows}
use Rattle.dx_joins.proofs.Products.{needed_there}
use Rattle.dx_joins.proofs.parts.part_of.Goals as goal

pub premise_rows-requires-clause-shown : goal.premise_rows-requires-clause-shown
premise_rows-requires-clause-shown c = record {
  known = λ x m. needed_there c.args.patterns.now x (c.in_ok-variables.ensures.only x (subst (λ (l : List ℕ). x ∈ l) c.deref.ensures.value m));
  few = omega (arith, ap length c.deref.ensures.value, c.in_ok-variables.ensures.few, c.requires.wide);
}

pub returns : goal.returns
returns c = record {
  gives = subst (λ (l : List ℕ). GivesRows c.args.marked.now.source.now.tables c.args.marked.now.marks.now c.args.most c.args.patterns.now l c.in_ok-rows.rows) c.deref.ensures.value c.in_ok-rows.ensures.rows;
  known = λ x m. needed_there c.args.patterns.now x (c.in_ok-variables.ensures.only x m);
  wanted = c.in_ok-variables.ensures.some;
  all = λ x m s. c.in_ok-variables.ensures.all x s (inl m);
  once = c.in_ok-variables.ensures.once;
}
