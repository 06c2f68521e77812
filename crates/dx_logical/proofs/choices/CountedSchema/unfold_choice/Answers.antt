use Rattle.std.proofs.Common.{arith}
use Rattle.dx_logical.proofs.Followed.{many_choices}
use Rattle.dx_logical.proofs.choices.CountedSchema.unfold_choice.Goals as goal

pub follow_choice-requires-clause-start : goal.follow_choice-requires-clause-start
follow_choice-requires-clause-start c =
    let at = c.in_ok-relation.ensures.table in
    record { table = rw at c.requires.table; own = rw at c.in_ok-relation.ensures.width }

pub follow_choice-requires-clause-choice : goal.follow_choice-requires-clause-choice
follow_choice-requires-clause-choice c =
    let many = many_choices c.args.self.now.schema.now c.tables-depth.result c.in_ok-relation.start.table c.args.table c.tables-depth.ensures.count c.in_ok-relation.ensures.table in record {
      counts = c.requires.variant.counts;
      deep = omega (arith, c.tables-depth.ensures.count);
      number = omega (arith, many, c.requires.variant.number);
      few = omega (arith, many, c.requires.variant.few);
    }
