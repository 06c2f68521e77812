use Rattle.std.proofs.Common.{rules, Bor}
use Rattle.std.specs.Prelude.{map}
use Rattle.std.proofs.lemmas.Result.{err_from_is_err_and}
use Rattle.dx_logical.specs.declared.relation.Occurrence.{Occurrence}
use Rattle.dx_ways.proofs.Tries.{tried_step, tried_many, tried_skip}
use Rattle.dx_ways.proofs.trying.Trial.+add_tried.Goals as goal
use Rattle.dx_ways.proofs.trying.Trial.+add_tried.Goals.{then-occurrence-first+in_ok-more+in_ok-add_tried, else-occurrence-first}

pub returns-in_err-add_tried-clause-many : goal.returns-in_err-add_tried-clause-many
returns-in_err-add_tried-clause-many t c =
    let p = err_from_is_err_and c.from_residual-in_err-add_tried.result c.from_residual-in_err-add_tried.ensures.1 in
    rw (p.1, p.2) (λ e.
    tried_many (λ (r : Bor Occurrence). r.now) c.args.self.now.source.now c.args.self.now.variables.now (map (λ r. r.now) c.args.self.now.among.now) c.in-Some.rest.now c.in-Some.first.now.table
    (map (λ r. r.now) c.args.choice.now) (map (λ r. r.now) c.deref.result.now) c.args.self.now.among.now c.loop-occurrence.occurrence-index c.occurrence-item.result c.loop-occurrence.found.items _
    c.loop-occurrence-test.true c.occurrence-item.is (search rules) (search rules) c.loop-occurrence.invariant.same (c.in_err-add_tried.ensures.many e))

pub loop-occurrence-preserved : goal.loop-occurrence-preserved
loop-occurrence-preserved t c = elim c.if-occurrence-first.branch [
  | then-occurrence-first+in_ok-more+in_ok-add_tried w ↦
      record {
        same = tried_step (λ (r : Bor Occurrence). r.now) c.args.self.now.source.now c.args.self.now.variables.now (map (λ r. r.now) c.args.self.now.among.now) c.in-Some.rest.now c.in-Some.first.now.table
            (map (λ r. r.now) c.args.choice.now) (map (λ r. r.now) w.deref.result.now) c.args.self.now.among.now c.loop-occurrence.occurrence-index c.occurrence-item.result c.loop-occurrence.found.items c.if-occurrence-first.found.items _
            c.loop-occurrence-test.true c.occurrence-item.is (search rules) (search rules) (search rules) c.loop-occurrence.invariant.same;
        few = search rules;
      }
  | else-occurrence-first w ↦
      record {
        same = tried_skip (λ (r : Bor Occurrence). r.now) c.args.self.now.source.now c.args.self.now.variables.now (map (λ r. r.now) c.args.self.now.among.now) c.in-Some.rest.now c.in-Some.first.now.table
            (map (λ r. r.now) c.args.choice.now) c.args.self.now.among.now c.loop-occurrence.occurrence-index c.occurrence-item.result c.loop-occurrence.found.items c.if-occurrence-first.found.items _
            c.loop-occurrence-test.true c.occurrence-item.is (search rules) (search rules) c.loop-occurrence.invariant.same;
        few = search rules;
      }
]
