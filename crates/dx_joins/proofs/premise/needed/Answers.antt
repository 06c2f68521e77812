use Rattle.std.proofs.Common.{refl, ◌∙◌, sym, arith, get_or}
use Rattle.std.proofs.lemmas.Bool.{true≢false}
use Rattle.dx_joins.specs.Planning.{IsVariableNeeded}
use Rattle.dx_joins.proofs.Patterns.{need_more, need_none, only_more, some_more}
use Rattle.dx_joins.proofs.premise.needed.Goals as goal
use Rattle.dx_joins.proofs.premise.needed.Goals.{then-is_needed+in_ok-add_once, else-is_needed}

pub loop-x-preserved : goal.loop-x-preserved
loop-x-preserved c = elim c.if-is_needed.branch [
  | then-is_needed+in_ok-add_once w ↦
      let a = w.in_ok-add_once.ensures in
      let names = c.args.names.now in
      let i = c.loop-x.x-index in
      let inv = c.loop-x.invariant in
      rw w.kept-is (record {
        some = some_more names c.loop-x.kept.items w.add_once.new.variables.items i (get_or names i 0) c.loop-x-test.true refl a inv.some;
        only = only_more (IsVariableNeeded c.args.later.now c.args.wanted.now) c.loop-x.kept.items w.add_once.new.variables.items (get_or names i 0) (c.is_needed.ensures.0 w.if-is_needed.true) a inv.only;
        all = need_more names c.loop-x.kept.items w.add_once.new.variables.items (IsVariableNeeded c.args.later.now c.args.wanted.now) i (get_or names i 0) c.loop-x-test.true refl a inv.all;
        once = a.once inv.once;
        few = omega (arith, a.few, inv.few);
      })
  | else-is_needed w ↦
      let names = c.args.names.now in
      let i = c.loop-x.x-index in
      let inv = c.loop-x.invariant in
      rw w.kept-is (record {
        some = inv.some;
        only = inv.only;
        all = need_none names c.loop-x.kept.items (IsVariableNeeded c.args.later.now c.args.wanted.now) i c.loop-x-test.true (λ n. true≢false (sym (c.is_needed.ensures.1 n) ∙ w.if-is_needed.false)) inv.all;
        once = inv.once;
        few = omega (arith, inv.few);
      })
]
