use Rattle.std.proofs.Common.{◌∙◌, sym}
use Rattle.std.specs.Prelude.{map}
use Rattle.dx_model.specs.Covers.{before, rule_at, used_maps}
use Rattle.dx_script.specs.Rewritten.{unless_of}
use Rattle.dx_scriptgen.proofs.Lists.{kept_more, left_out}
use Rattle.dx_scriptgen.proofs.keeps.parts_of.Goals as goal
use Rattle.dx_scriptgen.proofs.keeps.parts_of.Goals.{then-before+in_ok-push_parts, else-before}

pub loop-j-preserved : goal.loop-j-preserved
loop-j-preserved c = elim c.if-before.branch [
  | then-before+in_ok-push_parts w ↦
      w.parts-is ∙ kept_more (λ j. map (unless_of c.args.rules.now c.args.i j) (used_maps (rule_at c.args.rules.now c.args.i) (rule_at c.args.rules.now j))) (λ j. before c.args.rules.now j c.args.i)
      c.loop-j.j c.loop-j.parts w.push_parts.new.parts c.loop-j.invariant (sym (c.before-in-loop-j.ensures c.args.rules.now c.requires.known.covers) ∙ w.if-before.true) w.in_ok-push_parts.ensures
  | else-before w ↦
      w.parts-is ∙ left_out (λ j. map (unless_of c.args.rules.now c.args.i j) (used_maps (rule_at c.args.rules.now c.args.i) (rule_at c.args.rules.now j))) (λ j. before c.args.rules.now j c.args.i)
      c.loop-j.j c.loop-j.parts c.loop-j.invariant (sym (c.before-in-loop-j.ensures c.args.rules.now c.requires.known.covers) ∙ w.if-before.false)
]
