use Rattle.dx_rule_text.proofs.Escapes.{one_escaped}
use Rattle.dx_rule_text.proofs.strings.push_string.Goals as goal

pub loop-character-preserved : goal.loop-character-preserved
loop-character-preserved c =
    one_escaped _ _ _ _ _ c.in-Some.character c.in-Some.ensures.steps.0 c.in_ok-push_escaped.ensures c.loop-character.invariant
