use Rattle.dx_script_tokens.proofs.Doubled.{one_doubled}
use Rattle.dx_script_text.proofs.print_names.push_quoted.Goals as goal

pub loop-character-preserved : goal.loop-character-preserved
loop-character-preserved c =
    one_doubled _ _ _ _ _ c.in-Some.character c.in-Some.ensures.steps.0 c.in_ok-push_doubled.ensures c.loop-character.invariant
