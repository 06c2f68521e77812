use Rattle.std.proofs.Common.{◌≡◌, length}
use Rattle.dx_grammar.specs.Readers.{many, with_front}
use Rattle.dx_script_text.specs.Reading.{begins_step, step_reader}
use Rattle.dx_script_tokens.specs.Numbers.{greatest_number}
use Rattle.dx_script_text.proofs.read.steps.Given as goal

abbrev pub invariant-all : goal.invariant-all
invariant-all l = with_front l.all (many begins_step (step_reader greatest_number) l.rest) ≡ many begins_step (step_reader greatest_number) l.fn.tokens

abbrev pub decreases-all : goal.decreases-all
decreases-all l = length l.rest
