use Rattle.std.proofs.Common.{◌≡◌, length}
use Rattle.dx_grammar.specs.Numbers.{knowing, with_front_known}
use Rattle.dx_script_text.specs.Grammar.{is_comma}
use Rattle.dx_script_text.specs.Reading.{comma_out}
use Rattle.dx_script_tokens.specs.Numbers.{greatest_number}
use Rattle.dx_script_text.proofs.inserts.more_outs.Given as goal

abbrev pub invariant-all : goal.invariant-all
invariant-all l = with_front_known l.all (knowing is_comma (comma_out greatest_number) l.known l.rest) ≡ with_front_known l.fn.all (knowing is_comma (comma_out greatest_number) l.fn.first l.fn.tokens)

abbrev pub decreases-all : goal.decreases-all
decreases-all l = length l.rest
