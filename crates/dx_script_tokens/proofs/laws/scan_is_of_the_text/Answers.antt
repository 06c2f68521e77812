use Rattle.dx_script_tokens.proofs.Lexings.{faulty_is_scanned, first_is_stop, lexed_is_scanned, tokens_or_fault}
use Rattle.dx_script_tokens.proofs.laws.scan_is_of_the_text.Goals as goal

pub returns : goal.returns
returns c = record { either = tokens_or_fault; tokens = lexed_is_scanned; fault = faulty_is_scanned; first = first_is_stop }
