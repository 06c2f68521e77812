use Rattle.std.proofs.Common.{◌≡◌, encode_utf8_all, string_bytes}
use Rattle.clio_terminal.specs.Shown.{shown}
use Rattle.clio_terminal.proofs.shown.Given as goal

-- what is there is what is shown of the characters so far
abbrev pub invariant-text : goal.invariant-text
invariant-text l = string_bytes l.out ≡ encode_utf8_all (shown l.yielded)
