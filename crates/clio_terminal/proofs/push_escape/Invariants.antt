use Rattle.std.proofs.Common.{◌≡◌, ◌++◌, encode_utf8_all, string_bytes}
use Rattle.std.specs.Char.Iter.{escape_rest}
use Rattle.clio_terminal.specs.Shown.{escape_unicode}
use Rattle.clio_terminal.proofs.push_escape.Given as goal

-- what is there, and the digits that are left, are all of it
abbrev pub invariant-escape : goal.invariant-escape
invariant-escape l = string_bytes l.out ++ encode_utf8_all (escape_rest l.digit-iterator) ≡ string_bytes l.fn.out ++ encode_utf8_all (escape_unicode l.fn.character)
