use Rattle.std.proofs.Common.{◌≡◌, [], ◌∷◌, ◌++◌}
use Rattle.std.specs.Prelude.{string_bytes}
use Rattle.std.specs.Str.Iter.{chars_rest}
use Rattle.dx_tokens.specs.Quoted.{escaped, quoted}
use Rattle.dx_rule_text.proofs.strings.push_string.Given as goal

abbrev pub invariant-loop-character : goal.invariant-loop-character
invariant-loop-character l = string_bytes l.out ++ (escaped (chars_rest l.character-iterator) ++ 34 ∷ []) ≡ string_bytes l.fn.out ++ quoted l.fn.text
