use Rattle.std.proofs.Common.{◌≡◌, [], ◌∷◌, ◌++◌}
use Rattle.std.specs.Prelude.{string_bytes}
use Rattle.std.specs.Str.Iter.{chars_rest}
use Rattle.dx_script_tokens.specs.Quoted.{doubled, single_quoted}
use Rattle.dx_script_text.proofs.print_names.push_quoted.Given as goal

abbrev pub invariant-loop-character : goal.invariant-loop-character
invariant-loop-character l = string_bytes l.out ++ (doubled (chars_rest l.character-iterator) ++ 39 ∷ []) ≡ string_bytes l.fn.out ++ single_quoted l.fn.text
