use Rattle.std.proofs.Common.{take}
use Rattle.std.specs.Prelude.{IsUtf8}
use Rattle.dx_base.specs.Members.{Each}
use Rattle.dx_funcs.proofs.host.are_utf8.Given as goal

-- the texts so far are UTF-8
abbrev pub invariant-loop-text : goal.invariant-loop-text
invariant-loop-text l = Each (take l.text-index l.texts) IsUtf8
