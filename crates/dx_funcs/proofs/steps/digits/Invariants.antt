use Rattle.std.proofs.Common.{◌≡◌, take}
use Rattle.std.specs.String.{string_bytes}
use Rattle.dx_funcs.specs.Shipped.{digits_of}
use Rattle.dx_funcs.proofs.steps.digits.Given as goal

-- what is kept are the digits so far
abbrev pub invariant-loop-byte : goal.invariant-loop-byte
invariant-loop-byte l = string_bytes l.kept ≡ digits_of (take l.byte-index l.byte-items)
