use Rattle.std.proofs.Common.{◌≡◌, take}
use Rattle.dx_base.specs.Members.{Each}
use Rattle.dx_funcs.proofs.host.Host.by_code.Given as goal

-- none of the conversions so far has the code
abbrev pub invariant-loop-conversion : goal.invariant-loop-conversion
invariant-loop-conversion g l = Each (take l.conversion-index l.conversion-items) (λ c. ¬ (c.code ≡ l.code))
