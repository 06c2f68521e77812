use Rattle.std.proofs.Common.{refl, sym}
use Rattle.dx_hom.proofs.Placing.{allows_none, allows_some}
use Rattle.dx_hom.proofs.matching.allows.Goals as goal

pub returns-in-None : goal.returns-in-None
returns-in-None c = ((λ t. allows_none c.args.fixed.now c.args.null c.args.value.now (sym c.in-None.ensures)), (λ a. refl))

pub returns-in-Some : goal.returns-in-Some
returns-in-Some c =
    allows_some c.args.fixed.now c.args.null c.args.value.now c.in-Some.other.now c.is.result (sym c.in-Some.ensures) c.is.ensures
