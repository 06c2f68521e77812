use Rattle.std.proofs.Common.{refl}
use Rattle.std.proofs.lemmas.Bool.{false≢true}
use Rattle.dx_judge.proofs.moving.is_no_null.Goals as goal

pub returns-in-Const : goal.returns-in-Const
returns-in-Const c = ((λ t n e. cc (c.in-Const.is, e)), (λ q. refl))

pub returns-in-Null : goal.returns-in-Null
returns-in-Null c = ((λ t. absurd (false≢true t)), (λ q. absurd (q _ c.in-Null.is)))
