use Rattle.std.proofs.Common.{refl}
use Rattle.dx_hom.specs.Bound.{bucket}
use Rattle.dx_hom.proofs.bindings.bucket_of.Goals as goal

pub returns-clause-number : goal.returns-clause-number
unfolding bucket
returns-clause-number c = refl
