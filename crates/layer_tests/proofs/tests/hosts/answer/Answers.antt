use Rattle.dx_base.proofs.Members.{in_map}
use Rattle.dx_funcs.specs.declared.conversion.Conversion.{Conversion}
use Rattle.layer_tests.proofs.tests.hosts.answer.Goals as goal

pub by_code-conversion-requires : goal.by_code-conversion-requires
by_code-conversion-requires g c = in_map (λ (x : Conversion). x.code) c.in-Some.ensures.listed.0
