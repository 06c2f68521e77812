use Rattle.std.proofs.Common.{arith}
use Rattle.dx_base.specs.Members.{here, there}
use Rattle.clio_tests.proofs.tests.shipped.passes.Goals as goal

pub check_row-requires : goal.check_row-requires
check_row-requires c = elim c.requires [
  | here e ↦ omega (arith, e)
  | there m ↦ elim m [ here e ↦ omega (arith, e) | there n ↦ elim n [ ] ]
]
