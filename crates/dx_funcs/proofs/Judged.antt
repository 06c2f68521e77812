-- The shipped row tests tell themselves apart.
use Rattle.std.proofs.Common.{map, refl}
use Rattle.std.specs.Prelude.{nat_eq}
use lib.Pointwise.{pointwise}
use Rattle.std.proofs.lemmas.Cmp.{nat_eq_equiv, nat_list_eq_equiv}
use Rattle.dx_funcs.specs.declared.row_test.RowTest.{RowTest}
use Rattle.dx_funcs.specs.RowTests.{AreTests}
use Rattle.dx_funcs.specs.Shipped.{shipped_row_tests}
use Rattle.dx_funcs.proofs.Apart.{distinct_by}

-- whatever the shipped list has, its row tests tell themselves apart, as a computation finds
pub shipped_are_tests : AreTests shipped_row_tests
shipped_are_tests = record {
  names = distinct_by (pointwise nat_eq) nat_list_eq_equiv (map (λ (t : RowTest). t.name) shipped_row_tests) refl;
  codes = distinct_by nat_eq nat_eq_equiv (map (λ (t : RowTest). t.code) shipped_row_tests) refl;
}
