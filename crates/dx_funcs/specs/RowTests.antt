-- Lists of row tests.
use Rattle.std.specs.Prelude.{List, map}
use denote.Struct.Props as logic
use Rattle.dx_base.specs.Members.{Distinct}
use Rattle.dx_funcs.specs.declared.row_test.RowTest.{RowTest}
use Rattle.dx_funcs.specs.Offers.{Distinct-prop}

-- no two have one name or one code
pub record AreTests (list : List RowTest) : Type 0 where
  pub names : Distinct (map (λ t. t.name) list)
  pub codes : Distinct (map (λ t. t.code) list)

-- this fact has at most one proof, as a fact that a struct keeps must
pub AreTests-prop : (list : List RowTest) → IsProp (AreTests list)
AreTests-prop list =
    Prim.hlevel (logic.props, Distinct-prop (map (λ t. t.name) list), Distinct-prop (map (λ t. t.code) list))
