-- What an evaluated script has to be: steps that do not fit, each for one reason alone.
use Rattle.std.proofs.Common.{◌≡◌, List, [], ◌∷◌, false, codes, arith, refl}
use Rattle.dx_base.specs.Members.{here}
use Rattle.dx_model.specs.declared.rules.Cell.TheVariants.{Lit, Var}
use Rattle.dx_model.specs.declared.rules.Rule.{Rule}
use Rattle.dx_schema.specs.Names.{TableNames}
use Rattle.dx_script.specs.declared.form.CellRef.{CellRef}
use Rattle.dx_script.specs.declared.form.Out.{Out}
use Rattle.dx_script.specs.declared.form.Step.TheVariants.{KeepRows, MatchRows}
use Rattle.dx_script.specs.declared.form.Test.TheVariants.{Columns, Literal as Same}
use Rattle.dx_script.specs.declared.form.Unless.{Unless}
use Rattle.dx_script.specs.Fits.{CellFits, InsertFits, KeepFits}
use Rattle.dx_script.specs.Rewritten.{unless_parts}

-- a cell of no table, even if one has the empty name, as a missing alias has
no_alias_without_name :
    ¬ CellFits (record { name = []; columns = codes "a" ∷ [] } ∷ []) [] (record { alias = 0; column = codes "a" })
no_alias_without_name h = omega (arith, h.alias)

-- a second keep table of a rule, even after its match table
kept_twice : ¬ KeepFits (MatchRows 0 [] [] [] ∷ KeepRows 0 [] ∷ []) 0 []
kept_twice h = h.one (here refl)

-- an insert into a table that is not created yet, even if its match table is there
abbrev target : List TableNames
target = record { name = codes "T"; columns = codes "c" ∷ codes "d" ∷ [] } ∷ []

not_created_yet : (cells : List Out) → ¬ InsertFits target [] (MatchRows 0 [] [] [] ∷ []) (codes "T") 0 false cells
not_created_yet cells h = elim h.made [ ]

-- a literal of another rule is compared with the column that the tuple itself has: T(x0, x1), and before it T('z', x1)
abbrev wide : Rule
wide = record {
  premise = record { table = 0; cells = Var 0 ∷ Var 1 ∷ [] } ∷ [];
  derived = [];
  conclusion = record { table = 0; cells = Var 0 ∷ Var 1 ∷ [] } ∷ [];
}

abbrev fixed_first : Rule
fixed_first = record {
  premise = record { table = 0; cells = Var 0 ∷ Var 1 ∷ [] } ∷ [];
  derived = [];
  conclusion = record { table = 0; cells = Lit (codes "z") ∷ Var 1 ∷ [] } ∷ [];
}

of_a_literal_first : unless_parts (wide ∷ fixed_first ∷ []) 0
    ≡ record { rule = 1; tests = Same 0 (codes "z") ∷ Columns 0 1 ∷ [] } ∷ []
of_a_literal_first = refl
