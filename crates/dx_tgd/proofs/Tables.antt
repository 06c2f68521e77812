-- Tables of stored instances.
use Rattle.std.proofs.Common.{◌≡◌, ℕ, zero, suc, ◌<◌, List, [], ◌∷◌, refl, subst, arith, length, Some}
use Rattle.std.specs.Prelude.{slice_get}
use Rattle.dx_model.specs.declared.values.Value.{Value}
use Rattle.dx_model.specs.declared.facts.Fact.{Fact}
use Rattle.dx_base.specs.Members.{◌∈◌}
use Rattle.dx_instance.specs.Stored.{TableRows, facts, rows_of, table_at, widths, without_rows}
use Rattle.dx_instance.proofs.StoredFacts.{row_from_fact}

-- a table with a width is there, and has this width
pub wide_table : (I : List TableRows) (t w : ℕ) → slice_get (widths I) t ≡ Some w → (t < length I) × ((table_at I t).width ≡ w)
wide_table [] t w e = absurd (cc)
wide_table (x ∷ I) zero w e = (omega arith, cc)
wide_table (x ∷ I) (suc t) w e = let r = wide_table I t w e in (omega (arith, r.0), r.1)

-- an instance without rows
pub no_rows : (ws : List ℕ) (t : ℕ) → rows_of (without_rows ws) t ≡ []
no_rows [] t = refl
no_rows (w ∷ ws) zero = refl
no_rows (w ∷ ws) (suc t) = no_rows ws t

pub no_facts : (ws : List ℕ) (f : Fact) → ¬ (f ∈ facts (without_rows ws))
no_facts ws f m = elim (subst (λ (z : List (List Value)). f.row ∈ z) (no_rows ws f.table) (row_from_fact (without_rows ws) f m)) [ ]
