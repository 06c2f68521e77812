-- The set of an atom is the first of its name.
use Rattle.std.proofs.Common.{◌≡◌, ℕ, ◌<◌, Some, None, Bool, true, false, cond, length, refl, sym, ap, ◌∙◌, eq-eqb}
use Rattle.std.specs.Prelude.{eqb}
use Rattle.std.proofs.lemmas.Bool.{eqb-true}
use Rattle.dx_base.specs.Members.{◌∈◌}
use Rattle.dx_schema.specs.Forest.{Forest}
use Rattle.dx_schema.specs.Tables.{tables_of, schema_table, AreTables}
use Rattle.dx_tokens.specs.declared.faults.TextFault.TheVariants.{At}
use Rattle.dx_tokens.specs.declared.faults.TextKind.TheVariants.{UnknownName, Width}
use Rattle.dx_schema_text.specs.declared.texts.AtomText.{AtomText}
use Rattle.dx_line_text.specs.Naming.{set_names, set_number, columns_in}
use Rattle.dx_line_text.proofs.Found.{not_found, set_is, set_among}
use Rattle.dx_tgd_text.specs.Reading.{atom_fault}

-- a set that isn't there
pub unknown_set : (f : Forest) (a : AtomText) → ¬ (a.set ∈ set_names f) → atom_fault f a ≡ Some (At a.place UnknownName)
unknown_set f a no_member = rw (not_found a.set (set_names f) no_member) refl

-- another number of cells
pub other_width : (f : Forest) (a : AtomText) (t : ℕ) → AreTables (tables_of f) → t < length (tables_of f) → (schema_table f t).name ≡ a.set → ¬ (length a.cells ≡ length (schema_table f t).columns)
    → atom_fault f a ≡ Some (At a.place Width)
other_width f a t tables lt is other =
    let columns : columns_in f a.set ≡ (schema_table f t).columns = ap (λ n. (schema_table f n).columns) (set_is f t a.set tables lt is) in
    rw (set_among f t a.set lt is) (ap (λ cs. cond (eqb (length a.cells) (length cs)) None (Some (At a.place Width))) columns ∙ rw (differs (eqb (length a.cells) (length (schema_table f t).columns)) refl) refl)
  where
    differs : (b : Bool) → eqb (length a.cells) (length (schema_table f t).columns) ≡ b → eqb (length a.cells) (length (schema_table f t).columns) ≡ false
    differs true e = absurd (other (eqb-true (length a.cells) (length (schema_table f t).columns) e))
    differs false e = e

-- a set that is there, with as many columns
pub set_found : (f : Forest) (a : AtomText) (t : ℕ) → AreTables (tables_of f) → t < length (tables_of f) → (schema_table f t).name ≡ a.set → length a.cells ≡ length (schema_table f t).columns
    → (t ≡ set_number f a.set) × (atom_fault f a ≡ None)
set_found f a t tables lt is same =
    let columns : columns_in f a.set ≡ (schema_table f t).columns = ap (λ n. (schema_table f n).columns) (set_is f t a.set tables lt is) in (
      sym (set_is f t a.set tables lt is),
      rw (set_among f t a.set lt is) (ap (λ cs. cond (eqb (length a.cells) (length cs)) None (Some (At a.place Width))) columns ∙ rw (eq-eqb (length a.cells) (length (schema_table f t).columns) same) refl),
    )
