-- Where a closing begins.
use Rattle.std.proofs.Common.{◌≡◌, ℕ, ◌*◌, ◌<◌, ◌≤◌, List, length, refl, arith}
use Rattle.std.proofs.lemmas.List.{length-map}
use Rattle.dx_base.specs.Members.{Each}
use Rattle.dx_model.specs.declared.rules.Atom.{Atom}
use Rattle.dx_model.specs.Solutions.{AtomFits}
use Rattle.dx_schema.specs.Forest.{Forest}
use Rattle.dx_schema.specs.Tables.{AreTables, tables_of, schema_table, model_tables}
use Rattle.dx_logical.proofs.Continued.{width_at}
use Rattle.dx_model.specs.Rules.{existentials}
use Rattle.dx_model.specs.Fitting.{AreNumbered}
use Rattle.dx_schema.proofs.Facts.{is_table}
use Rattle.dx_closing.specs.Closing.{above, begun}
use Rattle.dx_closing.specs.Laws.{IsRoomy}
use Rattle.dx_closing.proofs.Numbers.{above_numbered, numbered_few, numbered_below, few_in_atoms}

-- atoms that fit have at most 64 cells
narrow : (f : Forest) (C : List Atom) → AreTables (tables_of f) → Each C (AtomFits (model_tables f)) → Each C (λ a. length a.cells ≤ 64)
narrow f C h fit a m =
    let x = fit a m in
    let within : a.table < length (tables_of f) = rw length-map at x.table in
    let few : length (schema_table f a.table).columns ≤ 64 = (is_table (tables_of f) a.table _ h within).few_columns in
    let e = width_at f a.table (length (schema_table f a.table).columns) within refl in
    rw (x.width, ← e) few

-- the number after the variables is no greater than 64 for each atom
pub few_numbers : (f : Forest) (C : List Atom) (m : AreNumbered C) → AreTables (tables_of f) → Each C (AtomFits (model_tables f)) → m.0 ≤ 64 * length C
few_numbers f C m h fit =
    let a = numbered_few 0 m.0 (existentials C) m.1 in
    let b = few_in_atoms C (narrow f C h fit) in
    omega (arith, a.1, b)

-- each variable is below 4096
pub begun_below : (f : Forest) (C : List Atom) → AreNumbered C → AreTables (tables_of f) → Each C (AtomFits (model_tables f)) → length C ≤ 64 → Each (existentials C) (λ v. v < 4096)
begun_below f C m h fit n v i =
    let a = numbered_below 0 m.0 (existentials C) m.1 v i in
    let b = few_numbers f C m h fit in
    omega (arith, a, b, n)

-- there is room
pub begun_roomy : (f : Forest) (C : List Atom) → AreNumbered C → AreTables (tables_of f) → Each C (AtomFits (model_tables f)) → length C ≤ 64 → IsRoomy (model_tables f) (begun C)
begun_roomy f C m h fit n = record {
  fit = fit;
  few = n;
  next = rw (above_numbered 0 m.0 (existentials C) m.1) (few_numbers f C m h fit);
}

-- a beginning, by its parts
pub begun_is : (C : List Atom) (n : ℕ) → n ≡ above 0 (existentials C) → record { atoms = C; next = n } ≡ begun C
begun_is C n e = rw e refl
