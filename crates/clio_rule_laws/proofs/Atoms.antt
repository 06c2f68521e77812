-- The atoms of a printed rule are read as they were.
use Rattle.std.proofs.Common.{◌≡◌, ℕ, suc, List, [], ◌∷◌, ◌++◌, Option, None, map, length, refl, sym, ap, ◌∙◌}
use Rattle.dx_base.specs.Members.{here, there, Each}
use Rattle.dx_base.proofs.Members.{in_left, in_right}
use Rattle.dx_base.specs.Firsts.{first_of}
use Rattle.dx_model.specs.declared.rules.Cell.{Cell}
use Rattle.dx_model.specs.declared.rules.Atom.{Atom}
use Rattle.dx_model.specs.Rules.{cells_of}
use Rattle.dx_model.specs.Solutions.{AtomFits}
use Rattle.dx_schema.specs.Forest.{Forest}
use Rattle.dx_schema.specs.Tables.{AreTables, model_tables, tables_of}
use Rattle.dx_base.specs.Texts.{Text}
use Rattle.dx_schema.proofs.Facts.{atom_table, atom_width}
use Rattle.dx_tokens.specs.declared.faults.TextFault.{TextFault}
use Rattle.dx_schema_text.specs.declared.texts.AtomText.{AtomText}
use Rattle.dx_rule_text.specs.Printed.{table_name}
use Rattle.dx_tgd_text.specs.Reading.{atom_fault, atom_of_text, atoms_fault, atoms_of_texts, cell_of}
use Rattle.dx_tgd_text.proofs.Found.{set_found}
use Rattle.clio_rule_laws.proofs.Says.{Paired, no_pair, one_pair, SaysCell, SaysAtom}
use Rattle.clio_rule_laws.proofs.Cells.{HaveNumbers, numbers_within, cells_back}

paired_length : {A B : Type 0} (R : A → B → Type 0) (xs : List A) (ys : List B) → Paired R xs ys → length ys ≡ length xs
paired_length R [] [] no_pair = refl
paired_length R [] (y ∷ ys) h = elim h [ ]
paired_length R (x ∷ xs) [] h = elim h [ ]
paired_length R (x ∷ xs) (y ∷ ys) (one_pair r h) = ap suc (paired_length R xs ys h)

-- an atom has no fault, and is read as it was
pub record IsAtomBack (f : Forest) (known fresh : List Text) (a : Atom) (t : AtomText) : Type 0 where
  pub no_fault : atom_fault f t ≡ None
  pub same : atom_of_text f known fresh t ≡ a

atom_back : (f : Forest) (known fresh : List Text) (a : Atom) (t : AtomText) → AreTables (tables_of f) → AtomFits (model_tables f) a → SaysAtom (table_name f) a t → HaveNumbers known fresh a.cells → IsAtomBack f known fresh a t
atom_back f known fresh a t tables fits s h =
    let found = set_found f t a.table tables (atom_table f a fits) (sym s.set) (paired_length SaysCell a.cells t.cells s.cells ∙ atom_width f a fits) in
    record {
      no_fault = found.1;
      same = ap (λ (n : ℕ). record { table = n; cells = map (cell_of known fresh) t.cells }) (sym found.0)
          ∙ ap (λ (cs : List Cell). record { table = a.table; cells = cs }) (cells_back known fresh a.cells t.cells s.cells h);
    }

pub record AreAtomsBack (f : Forest) (known fresh : List Text) (atoms : List Atom) (texts : List AtomText) : Type 0 where
  pub no_fault : atoms_fault f texts ≡ None
  pub same : atoms_of_texts f known fresh texts ≡ atoms

pub atoms_back : (f : Forest) (known fresh : List Text) (atoms : List Atom) (texts : List AtomText) → AreTables (tables_of f) → Each atoms (AtomFits (model_tables f)) → Paired (SaysAtom (table_name f)) atoms texts
    → HaveNumbers known fresh (cells_of atoms) → AreAtomsBack f known fresh atoms texts
atoms_back f known fresh [] [] tables fits no_pair h = record { no_fault = refl; same = refl }
atoms_back f known fresh [] (t ∷ texts) tables fits s h = elim s [ ]
atoms_back f known fresh (a ∷ atoms) [] tables fits s h = elim s [ ]
atoms_back f known fresh (a ∷ atoms) (t ∷ texts) tables fits (one_pair s k) h =
    let first = atom_back f known fresh a t tables (fits a (here refl)) s (numbers_within known fresh a.cells (a.cells ++ cells_of atoms) (λ c m. in_left (cells_of atoms) m) h) in
    let others = atoms_back f known fresh atoms texts tables (λ b m. fits b (there m)) k (numbers_within known fresh (cells_of atoms) (a.cells ++ cells_of atoms) (λ c m. in_right a.cells m) h) in
    record {
      no_fault = ap (λ (o : Option TextFault). first_of (o ∷ map (atom_fault f) texts)) first.no_fault ∙ others.no_fault;
      same = ap (λ (b : Atom). b ∷ atoms_of_texts f known fresh texts) first.same ∙ ap (λ (bs : List Atom). a ∷ bs) others.same;
    }
