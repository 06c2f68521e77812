-- The roots of a target as documents.
use Rattle.std.specs.Prelude.{◌≡◌, ℕ, List, [], ◌∷◌, length}
use Rattle.dx_schema.specs.Forest.{Forest}
use Rattle.dx_schema.specs.Tables.{schema_table}
use Rattle.dx_instance.specs.Stored.{TableRows, rows_of}
use Rattle.dx_json.specs.Nesting.{IsNestedText}
use Rattle.clio_source.specs.Source.{json_name}
use Rattle.clio_files.specs.Sheets.{PrintedFile}

-- the file of a root: its nested text, with as many objects as the root has rows
pub record IsRootFile (target : Forest) (T : List TableRows) (root : ℕ) (f : PrintedFile) : Type 0 where
  pub name : f.name ≡ json_name (schema_table target root).name
  pub bytes : IsNestedText T target root f.bytes
  pub count : f.count ≡ length (rows_of T root)

-- the files of these roots, in order
abbrev pub AreRootFiles : Forest → List TableRows → List ℕ → List PrintedFile → Type 0
AreRootFiles target T [] [] = Unit {0}
AreRootFiles target T [] (f ∷ fs) = ⊥
AreRootFiles target T (r ∷ rs) [] = ⊥
AreRootFiles target T (r ∷ rs) (f ∷ fs) = IsRootFile target T r f × AreRootFiles target T rs fs
