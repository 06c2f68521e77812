-- Records that are printed one by one, and files that are added.
use Rattle.std.specs.Prelude.{◌≡◌, ℕ, List, [], ◌++◌, length}
use Rattle.dx_base.specs.Texts.{Text}
use Rattle.dx_schema.specs.Forest.{Forest}
use Rattle.dx_schema.specs.Tables.{TableOf}
use Rattle.dx_instance.specs.Stored.{TableRows}
use Rattle.dx_csv.specs.Lines.{HavePrinted}
use Rattle.clio_files.specs.declared.records.Records.{Records}
use Rattle.clio_files.specs.Files.{AreTableFiles}
use Rattle.clio_files.specs.Nested.{AreRootFiles}
use Rattle.clio_files.specs.Sheets.{PrintedFile}

-- these records are printed whole, and of the next one these fields; the records are counted
pub record HasFields (r : Records) (records : List (List Text)) (fields : List Text) : Type 0 where
  pub printed : HavePrinted r.lines records fields
  pub count : r.count ≡ length records

-- these records are printed whole, and nothing of the next one
abbrev pub AreRecords : Records → List (List Text) → Type 0
AreRecords r records = HasFields r records []

-- the files of these tables are added, under names with this in front
pub record AddsTables (front : Text) (ts : List TableOf) (T : List TableRows)
    (old new : List PrintedFile) : Type 0 where
  pub tables : List PrintedFile
  pub are : AreTableFiles front 0 ts T tables
  pub is : new ≡ old ++ tables

-- the files of these roots are added
pub record AddsRoots (target : Forest) (T : List TableRows) (roots : List ℕ) (old new : List PrintedFile) : Type 0 where
  pub files : List PrintedFile
  pub are : AreRootFiles target T roots files
  pub is : new ≡ old ++ files
