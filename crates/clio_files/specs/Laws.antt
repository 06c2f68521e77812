-- What holds of the files.
use Rattle.std.specs.Prelude.{◌≡◌, Bool, ℕ, List, ◌<◌, ◌≤◌, codes, length, map}
use Rattle.dx_base.specs.Members.{Distinct, Each}
use Rattle.dx_model.specs.declared.rules.Rule.{Rule}
use Rattle.dx_schema.specs.Forest.{Forest}
use Rattle.dx_schema.specs.Tables.{AreTables, schema_table, tables_of}
use Rattle.dx_funcs.specs.declared.conversion.Conversion.{Conversion}
use Rattle.dx_instance.specs.Stored.{facts}
use Rattle.dx_exchange.specs.declared.mode.Mode.{Mode}
use Rattle.dx_exchange.specs.declared.result.Exchange.{Exchange}
use Rattle.dx_compare.specs.declared.comparing.Answer.{Answer}
use Rattle.dx_compare.specs.declared.comparing.Answer.TheVariants as answers
use Rattle.dx_compare.specs.declared.comparing.Comparison.{Comparison}
use Rattle.clio_files.specs.Comparisons.{AreComparedFiles, FitsComparison}
use Rattle.clio_files.specs.Files.{AreFiles, FitsFiles}
use Rattle.clio_files.specs.Sheets.{PrintedFile}

-- an exchange that fits its schema has files, in each mode, with nested ones or without
abbrev pub FilesExist : Type 0
FilesExist =
    (source target : Forest) (list : List Conversion) (mode : Mode) (nested : Bool) (R : List Rule) (e : Exchange)
    → FitsFiles R target e → AreTables (tables_of target) → Each (facts e.target) (λ f. 1 ≤ length f.row)
    → (files : List PrintedFile) × AreFiles source target list mode nested R e files

-- an exchange has no two lists of files
abbrev pub FilesAreOne : Type 0
FilesAreOne =
    (source target : Forest) (list : List Conversion) (mode : Mode) (nested : Bool) (R : List Rule)
    (e : Exchange) (files others : List PrintedFile)
    → AreFiles source target list mode nested R e files
    → AreFiles source target list mode nested R e others → files ≡ others

-- ---- names

-- the name is none of those of the two files about nulls
abbrev pub IsFreeName : List ℕ → Type 0
IsFreeName name = (¬ (name ≡ codes "nulls")) × (¬ (name ≡ codes "fold"))

-- no two files have one name, if all tables have free names
abbrev pub NamesAreApart : Type 0
NamesAreApart =
    (source target : Forest) (list : List Conversion) (mode : Mode) (nested : Bool) (R : List Rule)
    (e : Exchange) (files : List PrintedFile)
    → AreTables (tables_of target) → ((t : ℕ) → t < length (tables_of target) → IsFreeName (schema_table target t).name)
    → AreFiles source target list mode nested R e files → Distinct (map (λ (f : PrintedFile). f.name) files)

-- ---- comparisons

-- each row of the two instances that refute a direction has a column
abbrev pub HaveColumns : Answer → Type 0
HaveColumns answers.Implies = Unit {0}
HaveColumns (answers.Refuted rule I K) = Each (facts I) (λ f. 1 ≤ length f.row) × Each (facts K) (λ f. 1 ≤ length f.row)

-- a comparison that fits its schemas has files
abbrev pub ComparedFilesExist : Type 0
ComparedFilesExist =
    (source target : Forest) (c : Comparison) → FitsComparison source target c
    → AreTables (tables_of source) → AreTables (tables_of target)
    → HaveColumns c.forward → HaveColumns c.backward
    → (files : List PrintedFile) × AreComparedFiles source target c files

-- a comparison has no two lists of files
abbrev pub ComparedFilesAreOne : Type 0
ComparedFilesAreOne =
    (source target : Forest) (c : Comparison) (files others : List PrintedFile)
    → AreComparedFiles source target c files → AreComparedFiles source target c others → files ≡ others

-- no two files of a comparison have one name
abbrev pub ComparedNamesAreApart : Type 0
ComparedNamesAreApart =
    (source target : Forest) (c : Comparison) (files : List PrintedFile) → AreTables (tables_of source)
    → AreTables (tables_of target)
    → AreComparedFiles source target c files → Distinct (map (λ (f : PrintedFile). f.name) files)
