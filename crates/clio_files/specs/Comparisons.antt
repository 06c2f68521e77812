-- The files of a comparison, and what is said of it.
use Rattle.std.specs.Prelude.{◌≡◌, List, [], ◌++◌, codes}
use Rattle.std.specs.Fmt.{decimal}
use Rattle.dx_base.specs.Members.{Each}
use Rattle.dx_base.specs.Texts.{Text}
use Rattle.dx_schema.specs.Forest.{Forest}
use Rattle.dx_schema.specs.Tables.{TableOf, schema_widths, tables_of}
use Rattle.dx_instance.specs.Stored.{TableRows, widths}
use Rattle.dx_csv.specs.Print.{HasNoMark}
use Rattle.dx_compare.specs.declared.comparing.Answer.{Answer}
use Rattle.dx_compare.specs.declared.comparing.Answer.TheVariants as answers
use Rattle.dx_compare.specs.declared.comparing.Comparison.{Comparison}
use Rattle.clio_files.specs.Files.{AreTableFiles, summary_of}
use Rattle.clio_files.specs.Sheets.{PrintedFile}

-- ---- the files

-- the names of files of a direction begin so
abbrev pub source_front : Text → Text
source_front direction = direction ++ codes "_source_"

abbrev pub target_front : Text → Text
target_front direction = direction ++ codes "_target_"

-- two instances that refute a direction: a file for each table of the first, and then for each of the second
pub record RefutingFiles (direction : Text) (source target : Forest) (I K : List TableRows)
    (files : List PrintedFile) : Type 0 where
  pub sources : List PrintedFile
  pub sources_are : AreTableFiles (source_front direction) 0 (tables_of source) I sources
  pub targets : List PrintedFile
  pub targets_are : AreTableFiles (target_front direction) 0 (tables_of target) K targets
  pub is : files ≡ sources ++ targets

-- the files of a direction: none if it is implied
abbrev pub AreDirectionFiles : Text → Forest → Forest → Answer → List PrintedFile → Type 0
AreDirectionFiles direction source target answers.Implies files = files ≡ []
AreDirectionFiles direction source target (answers.Refuted rule I K) files =
    RefutingFiles direction source target I K files

-- the files of a comparison: those of its two directions
pub record AreComparedFiles (source target : Forest) (c : Comparison) (files : List PrintedFile) : Type 0 where
  pub forward : List PrintedFile
  pub forward_are : AreDirectionFiles (codes "forward") source target c.forward forward
  pub backward : List PrintedFile
  pub backward_are : AreDirectionFiles (codes "backward") source target c.backward backward
  pub is : files ≡ forward ++ backward

-- ---- what is said

-- the line of a direction
abbrev pub direction_text : Text → Answer → Text
direction_text direction answers.Implies = direction ++ codes " yes\n"
direction_text direction (answers.Refuted rule I K) = direction ++ (codes " no " ++ (decimal rule ++ codes "\n"))

-- a line for each direction, and then the summary of the files
abbrev pub compared_text : Comparison → List PrintedFile → Text
compared_text c files =
    direction_text (codes "forward") c.forward ++ (direction_text (codes "backward") c.backward ++ summary_of files)

-- ---- what can be written

-- the instances have the tables of the schemas
abbrev pub FitsAnswer : Forest → Forest → Answer → Type 0
FitsAnswer source target answers.Implies = Unit {0}
FitsAnswer source target (answers.Refuted rule I K) =
    (widths I ≡ schema_widths source) × (widths K ≡ schema_widths target)

-- no table's text begins with a byte order mark
abbrev pub HaveNoMarks : Forest → Type 0
HaveNoMarks f = Each (tables_of f) (λ (t : TableOf). HasNoMark t.columns)

-- the instances of both directions have the tables of the schemas, and no table's text begins with a byte order mark
pub record FitsComparison (source target : Forest) (c : Comparison) : Type 0 where
  pub forward : FitsAnswer source target c.forward
  pub backward : FitsAnswer source target c.backward
  pub source_marks : HaveNoMarks source
  pub target_marks : HaveNoMarks target

-- the files of a direction are added
pub record AddsDirection (direction : Text) (source target : Forest) (answer : Answer)
    (old new : List PrintedFile) : Type 0 where
  pub files : List PrintedFile
  pub are : AreDirectionFiles direction source target answer files
  pub is : new ≡ old ++ files
