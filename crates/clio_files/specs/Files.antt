-- The files and the summary of an exchange.
use Rattle.std.specs.Prelude.{◌≡◌, Bool, if◌then◌else◌, ℕ, suc, List, [], ◌∷◌, ◌++◌, length, map, codes}
use Rattle.std.specs.List.{flat_map}
use Rattle.std.specs.Fmt.{decimal}
use Rattle.dx_base.specs.Entries.{Entry}
use Rattle.dx_base.specs.Members.{◌∈◌, Each}
use Rattle.dx_base.specs.Texts.{Text}
use Rattle.dx_model.specs.declared.values.NullId.{NullId}
use Rattle.dx_model.specs.declared.values.Value.{Value}
use Rattle.dx_model.specs.declared.values.Value.TheVariants.{Null}
use Rattle.dx_model.specs.declared.rules.Rule.{Rule}
use Rattle.dx_model.specs.Instances.{values}
use Rattle.dx_schema.specs.Forest.{Forest}
use Rattle.dx_schema.specs.Tables.{TableOf, schema_widths, tables_of}
use Rattle.dx_funcs.specs.declared.conversion.Conversion.{Conversion}
use Rattle.dx_instance.specs.NullMaps.{pairs_of}
use Rattle.dx_instance.specs.Stored.{TableRows, facts, rows_of, widths}
use Rattle.dx_csv.specs.Print.{HasNoMark, IsTableText}
use Rattle.dx_exchange.specs.declared.mode.Mode.{Mode}
use Rattle.dx_exchange.specs.declared.result.Exchange.{Exchange}
use Rattle.clio_source.specs.Source.{csv_name, roots}
use Rattle.clio_files.specs.declared.printed.Printed.{Printed}
use Rattle.clio_files.specs.Nested.{AreRootFiles}
use Rattle.clio_files.specs.Sheets.{AreTargetNulls, HasTexts, PrintedFile, file_of, fold_sheet, nulls_sheet}
use Rattle.clio_files.specs.Texts.{texts_told}

-- the file of a table under a name with this in front: its text, and how many records that has
pub record IsTableFile (front : Text) (t : TableOf) (rows : List (List Value)) (f : PrintedFile) : Type 0 where
  pub name : f.name ≡ front ++ csv_name t.name
  pub bytes : IsTableText t.columns rows f.bytes
  pub count : f.count ≡ length bytes.sorted

-- the files of the tables from number n on
abbrev pub AreTableFiles : Text → ℕ → List TableOf → List TableRows → List PrintedFile → Type 0
AreTableFiles front n [] T [] = Unit {0}
AreTableFiles front n [] T (f ∷ fs) = ⊥
AreTableFiles front n (t ∷ ts) T [] = ⊥
AreTableFiles front n (t ∷ ts) T (f ∷ fs) = IsTableFile front t (rows_of T n) f × AreTableFiles front (suc n) ts T fs

-- the files of an exchange: the rules, their script, each target table, what the nulls of the target stand for, the
-- fold, and, if nested ones are asked for, each root of the target as a document
pub record AreFiles (source target : Forest) (list : List Conversion) (mode : Mode) (nested : Bool)
    (R : List Rule) (e : Exchange)
    (files : List PrintedFile) : Type 0 where
  pub tables : List PrintedFile
  pub tables_are : AreTableFiles [] 0 (tables_of target) e.target tables
  pub nulls : List NullId
  pub nulls_are : AreTargetNulls (facts e.target) nulls
  pub documents : List PrintedFile
  pub documents_are : AreRootFiles target e.target (if nested then roots target else []) documents
  pub is : files ≡ texts_told source target list mode R
      ++ (tables ++ file_of (nulls_sheet R e.matches nulls) ∷ file_of (fold_sheet (pairs_of e.fold)) ∷ documents)

-- the files by names and bytes
abbrev pub files_of : List PrintedFile → List Entry
files_of files = map (λ (f : PrintedFile). (f.name, f.bytes)) files

-- the line of the summary: the name, a space, the count
abbrev pub summary_line : PrintedFile → Text
summary_line f = f.name ++ (codes " " ++ (decimal f.count ++ codes "\n"))

-- the summary: a line for each file
abbrev pub summary_of : List PrintedFile → Text
summary_of files = flat_map summary_line files

-- the bytes of the files, one after the other
abbrev pub contents_of : List PrintedFile → Text
contents_of files = flat_map (λ (f : PrintedFile). f.bytes) files

-- The target has the tables of its schema; no table's text begins with a byte order mark; and for each null of the
-- target the matches have its place, with as many texts as its rule has exported variables.
pub record FitsFiles (R : List Rule) (target : Forest) (e : Exchange) : Type 0 where
  pub widths_are : widths e.target ≡ schema_widths target
  pub no_marks : Each (tables_of target) (λ (t : TableOf). HasNoMark t.columns)
  pub places : (n : NullId) → Null n ∈ values (facts e.target) → HasTexts R e.matches n

-- ---- what the code has

-- a printed file as definitions see it: its name, its bytes and its count
abbrev pub printed_view : Printed → PrintedFile
printed_view p = record { name = p.file.name; bytes = p.file.bytes.items; count = p.count }
