-- The file of the answers of a query.
use Rattle.std.specs.Prelude.{ℕ, zero, suc, List, [], ◌∷◌, ◌++◌, map, codes}
use Rattle.std.specs.Fmt.{decimal}
use Rattle.dx_base.specs.Texts.{Text}
use Rattle.dx_model.specs.Values.{Tuple}
use Rattle.dx_instance.specs.ValueText.{const_text}
use Rattle.clio_files.specs.Sheets.{Sheet, PrintedFile, file_of}

-- the name of a column: `c` and its number
abbrev pub column_name : ℕ → Text
column_name n = codes "c" ++ decimal n

-- the names of so many columns, from number n on
abbrev pub column_names : ℕ → ℕ → List Text
column_names n zero = []
column_names n (suc width) = column_name n ∷ column_names (suc n) width

-- the answers of a query of this width, each as the texts of its values
abbrev pub answers_sheet : ℕ → List Tuple → Sheet
answers_sheet width rows = record {
  name = codes "answers.csv";
  header = column_names 0 width;
  records = map (map const_text) rows;
}

-- the one file of answers
abbrev pub answer_files : ℕ → List Tuple → List PrintedFile
answer_files width rows = file_of (answers_sheet width rows) ∷ []
