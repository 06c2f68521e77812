-- The text of scripts.
use Rattle.std.specs.Prelude.{ℕ, suc, Bool, true, false, List, [], ◌∷◌, ◌++◌, map, codes, decimal}
use Rattle.std.specs.List.{flat_map}
use Rattle.dx_script.specs.declared.form.CellRef.{CellRef}
use Rattle.dx_script.specs.declared.form.Select.{Select}
use Rattle.dx_script.specs.declared.form.Select.TheVariants as selected
use Rattle.dx_script.specs.declared.form.Equal.{Equal}
use Rattle.dx_script.specs.declared.form.Test.{Test}
use Rattle.dx_script.specs.declared.form.Test.TheVariants as tested
use Rattle.dx_script.specs.declared.form.Unless.{Unless}
use Rattle.dx_script.specs.declared.form.Out.{Out}
use Rattle.dx_script.specs.declared.form.Out.TheVariants as outs
use Rattle.dx_script.specs.declared.form.Step.{Step}
use Rattle.dx_script.specs.declared.form.Step.TheVariants as steps
use Rattle.dx_script.specs.declared.form.Script.{Script}
use Rattle.dx_script_tokens.specs.Quoted.{single_quoted}

-- a text, by its bytes
abbrev pub Bytes : Type 0
Bytes = List ℕ

-- texts in order, with another text between
abbrev pub parted : Bytes → List Bytes → Bytes
parted between [] = []
parted between (text ∷ others) = text ++ flat_map (λ other. between ++ other) others

-- the texts of items in order, of which the first has number n
abbrev pub texts_from : {A : Type 0} → (ℕ → A → Bytes) → ℕ → List A → List Bytes
texts_from f n [] = []
texts_from f n (x ∷ xs) = f n x ∷ texts_from f (suc n) xs

-- ---- names

-- a name in double quotes
abbrev pub name_text : Bytes → Bytes
name_text name = codes "\"" ++ (name ++ codes "\"")

-- ---- CREATE TABLE target

-- a column of a target table
abbrev pub declared_text : Bytes → Bytes
declared_text column = name_text column ++ codes " TEXT"

abbrev pub create_text : Bytes → List Bytes → Bytes
create_text table columns =
    codes "CREATE TABLE target."
    ++ (name_text table ++ (codes " (" ++ (parted (codes ", ") (map declared_text columns) ++ codes ");\n")))

-- ---- CREATE TABLE m<r>

-- a cell of an alias
abbrev pub cell_ref_text : CellRef → Bytes
cell_ref_text c = codes "a" ++ (decimal c.alias ++ (codes "." ++ name_text c.column))

-- a conversion of cells
abbrev pub call_text : Bytes → List CellRef → Bytes
call_text name args = name_text name ++ (codes "(" ++ (parted (codes ", ") (map cell_ref_text args) ++ codes ")"))

-- a cell, or a conversion of cells
abbrev pub value_text : Select → Bytes
value_text (selected.Cell c) = cell_ref_text c
value_text (selected.Call name args) = call_text name args

-- the selected column with number n
abbrev pub item_text : ℕ → Select → Bytes
item_text n s = value_text s ++ (codes " AS c" ++ decimal n)

-- the selected columns, or 1 if there are none
abbrev pub select_text : List Select → Bytes
select_text [] = codes "1"
select_text (s ∷ others) = parted (codes ", ") (texts_from item_text 0 (s ∷ others))

-- the source table with alias n
abbrev pub source_alias_text : ℕ → Bytes → Bytes
source_alias_text n table = codes "source." ++ (name_text table ++ (codes " AS a" ++ decimal n))

abbrev pub equal_text : Equal → Bytes
equal_text e = cell_ref_text e.left ++ (codes " = " ++ cell_ref_text e.right)

-- conditions that all hold, or nothing if there are none
abbrev pub where_clause_text : List Bytes → Bytes
where_clause_text [] = []
where_clause_text (text ∷ others) = codes " WHERE " ++ parted (codes " AND ") (text ∷ others)

abbrev pub match_text : ℕ → List Select → List Bytes → List Equal → Bytes
match_text rule select sources equal =
    codes "CREATE TABLE m" ++ (decimal rule
    ++ (codes " AS SELECT DISTINCT "
    ++ (select_text select ++ (codes " FROM "
    ++ (parted (codes ", ") (texts_from source_alias_text 0 sources)
    ++ (where_clause_text (map equal_text equal) ++ codes ";\n"))))))

-- ---- CREATE TABLE k<r>

abbrev pub test_text : Test → Bytes
test_text (tested.Columns other own) = codes "n.c" ++ (decimal other ++ (codes " = m.c" ++ decimal own))
test_text (tested.Literal own text) = codes "m.c" ++ (decimal own ++ (codes " = " ++ single_quoted text))

abbrev pub unless_text : Unless → Bytes
unless_text u =
    codes "NOT EXISTS (SELECT * FROM m"
    ++ (decimal u.rule ++ (codes " AS n" ++ (where_clause_text (map test_text u.tests) ++ codes ")")))

abbrev pub keep_text : ℕ → List Unless → Bytes
keep_text rule unless =
    codes "CREATE TABLE k" ++ (decimal rule
    ++ (codes " AS SELECT * FROM m"
    ++ (decimal rule ++ (codes " AS m WHERE "
    ++ (parted (codes " AND ") (map unless_text unless) ++ codes ";\n")))))

-- ---- INSERT

-- a cell of a fact of a rule
abbrev pub out_text : ℕ → Out → Bytes
out_text rule (outs.Column n) = codes "m.c" ++ decimal n
out_text rule (outs.Literal text) = single_quoted text
out_text rule (outs.Skolem v) = codes "SKOLEM(" ++ (decimal rule ++ (codes ", " ++ (decimal v ++ codes ", m.place)")))

-- the letter of a keep table, of a match table
abbrev pub table_letter : Bool → Bytes
table_letter true = codes "k"
table_letter false = codes "m"

abbrev pub insert_text : Bytes → ℕ → Bool → List Out → Bytes
insert_text table rule kept cells =
    codes "INSERT INTO target." ++ (name_text table
    ++ (codes " SELECT " ++ (parted (codes ", ") (map (out_text rule) cells)
    ++ (codes " FROM " ++ (table_letter kept ++ (decimal rule ++ codes " AS m;\n"))))))

-- ---- scripts

-- a step, with a line feed behind it: one line, if no literal in it has a line feed
abbrev pub step_text : Step → Bytes
step_text (steps.Create table columns) = create_text table columns
step_text (steps.MatchRows rule select sources equal) = match_text rule select sources equal
step_text (steps.KeepRows rule unless) = keep_text rule unless
step_text (steps.InsertRows table rule kept cells) = insert_text table rule kept cells

abbrev pub script_text : Script → Bytes
script_text s = flat_map step_text s.steps
