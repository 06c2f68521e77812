-- The text of rules.
use Rattle.std.specs.Prelude.{ℕ, suc, ◌<◌, List, [], ◌∷◌, ◌++◌, length, map, codes, decimal}
use Rattle.std.specs.List.{flat_map}
use Rattle.dx_base.specs.Members.{◌∈◌, Each}
use Rattle.dx_base.specs.Texts.{Text}
use Rattle.dx_model.specs.declared.rules.Cell.{Cell}
use Rattle.dx_model.specs.declared.rules.Cell.TheVariants.{Var, Ex, Lit}
use Rattle.dx_model.specs.declared.rules.Atom.{Atom}
use Rattle.dx_model.specs.declared.rules.Derived.{Derived}
use Rattle.dx_model.specs.declared.rules.Rule.{Rule}
use Rattle.dx_model.specs.Rules.{after_cells, cells_of}
use Rattle.dx_schema.specs.Forest.{Forest}
use Rattle.dx_schema.specs.Tables.{tables_of, schema_table}
use Rattle.dx_funcs.specs.declared.conversion.Conversion.{Conversion}
use Rattle.dx_funcs.specs.Names.{conversion_name}
use Rattle.dx_tokens.specs.Quoted.{quoted}

-- texts in order, with a comma and a space between
abbrev pub separated : List Text → Text
separated [] = []
separated (text ∷ others) = text ++ flat_map (λ other. codes ", " ++ other) others

-- a variable: `x` and its number
abbrev pub variable_text : ℕ → Text
variable_text n = codes "x" ++ decimal n

-- a cell: a variable, `y` and the number of an existential variable, or a literal as a string
abbrev pub cell_text : Cell → Text
cell_text (Var n) = variable_text n
cell_text (Ex n) = codes "y" ++ decimal n
cell_text (Lit text) = quoted text

-- an atom, with a name for each table: the name of its table, and its cells in parentheses
abbrev pub atom_text : (ℕ → Text) → Atom → Text
atom_text name a = name a.table ++ (codes "(" ++ (separated (map cell_text a.cells) ++ codes ")"))

-- atoms in order, with a comma and a space between
abbrev pub atoms_text : (ℕ → Text) → List Atom → Text
atoms_text name atoms = separated (map (atom_text name) atoms)

-- a derived variable with its number, with a name for each conversion: the variable,
-- and the conversion of its arguments
abbrev pub derived_text : (ℕ → Text) → ℕ → Derived → Text
derived_text name n d =
    variable_text n ++ (codes " = "
    ++ (name d.code ++ (codes "(" ++ (separated (map variable_text d.args) ++ codes ")"))))

-- derived variables, of which the first has number n
abbrev pub derived_texts : (ℕ → Text) → ℕ → List Derived → List Text
derived_texts name n [] = []
derived_texts name n (d ∷ ds) = derived_text name n d ∷ derived_texts name (suc n) ds

-- the derived variables after `where`; nothing if there are none
abbrev pub where_text : (ℕ → Text) → ℕ → List Derived → Text
where_text name n [] = []
where_text name n (d ∷ ds) = codes " where " ++ separated (derived_texts name n (d ∷ ds))

-- the name of a table of a schema
abbrev pub table_name : Forest → ℕ → Text
table_name schema t = (schema_table schema t).name

-- a rule in one line: its premise, its derived variables, which are numbered on from the premise's variables,
-- and its conclusion
abbrev pub rule_text : Forest → Forest → List Conversion → Rule → Text
rule_text source target list r =
    codes "rule "
    ++ (atoms_text (table_name source) r.premise
    ++ (where_text (conversion_name list) (after_cells (cells_of r.premise)) r.derived
    ++ (codes " -> " ++ (atoms_text (table_name target) r.conclusion ++ codes ";"))))

-- each rule and a line feed, in order
abbrev pub rules_text : Forest → Forest → List Conversion → List Rule → Text
rules_text source target list rules = flat_map (λ r. rule_text source target list r ++ codes "\n") rules

-- ---- what can be printed

-- the tables of atoms are tables of a schema
abbrev pub AtomsWithin : Forest → List Atom → Type 0
AtomsWithin schema atoms = Each atoms (λ a. a.table < length (tables_of schema))

-- the conversions of derived variables are listed
abbrev pub AllListed : List Conversion → List Derived → Type 0
AllListed list derived = Each derived (λ d. d.code ∈ map (λ (c : Conversion). c.code) list)
