-- What hand-written rules say: the first word that is at fault, and the rules by numbers.
use Rattle.std.specs.Prelude.{ℕ, ◌+◌, ◌-◌, ◌^◌, ◌<◌, List, [], ◌∷◌, ◌++◌, Option, Some, None, cond, eqb, length, map}
use Rattle.dx_base.specs.Firsts.{first_of}
use Rattle.dx_base.specs.Texts.{Text}
use Rattle.dx_model.specs.declared.rules.Cell.{Cell}
use Rattle.dx_model.specs.declared.rules.Cell.TheVariants.{Var, Ex, Lit}
use Rattle.dx_model.specs.declared.rules.Atom.{Atom}
use Rattle.dx_model.specs.declared.rules.Derived.{Derived}
use Rattle.dx_model.specs.declared.rules.Rule.{Rule}
use Rattle.dx_schema.specs.Forest.{Forest}
use Rattle.dx_schema.specs.Tables.{number_of_name}
use Rattle.dx_schema.specs.Faults.{is_among}
use Rattle.dx_funcs.specs.declared.conversion.Conversion.{Conversion}
use Rattle.dx_funcs.specs.Names.{first_named}
use Rattle.dx_tokens.specs.declared.faults.TextFault.{TextFault}
use Rattle.dx_tokens.specs.declared.faults.TextFault.TheVariants.{At}
use Rattle.dx_tokens.specs.declared.faults.TextKind.TheVariants.{UnknownName, Width, Unsafe}
use Rattle.dx_schema_text.specs.declared.texts.CellText.{CellText}
use Rattle.dx_schema_text.specs.declared.texts.CellText.TheVariants.{Name, Literal}
use Rattle.dx_schema_text.specs.declared.texts.AtomText.{AtomText}
use Rattle.dx_schema_text.specs.declared.texts.DerivedText.{DerivedText}
use Rattle.dx_schema_text.specs.declared.texts.RuleText.{RuleText}
use Rattle.dx_line_text.specs.Naming.{set_names, set_number, columns_in, code_of}
use Rattle.dx_tgd_text.specs.Numbering.{text_cells, unknown_names}

-- ---- names

-- the variables of a rule's premise, by first appearance
abbrev pub names_of_premise : RuleText → List Text
names_of_premise r = unknown_names [] r.premise

-- the names of derived variables
abbrev pub derived_names : List DerivedText → List Text
derived_names ds = map (λ (d : DerivedText). d.name) ds

-- the variables of the premise, and after them the derived ones in order
abbrev pub known_of : RuleText → List Text
known_of r = names_of_premise r ++ derived_names r.derived

-- the existential variables: the other names of the conclusion, by first appearance
abbrev pub fresh_of : RuleText → List Text
fresh_of r = unknown_names (known_of r) r.conclusion

-- ---- faults

-- of an atom its set is looked at, then how many cells it has
abbrev pub atom_fault : Forest → AtomText → Option TextFault
atom_fault f a =
    cond (is_among a.set (set_names f))
    (cond (eqb (length a.cells) (length (columns_in f a.set))) None (Some (At a.place Width)))
    (Some (At a.place UnknownName))

-- the first fault of atoms, from left to right
abbrev pub atoms_fault : Forest → List AtomText → Option TextFault
atoms_fault f atoms = first_of (map (atom_fault f) atoms)

-- an argument is one of these variables; a literal, which has no place of its own, is told of at the conversion
abbrev pub arg_fault : List Text → ℕ → CellText → Option TextFault
arg_fault variables call (Name x place) = cond (is_among x variables) None (Some (At place Unsafe))
arg_fault variables call (Literal t) = Some (At call Unsafe)

-- the first fault of arguments, from left to right
abbrev pub args_fault : List Text → ℕ → List CellText → Option TextFault
args_fault variables call args = first_of (map (arg_fault variables call) args)

-- of a conversion its name is looked at, then how many arguments it takes, then its arguments
abbrev pub derived_call_fault : List Text → Option Conversion → ℕ → List CellText → Option TextFault
derived_call_fault variables None place args = Some (At place UnknownName)
derived_call_fault variables (Some c) place args =
    cond (eqb c.arity (length args)) (args_fault variables place args) (Some (At place Width))

-- the first fault of a derived variable's conversion
abbrev pub conversion_fault : List Conversion → List Text → DerivedText → Option TextFault
conversion_fault list variables d = derived_call_fault variables (first_named list d.call) d.call_place d.args

-- of a derived variable its name is looked at, which is none of those known so far, then its conversion
abbrev pub derived_fault : List Conversion → List Text → List Text → DerivedText → Option TextFault
derived_fault list variables known d =
    cond (is_among d.name known) (Some (At d.place Unsafe))
    (derived_call_fault variables (first_named list d.call) d.call_place d.args)

-- the first fault of derived variables, each of which is known to those after it
abbrev pub derived_faults : List Conversion → List Text → List Text → List DerivedText → Option TextFault
derived_faults list variables known [] = None
derived_faults list variables known (d ∷ ds) =
    first_of (derived_fault list variables known d ∷ derived_faults list variables (known ++ d.name ∷ []) ds ∷ [])

-- of a rule its premise is looked at, then its derived variables, then its conclusion
abbrev pub rule_fault : Forest → Forest → List Conversion → RuleText → Option TextFault
rule_fault source target list r =
    first_of (atoms_fault source r.premise
    ∷ derived_faults list (names_of_premise r) (names_of_premise r) r.derived
    ∷ atoms_fault target r.conclusion ∷ [])

-- the first fault of rules, in their order
abbrev pub rules_fault : Forest → Forest → List Conversion → List RuleText → Option TextFault
rules_fault source target list rules = first_of (map (rule_fault source target list) rules)

-- ---- values

-- a cell: a known name is a variable, another name is an existential variable, a literal is itself
abbrev pub cell_of : List Text → List Text → CellText → Cell
cell_of known fresh (Name x place) =
    cond (is_among x known) (Var (number_of_name x known)) (Ex (number_of_name x fresh))
cell_of known fresh (Literal t) = Lit t

-- an atom: the table of its set, and its cells
abbrev pub atom_of_text : Forest → List Text → List Text → AtomText → Atom
atom_of_text f known fresh a = record { table = set_number f a.set; cells = map (cell_of known fresh) a.cells }

-- atoms in order
abbrev pub atoms_of_texts : Forest → List Text → List Text → List AtomText → List Atom
atoms_of_texts f known fresh atoms = map (atom_of_text f known fresh) atoms

-- the variable that an argument names
abbrev pub arg_of : List Text → CellText → ℕ
arg_of variables (Name x place) = number_of_name x variables
arg_of variables (Literal t) = 0

-- a derived variable: the code of its conversion, and the variables of which it is made
abbrev pub derived_of_text : List Conversion → List Text → DerivedText → Derived
derived_of_text list variables d =
    record { code = code_of (first_named list d.call); args = map (arg_of variables) d.args }

-- a rule, by the numbers of what it names
abbrev pub rule_of_text : Forest → Forest → List Conversion → RuleText → Rule
rule_of_text source target list r = record {
  premise = atoms_of_texts source (names_of_premise r) [] r.premise;
  derived = map (derived_of_text list (names_of_premise r)) r.derived;
  conclusion = atoms_of_texts target (known_of r) (fresh_of r) r.conclusion;
}

-- rules, by the numbers of what they name
abbrev pub rules_of_texts : Forest → Forest → List Conversion → List RuleText → List Rule
rules_of_texts source target list rules = map (rule_of_text source target list) rules

-- ---- what texts can be read

-- how many cells and derived variables a rule has
abbrev pub size_of : RuleText → ℕ
size_of r = length (text_cells r.premise) + length r.derived + length (text_cells r.conclusion)

-- fewer than 4,294,967,295 cells and derived variables together
abbrev pub RuleHasFewCells : RuleText → Type 0
RuleHasFewCells r = size_of r < 2 ^ 32 - 1
