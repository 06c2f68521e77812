-- A rule from employees to persons: read by numbers, and refused at the first word that is at fault.
use Rattle.std.proofs.Common.{◌≡◌, ℕ, List, [], ◌∷◌, Option, Some, None, codes, refl, ap, ◌∙◌, arith}
use Rattle.dx_base.specs.Members.{◌∈◌, here, there}
use Rattle.dx_model.specs.declared.rules.Cell.TheVariants.{Var, Ex, Lit}
use Rattle.dx_schema.specs.Forest.{Forest, none, set, bare_set}
use Rattle.dx_base.specs.Texts.{Text}
use Rattle.dx_tokens.specs.declared.faults.TextFault.{TextFault}
use Rattle.dx_tokens.specs.declared.faults.TextFault.TheVariants.{At}
use Rattle.dx_tokens.specs.declared.faults.TextKind.TheVariants.{UnknownName, Width, Unsafe}
use Rattle.dx_schema_text.specs.declared.texts.CellText.{CellText}
use Rattle.dx_schema_text.specs.declared.texts.CellText.TheVariants.{Name, Literal}
use Rattle.dx_schema_text.specs.declared.texts.AtomText.{AtomText}
use Rattle.dx_schema_text.specs.declared.texts.DerivedText.{DerivedText}
use Rattle.dx_schema_text.specs.declared.texts.RuleText.{RuleText}
use Rattle.dx_funcs.specs.declared.conversion.Conversion.{Conversion}
use Rattle.dx_tgd_text.specs.Laws.{AllOffered, IsWholeRule}
use Rattle.dx_tgd_text.specs.Reading.{rule_fault, rule_of_text, rules_fault, rules_of_texts, size_of}

-- employees with a name and a place, persons with a name and a telephone
abbrev employees : Forest
employees = set (bare_set (codes "emp") (codes "name" ∷ codes "place" ∷ [])) none none

abbrev persons : Forest
persons = set (bare_set (codes "person") (codes "name" ∷ codes "phone" ∷ [])) none none

-- one conversion, of two texts
abbrev offer : List Conversion
offer = record { name = codes "pair"; code = 7; arity = 2 } ∷ []

abbrev atom : Text → ℕ → List CellText → AtomText
atom name place cells = record { set = name; place = place; cells = cells }

abbrev named : Text → ℕ → CellText
named name place = Name name place

abbrev derived : Text → ℕ → List CellText → DerivedText
derived name place args = record { name = name; place = place; call = codes "pair"; call_place = 20; args = args }

abbrev rule : List CellText → List DerivedText → List CellText → RuleText
rule premise ds conclusion = record { premise = atom (codes "emp") 5 premise ∷ []; derived = ds; conclusion = atom (codes "person") 40 conclusion ∷ [] }

abbrev fault : RuleText → Option TextFault
fault r = rule_fault employees persons offer r

abbrev x : CellText
x = named (codes "x") 9

abbrev y : CellText
y = named (codes "y") 11

abbrev pair : List CellText → DerivedText
pair args = derived (codes "z") 16 args

-- variables by first appearance, the derived one after them, and the others existential
numbers :
    rule_of_text employees persons offer (rule (y ∷ x ∷ []) (pair (x ∷ y ∷ []) ∷ []) (named (codes "z") 47 ∷ named (codes "w") 49 ∷ []))
    ≡ record {
      premise = record { table = 0; cells = Var 0 ∷ Var 1 ∷ [] } ∷ [];
      derived = record { code = 7; args = 1 ∷ 0 ∷ [] } ∷ [];
      conclusion = record { table = 0; cells = Var 2 ∷ Ex 0 ∷ [] } ∷ [];
    }
numbers = refl

read : fault (rule (y ∷ x ∷ []) (pair (x ∷ y ∷ []) ∷ []) (named (codes "z") 47 ∷ Literal (codes "w") ∷ [])) ≡ None
read = refl

-- another number of cells is told at the set
wide_premise : fault (rule (x ∷ []) (pair (x ∷ []) ∷ []) []) ≡ Some (At 5 Width)
wide_premise = refl

wide_conclusion : fault (rule (x ∷ y ∷ []) [] (x ∷ [])) ≡ Some (At 40 Width)
wide_conclusion = refl

-- a derived name that is a variable, before all else of its conversion
known_name : fault (rule (x ∷ y ∷ []) (derived (codes "x") 16 [] ∷ []) []) ≡ Some (At 16 Unsafe)
known_name = refl

-- an argument that is no variable of the premise: another name, or an earlier derived one
unknown_argument : fault (rule (x ∷ y ∷ []) (pair (x ∷ named (codes "v") 27 ∷ []) ∷ []) []) ≡ Some (At 27 Unsafe)
unknown_argument = refl

derived_argument : fault (rule (x ∷ y ∷ []) (pair (x ∷ y ∷ []) ∷ derived (codes "v") 30 (x ∷ named (codes "z") 37 ∷ []) ∷ []) []) ≡ Some (At 37 Unsafe)
derived_argument = refl

-- the existential variables by first appearance, each once; a literal as it is
existentials : (rule_of_text employees persons offer (rule (x ∷ y ∷ []) [] (named (codes "w") 47 ∷ named (codes "v") 49 ∷ []))).conclusion ≡ record { table = 0; cells = Ex 0 ∷ Ex 1 ∷ [] } ∷ []
existentials = refl

one_existential : (rule_of_text employees persons offer (rule (x ∷ y ∷ []) [] (named (codes "w") 47 ∷ named (codes "w") 49 ∷ []))).conclusion ≡ record { table = 0; cells = Ex 0 ∷ Ex 0 ∷ [] } ∷ []
one_existential = refl

literal : (rule_of_text employees persons offer (rule (x ∷ y ∷ []) [] (Literal (codes "w") ∷ y ∷ []))).conclusion ≡ record { table = 0; cells = Lit (codes "w") ∷ Var 1 ∷ [] } ∷ []
literal = refl

-- derived variables in their order
two_derived :
    (rule_of_text employees persons offer (rule (x ∷ y ∷ []) (pair (x ∷ y ∷ []) ∷ derived (codes "v") 30 (y ∷ x ∷ []) ∷ []) (named (codes "v") 47 ∷ named (codes "z") 49 ∷ []))).conclusion
    ≡ record { table = 0; cells = Var 3 ∷ Var 2 ∷ [] } ∷ []
two_derived = refl

-- a set that isn't there, before its width
unknown_set : fault (record { premise = atom (codes "boss") 5 (x ∷ []) ∷ []; derived = []; conclusion = [] }) ≡ Some (At 5 UnknownName)
unknown_set = refl

-- a set of the source is none of the target
source_set : fault (record { premise = atom (codes "emp") 5 (x ∷ y ∷ []) ∷ []; derived = []; conclusion = atom (codes "emp") 40 (x ∷ y ∷ []) ∷ [] }) ≡ Some (At 40 UnknownName)
source_set = refl

-- a conversion that isn't listed, before its width
unknown_conversion : fault (rule (x ∷ y ∷ []) (record { name = codes "z"; place = 16; call = codes "trim"; call_place = 20; args = x ∷ [] } ∷ []) []) ≡ Some (At 20 UnknownName)
unknown_conversion = refl

-- another number of arguments, before the arguments
other_arity : fault (rule (x ∷ y ∷ []) (pair (named (codes "v") 27 ∷ []) ∷ []) []) ≡ Some (At 20 Width)
other_arity = refl

-- a literal as an argument is told at the conversion
literal_argument : fault (rule (x ∷ y ∷ []) (pair (x ∷ Literal (codes "t") ∷ []) ∷ []) []) ≡ Some (At 20 Unsafe)
literal_argument = refl

-- a name that is derived twice
derived_twice : fault (rule (x ∷ y ∷ []) (pair (x ∷ y ∷ []) ∷ derived (codes "z") 30 [] ∷ []) []) ≡ Some (At 30 Unsafe)
derived_twice = refl

-- of rules the first that is at fault
first_rule : rules_fault employees persons offer (rule (x ∷ y ∷ []) [] (x ∷ y ∷ []) ∷ rule (x ∷ y ∷ []) [] (x ∷ []) ∷ rule (x ∷ []) [] [] ∷ []) ≡ Some (At 40 Width)
first_rule = refl

-- ---- several atoms

-- persons, and boxes with their keepers
abbrev boxes : Forest
boxes = set (bare_set (codes "person") (codes "name" ∷ codes "phone" ∷ [])) none (set (bare_set (codes "box") (codes "keeper" ∷ codes "key" ∷ [])) none none)

abbrev v : CellText
v = named (codes "v") 20

abbrev w : CellText
w = named (codes "w") 47

abbrev u : CellText
u = named (codes "u") 49

abbrev bosses : RuleText
bosses = record {
  premise = atom (codes "emp") 5 (x ∷ y ∷ []) ∷ atom (codes "emp") 14 (y ∷ v ∷ []) ∷ [];
  derived = [];
  conclusion = atom (codes "box") 40 (v ∷ w ∷ []) ∷ atom (codes "person") 51 (w ∷ u ∷ []) ∷ [];
}

-- variables and existential variables are numbered through all atoms of their side, and a table has its set's number
numbered_through :
    rule_of_text employees boxes offer bosses ≡ record {
      premise = record { table = 0; cells = Var 0 ∷ Var 1 ∷ [] } ∷ record { table = 0; cells = Var 1 ∷ Var 2 ∷ [] } ∷ [];
      derived = [];
      conclusion = record { table = 1; cells = Var 2 ∷ Ex 0 ∷ [] } ∷ record { table = 0; cells = Ex 0 ∷ Ex 1 ∷ [] } ∷ [];
    }
numbered_through = refl

-- rules in their order
in_order :
    rules_of_texts employees boxes offer (bosses ∷ rule (x ∷ y ∷ []) [] (x ∷ y ∷ []) ∷ [])
    ≡ rule_of_text employees boxes offer bosses ∷ rule_of_text employees boxes offer (rule (x ∷ y ∷ []) [] (x ∷ y ∷ [])) ∷ []
in_order = refl

-- of atoms, of arguments and of derived variables the first that is at fault
first_atom : fault (record { premise = atom (codes "emp") 5 (x ∷ []) ∷ atom (codes "boss") 14 (x ∷ []) ∷ []; derived = []; conclusion = [] }) ≡ Some (At 5 Width)
first_atom = refl

first_argument : fault (rule (x ∷ y ∷ []) (pair (w ∷ v ∷ []) ∷ []) []) ≡ Some (At 47 Unsafe)
first_argument = refl

first_derived : fault (rule (x ∷ y ∷ []) (pair (x ∷ []) ∷ derived (codes "x") 30 [] ∷ []) []) ≡ Some (At 20 Width)
first_derived = refl

-- each cell counts, and each derived variable
size : size_of (rule (x ∷ x ∷ []) (pair (x ∷ x ∷ []) ∷ []) (x ∷ Literal (codes "w") ∷ w ∷ [])) ≡ 6
size = refl

-- a conversion of a rule is listed with as many arguments as it takes
other_arguments : ¬ AllOffered offer (record { premise = []; derived = record { code = 7; args = 0 ∷ [] } ∷ []; conclusion = [] })
other_arguments h = let l = h (record { code = 7; args = 0 ∷ [] }) (here refl) in takes_two l.0 l.1 l.3 where
  takes_two : (c : Conversion) → c ∈ offer → ¬ (c.arity ≡ 1)
  takes_two c m same = elim m [
    | here e ↦ let d : ◌≡◌ {A = ℕ} 2 1 = ap (λ (k : Conversion). k.arity) e ∙ same in omega (arith, d)
    | there n ↦ elim n [ ]
  ]

-- a literal in a premise is none of the grammar's
literal_in_a_premise : ¬ IsWholeRule (rule (Literal (codes "t") ∷ []) [] (x ∷ []))
literal_in_a_premise h = h.names (Literal (codes "t")) (here refl)
