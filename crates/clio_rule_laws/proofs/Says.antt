-- Which rule texts have the words of a printed rule.
use Rattle.std.proofs.Common.{◌≡◌, ℕ, suc, List, [], ◌∷◌, ◌++◌}
use Rattle.std.specs.Prelude.{codes, decimal}
use Rattle.dx_model.specs.declared.rules.Cell.{Cell}
use Rattle.dx_model.specs.declared.rules.Cell.TheVariants.{Var, Ex, Lit}
use Rattle.dx_model.specs.declared.rules.Atom.{Atom}
use Rattle.dx_model.specs.declared.rules.Derived.{Derived}
use Rattle.dx_model.specs.declared.rules.Rule.{Rule}
use Rattle.dx_model.specs.Rules.{after_cells, cells_of}
use Rattle.dx_schema.specs.Forest.{Forest}
use Rattle.dx_schema_text.specs.declared.texts.CellText.{CellText}
use Rattle.dx_schema_text.specs.declared.texts.CellText.TheVariants.{Name, Literal}
use Rattle.dx_schema_text.specs.declared.texts.AtomText.{AtomText}
use Rattle.dx_schema_text.specs.declared.texts.DerivedText.{DerivedText}
use Rattle.dx_schema_text.specs.declared.texts.RuleText.{RuleText}
use Rattle.dx_funcs.specs.declared.conversion.Conversion.{Conversion}
use Rattle.dx_funcs.specs.Names.{conversion_name}
use Rattle.dx_rule_text.specs.Printed.{table_name, variable_text}
use Rattle.dx_base.specs.Texts.{Text}

-- two lists of one length, whose members are related one by one
pub data Paired {A B : Type 0} (R : A → B → Type 0) : List A → List B → Type 0 where
  no_pair : Paired R [] []
  one_pair : {a : A} {xs : List A} {b : B} {ys : List B} → R a b → Paired R xs ys → Paired R (a ∷ xs) (b ∷ ys)

-- an existential variable: `y` and its number
abbrev pub existential_text : ℕ → Text
existential_text n = codes "y" ++ decimal n

-- the cell of a text has the word or the literal of a printed cell
abbrev pub SaysCell : Cell → CellText → Type 0
SaysCell (Var n) (Name x place) = x ≡ variable_text n
SaysCell (Var n) (Literal u) = ⊥
SaysCell (Ex n) (Name x place) = x ≡ existential_text n
SaysCell (Ex n) (Literal u) = ⊥
SaysCell (Lit t) (Name x place) = ⊥
SaysCell (Lit t) (Literal u) = u ≡ t

-- the cell of a text has the word of a variable
abbrev pub SaysVariable : ℕ → CellText → Type 0
SaysVariable n (Name x place) = x ≡ variable_text n
SaysVariable n (Literal u) = ⊥

pub record SaysAtom (name : ℕ → Text) (a : Atom) (x : AtomText) : Type 0 where
  pub set : x.set ≡ name a.table
  pub cells : Paired SaysCell a.cells x.cells

-- a derived variable with its number
pub record Counted : Type 0 where
  pub number : ℕ
  pub derived : Derived

-- derived variables, of which the first has number n
abbrev pub counted : ℕ → List Derived → List Counted
counted n [] = []
counted n (d ∷ ds) = record { number = n; derived = d } ∷ counted (suc n) ds

pub record SaysDerived (name : ℕ → Text) (d : Counted) (x : DerivedText) : Type 0 where
  pub variable : x.name ≡ variable_text d.number
  pub call : x.call ≡ name d.derived.code
  pub args : Paired SaysVariable d.derived.args x.args

pub record SaysRule (source target : Forest) (list : List Conversion) (d : Rule) (x : RuleText) : Type 0 where
  pub premise : Paired (SaysAtom (table_name source)) d.premise x.premise
  pub derived : Paired (SaysDerived (conversion_name list)) (counted (after_cells (cells_of d.premise)) d.derived) x.derived
  pub conclusion : Paired (SaysAtom (table_name target)) d.conclusion x.conclusion
