-- The match tables of steps, found one after the other as rows of numbers.
use Rattle.std.specs.Prelude.{◌≡◌, ℕ, ◌+◌, ◌∷◌, ◌++◌, [], List, MatchOption, Option, length, flat_map}
use Rattle.std.specs.List.{AllZip}
use Rattle.dx_base.specs.Members.{◌∈◌, Each}
use Rattle.dx_base.specs.Texts.{Text}
use Rattle.dx_model.specs.declared.facts.Fact.{Fact}
use Rattle.dx_model.specs.declared.values.Value.{Value}
use Rattle.dx_model.specs.Values.{Tuple}
use Rattle.dx_schema.specs.Names.{TableNames}
use Rattle.dx_funcs.specs.declared.conversion.Conversion.{Conversion}
use Rattle.dx_instance.specs.Cells.{NumberTable}
use Rattle.dx_instance.specs.Numbers.{ValuesDiffer, Extends}
use Rattle.dx_joins.specs.Shown.{MoreTuples, StandFor}
use Rattle.dx_tgd.specs.Texts.{tuples_in}
use Rattle.dx_script.specs.declared.form.Select.{Select}
use Rattle.dx_script.specs.declared.form.Equal.{Equal}
use Rattle.dx_script.specs.declared.form.Step.{Step}
use Rattle.dx_script.specs.declared.form.Step.TheVariants.{Create, MatchRows, KeepRows, InsertRows}
use Rattle.dx_script.specs.Fits.{MatchFits, SelectFits, EqualFits}
use Rattle.dx_script.specs.Names.{table_names}
use Rattle.dx_eval.specs.declared.fault.EvalFault.{EvalFault}
use Rattle.dx_eval.specs.declared.fault.EvalFault.TheVariants.{Limit, Memory}
use Rattle.dx_eval.specs.Evaluating.{ScriptPassesLimit, script_cells}
use Rattle.dx_eval.specs.Query.{IsSelected}

-- what a match step says of its table
pub record MatchStep : Type 0 where
  pub select : List Select
  pub sources : List Text
  pub equal : List Equal

abbrev pub matching_in : Step → List MatchStep
matching_in (Create table columns) = []
matching_in (MatchRows r select sources equal) = record { select = select; sources = sources; equal = equal } ∷ []
matching_in (KeepRows r unless) = []
matching_in (InsertRows table r kept cells) = []

-- what the match steps say, in order
abbrev pub matchings : List Step → List MatchStep
matchings steps = flat_map matching_in steps

-- a match step names tables of the source, and columns and conversions that are there
pub record MatchingFits (source : List TableNames) (list : List Conversion) (m : MatchStep) : Type 0 where
  pub sources_named : Each m.sources (λ name. name ∈ table_names source)
  pub selected : Each m.select (SelectFits source list m.sources)
  pub equal_cells : Each m.equal (EqualFits source m.sources)

-- each match step fits after the steps before it
abbrev pub MatchesFit : List TableNames → List Conversion → List Step → Type 0
MatchesFit source list steps =
    (before after : List Step) (r : ℕ) (select : List Select) (sources : List Text) (equal : List Equal)
    → steps ≡ before ++ MatchRows r select sources equal ∷ after → MatchFits source list before r select sources equal

-- the rows stand for exactly the tuples that a match step selects
abbrev pub IsFoundStep : List TableNames → (Text → Tuple → Text) → List Fact → List Value → MatchStep
    → NumberTable → Type 0
IsFoundStep source call I symbols m t =
    StandFor (length m.select) (IsSelected source call I m.select m.sources m.equal) symbols t

-- rows that stand for the tuples that a match step selects, or none if these are more than so many
abbrev pub IsFoundUpTo : ℕ → List TableNames → (Text → Tuple → Text) → List Fact → List Value
    → Option NumberTable → MatchStep → Type 0
IsFoundUpTo most source call I symbols rows m =
    MatchOption rows (MoreTuples most (IsSelected source call I m.select m.sources m.equal))
    (IsFoundStep source call I symbols m)

-- each match step has rows that stand for its tuples
abbrev pub AllStepsFound : List TableNames → (Text → Tuple → Text) → List Fact → List Value
    → List MatchStep → List NumberTable
    → Type 0
AllStepsFound source call I symbols ms tables = AllZip (IsFoundStep source call I symbols) ms tables

-- what is known of the steps before one of them: what is found of them, and what they leave of the limit
pub record FoundSoFar (source : List TableNames) (call : Text → Tuple → Text) (I : List Fact)
    (steps : List Step) (old symbols : List Value)
    (ms : List MatchStep) (tables : List NumberTable) (limit left : ℕ) : Type 0 where
  pub found : AllStepsFound source call I symbols ms tables
  pub grows : Extends old symbols
  pub apart : ValuesDiffer symbols
  pub cells : script_cells steps (tuples_in symbols tables) + left ≡ limit

-- the limit is refused if the script passes it; for want of memory there is no reason
abbrev pub IsEvalRefusal : List TableNames → (Text → Tuple → Text) → List Step → List Fact → ℕ → EvalFault → Type 0
IsEvalRefusal source call steps I limit Memory = Unit {0}
IsEvalRefusal source call steps I limit (Limit l) = ScriptPassesLimit source call steps I limit (Limit l)
