-- The least covers of places, by numbers.
use Rattle.std.specs.Prelude.{◌≡◌, ℕ, ◌<◌, ◌^◌, Option, None, List, [], map, length, nat_eq, slice_index_or}
use Rattle.std.specs.Option.{option_map, option_or}
use Rattle.std.specs.List.{AllZip, find}
use Rattle.std.specs.Cmp.Lexicographic.{pointwise}
use Rattle.std.specs.Map.{lookup}
use Rattle.smallvec.specs.SmallVec.{SmallVec}
use Rattle.dx_model.specs.declared.values.Value.{Value}
use Rattle.dx_model.specs.declared.values.Value.TheVariants.{Null}
use Rattle.dx_model.specs.declared.rules.Cell.{Cell}
use Rattle.dx_model.specs.declared.rules.Cell.TheVariants.{Var}
use Rattle.dx_model.specs.declared.rules.Rule.{Rule}
use Rattle.dx_model.specs.declared.covers.CellMap.{CellMap}
use Rattle.dx_model.specs.declared.covers.Cover.{Cover}
use Rattle.dx_model.specs.Rules.{cell_value, exported, text_of}
use Rattle.dx_model.specs.Values.{Rows, Tuple}
use Rattle.dx_model.specs.Covers.{agrees, below, image_of, least_cover, rule_at, used_maps, cell_value_at}
use Rattle.dx_instance.specs.Cells.{NumberTable, numbers_at}
use Rattle.dx_instance.specs.Shown.{NumberedInstance, numbers_of_table}
use Rattle.dx_cover.specs.Covering.{covers_of}
use Rattle.dx_cover_fold.specs.declared.found.Found.{Found}
use Rattle.dx_cover_fold.specs.declared.index.Index.{Index}
use Rattle.dx_cover_fold.specs.declared.number_at.NumberAt.{NumberAt}
use Rattle.dx_cover_fold.specs.Codes.{IsPlanned, numbers_by}
use Rattle.dx_cover_fold.specs.Matched.{matched_tuples}

-- the row that cells say, with the texts of the variables, at a place of a rule
abbrev pub row_said : List ℕ → Tuple → ℕ → ℕ → List Cell → List Value
row_said variables t rule row cells =
    map (cell_value (text_of variables t) (λ v. Null (record { rule = rule; var = v; row = row }))) cells

-- the images of a rule's exported variables under a cell map
abbrev pub images_by : Rule → CellMap → List Cell
images_by d m = map (image_of (exported d) m.exported) (exported d)

-- a rule's exported variables as cells
abbrev pub variable_cells : Rule → List Cell
variable_cells d = map Var (exported d)

-- the first place that an index has for these numbers
abbrev pub first_row_of : Index → List ℕ → Option ℕ
first_row_of index q = lookup (λ (e : SmallVec ℕ). pointwise nat_eq q e.items) index.places.entries

-- the index has for each list of numbers the first row of which the plan tells them
abbrev pub Indexes : List (List ℕ) → List NumberAt → Index → Type 0
Indexes rows plan index =
    (q : List ℕ) → first_row_of index q
    ≡ find (λ l. pointwise nat_eq q (numbers_by plan (numbers_at rows l))) (below (length rows))

-- the same for what cells say, with the texts of the variables in the rows of a table
pub record IndexesCells (symbols : List Value) (table : NumberTable) (variables : List ℕ)
    (cells : List Cell) (index : Index) : Type 0 where
  pub plan : List NumberAt
  pub planned : AllZip (IsPlanned symbols variables table.width) cells plan
  pub indexes : Indexes table.rows plan index

-- the images of nothing
abbrev pub no_map : CellMap
no_map = record { exported = []; existential = [] }

-- a cover of a place of rule i
abbrev pub cover_of : List Rule → ℕ → Found → Cover
cover_of R i f =
    record {
      rule = f.rule;
      cells =
          slice_index_or (used_maps (rule_at R i) (rule_at R f.rule)) f.map no_map;
      row = f.row;
    }

-- for each place of rule i the first of these choices that covers it
abbrev pub FindsAmong : List Rule → Rows → ℕ → List Cover → List (Option Found) → Type 0
FindsAmong R rows i choices found =
    (k : ℕ) → k < length found → option_map (cover_of R i) (slice_index_or found k None)
    ≡ find (agrees R rows i k) choices

-- the values that the exported variables of rule i have at its places
abbrev pub own_rows : List Rule → Rows → ℕ → ℕ → List Value
own_rows R rows i k = map (λ x. cell_value_at R rows i k (Var x)) (exported (rule_at R i))

-- the plan of the exported variables of rule i
abbrev pub OwnNumbers : List Rule → NumberedInstance → ℕ → List NumberAt → Type 0
OwnNumbers R m i own =
    AllZip (IsPlanned m.symbols (exported (rule_at R i)) (numbers_of_table m.tables i).width)
    (variable_cells (rule_at R i)) own

-- the covers are those between the rules, which can be counted, and each rule has a table of matches
pub record CoversOfRules (R : List Rule) (maps : List (List (List CellMap))) (m : NumberedInstance) : Type 0 where
  pub covers : maps ≡ covers_of R
  pub few : length R < 2 ^ 32
  pub one : length m.tables ≡ length R

-- the plan is that of the exported variables of rule i, and something or nothing is known of each of its places
pub record IsBegun (R : List Rule) (m : NumberedInstance) (i : ℕ) (plan : List NumberAt)
    (known : List (Option Found)) : Type 0 where
  pub own : OwnNumbers R m i plan
  pub many : length known ≡ length (slice_index_or (matched_tuples m) i [])

-- what is known of a place, or else what the index gives for the numbers of its row
abbrev pub or_first : ℕ → ℕ → Index → List NumberAt → Option Found → List ℕ → Option Found
or_first rule map index own known row =
    option_or known (option_map (λ l. record { rule = rule; map = map; row = l })
    (first_row_of index (numbers_by own row)))

-- the same for each of the first places
pub record LeastOfFirsts (rule map : ℕ) (index : Index) (rows : List (List ℕ)) (own : List NumberAt)
    (known found : List (Option Found)) (n : ℕ) : Type 0 where
  pub many : length found ≡ n
  pub each : (k : ℕ) → k < n → slice_index_or found k None
      ≡ or_first rule map index own (slice_index_or known k None) (numbers_at rows k)

-- for each place of rule i its least cover
pub record LeastCovers (R : List Rule) (rows : Rows) (i : ℕ) (found : List (Option Found)) : Type 0 where
  pub many : length found ≡ length (slice_index_or rows i [])
  pub each : (k : ℕ) → k < length found
      → option_map (cover_of R i) (slice_index_or found k None) ≡ least_cover R rows i k

-- for each of the first rules the least covers of its places
pub record AllLeast (R : List Rule) (rows : Rows) (found : List (List (Option Found))) (n : ℕ) : Type 0 where
  pub many : length found ≡ n
  pub each : (i : ℕ) → i < n → LeastCovers R rows i (slice_index_or found i [])
