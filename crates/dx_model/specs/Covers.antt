-- Cell maps between rules, the rules before a rule, covered places, the uncovered part and the cover fold.
use Rattle.std.specs.Prelude.{◌≡◌, ℕ, zero, suc, ◌<◌, ◌⊎◌, Bool, true, false, not, cond, eqb, nat_lt, ◌&&◌, ◌||◌}
use Rattle.std.specs.Prelude.{Option, None, Some, List, [], ◌∷◌, ◌++◌, map, flat_map, length, take, slice_index_or}
use Rattle.std.specs.List.{filter, find, list_all}
use Rattle.std.specs.Str.{bytes_eq}
use Rattle.dx_base.specs.Members.{◌∈◌, Each}
use Rattle.dx_base.specs.Texts.{Text}
use Rattle.dx_model.specs.declared.values.NullId.{NullId}
use Rattle.dx_model.specs.declared.values.Value.{Value}
use Rattle.dx_model.specs.declared.values.Value.TheVariants.{Const, Null}
use Rattle.dx_model.specs.declared.facts.Fact.{Fact}
use Rattle.dx_model.specs.declared.rules.Cell.{Cell}
use Rattle.dx_model.specs.declared.rules.Cell.TheVariants.{Var, Ex, Lit}
use Rattle.dx_model.specs.declared.rules.Atom.{Atom}
use Rattle.dx_model.specs.declared.rules.Rule.{Rule}
use Rattle.dx_model.specs.declared.covers.Meeting.{Meeting}
use Rattle.dx_model.specs.declared.covers.CellMap.{CellMap}
use Rattle.dx_model.specs.declared.covers.Cover.{Cover}
use Rattle.dx_model.specs.Instances.{same_null}
use Rattle.dx_model.specs.Rules.{cell_value, cells_of, exported, text_of, at_place}
use Rattle.dx_model.specs.Values.{Tuple, Rows}

-- the cell that a list of images gives for a variable of a list
abbrev pub image_of : List ℕ → List Cell → ℕ → Cell
image_of [] cs x = Ex 0
image_of (y ∷ ys) [] x = Ex 0
image_of (y ∷ ys) (c ∷ cs) x = cond (eqb x y) c (image_of ys cs x)

-- what a cell of rule i becomes under a cell map
abbrev pub cell_under : Rule → CellMap → Cell → Cell
cell_under i m (Var x) = image_of (exported i) m.exported x
cell_under i m (Ex v) = slice_index_or m.existential v (Ex 0)
cell_under i m (Lit t) = Lit t

-- a variable or a literal, and no existential variable
abbrev pub IsNoExistential : Cell → Type 0
IsNoExistential c = ((y : ℕ) × (c ≡ Var y)) ⊎ ((t : Text) × (c ≡ Lit t))

-- g makes each atom of i's conclusion one of j's, keeps literals, and makes exported variables variables or literals
pub record Carries (g : Cell → Cell) (i j : Rule) : Type 0 where
  pub literal : (t : Text) → g (Lit t) ≡ Lit t
  pub known : (x : ℕ) → Var x ∈ cells_of i.conclusion → IsNoExistential (g (Var x))
  pub atoms : (a : Atom) → a ∈ i.conclusion → record { table = a.table; cells = map g a.cells } ∈ j.conclusion

-- m is a cell map from rule i to rule j
abbrev pub IsCellMap : Rule → Rule → CellMap → Type 0
IsCellMap i j m = Carries (cell_under i m) i j

-- the atoms of the conclusion have the widths of their tables
abbrev pub HasWidths : (ℕ → ℕ) → Rule → Type 0
HasWidths width d = Each d.conclusion (λ a. length a.cells ≡ width a.table)

-- whether two cells are equal
abbrev pub same_cell : Cell → Cell → Bool
same_cell (Var x) (Var y) = eqb x y
same_cell (Ex v) (Ex w) = eqb v w
same_cell (Lit t) (Lit u) = bytes_eq t u
same_cell _ _ = false

-- whether two rows of cells are equal
abbrev pub same_cells : List Cell → List Cell → Bool
same_cells [] [] = true
same_cells (c ∷ cs) (e ∷ es) = same_cell c e && same_cells cs es
same_cells _ _ = false

-- the cells of two rows meet in the same columns
abbrev pub meet : List Cell → List Cell → List Meeting
meet [] es = []
meet (c ∷ cs) [] = []
meet (c ∷ cs) (e ∷ es) = record { cell = c; met = e } ∷ meet cs es

-- the cells of these atoms meet those of the chosen ones
abbrev pub meetings : List Atom → List Atom → List Meeting
meetings [] bs = []
meetings (a ∷ atoms) [] = []
meetings (a ∷ atoms) (b ∷ bs) = meet a.cells b.cells ++ meetings atoms bs

-- all ways to choose for each atom one of the others with the same table,
-- in the order of the numbers of the chosen ones
abbrev pub choices : List Atom → List Atom → List (List Atom)
choices [] others = [] ∷ []
choices (a ∷ atoms) others =
    flat_map (λ (b : Atom). map (λ bs. b ∷ bs) (choices atoms others))
    (filter (λ (b : Atom). eqb a.table b.table) others)

-- the cell that a cell meets first
abbrev pub first_met : Cell → List Meeting → Cell
first_met c [] = c
first_met c (m ∷ ms) = cond (same_cell c m.cell) m.met (first_met c ms)

-- an exported variable meets a variable or a literal, and a literal itself
abbrev pub may_meet : Cell → Cell → Bool
may_meet (Var x) (Var y) = true
may_meet (Var x) (Ex v) = false
may_meet (Var x) (Lit t) = true
may_meet (Ex v) e = true
may_meet (Lit t) e = same_cell (Lit t) e

-- each cell may meet what it meets, and meets the same wherever it stands
abbrev pub is_cell_map : List Meeting → Bool
is_cell_map ms = list_all (λ (m : Meeting). same_cell (first_met m.cell ms) m.met && may_meet m.cell m.met) ms

-- the number of existential variables: one more than the greatest
abbrev pub after_existential : List Cell → ℕ
after_existential [] = 0
after_existential (Var x ∷ cs) = after_existential cs
after_existential (Ex v ∷ cs) = cond (nat_lt v (after_existential cs)) (after_existential cs) (suc v)
after_existential (Lit t ∷ cs) = after_existential cs

-- the numbers below n, ascending
abbrev pub below : ℕ → List ℕ
below zero = []
below (suc n) = below n ++ n ∷ []

-- the cell map that takes each variable of rule i to what it meets
abbrev pub map_of : Rule → List Meeting → CellMap
map_of i ms = record {
  exported = map (λ x. first_met (Var x) ms) (exported i);
  existential = map (λ v. first_met (Ex v) ms) (below (after_existential (cells_of i.conclusion)));
}

-- the cell maps from rule i to rule j, in the order of the chosen atoms
abbrev pub cell_maps : Rule → Rule → List CellMap
cell_maps i j = map (map_of i) (filter is_cell_map (map (meetings i.conclusion) (choices i.conclusion j.conclusion)))

-- the list without each map that agrees on the exported variables with an earlier one
abbrev pub apart : List CellMap → List CellMap
apart [] = []
apart (m ∷ ms) = m ∷ filter (λ (k : CellMap). not (same_cells m.exported k.exported)) (apart ms)

-- the first 16 of the rest
abbrev pub used_maps : Rule → Rule → List CellMap
used_maps i j = take 16 (apart (cell_maps i j))

-- whether the list has a member
abbrev pub is_some : {X : Type 0} → List X → Bool
is_some [] = false
is_some (x ∷ xs) = true

-- whether a cell map leads from rule i to rule j
abbrev pub has_map : Rule → Rule → Bool
has_map i j = is_some (cell_maps i j)

-- the rule with a number
abbrev pub rule_at : List Rule → ℕ → Rule
rule_at R i = slice_index_or R i (record { premise = []; derived = []; conclusion = [] })

-- the tuple of rule i at place k
abbrev pub tuple_at : Rows → ℕ → ℕ → Tuple
tuple_at rows i k = slice_index_or (slice_index_or rows i []) k []

-- rule j is before rule i: a cell map leads from i to j, and none back or j is less
abbrev pub before : List Rule → ℕ → ℕ → Bool
before R j i = has_map (rule_at R i) (rule_at R j) && (not (has_map (rule_at R j) (rule_at R i)) || nat_lt j i)

-- how many of the rules below n are before rule i
abbrev pub count_before : List Rule → ℕ → ℕ → ℕ
count_before R i zero = 0
count_before R i (suc n) = cond (before R n i) (suc (count_before R i n)) (count_before R i n)

-- how many rules are before rule i
abbrev pub rank : List Rule → ℕ → ℕ
rank R i = count_before R i (length R)

-- what a cell of rule j is at place l
abbrev pub cell_value_at : List Rule → Rows → ℕ → ℕ → Cell → Value
cell_value_at R rows j l =
    cell_value (text_of (exported (rule_at R j)) (tuple_at rows j l))
    (λ v. Null (record { rule = j; var = v; row = l }))

-- k is a place of rule i
abbrev pub IsPlace : List Rule → Rows → ℕ → ℕ → Type 0
IsPlace R rows i k = (i < length R) × (i < length rows) × (k < length (slice_index_or rows i []))

-- the fact that an atom of rule i says at place k
abbrev pub said_at : List Rule → Rows → ℕ → ℕ → Atom → Fact
said_at R rows i k a = record { table = a.table; row = map (cell_value_at R rows i k) a.cells }

-- f is what some atom of rule i's conclusion says at place k
abbrev pub SaysAt : List Rule → Rows → ℕ → ℕ → Fact → Type 0
SaysAt R rows i k f = (a : Atom) × (a ∈ (rule_at R i).conclusion) × (said_at R rows i k a ≡ f)

-- the value that c's cell map gives, at c's place, for a cell of rule i
abbrev pub value_under : List Rule → Rows → ℕ → Cover → Cell → Value
value_under R rows i c e = cell_value_at R rows c.rule c.row (cell_under (rule_at R i) c.cells e)

-- under c's cell map the exported variables have the values that they have at place k of rule i
abbrev pub SameExported : List Rule → Rows → ℕ → ℕ → Cover → Type 0
SameExported R rows i k c =
    Each (exported (rule_at R i)) (λ x. cell_value_at R rows i k (Var x) ≡ value_under R rows i c (Var x))

-- c covers place k of rule i: a cell map under which the exported variables have the same values
pub record Covers (R : List Rule) (rows : Rows) (i k : ℕ) (c : Cover) : Type 0 where
  pub cell_map : IsCellMap (rule_at R i) (rule_at R c.rule) c.cells
  pub same : SameExported R rows i k c
  pub place : IsPlace R rows c.rule c.row

-- the covers are good, and lead to rules of lower rank
abbrev pub CoversFall : List Rule → Rows → (ℕ → ℕ → Option Cover) → (ℕ → ℕ) → Type 0
CoversFall R rows cover rank = (i k : ℕ) (c : Cover) → cover i k ≡ Some c → Covers R rows i k c × (rank c.rule < rank i)

-- whether two values are equal
abbrev pub same_value : Value → Value → Bool
same_value (Const t) (Const u) = bytes_eq t u
same_value (Null m) (Null n) = same_null m n
same_value _ _ = false

-- the places of rule j, with a cell map to it
abbrev pub places_by : Rows → ℕ → CellMap → List Cover
places_by rows j m = map (λ l. record { rule = j; cells = m; row = l }) (below (length (slice_index_or rows j [])))

-- each rule before rule i with a used map and a place, by rule, then map, then place
abbrev pub cover_choices : List Rule → Rows → ℕ → List Cover
cover_choices R rows i =
    flat_map (λ j. flat_map (places_by rows j) (used_maps (rule_at R i) (rule_at R j)))
    (filter (λ j. before R j i) (below (length R)))

-- the test of SameExported
abbrev pub agrees : List Rule → Rows → ℕ → ℕ → Cover → Bool
agrees R rows i k c =
    list_all (λ x. same_value (cell_value_at R rows i k (Var x)) (value_under R rows i c (Var x)))
    (exported (rule_at R i))

-- the least cover of place k of rule i
abbrev pub least_cover : List Rule → Rows → ℕ → ℕ → Option Cover
least_cover R rows i k = find (agrees R rows i k) (cover_choices R rows i)

-- the facts of those of rule i's places from k on that nothing covers
abbrev pub uncovered_places : (ℕ → ℕ → Option Cover) → ℕ → Rule → ℕ → List Tuple → List Fact
uncovered_places cover i d k [] = []
uncovered_places cover i d k (t ∷ ts) =
    elim (cover i k) [ None ↦ at_place i d k t | Some c ↦ [] ] ++ uncovered_places cover i d (suc k) ts

-- the uncovered part of the canonical instance of the rules from number i on
abbrev pub uncovered : (ℕ → ℕ → Option Cover) → ℕ → List Rule → Rows → List Fact
uncovered cover i [] rows = []
uncovered cover i (d ∷ R) [] = []
uncovered cover i (d ∷ R) (ts ∷ rows) = uncovered_places cover i d 0 ts ++ uncovered cover (suc i) R rows

-- the cover fold: a null of a covered place goes where the value goes that its cell map gives, at most n times
abbrev pub folded : List Rule → Rows → (ℕ → ℕ → Option Cover) → ℕ → NullId → Value
folded R rows cover zero n = Null n
folded R rows cover (suc m) n = elim (cover n.rule n.row) [
  | None ↦ Null n
  | Some c ↦ elim (value_under R rows n.rule c (Ex n.var)) [ Const t ↦ Const t | Null k ↦ folded R rows cover m k ]
]

-- ---- with least covers

-- the uncovered part of the canonical instance
abbrev pub uncovered_part : List Rule → Rows → List Fact
uncovered_part R rows = uncovered (least_cover R rows) 0 R rows

-- whether the null is that of an existential variable of a rule, at one of its places
abbrev pub is_of_place : List Rule → Rows → NullId → Bool
is_of_place R rows n =
    nat_lt n.rule (length R) && (nat_lt n.rule (length rows)
    && (nat_lt n.row (length (slice_index_or rows n.rule []))
    && nat_lt n.var (after_existential (cells_of (rule_at R n.rule).conclusion))))

-- the cover fold: it folds the nulls of places, and all others stay
abbrev pub cover_fold : List Rule → Rows → NullId → Value
cover_fold R rows n = cond (is_of_place R rows n) (folded R rows (least_cover R rows) (suc (length R)) n) (Null n)
