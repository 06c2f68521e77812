-- The laws of the book. Each is the clause of a public function with an empty body.
use Rattle.std.specs.Prelude.{◌≡◌, ◌↔◌, ℕ, suc, ◌<◌, ◌≤◌, ◌⊎◌, true, length}
use Rattle.std.specs.Prelude.{Option, None, Some, List, [], ◌∷◌, ◌++◌, map}
use Rattle.dx_base.specs.Members.{◌∈◌, ◌⊆◌, ◌≈◌, Each}
use Rattle.dx_base.specs.Texts.{Text}
use Rattle.dx_model.specs.declared.values.NullId.{NullId}
use Rattle.dx_model.specs.declared.values.Value.{Value}
use Rattle.dx_model.specs.declared.values.Value.TheVariants.{Null}
use Rattle.dx_model.specs.declared.facts.Fact.{Fact}
use Rattle.dx_model.specs.declared.facts.NullPair.{NullPair}
use Rattle.dx_model.specs.declared.rules.Atom.{Atom}
use Rattle.dx_model.specs.declared.rules.Rule.{Rule}
use Rattle.dx_model.specs.Tables.{Determination, Table, table_of, IsInstance, KeysHold, LinksHold, IsKeyed}
use Rattle.dx_model.specs.declared.rules.Cell.{Cell}
use Rattle.dx_model.specs.declared.rules.Cell.TheVariants.{Var}
use Rattle.dx_model.specs.declared.covers.CellMap.{CellMap}
use Rattle.dx_model.specs.declared.covers.Cover.{Cover}
use Rattle.dx_model.specs.Instances.{HoldsConstants, MapsInto, IsHomomorphism, IsCore, Moves}
use Rattle.dx_model.specs.Instances.{moved, fact_moved, fact_both, given, image, values}
use Rattle.dx_model.specs.Chase.{ForcedEqual, IsForcedMap, IsKeyStep, IsClashAt, NoneReceives, after, AreSteps}
use Rattle.dx_model.specs.Solutions.{AtomFits, IsSolution, IsUniversal, IsClosed}
use Rattle.dx_model.specs.Rules.{cells_of, exported, Increase, fact_of_atom, IsMatch, IsRows}
use Rattle.dx_model.specs.Rules.{Satisfies, PlacesSatisfied, KeepsLiterals, AreRows, canonical}
use Rattle.dx_model.specs.Covers.{SaysAt, HasWidths, IsCellMap, Carries, cell_maps, used_maps}
use Rattle.dx_model.specs.Covers.{has_map, before, rank, rule_at, IsPlace, SameExported, CoversFall}
use Rattle.dx_model.specs.Covers.{uncovered, folded, uncovered_part, cover_fold, least_cover}
use Rattle.dx_model.specs.Blocks.{IsBlock, IsClosedPart, Spares, IsNeeded, IsEquivalentPart, IsWithout}
use Rattle.dx_model.specs.Following.{SatisfyAll, Follows, Implies, IsPruned, frozen, CanBeFrozen, frozen_text, IsClean}
use Rattle.dx_model.specs.Fitting.{IsRule, RuleFits, AtomFitsWidths, AtomsFitWidths, AgreeInWidths, conclusions_of}
use Rattle.dx_model.specs.Values.{Tuple, Rows, Conversions, FactsAscend}

-- the exported variables ascend, and are exactly those that stand in the conclusion
abbrev pub ExportedExactly : Type 0
ExportedExactly = (d : Rule) → Increase (exported d) × ((x : ℕ) → (x ∈ exported d) ↔ (Var x ∈ cells_of d.conclusion))

-- if r makes each match in I one in J, the canonical instance of I goes by r and a map of its nulls into each K that
-- satisfies the rules with J
abbrev pub CanonicalMovesInto : Type 0
CanonicalMovesInto =
    (convert : Conversions) (R : List Rule) (I J K : List Fact) (rows : Rows) (r : Text → Text)
    → AreRows convert R I rows → Each R (KeepsLiterals r)
    → Each R (λ d. (texts : ℕ → Text) → IsMatch convert d I texts → IsMatch convert d J (λ x. r (texts x)))
    → Each R (λ d. Satisfies convert d J K)
    → (g : NullId → Value) × ((f : Fact) → f ∈ canonical 0 R rows → fact_both r g f ∈ K)

-- the canonical instance maps into each instance that satisfies the rules
abbrev pub CanonicalMapsInto : Type 0
CanonicalMapsInto =
    (convert : Conversions) (R : List Rule) (I K : List Fact) (rows : Rows)
    → AreRows convert R I rows → Each R (λ d. Satisfies convert d I K) → MapsInto (canonical 0 R rows) K

-- the canonical instance satisfies its rules
abbrev pub CanonicalSatisfies : Type 0
CanonicalSatisfies =
    (convert : Conversions) (R : List Rule) (I : List Fact) (rows : Rows) → AreRows convert R I rows
    → SatisfyAll convert R I (canonical 0 R rows)

-- an instance that has all of one that satisfies rules satisfies them
abbrev pub MoreSatisfies : Type 0
MoreSatisfies =
    (convert : Conversions) (R : List Rule) (I A B : List Fact) → A ⊆ B → SatisfyAll convert R I A
    → SatisfyAll convert R I B

-- a key step makes equal what is forced equal
abbrev pub StepsAreForced : Type 0
StepsAreForced =
    (schema : List Table) (A : List Fact) (p : NullPair)
    → IsKeyStep schema A p → ForcedEqual schema A (Null p.null) p.value

-- nothing in which keys hold receives an instance with a clash
abbrev pub ClashMeansNone : Type 0
ClashMeansNone =
    (schema : List Table) (A : List Fact) (a b : Fact) (d : Determination) (c : ℕ)
    → IsClashAt schema A a b d c → NoneReceives schema A

-- nothing in which keys hold receives an instance that has a clash after key steps
abbrev pub ClashAfterSteps : Type 0
ClashAfterSteps =
    (schema : List Table) (A : List Fact) (steps : List NullPair) (a b : Fact) (d : Determination) (c : ℕ)
    → AreSteps schema A steps → IsClashAt schema (after steps A) a b d c → NoneReceives schema A

-- what is forced equal after a map to forced values was forced equal before
abbrev pub ForcedBefore : Type 0
ForcedBefore =
    (schema : List Table) (A : List Fact) (m : List NullPair) (x y : Value)
    → Each m (λ p. ForcedEqual schema A (Null p.null) p.value)
    → ForcedEqual schema (image m A) x y → ForcedEqual schema A x y

-- a homomorphism into an instance in which keys hold is one from the image under the forced map
abbrev pub FactorsThroughForced : Type 0
FactorsThroughForced =
    (schema : List Table) (A K : List Fact) (m g : List NullPair)
    → IsForcedMap schema A m → IsKeyed schema K → IsHomomorphism g A K → IsHomomorphism g (image m A) K

-- there is at most one forced map
abbrev pub ForcedMapIsOne : Type 0
ForcedMapIsOne =
    (schema : List Table) (A : List Fact) (m k : List NullPair) → IsForcedMap schema A m → IsForcedMap schema A k
    → (n : NullId) → Null n ∈ values A → given m n ≡ given k n

-- the canonical instance of closed rules is an instance in which links hold
abbrev pub CanonicalFits : Type 0
CanonicalFits =
    (schema : List Table) (R : List Rule) (rows : Rows) → Each R (IsClosed schema)
    → IsInstance schema (canonical 0 R rows) × LinksHold schema (canonical 0 R rows)

-- the image of the canonical instance of closed rules under its forced map is universal, if keys hold in it
abbrev pub ChasedIsUniversal : Type 0
ChasedIsUniversal =
    (convert : Conversions) (R : List Rule) (schema : List Table) (I : List Fact) (rows : Rows) (m : List NullPair)
    → AreRows convert R I rows → Each R (IsClosed schema) → IsForcedMap schema (canonical 0 R rows) m
    → KeysHold schema (image m (canonical 0 R rows))
    → IsUniversal convert R schema I (image m (canonical 0 R rows))

-- if covers lead to rules of lower rank, the cover fold makes exactly the uncovered part of the canonical instance
abbrev pub FoldsOntoUncovered : Type 0
FoldsOntoUncovered =
    (R : List Rule) (rows : Rows) (cover : ℕ → ℕ → Option Cover) (rank : ℕ → ℕ) (n : ℕ)
    → CoversFall R rows cover rank → ((i : ℕ) → rank i < n)
    → map (fact_moved (folded R rows cover n)) (canonical 0 R rows) ≈ uncovered cover 0 R rows

-- each listed cell map is one
abbrev pub MapsCarry : Type 0
MapsCarry =
    (width : ℕ → ℕ) (i j : Rule) (m : CellMap) → HasWidths width i → HasWidths width j
    → m ∈ cell_maps i j → IsCellMap i j m

-- a cell map leads from i to j exactly if something carries the atoms of i to those of j
abbrev pub MapExactly : Type 0
MapExactly =
    (width : ℕ → ℕ) (i j : Rule) → HasWidths width i → HasWidths width j
    → (has_map i j ≡ true) ↔ ((g : Cell → Cell) × Carries g i j)

-- cell maps follow one another
abbrev pub MapsCompose : Type 0
MapsCompose =
    (width : ℕ → ℕ) (i j k : Rule) → HasWidths width i → HasWidths width j → HasWidths width k
    → has_map i j ≡ true → has_map j k ≡ true → has_map i k ≡ true

-- no rule is before itself, and what is before a rule before another is before that one
abbrev pub BeforeIsOrder : Type 0
BeforeIsOrder =
    (width : ℕ → ℕ) (R : List Rule) → Each R (HasWidths width)
    → ((i : ℕ) → ¬ (before R i i ≡ true))
    × ((i j k : ℕ) → before R i j ≡ true → before R j k ≡ true → before R i k ≡ true)

-- each least cover is a cover, and leads to a rule of lower rank
abbrev pub LeastCoversFall : Type 0
LeastCoversFall =
    (width : ℕ → ℕ) (R : List Rule) (rows : Rows) → Each R (HasWidths width) → length rows ≡ length R
    → CoversFall R rows (least_cover R rows) (rank R) × ((i : ℕ) → rank R i < suc (length R))

-- a place has no least cover exactly if no rule before its own has a used map and a place that cover it
abbrev pub NoneExactly : Type 0
NoneExactly =
    (R : List Rule) (rows : Rows) (i k : ℕ) → length rows ≡ length R
    → (least_cover R rows i k ≡ None)
    ↔ ((c : Cover) → before R c.rule i ≡ true → c.cells ∈ used_maps (rule_at R i) (rule_at R c.rule)
    → IsPlace R rows c.rule c.row → ¬ (SameExported R rows i k c))

-- with least covers the cover fold makes exactly the uncovered part of the canonical instance
abbrev pub CoverFoldUncovers : Type 0
CoverFoldUncovers =
    (width : ℕ → ℕ) (R : List Rule) (rows : Rows) → Each R (HasWidths width) → length rows ≡ length R
    → map (fact_moved (cover_fold R rows)) (canonical 0 R rows) ≈ uncovered_part R rows

-- of closed rules, if keys hold in the image of the canonical instance under its forced map: a solution is universal
-- exactly if it maps into that image
abbrev pub UniversalExactly : Type 0
UniversalExactly =
    (convert : Conversions) (R : List Rule) (schema : List Table) (I K : List Fact) (rows : Rows) (m : List NullPair)
    → AreRows convert R I rows → Each R (IsClosed schema)
    → IsForcedMap schema (canonical 0 R rows) m → KeysHold schema (image m (canonical 0 R rows))
    → IsSolution convert R schema I K
    → IsUniversal convert R schema I K ↔ MapsInto K (image m (canonical 0 R rows))

-- what is left of the uncovered part of closed rules after its forced map and an endomorphism,
-- whose image it is, is universal, if keys hold
abbrev pub ReducedIsUniversal : Type 0
ReducedIsUniversal =
    (convert : Conversions) (R : List Rule) (schema : List Table) (I T : List Fact) (rows : Rows)
    (cover : ℕ → ℕ → Option Cover) (rank : ℕ → ℕ) (bound : ℕ) (m r : List NullPair)
    → AreRows convert R I rows → Each R (IsClosed schema) → CoversFall R rows cover rank → ((i : ℕ) → rank i < bound)
    → IsForcedMap schema (uncovered cover 0 R rows) m → KeysHold schema (image m (uncovered cover 0 R rows))
    → T ⊆ image m (uncovered cover 0 R rows)
    → image r (image m (uncovered cover 0 R rows)) ⊆ T → T ⊆ image r (image m (uncovered cover 0 R rows))
    → IsUniversal convert R schema I T

-- a block is a closed part
abbrev pub BlockIsClosed : Type 0
BlockIsClosed = (A F : List Fact) (n : NullId) → IsBlock A n F → IsClosedPart A F

-- an instance each of whose facts is needed is a core
abbrev pub CoreOfNeeded : Type 0
CoreOfNeeded = (A : List Fact) → ((f : Fact) → f ∈ A → IsNeeded A f) → IsCore A

-- what no part's map leaves out is needed
abbrev pub PartTells : Type 0
PartTells = (A F : List Fact) (f : Fact) → F ⊆ A → ¬ (Spares F A f) → IsNeeded A f

-- what its block's map leaves out, an endomorphism leaves out that moves the block's nulls alone
abbrev pub BlockServes : Type 0
BlockServes =
    (A F : List Fact) (f : Fact) → IsClosedPart A F → f ∈ F → (s : Spares F A f)
    → (g : NullId → Value) × Moves g A A × ((e : Fact) → e ∈ A → ¬ (fact_moved g e ≡ f))
    × ((n : NullId) → ((e : Fact) → e ∈ F → ¬ (Null n ∈ e.row)) → g n ≡ Null n)

-- what is needed is needed in each reduct
abbrev pub NeededStays : Type 0
NeededStays = (A T : List Fact) (f : Fact) → IsEquivalentPart A T → IsNeeded A f → IsNeeded T f

-- what can be left out can be taken out
abbrev pub SpareOne : Type 0
SpareOne = (A B T : List Fact) (f : Fact) → IsEquivalentPart A B → Spares B B f → IsWithout B f T → IsEquivalentPart A T

-- the image of each homomorphism into a part that is a core is that part
abbrev pub OntoCore : Type 0
OntoCore = (A T : List Fact) (h : List NullPair) → T ⊆ A → IsCore T → IsHomomorphism h A T → T ⊆ image h A

-- what a closed part's map into a reduct leaves out can be taken out of it
abbrev pub TakeOut : Type 0
TakeOut =
    (A T B F : List Fact) (f : Fact) → IsEquivalentPart A T → IsClosedPart A F
    → f ∈ F → Spares F T f → IsWithout T f B → IsEquivalentPart T B

-- what no part's map into a reduct leaves out is needed in it
abbrev pub KeepIt : Type 0
KeepIt = (A T F : List Fact) (f : Fact) → IsEquivalentPart A T → F ⊆ A → ¬ (Spares F T f) → IsNeeded T f

-- a reduct of a reduct is one
abbrev pub ReductOfReduct : Type 0
ReductOfReduct = (A T B : List Fact) → IsEquivalentPart A T → IsEquivalentPart T B → IsEquivalentPart A B

-- a fact without nulls is needed
abbrev pub GroundNeeded : Type 0
GroundNeeded = (A : List Fact) (f : Fact) → f ∈ A → ((n : NullId) → ¬ (Null n ∈ f.row)) → IsNeeded A f

-- a core that is a reduct of the uncovered part of closed rules after its forced map is universal, if keys hold
abbrev pub CoreIsUniversal : Type 0
CoreIsUniversal =
    (convert : Conversions) (R : List Rule) (schema : List Table) (I T : List Fact) (rows : Rows)
    (cover : ℕ → ℕ → Option Cover) (rank : ℕ → ℕ) (bound : ℕ) (m : List NullPair)
    → AreRows convert R I rows → Each R (IsClosed schema) → CoversFall R rows cover rank → ((i : ℕ) → rank i < bound)
    → IsForcedMap schema (uncovered cover 0 R rows) m → KeysHold schema (image m (uncovered cover 0 R rows))
    → IsEquivalentPart (image m (uncovered cover 0 R rows)) T → IsCore T
    → IsUniversal convert R schema I T

-- with least covers, a core that is a reduct of the uncovered part of closed rules after its forced map is universal,
-- if keys hold
abbrev pub LeastCoreIsUniversal : Type 0
LeastCoreIsUniversal =
    (convert : Conversions) (R : List Rule) (schema : List Table) (I T : List Fact) (rows : Rows) (m : List NullPair)
    → AreRows convert R I rows → Each R (IsClosed schema)
    → IsForcedMap schema (uncovered_part R rows) m → KeysHold schema (image m (uncovered_part R rows))
    → IsEquivalentPart (image m (uncovered_part R rows)) T → IsCore T
    → IsUniversal convert R schema I T

-- if no instance in which keys hold receives a part of the canonical instance, there is no solution
abbrev pub NoSolution : Type 0
NoSolution =
    (convert : Conversions) (R : List Rule) (schema : List Table) (I A K : List Fact) (rows : Rows)
    → AreRows convert R I rows → A ⊆ canonical 0 R rows → NoneReceives schema A → ¬ (IsSolution convert R schema I K)

-- a rule follows from others exactly if the canonical instance of its frozen premise has its conclusion
abbrev pub FollowsByFrozen : Type 0
FollowsByFrozen =
    (convert : Conversions) (freeze : ℕ → Text) (thaw : Text → Option ℕ) (R : List Rule) (d : Rule) (rows : Rows)
    → ((x : ℕ) → Var x ∈ cells_of (d.premise ++ d.conclusion) → thaw (freeze x) ≡ Some x)
    → CanBeFrozen thaw d → Each R (CanBeFrozen thaw) → AreRows convert R (frozen freeze d) rows
    → Follows convert R d ↔ ((values : ℕ → Value)
    × Each d.conclusion (λ a. fact_of_atom freeze values a ∈ canonical 0 R rows))

-- the same with a prefix and digits, for rules without derived variables and without
-- literals that begin with the prefix
abbrev pub FollowsByPrefix : Type 0
FollowsByPrefix =
    (convert : Conversions) (prefix : Text) (R : List Rule) (d : Rule) (rows : Rows)
    → Each (d ∷ R) (λ r. IsRule r × (r.derived ≡ []) × IsClean prefix r)
    → AreRows convert R (frozen (frozen_text prefix) d) rows
    → Follows convert R d
    ↔ ((values : ℕ → Value) × Each d.conclusion (λ a. fact_of_atom (frozen_text prefix) values a ∈ canonical 0 R rows))

-- for rules that fit two schemas, it is enough to ask sources of constants and targets of these schemas
abbrev pub FollowsInSchemas : Type 0
FollowsInSchemas =
    (convert : Conversions) (source target : List Table) (R : List Rule) (d : Rule)
    → Each (d ∷ R) (RuleFits source target)
    → ((I K : List Fact) → IsInstance source I → HoldsConstants I → IsInstance target K
    → SatisfyAll convert R I K → Satisfies convert d I K)
    → Follows convert R d

-- rules imply others exactly if each of these follows from them
abbrev pub ImpliesEach : Type 0
ImpliesEach = (convert : Conversions) (P Q : List Rule) → Implies convert P Q ↔ Each Q (Follows convert P)

-- a rule without derived variables follows from such rules, or it does not
abbrev pub FollowsIsDecided : Type 0
FollowsIsDecided =
    (convert : Conversions) (R : List Rule) (d : Rule)
    → Each (d ∷ R) (λ r. IsRule r × (r.derived ≡ [])) → Follows convert R d ⊎ (¬ (Follows convert R d))

-- a list has a pruned list
abbrev pub PrunedExists : Type 0
PrunedExists = (convert : Conversions) (R : List Rule) → Each R IsRule → (P : List Rule) × IsPruned convert R P

-- a list has at most one pruned list
abbrev pub OnePruned : Type 0
OnePruned = (convert : Conversions) (R P Q : List Rule) → IsPruned convert R P → IsPruned convert R Q → P ≡ Q

-- the pruned list is a part of the list, and implies all of it
abbrev pub PrunedImplies : Type 0
PrunedImplies = (convert : Conversions) (R P : List Rule) → IsPruned convert R P → (P ⊆ R) × Implies convert P R

-- ---- rows

-- a rule has at most one list of rows
abbrev pub OneRows : Type 0
OneRows =
    (convert : Conversions) (d : Rule) (I : List Fact) (ts us : List Tuple)
    → IsRows convert d I ts → IsRows convert d I us → ts ≡ us

-- a rule has a list of rows on each instance
abbrev pub RowsExist : Type 0
RowsExist = (convert : Conversions) (d : Rule) (I : List Fact) → IsRule d → (ts : List Tuple) × IsRows convert d I ts

-- rows depend on the members of the instance alone
abbrev pub RowsByMembers : Type 0
RowsByMembers =
    (convert : Conversions) (d : Rule) (I J : List Fact) (ts : List Tuple)
    → I ≈ J → IsRows convert d I ts → IsRows convert d J ts

-- rules have one list of rows each, as many lists as there are rules; each list of rules has them on each instance
abbrev pub RowsOfAll : Type 0
RowsOfAll =
    (convert : Conversions) (R : List Rule) (I : List Fact) (rows others : Rows)
    → AreRows convert R I rows → AreRows convert R I others → (rows ≡ others) × (length rows ≡ length R)

abbrev pub RowsOfAllExist : Type 0
RowsOfAllExist =
    (convert : Conversions) (R : List Rule) (I : List Fact) → Each R IsRule
    → (rows : Rows) × AreRows convert R I rows

-- the rows of rules depend on the members of the instance alone
abbrev pub RowsOfAllByMembers : Type 0
RowsOfAllByMembers =
    (convert : Conversions) (R : List Rule) (I J : List Fact) (rows : Rows)
    → I ≈ J → AreRows convert R I rows → AreRows convert R J rows

-- two instances satisfy a rule exactly if each of its rows has values for the existential variables
abbrev pub SatisfiedByRows : Type 0
SatisfiedByRows =
    (convert : Conversions) (d : Rule) (I K : List Fact) (ts : List Tuple)
    → IsRows convert d I ts → Satisfies convert d I K ↔ PlacesSatisfied d ts K

-- ---- members

-- the canonical instance has exactly what the rules say at their places
abbrev pub CanonicalAre : Type 0
CanonicalAre =
    (R : List Rule) (rows : Rows) (f : Fact)
    → (f ∈ canonical 0 R rows) ↔ ((i k : ℕ) × IsPlace R rows i k × SaysAt R rows i k f)

-- its uncovered part has exactly what the rules say at places without a cover
abbrev pub UncoveredAre : Type 0
UncoveredAre =
    (cover : ℕ → ℕ → Option Cover) (R : List Rule) (rows : Rows) (f : Fact)
    → (f ∈ uncovered cover 0 R rows) ↔ ((i k : ℕ) × IsPlace R rows i k × (cover i k ≡ None) × SaysAt R rows i k f)

-- ascending facts with the same members are one list
abbrev pub OneAscending : Type 0
OneAscending = (A B : List Fact) → FactsAscend A → FactsAscend B → A ≈ B → A ≡ B

-- maps of closed parts of an instance join to one
abbrev pub PartsJoin : Type 0
PartsJoin =
    (A B : List Fact) (parts : List (List Fact))
    → Each parts (IsClosedPart A) → Each parts (λ F. (g : NullId → Value) × Moves g F B)
    → (g : NullId → Value) × Each parts (λ F. Moves g F B)

-- ---- widths

-- an atom fits the tables of a schema exactly if it fits their widths
abbrev pub FitsByWidths : Type 0
FitsByWidths =
    (schema : List Table) (a : Atom) → AtomFits schema a ↔ AtomFitsWidths (map (λ (t : Table). t.width) schema) a

-- atoms that fit widths, each at least 1, agree in widths
abbrev pub AtomWidthsAgree : Type 0
AtomWidthsAgree =
    (widths : List ℕ) (atoms : List Atom) → Each widths (λ w. 1 ≤ w) → AtomsFitWidths widths atoms → AgreeInWidths atoms

-- rules whose conclusions agree in widths have a width for each table
abbrev pub RulesHaveWidths : Type 0
RulesHaveWidths = (R : List Rule) → AgreeInWidths (conclusions_of R) → (width : ℕ → ℕ) × Each R (HasWidths width)

-- what has the members of the canonical instance of closed rules is universal, if keys hold in it
abbrev pub CanonicalIsUniversal : Type 0
CanonicalIsUniversal =
    (convert : Conversions) (R : List Rule) (schema : List Table) (I T : List Fact) (rows : Rows)
    → AreRows convert R I rows → Each R (IsClosed schema) → canonical 0 R rows ⊆ T
    → T ⊆ canonical 0 R rows → KeysHold schema T
    → IsUniversal convert R schema I T

-- ---- the members of an instance count

-- a forced map is that of each instance with the same members
abbrev pub ForcedMapByMembers : Type 0
ForcedMapByMembers =
    (schema : List Table) (A B : List Fact) (m : List NullPair) → A ≈ B → IsForcedMap schema A m
    → IsForcedMap schema B m

-- what no instance receives in which keys hold, none receives that has more
abbrev pub NoneReceivesByMembers : Type 0
NoneReceivesByMembers = (schema : List Table) (A B : List Fact) → A ⊆ B → NoneReceives schema A → NoneReceives schema B

-- each instance with the members of a universal solution is one
abbrev pub UniversalByMembers : Type 0
UniversalByMembers =
    (convert : Conversions) (R : List Rule) (schema : List Table) (I T U : List Fact)
    → T ≈ U → IsUniversal convert R schema I T → IsUniversal convert R schema I U

-- keys hold in each part of an instance in which they hold
abbrev pub KeysByMembers : Type 0
KeysByMembers = (schema : List Table) (A B : List Fact) → A ⊆ B → KeysHold schema B → KeysHold schema A

-- images of instances with the same members have the same members
abbrev pub ImageByMembers : Type 0
ImageByMembers = (h : List NullPair) (A B : List Fact) → A ≈ B → image h A ≈ image h B

-- a reduct is one of each instance with the same members
abbrev pub ReductByMembers : Type 0
ReductByMembers = (A B T : List Fact) → A ≈ B → IsEquivalentPart A T → IsEquivalentPart B T

-- each instance with the members of a core is one
abbrev pub CoreByMembers : Type 0
CoreByMembers = (A B : List Fact) → A ≈ B → IsCore A → IsCore B

-- if keys hold in an instance, nothing is forced: its forced map is empty
abbrev pub KeyedMapIsEmpty : Type 0
KeyedMapIsEmpty = (schema : List Table) (A : List Fact) → IsKeyed schema A → IsForcedMap schema A []

-- keys hold if the tables of the facts have none
abbrev pub NoKeysHold : Type 0
NoKeysHold =
    (schema : List Table) (K : List Fact)
    → Each K (λ f. (table_of schema f.table).determinations ≡ []) → KeysHold schema K

-- the image under a map that does one map and then another is the image under the other of that under the one
abbrev pub MovesFollow : Type 0
MovesFollow =
    (f g h : NullId → Value) (A : List Fact) → ((n : NullId) → Null n ∈ values A → h n ≡ moved g (f n))
    → map (fact_moved h) A ≡ map (fact_moved g) (map (fact_moved f) A)

-- the image under the forced map has nulls of the instance alone
abbrev pub ForcedImageStays : Type 0
ForcedImageStays =
    (schema : List Table) (A : List Fact) (m : List NullPair) (n : NullId)
    → IsForcedMap schema A m → Null n ∈ values (image m A) → Null n ∈ values A

-- the uncovered part is a part of the canonical instance
abbrev pub UncoveredIsPart : Type 0
UncoveredIsPart =
    (cover : ℕ → ℕ → Option Cover) (R : List Rule) (rows : Rows) → uncovered cover 0 R rows ⊆ canonical 0 R rows

-- homomorphisms follow one another
abbrev pub MapsJoin : Type 0
MapsJoin = (A B C : List Fact) → MapsInto A B → MapsInto B C → MapsInto A C

-- existential variables have values with all that atoms say in K exactly if what they say with nulls moves into K
abbrev pub SaidByMoves : Type 0
SaidByMoves =
    (texts : ℕ → Text) (atoms : List Atom) (K : List Fact)
    → ((values : ℕ → Value) × Each atoms (λ a. fact_of_atom texts values a ∈ K))
    ↔ ((g : NullId → Value) × Moves g
    (map (fact_of_atom texts (λ v. Null (record { rule = 0; var = v; row = 0 }))) atoms) K)

-- the frozen premise of a rule that fits is an instance of the source schema, and holds constants alone
abbrev pub FrozenFits : Type 0
FrozenFits =
    (freeze : ℕ → Text) (source target : List Table) (d : Rule) → RuleFits source target d
    → IsInstance source (frozen freeze d) × HoldsConstants (frozen freeze d)
