-- Facts that move into an instance: without nulls they stand there, and else by blocks.
use Rattle.std.proofs.Common.{◌≡◌, ◌∙◌, ◌⊎◌, ℕ, ◌+◌, ◌<◌, ◌≤◌, List, [], ◌∷◌, Bool, inl, inr, refl, sym, ap, subst, arith, length, get_or, Result, Ok, Err}
use Rattle.std.specs.Prelude.{map, ◌↔◌, IfOk, IsTrue}
use Rattle.std.specs.declared.alloc.AllocError.{AllocError}
use Rattle.std.proofs.lemmas.List.{get_or-map, length-map}
use Rattle.dx_base.specs.Members.{◌∈◌, ◌⊆◌, Each, here, there}
use Rattle.dx_base.proofs.Members.{from_map, in_at, in_map}
use Rattle.dx_model.specs.declared.facts.Fact.{Fact}
use Rattle.dx_model.specs.declared.rules.Atom.{Atom}
use Rattle.dx_model.specs.declared.rules.Rule.{Rule}
use Rattle.dx_model.specs.declared.values.NullId.{NullId}
use Rattle.dx_model.specs.declared.values.Value.{Value}
use Rattle.dx_model.specs.declared.values.Value.TheVariants.{Const, Null}
use Rattle.dx_model.specs.Values.{Tuple}
use Rattle.dx_base.specs.Texts.{Text}
use Rattle.dx_model.specs.Instances.{MapsInto, Moves, fact_moved, given, moved}
use Rattle.dx_model.specs.Blocks.{IsClosedPart}
use Rattle.dx_model.specs.Fitting.{AtomsFitWidths}
use Rattle.dx_model.specs.Rules.{cell_value, exported, fact_of_atom, text_of}
use Rattle.dx_model.proofs.ByMembers.{said_by_moves}
use Rattle.dx_model.proofs.Joining.{parts_join}
use Rattle.dx_model.proofs.Maps.{into_by}
use Rattle.dx_instance.specs.Stored.{TableRows, facts, rows_of, table_at, widths, HasTableIn}
use Rattle.dx_instance.proofs.StoredFacts.{fact_from_row, fact_table, row_from_fact}
use Rattle.dx_instance.proofs.ValueNumbers.{wide_at}
use Rattle.dx_blocks.specs.declared.block.Block.{Block}
use Rattle.dx_blocks.specs.Blocks.{AreBlocks}
use Rattle.dx_blocks.proofs.BlockLaws.{blocks_closed, each_in_block}
use Rattle.dx_judge.specs.Open.{BlocksMove, CanMove, IsGround, TupleHolds, stand_in}
use Rattle.dx_judge.proofs.Deciding.{hom_moves}

-- ---- facts without nulls

ground_rest : (v : Value) (vs : List Value) → IsGround (v ∷ vs) → IsGround vs
ground_rest v vs g n m = g n (there m)

ground_still : (h : NullId → Value) (vs : List Value) → IsGround vs → map (moved h) vs ≡ vs
ground_still h [] g = refl
ground_still h (Const t ∷ vs) g = ap (λ (ws : List Value). Const t ∷ ws) (ground_still h vs (ground_rest (Const t) vs g))
ground_still h (Null n ∷ vs) g = absurd (g n (here refl))

pub fact_still : (h : NullId → Value) (f : Fact) → IsGround f.row → fact_moved h f ≡ f
fact_still h f g = λ i. record { table = f.table; row = ground_still h f.row g i }

-- a row has a null, or none
pub ground_or : (vs : List Value) → ((n : NullId) × (Null n ∈ vs)) ⊎ IsGround vs
ground_or [] = inr (λ n m. elim m [ ])
ground_or (Null n ∷ vs) = inl (n, here refl)
ground_or (Const t ∷ vs) = elim (ground_or vs) [ inl w ↦ inl (w.0, there w.1) | inr g ↦ inr (λ n m. behind n g m) ]
  where
    apart : (n : NullId) → Const t ≡ Null n → ⊥
    apart n e = cc

    behind : (n : NullId) → IsGround vs → Null n ∈ (Const t ∷ vs) → ⊥
    behind n g (here e) = apart n e
    behind n g (there m) = g n m

-- facts without nulls move where they stand
pub ground_moves : (r : Bool) (F A : List Fact) → Each F (λ f. IsGround f.row) → (IsTrue r ↔ (F ⊆ A)) → IsTrue r ↔ CanMove F A
ground_moves r F A g w = (
  (λ t. (Null, (λ f m. subst (λ (x : Fact). x ∈ A) (sym (fact_still Null f (g f m))) (w.0 t f m)))),
  (λ k. w.1 (λ f m. subst (λ (x : Fact). x ∈ A) (fact_still k.0 f (g f m)) (k.1 f m))),
)

-- ---- a whole instance

-- the other facts and the blocks together are all
pub joined : (A B : List Fact) (bs : List Block) → AreBlocks A bs → Each A (λ f. IsGround f.row → f ∈ B) → Each bs (λ b. CanMove b.facts B)
    → MapsInto A B
joined A B bs are ground move = into_by all.0 A B moves
  where
    closed : Each (map (λ (b : Block). b.facts) bs) (IsClosedPart A)
    closed F m = let b = from_map (λ (b : Block). b.facts) bs m in subst (IsClosedPart A) b.2 (blocks_closed A bs are b.0 b.1)

    each : Each (map (λ (b : Block). b.facts) bs) (λ F. (g : NullId → Value) × Moves g F B)
    each F m = let b = from_map (λ (b : Block). b.facts) bs m in subst (λ (G : List Fact). (g : NullId → Value) × Moves g G B) b.2 (move b.0 b.1)

    all : (g : NullId → Value) × Each (map (λ (b : Block). b.facts) bs) (λ F. Moves g F B)
    all = parts_join A B (map (λ (b : Block). b.facts) bs) closed each

    moves : (f : Fact) → f ∈ A → fact_moved all.0 f ∈ B
    moves f m = elim (ground_or f.row) [
      | inr g ↦ subst (λ (x : Fact). x ∈ B) (sym (fact_still all.0 f g)) (ground f m g)
      | inl w ↦ let b = each_in_block A bs f w.0 are m w.1 in all.1 b.0.facts (in_map (λ (c : Block). c.facts) b.1) f b.2
    ]

-- a homomorphism leaves facts without nulls
pub ground_stays : (A B : List Fact) → MapsInto A B → Each A (λ f. IsGround f.row → f ∈ B)
ground_stays A B w f m g = subst (λ (x : Fact). x ∈ B) (fact_still (given w.0) f g) (hom_moves w.0 A B w.1 f m)

-- and moves blocks
pub blocks_move : (A B : List Fact) (bs : List Block) → AreBlocks A bs → MapsInto A B → Each bs (λ b. CanMove b.facts B)
blocks_move A B bs are w b i = (given w.0, (λ f m. hom_moves w.0 A B w.1 f ((blocks_closed A bs are b i).inside f m)))

pub maps_exactly : (A B : List Fact) (can : Bool) → Each A (λ f. IsGround f.row → f ∈ B) → BlocksMove A B can → IsTrue can ↔ MapsInto A B
maps_exactly A B can ground k = (
  (λ t. joined A B k.0 k.1 ground (k.2.0 t)),
  (λ w. k.2.1 (blocks_move A B k.0 k.1 w)),
)

pub maps_answered : (A B : List Fact) (r : Result Bool AllocError) → Each A (λ f. IsGround f.row → f ∈ B) → IfOk r (BlocksMove A B)
    → IfOk r (λ can. IsTrue can ↔ MapsInto A B)
maps_answered A B (Ok can) ground k = maps_exactly A B can ground k
maps_answered A B (Err e) ground k = tt

-- facts of an instance fit another with as wide tables
pub fit_other : (I J : List TableRows) (f : Fact) → widths I ≡ widths J → Each I (λ (u : TableRows). Each u.rows (λ (r : List Value). length r ≡ u.width))
    → f ∈ facts I → HasTableIn J f
fit_other I J f e wide m =
    let none : TableRows = record { width = 0; rows = [] } in
    let b : f.table < length I = fact_table I f m in
    let many : length I ≡ length J = sym (length-map I (λ (u : TableRows). u.width)) ∙ (ap length e ∙ length-map J (λ (u : TableRows). u.width)) in
    let there : f.table < length J = omega (arith, b, many) in
    let mine : length f.row ≡ (table_at I f.table).width = wide (table_at I f.table) (in_at I f.table none b) f.row (row_from_fact I f m) in
    let left : get_or (widths I) f.table 0 ≡ (table_at I f.table).width = get_or-map (λ (u : TableRows). u.width) I f.table none 0 b in
    let right : get_or (widths J) f.table 0 ≡ (table_at J f.table).width = get_or-map (λ (u : TableRows). u.width) J f.table none 0 there in
    let same : get_or (widths I) f.table 0 ≡ get_or (widths J) f.table 0 = ap (λ (ws : List ℕ). get_or ws f.table 0) e in
    record { table = there; width = mine ∙ (sym left ∙ (same ∙ right)) }

pub blocks_fit : (I J : List TableRows) (bs : List Block) (b : Block) → widths I ≡ widths J
    → Each I (λ (u : TableRows). Each u.rows (λ (r : List Value). length r ≡ u.width)) → AreBlocks (facts I) bs → b ∈ bs → Each b.facts (HasTableIn J)
blocks_fit I J bs b e wide are m f i = fit_other I J f e wide ((blocks_closed (facts I) bs are b m).inside f i)

-- ---- tuples of rules

pub atoms_fit : (I : List TableRows) (atoms : List Atom) → AtomsFitWidths (widths I) atoms → (a : Atom) → a ∈ atoms
    → (a.table < length I) × (length a.cells ≡ (table_at I a.table).width)
atoms_fit I atoms f a m = wide_at I a.table (length a.cells) (f a m)

pub said_fits : (I : List TableRows) (texts : ℕ → Text) (atoms : List Atom) → ((a : Atom) → a ∈ atoms → (a.table < length I) × (length a.cells ≡ (table_at I a.table).width))
    → Each (map (fact_of_atom texts stand_in) atoms) (HasTableIn I)
said_fits I texts atoms fit f m =
    let a = from_map (fact_of_atom texts stand_in) atoms m in
    let k = fit a.0 a.1 in
    subst (HasTableIn I) a.2 (record { table = k.0; width = length-map a.0.cells (cell_value texts stand_in) ∙ k.1 })

pub tuple_exactly : (d : Rule) (K F : List Fact) (t : Tuple) (r : Bool) → F ≡ map (fact_of_atom (text_of (exported d) t) stand_in) d.conclusion
    → (IsTrue r ↔ CanMove F K) → IsTrue r ↔ TupleHolds d K t
tuple_exactly d K F t r e w =
    let law = said_by_moves (text_of (exported d) t) d.conclusion K in
    let v = subst (λ (G : List Fact). IsTrue r ↔ CanMove G K) e w in (
      (λ y. law.1 (v.0 y)),
      (λ h. v.1 (law.0 h)),
    )

pub tuple_answered : (d : Rule) (K F : List Fact) (t : Tuple) (r : Result Bool AllocError) → F ≡ map (fact_of_atom (text_of (exported d) t) stand_in) d.conclusion
    → IfOk r (λ can. IsTrue can ↔ CanMove F K) → IfOk r (λ holds. IsTrue holds ↔ TupleHolds d K t)
tuple_answered d K F t (Ok can) e w = tuple_exactly d K F t can e w
tuple_answered d K F t (Err x) e w = tt

-- ---- rows of a table

-- what each table's rows have, the facts have
pub facts_by_rows : (P : ℕ → List Value → Type 0) (I : List TableRows) (n : ℕ) → length I ≤ n → ((t : ℕ) → t < n → Each (rows_of I t) (P t))
    → Each (facts I) (λ f. P f.table f.row)
facts_by_rows P I n h all f m = let b = fact_table I f m in all f.table (omega (arith, h, b)) f.row (row_from_fact I f m)

-- rows that stay are facts that stay
pub row_stays : (I J : List TableRows) (t : ℕ) (row : List Value) → (IsGround row → row ∈ rows_of J t) → IsGround row
    → ◌∈◌ {X = Fact} (record { table = t; row = row }) (facts J)
row_stays I J t row s g = fact_from_row J t row (s g)
