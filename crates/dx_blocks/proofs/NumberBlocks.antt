-- Rows in order show facts in order, and the blocks of rows that hold nulls are those of the instance.
use Rattle.std.proofs.Common.{◌≡◌, ℕ, ◌<◌, ◌≤◌, List, [], ◌∷◌, ◌++◌, inl, inr, refl, sym, ◌∙◌, ap, arith}
use Rattle.std.proofs.Common.{length, get_or, take, map, replicate, nat_lt, Result, Ok, Err, Vec, Global}
use Rattle.std.specs.Prelude.{IfOk}
use Rattle.std.specs.declared.alloc.AllocError.{AllocError}
use Rattle.dx_base.proofs.Tests.{from_filter}
use Rattle.std.specs.List.{filter}
use Rattle.std.specs.Ordering.{nat_cmp}
use Rattle.std.specs.Cmp.Lexicographic.{slice_cmp}
use Rattle.std.specs.declared.cmp.Ordering.TheVariants.{Less}
use Rattle.std.proofs.lemmas.Bool.{cases_lt, cases_Bool}
use Rattle.std.proofs.lemmas.List.{length-map, get_or_default, length-replicate, take_at}
use Rattle.dx_base.specs.Members.{◌∈◌, ◌⊆◌, here, there, Each}
use Rattle.dx_base.proofs.Members.{in_at, in_map, from_map, from_flat_map, in_flat_map, contains_from_in}
use Rattle.dx_base.proofs.Ranges.{nat_self, nat_less}
use Rattle.dx_model.specs.declared.values.NullId.{NullId}
use Rattle.dx_model.specs.declared.values.Value.TheVariants.{Null}
use Rattle.dx_model.specs.declared.facts.Fact.{Fact}
use Rattle.dx_model.specs.Values.{Ascends, FactsAscend, fact_cmp, row_cmp}
use Rattle.dx_model.specs.Instances.{values}
use Rattle.dx_model.specs.Blocks.{Connected, itself, onward}
use Rattle.dx_model.proofs.ByMembers.{values_part}
use Rattle.dx_instance.specs.Stored.{TableRows, facts, rows_of}
use Rattle.dx_instance.specs.Places.{row_at}
use Rattle.dx_instance.specs.Cells.{NumberTable, NumbersAscend, numbers_at}
use Rattle.dx_instance.specs.Numbers.{value_of}
use Rattle.dx_instance.specs.Shown.{NumberedInstance, PartsFit, numbers_of_table, shown, shown_row, shown_tables}
use Rattle.dx_instance.proofs.ShownFacts.{row_less, is_shown}
use Rattle.dx_instance.proofs.StoredFacts.{row_from_fact, fact_from_row, fact_table}
use Rattle.dx_blocks.specs.declared.block.Block.{Block}
use Rattle.dx_blocks.specs.declared.numbered.At.{At}
use Rattle.dx_blocks.specs.declared.numbered.NumberBlock.{NumberBlock}
use Rattle.dx_blocks.specs.Blocks.{AreBlocks, IsBlockOf, least}
use Rattle.dx_blocks.specs.Labels.{BlocksFilled, AreLabels, has_nulls}
use Rattle.dx_blocks.specs.Numbered.{IsOfNumbers, IsRowIn, fact_of, shown_block}
use Rattle.dx_blocks.specs.NullRows.{HasNullRows, BlocksOfRows, IsRowBefore, IsFirstNull, facts_of, has_numbers, nulls_from, row_numbers, shown_blocks}
use Rattle.dx_blocks.proofs.Connections.{connected_more}
use Rattle.dx_blocks.proofs.BlockParts.{filled_are}
use Rattle.dx_blocks.proofs.NullRowFacts.{row_is, row_below, nulls_up, same_table}
use Rattle.dx_blocks.proofs.NumberLabelling.{rows_known}

-- ---- facts in order

abbrev AllAscend : NumberedInstance → Type 0
AllAscend N = Each N.tables (λ (t : NumberTable). NumbersAscend t.rows)

rows_less : (N : NumberedInstance) (first : ℕ) (a b : At) → PartsFit N.symbols N.tables → IsFirstNull N first → AllAscend N → IsRowIn N a → IsRowIn N b
    → a.table ≡ b.table → a.place < b.place → row_cmp (fact_of N a).row (fact_of N b).row ≡ Less
rows_less N first a b f s up x y e l =
    let t : NumberTable = numbers_of_table N.tables b.table in
    let there_is : t ∈ N.tables = rw (same_table N b.table y.table) (in_at N.tables b.table t y.table) in
    let less : slice_cmp nat_cmp (numbers_at t.rows a.place) (numbers_at t.rows b.place) ≡ Less = up t there_is a.place b.place [] l y.place in
    let same : row_numbers N a ≡ numbers_at t.rows a.place = ap (λ (n : ℕ). numbers_at (numbers_of_table N.tables n).rows a.place) e in
    rw (row_is N a x, row_is N b y)
    (row_less N.symbols (row_numbers N a) (row_numbers N b) s.ascend (row_below N a f x) (row_below N b f y)
    ∙ (ap (λ (r : List ℕ). slice_cmp nat_cmp r (row_numbers N b)) same ∙ less))

fact_less : (N : NumberedInstance) (first : ℕ) (a b : At) → PartsFit N.symbols N.tables → IsFirstNull N first → AllAscend N → IsRowIn N a → IsRowIn N b
    → IsRowBefore b.table b.place a → fact_cmp (fact_of N a) (fact_of N b) ≡ Less
fact_less N first a b f s up x y (inl l) = rw (nat_less a.table b.table l) refl
fact_less N first a b f s up x y (inr l) =
    let rest = rows_less N first a b f s up x y l.0 l.1 in
    let head : nat_cmp a.table b.table ≡ nat_cmp b.table b.table = ap (λ (n : ℕ). nat_cmp n b.table) l.0 in
    rw (head, nat_self b.table) rest

ascend_all : (N : NumberedInstance) (first : ℕ) (rows : List At) → PartsFit N.symbols N.tables → IsFirstNull N first → AllAscend N
    → Each rows (IsRowIn N) → Ascends (λ (a b : At). IsRowBefore b.table b.place a) rows → FactsAscend (facts_of N rows)
ascend_all N first [] f s up r w = tt
ascend_all N first (a ∷ rows) f s up r w = (
  (λ g m.
      let k = from_map (fact_of N) rows m in
      rw (← k.2) (fact_less N first a k.0 f s up (r a (here refl)) (r k.0 (there k.1)) (w.0 k.0 k.1))),
  ascend_all N first rows f s up (λ b m. r b (there m)) w.1,
)

pub rows_there : (N : NumberedInstance) (first t p : ℕ) (rows : List At) → HasNullRows N first t p rows → Each rows (IsRowIn N)
rows_there N first t p rows r a m = (r.each a m).0

pub facts_up : (N : NumberedInstance) (first t p : ℕ) (rows : List At) → PartsFit N.symbols N.tables → IsFirstNull N first → AllAscend N
    → HasNullRows N first t p rows → FactsAscend (facts_of N rows)
facts_up N first t p rows f s up r = ascend_all N first rows f s up (rows_there N first t p rows r) r.ascend

-- ---- facts with nulls make the blocks

module _ (A B : List Fact) (part : B ⊆ A) (all : (f : Fact) (n : NullId) → f ∈ A → Null n ∈ f.row → f ∈ B) where
  connected_back : {n m : NullId} → Connected A n m → Connected B n m
  connected_back itself = itself
  connected_back (onward {m = m} f c i x y) = onward f (connected_back c) (all f m i x) x y

  values_back : (n : NullId) → Null n ∈ values A → Null n ∈ values B
  values_back n v =
      let w = from_flat_map (λ (f : Fact). f.row) A v in
      in_flat_map (λ (f : Fact). f.row) (all w.0 n w.1 w.2) w.2

  block_of_part : (n : NullId) (b : Block) → IsBlockOf B n b → IsBlockOf A n b
  block_of_part n b o = record {
    nulls = λ m. (
      (λ i. let w = (o.nulls m).0 i in (values_part B A part (Null m) w.0, connected_more part w.1)),
      (λ w. (o.nulls m).1 (values_back m w.0, connected_back w.1)),
    );
    facts = λ f. (
      (λ i. let w = (o.facts f).0 i in (part f w.0, w.1, connected_more part w.2, w.3)),
      (λ w. (o.facts f).1 (all f w.1 w.0 w.3, w.1, connected_back w.2, w.3)),
    );
    nulls_ascend = o.nulls_ascend;
    facts_ascend = o.facts_ascend;
  }

  pub blocks_of_part : (bs : List Block) → AreBlocks B bs → AreBlocks A bs
  blocks_of_part bs a = record {
    each = λ b m. let w = a.each b m in (w.0, block_of_part (least b) b w.1);
    all = λ n v. a.all n (values_back n v);
    ascend = a.ascend;
  }

-- ---- rows and facts

pub facts_inside : (N : NumberedInstance) (rows : List At) → Each rows (IsRowIn N) → facts_of N rows ⊆ facts (shown_tables N.symbols N.tables)
facts_inside N rows r f m =
    let k = from_map (fact_of N) rows m in
    let w = r k.0 k.1 in
    let t : NumberTable = numbers_of_table N.tables k.0.table in
    let I : List TableRows = shown_tables N.symbols N.tables in
    let same : rows_of I k.0.table ≡ map (shown_row N.symbols) t.rows =
    ap (λ (u : TableRows). u.rows) (is_shown N.symbols N.tables k.0.table t w.table (same_table N k.0.table w.table)) in
    let long : k.0.place < length (rows_of I k.0.table) = rw (same, length-map t.rows (shown_row N.symbols)) w.place in
    rw (← k.2) (fact_from_row I k.0.table (row_at I k.0.table k.0.place) (in_at (rows_of I k.0.table) k.0.place [] long))

-- a fact with a null is that of a row that was found
pub facts_found : (N : NumberedInstance) (first : ℕ) (rows : List At) → PartsFit N.symbols N.tables → IsFirstNull N first
    → HasNullRows N first (length N.tables) 0 rows → (f : Fact) (m : NullId) → f ∈ facts (shown_tables N.symbols N.tables) → Null m ∈ f.row
    → f ∈ facts_of N rows
facts_found N first rows p s r f m i j =
    let I : List TableRows = shown_tables N.symbols N.tables in
    let h : f.table < length N.tables = rw (length-map N.tables (shown N.symbols)) at (fact_table I f i) in
    let t : NumberTable = numbers_of_table N.tables f.table in
    let same : rows_of I f.table ≡ map (shown_row N.symbols) t.rows =
    ap (λ (u : TableRows). u.rows) (is_shown N.symbols N.tables f.table t h (same_table N f.table h)) in
    let at = contains_from_in (row_from_fact I f i) in
    let long : at.0 < length t.rows = omega (arith, at.1, ap length same, length-map t.rows (shown_row N.symbols)) in
    found at.0 h long (get_or_default (rows_of I f.table) at.0 [] f.row at.1 ∙ at.2)
  where
    found : (k : ℕ) → f.table < length N.tables → k < length (numbers_of_table N.tables f.table).rows
        → get_or (rows_of (shown_tables N.symbols N.tables) f.table) k [] ≡ f.row → f ∈ facts_of N rows
    found k h l e =
        let a : At = record { table = f.table; place = k } in
        let w : IsRowIn N a = record { table = h; place = l } in
        let is : (fact_of N a).row ≡ f.row = e in
        let v = from_map (value_of N.symbols) (row_numbers N a) (rw (← is, row_is N a w) at j) in
        let after : first ≤ v.0 = elim (cases_lt v.0 first) [ inl b ↦ absurd (s.constants v.0 b m v.2) | inr b ↦ b ] in
        let there_is : a ∈ rows = r.all a v.0 w (inl h) v.1 after in
        let fact_is : fact_of N a ≡ f = (λ i. record { table = f.table; row = is i }) in
        rw (← fact_is) (in_map (fact_of N) there_is)

-- ---- those with nulls

shown_has : (N : NumberedInstance) (b : NumberBlock) → has_nulls (shown_block N b) ≡ has_numbers b
shown_has N b = ap (nat_lt 0) (length-map b.nulls _)

pub shown_kept : (N : NumberedInstance) (bs : List NumberBlock) → shown_blocks N (filter has_numbers bs) ≡ filter has_nulls (shown_blocks N bs)
shown_kept N [] = refl
shown_kept N (b ∷ bs) = elim (cases_Bool (has_numbers b)) [
  | inl t ↦ rw (shown_has N b, t) (ap (λ (cs : List Block). shown_block N b ∷ cs) (shown_kept N bs))
  | inr f ↦ rw (shown_has N b, f) (shown_kept N bs)
]

pub blocks_made : (N : NumberedInstance) (first : ℕ) (rows : List At) (labels : List ℕ) (bs : List NumberBlock) → PartsFit N.symbols N.tables
    → IsFirstNull N first → HasNullRows N first (length N.tables) 0 rows → AreLabels (facts_of N rows) (nulls_from N first) labels
    → BlocksOfRows N first rows labels bs
    → AreBlocks (facts (shown_tables N.symbols N.tables)) (shown_blocks N (filter has_numbers bs))
blocks_made N first rows labels bs f s r g u =
    let there_all = rows_there N first (length N.tables) 0 rows r in
    let made = filled_are (facts_of N rows) (nulls_from N first) u.some labels (shown_blocks N bs) (nulls_up N first s)
    (rows_known N first rows f s there_all) u.exactly g u.filled in
    rw (shown_kept N bs) (blocks_of_part (facts (shown_tables N.symbols N.tables)) (facts_of N rows) (facts_inside N rows there_all)
    (facts_found N first rows f s r) (filter has_nulls (shown_blocks N bs)) made)

-- the same, as the list of blocks is written back
pub made_ok : (r : Result (Vec NumberBlock Global) AllocError) (N : NumberedInstance) (first : ℕ) (rows : List At) (labels : List ℕ)
    (bs rest : List NumberBlock) (n : ℕ) → PartsFit N.symbols N.tables → IsFirstNull N first → HasNullRows N first (length N.tables) 0 rows
    → AreLabels (facts_of N rows) (nulls_from N first) labels → BlocksOfRows N first rows labels bs → length bs ≡ n
    → IfOk r (λ v. v.items ≡ filter has_numbers (take n (bs ++ rest)))
    → IfOk r (λ v. AreBlocks (facts (shown_tables N.symbols N.tables)) (map (shown_block N) v.items))
made_ok (Ok v) N first rows labels bs rest n f s r g u l e =
    rw (e ∙ ap (filter has_numbers) (take_at bs rest n l)) (blocks_made N first rows labels bs f s r g u)
made_ok (Err x) N first rows labels bs rest n f s r g u l e = tt

pub within_ok : (r : Result (Vec NumberBlock Global) AllocError) (N : NumberedInstance) (bs rest : List NumberBlock) (n : ℕ) → Each bs (IsOfNumbers N)
    → length bs ≡ n → IfOk r (λ v. v.items ≡ filter has_numbers (take n (bs ++ rest))) → IfOk r (λ v. Each v.items (IsOfNumbers N))
within_ok (Ok v) N bs rest n w l e =
    rw (e ∙ ap (filter has_numbers) (take_at bs rest n l)) (λ b m. w b (from_filter has_numbers bs m).0)
within_ok (Err x) N bs rest n w l e = tt

-- how many blocks there are
pub filled_many : (N : NumberedInstance) (A : List Fact) (ns some : List NullId) (labels : List ℕ) (bs : List NumberBlock)
    → BlocksFilled ns labels some A (shown_blocks N bs) → length bs ≡ length ns
filled_many N A ns some labels bs f = sym (length-map bs (shown_block N)) ∙ f.many

-- a list that is written back
pub written : (Q J rest : List NumberBlock) (n : ℕ) → Q ≡ take n (J ++ rest) → length J ≡ n → Q ≡ J
written Q J rest n q l = q ∙ take_at J rest n l

-- as many as there are labels
pub as_many : (N : NumberedInstance) (A B : List Fact) (ns some : List NullId) (labels : List ℕ) (start bs : List NumberBlock) (n : ℕ)
    → AreLabels B ns labels → BlocksFilled ns labels some A (shown_blocks N bs) → start ≡ replicate (length labels) (record { nulls = []; rows = [] })
    → n ≡ length start → length bs ≡ n
as_many N A B ns some labels start bs n g f e l =
    filled_many N A ns some labels bs f
    ∙ (sym g.many ∙ (sym (ap length e ∙ length-replicate (length labels) (record { nulls = []; rows = [] })) ∙ sym l))
