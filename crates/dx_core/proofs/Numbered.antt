-- Order among values is order among their numbers.
use Rattle.std.proofs.Common.{◌≡◌, ◌∙◌, ℕ, zero, suc, ◌<◌, List, [], ◌∷◌, refl, sym, ap, arith, length, get_or, map}
use Rattle.std.specs.List.{AllPairs}
use Rattle.std.specs.Ordering.{nat_cmp}
use Rattle.std.specs.Cmp.Lexicographic.{slice_cmp}
use Rattle.std.specs.declared.cmp.Ordering.TheVariants.{Less}
use Rattle.dx_base.specs.Members.{Each, here, there}
use Rattle.dx_base.proofs.Members.{in_at, in_map}
use Rattle.dx_model.specs.declared.values.Value.{Value}
use Rattle.dx_model.specs.declared.values.Value.TheVariants.{Null}
use Rattle.dx_model.specs.Values.{Ascends, NullsAscend, RowsAscend, null_cmp, value_cmp}
use Rattle.dx_instance.specs.Cells.{NumberTable, NumbersAscend}
use Rattle.dx_instance.specs.Numbers.{ValuesAscend, value_of}
use Rattle.dx_instance.specs.Shown.{NumbersBelow, NumberedInstance, PartsFit, shown_row, shown_tables}
use Rattle.dx_instance.specs.Stored.{TableRows, facts, rows_of}
use Rattle.dx_instance.proofs.ShownFacts.{is_shown, number_less, row_less}
use Rattle.dx_instance.proofs.KeyFacts.{from_less}
use Rattle.dx_base.proofs.Members.{contains_from_in}
use Rattle.dx_blocks.specs.Blocks.{AreBlocks}
use Rattle.dx_blocks.specs.declared.numbered.NumberBlock.{NumberBlock}
use Rattle.dx_blocks.specs.Numbered.{IsNullNumber, IsOfNumbers, null_under, shown_block}
use Rattle.dx_core.specs.Left.{shown_by}
use Rattle.dx_core.specs.Sparing.{IsTried}

-- ascending in one sense, seen pair by pair
pairs : {X : Type 0} (R : X → X → Type 0) (xs : List X) → Ascends R xs → AllPairs R xs
pairs R [] a i j d h k = absurd (omega (arith, k))
pairs R (x ∷ xs) a zero zero d h k = absurd (omega (arith, h))
pairs R (x ∷ xs) a (suc i) zero d h k = absurd (omega (arith, h))
pairs R (x ∷ xs) a zero (suc j) d h k = a.0 (get_or xs j d) (in_at xs j d (omega (arith, k)))
pairs R (x ∷ xs) a (suc i) (suc j) d h k = pairs R xs a.1 i j d (omega (arith, h)) (omega (arith, k))

-- the numbers of nulls that ascend do so as well
numbers_up : (N : NumberedInstance) (ns : List ℕ) → ValuesAscend N.symbols → Each ns (IsNullNumber N) → NullsAscend (map (null_under N) ns)
    → Ascends (λ n m. n < m) ns
numbers_up N [] up are a = tt
numbers_up N (n ∷ ns) up are a = (
  (λ m i.
      let x = are n (here refl) in
      let y = are m (there i) in
      let l = a.0 (null_under N m) (in_map (null_under N) i) in
      let c : value_cmp (value_of N.symbols n) (value_of N.symbols m) ≡ null_cmp (null_under N n) (null_under N m) =
      ap (λ (v : Value). value_cmp v (value_of N.symbols m)) x.is ∙ ap (value_cmp (Null (null_under N n))) y.is in
      from_less n m (sym (number_less N.symbols n m up x.within y.within) ∙ (c ∙ l))),
  numbers_up N ns up (λ m i. are m (there i)) a.1,
)

-- numbers that are those of an instance show what it shows
pub is_shown_by : (N M : NumberedInstance) → N.symbols ≡ M.symbols → N.tables ≡ M.tables → shown_by N ≡ shown_by M
is_shown_by N M s t = ap (λ (S : List Value). shown_tables S N.tables) s ∙ ap (λ (ts : List NumberTable). shown_tables M.symbols ts) t

-- ---- what the blocks are

pub all_tried : (N : NumberedInstance) (bs : List NumberBlock) → ValuesAscend N.symbols → AreBlocks (facts (shown_by N)) (map (shown_block N) bs)
    → Each bs (IsOfNumbers N) → Each bs (IsTried N)
all_tried N bs up are within b m =
    let k = are.each (shown_block N b) (in_map (shown_block N) m) in
    let n = within b m in
    record {
      block = k.1;
      numbers = n;
      ascend = pairs (λ n m. n < m) b.nulls (numbers_up N b.nulls up n.nulls k.1.nulls_ascend);
    }

-- ---- rows

rows_up : (S : List Value) (rows : List (List ℕ)) → ValuesAscend S → Each rows (NumbersBelow (length S)) → RowsAscend (map (shown_row S) rows)
    → Ascends (λ r s. slice_cmp nat_cmp r s ≡ Less) rows
rows_up S [] up below a = tt
rows_up S (r ∷ rows) up below a = (
  (λ s i. sym (row_less S r s up (below r (here refl)) (below s (there i))) ∙ a.0 (shown_row S s) (in_map (shown_row S) i)),
  rows_up S rows up (λ s i. below s (there i)) a.1,
)

pub tables_up : (N : NumberedInstance) (I : List TableRows) → shown_by N ≡ I → PartsFit N.symbols N.tables → ValuesAscend N.symbols
    → ((t : ℕ) → RowsAscend (rows_of I t)) → Each N.tables (λ (t : NumberTable). NumbersAscend t.rows)
tables_up N I e fit up a t m =
    let c = contains_from_in m in
    let blank : NumberTable = record { width = 0; rows = [] } in
    let s : rows_of (shown_by N) c.0 ≡ map (shown_row N.symbols) t.rows =
    ap (λ (u : TableRows). u.rows) (is_shown N.symbols N.tables c.0 t c.1 (sym c.2)) in
    let b = a c.0 in
    pairs (λ r s. slice_cmp nat_cmp r s ≡ Less) t.rows (rows_up N.symbols t.rows up (fit.each t m).within (rw (← e, s) at b))
