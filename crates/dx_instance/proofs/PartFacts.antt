-- The parts of a table.
use Rattle.std.proofs.Common.{◌≡◌, ◌-◌, ◌<◌, ◌^◌, ◌++◌, ◌∷◌, ℕ, List, [], subst, arith, length, drop}
use Rattle.std.proofs.lemmas.List.{length-append, length-drop, nil_from_length, take_all}
use Rattle.std.specs.Prelude.{Option}
use Rattle.std.proofs.Common.{inl, inr}
use Rattle.dx_base.specs.Members.{◌∈◌, here, there, Each}
use Rattle.dx_base.proofs.Members.{from_append}
use Rattle.dx_instance.specs.Indexes.{IsColumnIndex, IsNextWithNumber}
use Rattle.dx_instance.specs.Cells.{NumberTable, NumbersAscend, row_key, with_numbers}
use Rattle.dx_instance.specs.Chains.{AreChains, TableParts}
use Rattle.dx_instance.specs.declared.chains.Chains.{Chains}
use Rattle.dx_instance.specs.declared.column_index.ColumnIndex.{ColumnIndex}
use Rattle.dx_instance.proofs.IndexFacts.{no_index}
use Rattle.dx_instance.proofs.TableFacts.{keys_more, take_stays}

pub parts_none : (rows : List (List ℕ)) (c : Chains) (xs : List ColumnIndex) → rows ≡ [] → AreChains c [] → xs ≡ [] → TableParts 0 rows c xs
parts_none rows c xs e k x = rw e (record { some = omega arith; few = omega arith; ascend = λ i j d h b. absurd (omega arith); chained = k; indexed = no_index xs [] x })

pub parts_sorted : (n : ℕ) (rows : List (List ℕ)) (c : Chains) (xs : List ColumnIndex) → n ≡ length rows → length rows < 2 ^ 32 → NumbersAscend rows → AreChains c [] → xs ≡ [] → TableParts n rows c xs
parts_sorted n rows c xs e few up k x =
    let none : drop n rows ≡ [] = nil_from_length (drop n rows) (omega (arith, e, length-drop n rows)) in
    record { some = omega (arith, e); few = few; ascend = rw (take_all n rows (omega (arith, e))) up; chained = rw none k; indexed = no_index xs rows x }

-- a row more, at the end, and no index
pub parts_more : (n : ℕ) (t u : NumberTable) (c d : Chains) (xs ys : List ColumnIndex) (row : List ℕ) → TableParts n t.rows c xs → u ≡ with_numbers t row → ((keys : List ℕ) → AreChains c keys → AreChains d (keys ++ row_key row ∷ [])) → length t.rows < 2 ^ 32 - 1 → ys ≡ [] → TableParts n u.rows d ys
parts_more n t u c d xs ys row p e k room y = rw e (record {
  some = omega (arith, p.some, length-append t.rows (row ∷ []));
  few = omega (arith, room, length-append t.rows (row ∷ []));
  ascend = rw (take_stays n t.rows row p.some) p.ascend;
  chained = rw (keys_more n t.rows row p.some) (k _ p.chained);
  indexed = no_index ys (t.rows ++ row ∷ []) y;
})

-- the same rows, and no index
pub parts_same : (n : ℕ) (t u : NumberTable) (c d : Chains) (xs ys : List ColumnIndex) → TableParts n t.rows c xs → u ≡ t → ((keys : List ℕ) → AreChains c keys → AreChains d keys) → ys ≡ [] → TableParts n u.rows d ys
parts_same n t u c d xs ys p e k y = rw e (record { some = p.some; few = p.few; ascend = p.ascend; chained = k _ p.chained; indexed = no_index ys t.rows y })

-- one index more
pub parts_indexed : (n : ℕ) (rows : List (List ℕ)) (c : Chains) (xs ys : List ColumnIndex) (x : ColumnIndex) → TableParts n rows c xs → IsColumnIndex rows x → ys ≡ xs ++ x ∷ [] → TableParts n rows c ys
parts_indexed n rows c xs ys x p i e = rw e (record { some = p.some; few = p.few; ascend = p.ascend; chained = p.chained; indexed = λ y m. elim (from_append xs m) [ inl l ↦ p.indexed y l | inr r ↦ last y r ] })
  where
    last : (y : ColumnIndex) → y ∈ (x ∷ []) → IsColumnIndex rows y
    last y (here q) = subst (λ (z : ColumnIndex). IsColumnIndex rows z) q i
    last y (there q) = elim q [ ]

-- what an index answers, of the column that it is of
pub next_by : (rows : List (List ℕ)) (xs : List ColumnIndex) (x : ColumnIndex) (column number from : ℕ) (o : Option ℕ) → Each xs (IsColumnIndex rows) → (x ∈ xs) × (x.column ≡ column)
    → ((rs : List (List ℕ)) → IsColumnIndex rs x → IsNextWithNumber rs x.column number from o) → IsNextWithNumber rows column number from o
next_by rows xs x column number from o each m n = subst (λ (c : ℕ). IsNextWithNumber rows c number from o) m.1 (n rows (each x m.0))
