-- Rows of numbers, and the instance that they show.
use Rattle.std.proofs.Common.{◌≡◌, ◌∙◌, ℕ, ◌<◌, ◌≤◌, List, [], ◌∷◌, Result, Ok, Err, inl, inr, refl, sym, ap, subst, arith, length, get_or, set, take, true}
use Rattle.std.specs.Prelude.{map, OnOk, OnErr}
use Rattle.std.specs.declared.alloc.AllocError.{AllocError}
use Rattle.std.proofs.lemmas.List.{length-map, map_push, map-set, get_or-map, take_all}
use Rattle.dx_base.specs.Members.{◌∈◌, here, there, Each}
use Rattle.dx_base.proofs.Members.{from_append, from_map, in_at}
use Rattle.dx_model.specs.declared.values.Value.{Value}
use Rattle.dx_instance.specs.Cells.{NumberTable, with_numbers}
use Rattle.dx_instance.specs.Numbers.{Extends}
use Rattle.dx_instance.specs.Shown.{NumbersBelow, NumberedInstance, NumberRowsFit, shown, shown_row, shown_tables}
use Rattle.dx_instance.specs.Stored.{AddsRow, TableRows, with_row}
use Rattle.dx_instance.proofs.ShownFacts.{grown_below, from_set}
use Rattle.dx_instance.proofs.StoredFacts.{adds_row}
use Rattle.dx_tgd.specs.Gained.{GainsFacts}
use Rattle.dx_tgd.specs.Planned.{built}
use Rattle.dx_tgd.proofs.Gaining.{gains_added}

-- tables stay as symbols grow
pub grown_fit : (S T : List Value) (ts : List NumberTable) → Extends S T → Each ts (NumberRowsFit (length S)) → Each ts (NumberRowsFit (length T))
grown_fit S T ts e h t m = record { columns = (h t m).columns; within = λ r k. grown_below S T r e ((h t m).within r k) }

-- tables without rows
pub empties_fit : (ws : List ℕ) (tables : List NumberTable) (n i : ℕ) → Each ws (λ w. 1 ≤ w) → length ws ≤ i → tables ≡ map (λ (w : ℕ). let t : NumberTable = record { width = w; rows = [] } in t) (take i ws) → Each tables (NumberRowsFit n)
empties_fit ws tables n i some h t u m =
    let all : tables ≡ map (λ (w : ℕ). let t : NumberTable = record { width = w; rows = [] } in t) ws = rw (t, take_all i ws h) refl in
    let r = from_map (λ (w : ℕ). let t : NumberTable = record { width = w; rows = [] } in t) ws (subst (λ (l : List NumberTable). u ∈ l) all m) in
    rw (← r.2) (record { columns = some r.0 r.1; within = λ row k. elim k [ ] })

with_fit : (n : ℕ) (t : NumberTable) (row : List ℕ) → NumberRowsFit n t → NumbersBelow n row → NumberRowsFit n (with_numbers t row)
with_fit n t row f b = record {
  columns = f.columns;
  within = λ r m. elim (from_append t.rows m) [ inl l ↦ f.within r l | inr k ↦ last r k ];
}
  where
    last : (r : List ℕ) → r ∈ (row ∷ []) → NumbersBelow n r
    last r (here e) = subst (NumbersBelow n) e b
    last r (there k) = elim k [ ]

-- a row more in one of the tables
pub put_fit : {X : Type 0} (r : Result X AllocError) (n : ℕ) (ts : List NumberTable) (i : ℕ) (told new : NumberTable) (row : List ℕ) → Each ts (NumberRowsFit n) → i < length ts → told ≡ get_or ts i told → NumbersBelow n row
    → OnOk r (new ≡ with_numbers told row) → OnErr r (new ≡ told) → Each (set ts i new) (NumberRowsFit n)
put_fit {X} r n ts i told new row f h e b a x u m = elim (from_set ts i new u m) [
  | inl q ↦ subst (NumberRowsFit n) q (one r a x)
  | inr k ↦ f u k
]
  where
    old : NumberRowsFit n told
    old = f told (rw e (in_at ts i told h))

    one : (r : Result X AllocError) → OnOk r (new ≡ with_numbers told row) → OnErr r (new ≡ told) → NumberRowsFit n new
    one (Ok y) a x = rw a (with_fit n told row old b)
    one (Err y) a x = rw x old

gains_put : (S : List Value) (ts : List NumberTable) (i : ℕ) (told new : NumberTable) (row : List ℕ) → i < length ts → told ≡ get_or ts i told → new ≡ with_numbers told row
    → GainsFacts (shown_tables S ts) (shown_tables S (set ts i new)) (record { table = i; row = shown_row S row } ∷ [])
gains_put S ts i told new row h e a =
    let long : i < length (shown_tables S ts) = omega (arith, h, length-map ts (shown S)) in
    let is : shown S told ≡ get_or (shown_tables S ts) i (shown S told) = sym (get_or-map (shown S) ts i told (shown S told) h ∙ ap (shown S) (sym e)) in
    let put : shown S new ≡ with_row (shown S told) (shown_row S row) = ap (shown S) a ∙ ap (λ (rs : List (List Value)). let u : TableRows = record { width = told.width; rows = rs } in u) (map_push (shown_row S) told.rows row) in
    let adds : AddsRow (shown_tables S ts) (set (shown_tables S ts) i (shown S new)) i (shown_row S row) = adds_row (Ok true) (shown_tables S ts) i (shown S told) (shown S new) (shown_row S row) long is put in
    gains_added (shown_tables S ts) (shown_tables S (set ts i new)) i (shown_row S row)
    (subst (λ (K : List TableRows). AddsRow (shown_tables S ts) K i (shown_row S row)) (sym (map-set (shown S) ts i new)) adds)

-- what is gained of a row of numbers that is put
pub gains_numbers : {X : Type 0} (r : Result X AllocError) (b : NumberedInstance) (S : List Value) (ts : List NumberTable) (i : ℕ) (told new : NumberTable) (row : List ℕ) → ◌≡◌ {A = NumberedInstance} (record { symbols = S; tables = ts }) b → i < length (built b) → told ≡ get_or ts i told
    → OnOk r (new ≡ with_numbers told row) → OnOk r (GainsFacts (built b) (shown_tables S (set ts i new)) (record { table = i; row = shown_row b.symbols row } ∷ []))
gains_numbers (Ok y) b S ts i told new row v h e a =
    let k : i < length ts = omega (arith, subst (λ (c : NumberedInstance). i < length (built c)) (sym v) h, length-map ts (shown S)) in
    subst (λ (c : NumberedInstance). GainsFacts (built c) (shown_tables S (set ts i new)) (record { table = i; row = shown_row c.symbols row } ∷ [])) v (gains_put S ts i told new row k e a)
gains_numbers (Err y) b S ts i told new row v h e a = tt

pub within_tables : (b : NumberedInstance) (S : List Value) (ts : List NumberTable) (i : ℕ) → ◌≡◌ {A = NumberedInstance} (record { symbols = S; tables = ts }) b → i < length (built b) → i < length ts
within_tables b S ts i v h = omega (arith, subst (λ (c : NumberedInstance). i < length (built c)) (sym v) h, length-map ts (shown S))
