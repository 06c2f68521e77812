-- Demands in parts.
use Rattle.std.proofs.Common.{◌≡◌, ℕ, zero, suc, ◌<◌, ◌≤◌, ◌+◌, ◌-◌, List, [], ◌∷◌, ◌++◌, inl, inr, refl, sym, ◌∙◌, ap, subst, length, take, get_or, arith}
use Rattle.std.specs.Prelude.{map}
use Rattle.std.specs.List.{range_with_len}
use Rattle.std.proofs.lemmas.List.{append-nil, append_assoc, length-append, get_or_append_left, get_or-append_right, length-map, map-append, map_more}
use Rattle.std.proofs.lemmas.List.FromFn.{get_or-map-range_with_len, length-map-range_with_len}
use Rattle.dx_base.specs.Members.{◌∈◌, Each}
use Rattle.dx_base.proofs.Members.{in_at, in_left, in_right, in_map, from_append, from_map}
use Rattle.dx_base.proofs.Ranges.{from_range, to_range}
use Rattle.dx_chase.specs.Demands.{Demand}
use Rattle.dx_chase.specs.Tables.{ChaseTable}
use Rattle.dx_chase.specs.Joins.{AreDemands, nth, demand_at}
use Rattle.dx_chase.specs.Parts.{AreParts, ColumnsPick, LieFrom, demands_in, chase_part_at, part_demands, picked}
use Rattle.dx_chase.specs.Settled.{key_labels}
use Rattle.dx_chase.specs.Rows.{AddsTo, InRows, IsRowDemand, demand_of, determination_count, row_count}
use Rattle.dx_chase.specs.declared.asked.Part.{Part}

-- one part more
pub demands_more : (tables : List ChaseTable) (ps : List Part) (p : Part) → demands_in tables (ps ++ p ∷ []) ≡ demands_in tables ps ++ part_demands tables p
demands_more tables [] p = append-nil (part_demands tables p)
demands_more tables (q ∷ ps) p =
    ap (λ z. part_demands tables q ++ z) (demands_more tables ps p)
    ∙ sym (append_assoc (part_demands tables q) (demands_in tables ps) (part_demands tables p))

pub lies_more : (tables : List ChaseTable) (start : ℕ) (ps : List Part) (end : ℕ) (p : Part) → LieFrom tables start ps end → p.first ≡ end → p.table < length tables
    → p.determination < determination_count tables p.table → LieFrom tables start (ps ++ p ∷ []) (end + row_count tables p.table)
lies_more tables start [] end p l f t d = (f ∙ sym l, t, d, ap (λ z. z + row_count tables p.table) l)
lies_more tables start (q ∷ ps) end p l f t d = (l.0, l.1, l.2, lies_more tables (start + row_count tables q.table) ps end p l.3 f t d)

pub lies_length : (tables : List ChaseTable) (start : ℕ) (ps : List Part) (end : ℕ) → LieFrom tables start ps end → start + length (demands_in tables ps) ≡ end
lies_length tables start [] end l = omega arith
lies_length tables start (q ∷ ps) end l =
    let r : (start + row_count tables q.table) + length (demands_in tables ps) ≡ end = lies_length tables (start + row_count tables q.table) ps end l.3 in
    let a : length (part_demands tables q ++ demands_in tables ps) ≡ length (part_demands tables q) + length (demands_in tables ps) = length-append (part_demands tables q) (demands_in tables ps) in
    let b : length (part_demands tables q) ≡ row_count tables q.table = length-map-range_with_len (demand_of tables q.table q.determination) 0 (row_count tables q.table) in
    omega arith

pub lies_first : (tables : List ChaseTable) (start : ℕ) (ps : List Part) (end : ℕ) (k : ℕ) → LieFrom tables start ps end → k < length ps → start ≤ (chase_part_at ps k).first
lies_first tables start [] end k l h = absurd (omega arith)
lies_first tables start (q ∷ ps) end zero l h = let e = l.0 in omega arith
lies_first tables start (q ∷ ps) end (suc k) l h =
    let r : start + row_count tables q.table ≤ (chase_part_at ps k).first = lies_first tables (start + row_count tables q.table) ps end k l.3 (omega arith) in
    omega arith

-- there is a part, if there is a number, and the first one begins at the start
pub lies_some : (tables : List ChaseTable) (ps : List Part) (end i : ℕ) → LieFrom tables 0 ps end → i < end → (0 < length ps) × ((chase_part_at ps 0).first ≤ i)
lies_some tables [] end i l h = absurd (omega arith)
lies_some tables (q ∷ ps) end i l h = (omega arith, let e = l.0 in omega arith)

-- the row of a demand, by its part
pub record Stands (tables : List ChaseTable) (ps : List Part) (start i : ℕ) (p : Part) : Type 0 where
  pub inside : InRows tables p.table p.determination (i - p.first)
  pub is : demand_at (demands_in tables ps) (i - start) ≡ demand_of tables p.table p.determination (i - p.first)

pub part_stands : (tables : List ChaseTable) (start : ℕ) (ps : List Part) (end k i : ℕ) → LieFrom tables start ps end → k < length ps → (chase_part_at ps k).first ≤ i
    → (suc k < length ps → i < (chase_part_at ps (suc k)).first) → i < end → Stands tables ps start i (chase_part_at ps k)
part_stands tables start [] end k i l h a b c = absurd (omega arith)
part_stands tables start (q ∷ ps) end zero i l h a b c =
    let e : q.first ≡ start = l.0 in
    let s : i < start + row_count tables q.table = inside ps l.3 b in
    let n : length (part_demands tables q) ≡ row_count tables q.table = length-map-range_with_len (demand_of tables q.table q.determination) 0 (row_count tables q.table) in
    record {
      inside = record { table = l.1; determination = l.2; row = omega arith };
      is =
          get_or_append_left (part_demands tables q) (demands_in tables ps) _ (i - start) (omega arith)
          ∙ get_or-map-range_with_len (demand_of tables q.table q.determination) 0 (row_count tables q.table) (i - start) (i - q.first) _ (omega arith) (omega arith);
    }
  where
    inside : (rs : List Part) → LieFrom tables (start + row_count tables q.table) rs end → (1 < length (q ∷ rs) → i < (chase_part_at (q ∷ rs) 1).first)
        → i < start + row_count tables q.table
    inside [] m f = omega arith
    inside (r ∷ rs) m f = let z = f (omega arith) in let y = m.0 in omega arith
part_stands tables start (q ∷ ps) end (suc k) i l h a b c =
    let r : Stands tables ps (start + row_count tables q.table) i (chase_part_at ps k) =
    part_stands tables (start + row_count tables q.table) ps end k i l.3 (omega arith) a (λ z. b (omega arith)) c in
    let f : start + row_count tables q.table ≤ (chase_part_at ps k).first = lies_first tables (start + row_count tables q.table) ps end k l.3 (omega arith) in
    let n : length (part_demands tables q) ≡ row_count tables q.table = length-map-range_with_len (demand_of tables q.table q.determination) 0 (row_count tables q.table) in
    let m : (i - start) - row_count tables q.table ≡ i - (start + row_count tables q.table) = omega arith in
    record {
      inside = r.inside;
      is =
          get_or-append_right (part_demands tables q) (demands_in tables ps) (row_count tables q.table) (i - start) _ n (omega arith)
          ∙ (ap (demand_at (demands_in tables ps)) m ∙ r.is);
    }

-- the demands of a part are those of the rows of its table for its determination
pub adds_part : (tables : List ChaseTable) (t c : ℕ) (old new : List Demand) → t < length tables → c < determination_count tables t
    → new ≡ old ++ map (demand_of tables t c) (range_with_len 0 (row_count tables t)) → AddsTo tables (λ u e. (u ≡ t) × (e ≡ c)) old new
adds_part tables t c old new h k q = rw q (record {
  all = λ u e w i l. record { by = e; inside = l; same = refl; all = λ s j. in_right old (made u e s w.0 w.1 j) };
  stays = λ x m. in_left (map (demand_of tables t c) (range_with_len 0 (row_count tables t))) m;
  either = λ x m. elim (from_append old m) [
    | inl l ↦ inl l
    | inr r ↦ inr (of_row x r)
  ];
})
  where
    made : (u e s : ℕ) → u ≡ t → e ≡ c → InRows tables u e s → demand_of tables u e s ∈ map (demand_of tables t c) (range_with_len 0 (row_count tables t))
    made u e s a b i =
        let r : row_count tables u ≡ row_count tables t = ap (row_count tables) a in
        let l = i.row in
        let same : demand_of tables u e s ≡ demand_of tables t c s = λ j. demand_of tables (a j) (b j) s in
        rw same (in_map (demand_of tables t c) (to_range 0 (row_count tables t) s (omega arith) (omega arith)))

    of_row : (x : Demand) → x ∈ map (demand_of tables t c) (range_with_len 0 (row_count tables t)) → IsRowDemand tables x
    of_row x m =
        let w = from_map (demand_of tables t c) (range_with_len 0 (row_count tables t)) m in
        let l = (from_range 0 (row_count tables t) w.0 w.1).1 in
        rw (← w.2) (record { inside = record { table = h; determination = k; row = omega arith }; is = refl })

-- the demand with a number, by its part
pub record AskedAt (tables : List ChaseTable) (ds : List Demand) (i : ℕ) (p : Part) : Type 0 where
  pub from : p.first ≤ i
  pub inside : InRows tables p.table p.determination (i - p.first)
  pub is : demand_at ds i ≡ demand_of tables p.table p.determination (i - p.first)

pub asked_here : (tables : List ChaseTable) (parts ps : List Part) (count i k : ℕ) (ds : List Demand) → ps ≡ parts → AreParts tables parts count
    → demands_in tables parts ≡ ds → i < length ds → k < length ps → (chase_part_at ps k).first ≤ i → (k + 1 < length ps → i < (chase_part_at ps (k + 1)).first)
    → AskedAt tables ds i (chase_part_at ps k)
asked_here tables parts ps count i k ds q A e h l a b =
    let n : 0 + length (demands_in tables parts) ≡ count = lies_length tables 0 parts count A.lie in
    let m : length (demands_in tables parts) ≡ length ds = ap length e in
    let on : k + 1 ≡ suc k = omega arith in
    let r : k < length parts = rw q at l in
    let f : (chase_part_at parts k).first ≤ i = rw q at a in
    let g : k + 1 < length parts → i < (chase_part_at parts (k + 1)).first = rw q at b in
    let S : Stands tables parts 0 i (chase_part_at parts k) =
    part_stands tables 0 parts count k i A.lie r f (λ z. subst (λ y. i < (chase_part_at parts y).first) on (g (omega arith))) (omega arith) in
    let z : i ≡ i - 0 = omega arith in
    rw (q, ← e) (record { from = f; inside = S.inside; is = ap (demand_at (demands_in tables parts)) z ∙ S.is })

-- there is a part for it
pub asked_some : (tables : List ChaseTable) (parts : List Part) (count i : ℕ) (ds : List Demand) → AreParts tables parts count → demands_in tables parts ≡ ds → i < length ds
    → (0 < length parts) × ((chase_part_at parts 0).first ≤ i)
asked_some tables parts count i ds A e h =
    let n : 0 + length (demands_in tables parts) ≡ count = lies_length tables 0 parts count A.lie in
    let m : length (demands_in tables parts) ≡ length ds = ap length e in
    lies_some tables parts count i A.lie (omega arith)

-- how many demands there are
pub count_is : (tables : List ChaseTable) (parts : List Part) (count : ℕ) (ds : List Demand) → AreParts tables parts count → demands_in tables parts ≡ ds → count ≡ length ds
count_is tables parts count ds A e =
    let n : 0 + length (demands_in tables parts) ≡ count = lies_length tables 0 parts count A.lie in
    let m : length (demands_in tables parts) ≡ length ds = ap length e in
    omega arith

-- one column more
pub picked_more : (numbers columns : List ℕ) (i : ℕ) → i < length columns → picked numbers (take (i + 1) columns) ≡ picked numbers (take i columns) ++ nth numbers (get_or columns i 0) ∷ []
picked_more numbers columns i h = map_more (nth numbers) columns i 0 h

pub labels_more : (labels numbers columns : List ℕ) (i : ℕ) → i < length columns
    → map (nth labels) (picked numbers (take (i + 1) columns)) ≡ map (nth labels) (picked numbers (take i columns)) ++ nth labels (nth numbers (get_or columns i 0)) ∷ []
labels_more labels numbers columns i h =
    ap (map (nth labels)) (picked_more numbers columns i h) ∙ map-append (nth labels) (picked numbers (take i columns)) (nth numbers (get_or columns i 0) ∷ [])

-- a column is within the row, and its number is below n
pub pick_inside : (n : ℕ) (numbers columns : List ℕ) (i : ℕ) → ColumnsPick n numbers columns → i < length columns
    → (get_or columns i 0 < length numbers) × (nth numbers (get_or columns i 0) < n)
pick_inside n numbers columns i P h = (P.columns_in _ (in_at columns i 0 h), P.numbers_in _ (in_map (nth numbers) (in_at columns i 0 h)))

-- the columns of a demand, lent
pub left_picks : (n : ℕ) (ds : List Demand) (i : ℕ) (numbers left : List ℕ) → AreDemands n ds → i < length ds → picked numbers left ≡ (demand_at ds i).left
    → Each left (λ k. k < length numbers) → ColumnsPick n numbers left
left_picks n ds i numbers left D h e l = record { columns_in = l; numbers_in = rw e (D.left i h) }

pub right_picks : (n : ℕ) (ds : List Demand) (i : ℕ) (numbers right : List ℕ) → AreDemands n ds → i < length ds → picked numbers right ≡ (demand_at ds i).right
    → Each right (λ k. k < length numbers) → ColumnsPick n numbers right
right_picks n ds i numbers right D h e l = record { columns_in = l; numbers_in = rw e (D.right i h) }

-- as many columns as numbers
pub picks_length : (numbers right all : List ℕ) → picked numbers right ≡ all → length right ≡ length all
picks_length numbers right all e = sym (length-map right (nth numbers)) ∙ ap length e

-- what a demand is looked up by
pub key_lent : (labels key : List ℕ) (d : Demand) (table determination : ℕ) (numbers left : List ℕ) → key ≡ table ∷ determination ∷ map (nth labels) (picked numbers left)
    → table ≡ d.table → determination ≡ d.determination → picked numbers left ≡ d.left → key ≡ key_labels labels d
key_lent labels key d table determination numbers left k a b e = k ∙ (λ j. a j ∷ b j ∷ map (nth labels) (e j))
