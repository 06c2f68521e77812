-- The chase of rows is the key chase of facts.
use Rattle.std.proofs.Common.{◌≡◌, ℕ, ◌<◌, Option, None, Some, List, [], ap, length}
use Rattle.std.specs.Prelude.{MatchOption}
use Rattle.dx_model.specs.declared.values.NullId.{NullId}
use Rattle.dx_model.specs.declared.values.Value.{Value}
use Rattle.dx_model.specs.declared.facts.Fact.{Fact}
use Rattle.dx_model.specs.Tables.{Table, IsInstance, cell}
use Rattle.dx_model.specs.Instances.{fact_moved}
use Rattle.dx_chase.specs.declared.demands.ClashAt.{ClashAt}
use Rattle.dx_chase.specs.Tables.{ChaseTable}
use Rattle.dx_chase.specs.declared.rows.RowsChased.{RowsChased}
use Rattle.dx_chase.specs.Joins.{demand_at, AreDemands, AllFit, IsClashOfDemands, IsNumberChase}
use Rattle.dx_chase.specs.Boards.{firsts}
use Rattle.dx_chase.specs.Rows.{TablesAreBelow, DemandsOfRows, ColumnsFit, number_row}
use Rattle.dx_chase.proofs.RowDemands.{row_demands}
use Rattle.dx_base.proofs.Members.{from_flat_map, from_map, in_at}
use Rattle.dx_keys.specs.Numbers.{AreValues, steps_of}
use Rattle.dx_keys.proofs.Demanding.{AreDemandsOf, AreTablesOf, IsRowChase, IsRowClash, IsRowMap, left_fact}
use Rattle.dx_keys.proofs.Followed.{clash_followed}
use Rattle.dx_keys.proofs.Bridge.{Stands, stands_all, steps_small, clashes, list_read}
use Rattle.dx_keys.proofs.Mapped.{HasNumbers, stands_first, fact_map, nulls_at, root_gives}
use Rattle.dx_keys.proofs.OfRows.{of_rows}

module _ (schema : List Table) (S : List Value) (consts : ℕ) (A : List Fact) (tables : List ChaseTable) (c : RowsChased) (fits : IsInstance schema A)
    (V : AreValues consts S) (F : ColumnsFit tables) (B : TablesAreBelow (length S) tables) (T : AreTablesOf schema S A tables) (R : DemandsOfRows tables c.demands)
    (X : IsNumberChase (firsts (length S)) consts c.demands c.chased) where
  D : AreDemands (length S) c.demands
  D = row_demands (length S) tables c.demands B F R

  M : AreDemandsOf schema S A c.demands
  M = of_rows schema S A tables c.demands F T R

  -- a value stands in a row, and so under a number of it
  numbered : HasNumbers S A
  numbered v m =
      let f = from_flat_map (λ (f : Fact). f.row) A m in
      let w = T.facts f.0 f.1 in
      let k = from_map (cell S) (number_row tables f.0.table w.0) (rw (← ap (λ (z : Fact). z.row) w.3) at f.2) in
      (k.0, B f.0.table w.0 w.1 w.2 k.0 k.1, k.2)

  reached : (k : NullId → Value) × Stands schema S consts A c.chased.roots k (steps_of S c.chased.steps)
  reached = stands_all schema S consts A c.demands V D M c.chased.steps (firsts (length S)) c.chased.roots _ [] X.joins (stands_first schema S consts A)

  row_map : AllFit c.demands c.chased.roots → IsRowMap schema S A c
  row_map fit = record {
    forced = fact_map schema S consts A c.demands V numbered D M c.chased.roots reached.0 (steps_of S c.chased.steps) reached.1 fits fit;
    gives = root_gives schema S consts A c.demands V numbered D M c.chased.roots reached.0 (steps_of S c.chased.steps) reached.1 fits fit;
  }

  demand_read : (j : ℕ) → j < length c.demands → fact_moved reached.0 (M.fact j) ≡ left_fact S tables c.chased.roots (demand_at c.demands j)
  unfolding M of_rows
  demand_read j h =
      let d = demand_at c.demands j in
      let Q = (R.from d (in_at c.demands j _ h)).inside in
      let e = list_read schema S consts A c.demands V D M c.chased.roots reached.0 (steps_of S c.chased.steps) reached.1 (number_row tables d.table d.row) (B d.table d.row Q.table Q.row) in
      λ i. record { table = d.table; row = e i }

  row_clash : (p : ClashAt) → IsClashOfDemands consts c.demands c.chased.roots p → IsRowClash schema S A tables c p
  unfolding M of_rows
  row_clash p P =
      let w = clashes schema S consts A c.demands V D M c.chased.roots reached.0 (steps_of S c.chased.steps) reached.1 p P in
      record {
        clash = rw (← reached.1.followed.there, ← demand_read p.one P.asks.alike.one, ← demand_read p.other P.asks.alike.other) w;
        none = clash_followed schema A reached.0 (steps_of S c.chased.steps) reached.1.followed _ _ _ _ w;
      }

  ends : (o : Option ClashAt) → MatchOption o (AllFit c.demands c.chased.roots) (IsClashOfDemands consts c.demands c.chased.roots)
      → MatchOption o (IsRowMap schema S A c) (IsRowClash schema S A tables c)
  ends None e = row_map e
  ends (Some p) e = row_clash p e

  pub row_chase : IsRowChase schema S A tables c
  row_chase = record {
    steps = reached.1.followed.steps;
    roots_are = record {
      many = reached.1.reads.each;
      within = reached.1.reads.inside;
      nulls = nulls_at schema S consts A V c.chased.roots reached.0 (steps_of S c.chased.steps) reached.1;
    };
    steps_in = steps_small schema S consts A c.demands V D M c.chased.steps (firsts (length S)) c.chased.roots _ [] X.joins (stands_first schema S consts A);
    ends = ends c.chased.clash X.ends;
  }
