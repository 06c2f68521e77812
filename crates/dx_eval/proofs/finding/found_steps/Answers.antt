use Rattle.std.proofs.Common.{◌*◌, ◌<◌, ◌≤◌, ℕ, arith, length, subst, take}
use Rattle.std.proofs.lemmas.Result.{err_from_is_err_and}
use Rattle.dx_funcs.specs.Names.{call_named}
use Rattle.dx_funcs.specs.Serving.{offered}
use Rattle.dx_instance.specs.Shown.{shown_tables}
use Rattle.dx_instance.specs.Stored.{facts}
use Rattle.dx_joins.specs.Shown.{MoreTuples}
use Rattle.dx_schema.specs.Names.{table_names_of}
use Rattle.dx_joins.proofs.Carrying.{found}
use Rattle.dx_eval.specs.Finding.{IsFoundStep, IsFoundUpTo}
use Rattle.dx_eval.specs.Query.{IsSelected}
use Rattle.dx_eval.proofs.Limits.{all_found, few_cells, many_cells, match_step, matching_at, matching_fits, number_is, other_step, passes, refused_limit, start, too_many}
use Rattle.dx_eval.proofs.Tables.{match_fits_at, of_step}
use Rattle.dx_eval.proofs.finding.found_steps.Goals.{in-MatchRows+in_ok-cells+in_ok-found+in_ok-table+in_ok-push, in_default}
use Rattle.dx_eval.proofs.finding.found_steps.Goals as goal

pub loop-step-init : goal.loop-step-init
loop-step-init g c =
    let N = table_names_of c.args.source.now.schema.now in
    let I = facts (shown_tables c.args.source.now.rows.now.symbols c.args.source.now.rows.now.tables) in
    start N (call_named g.M.Meaning.apply (offered c.args.source.now.host.now)) I c.args.steps.now c.args.source.now.rows.now.symbols c.in_ok-symbols.symbols c.new-tables.result.items c.args.limit c.in_ok-symbols.ensures c.new-tables.ensures.items c.len.ensures.fit.apart

pub matched_rows-requires-clause-fit : goal.matched_rows-requires-clause-fit
matched_rows-requires-clause-fit g c =
    let N = table_names_of c.args.source.now.schema.now in
    let L = offered c.args.source.now.host.now in
    let w = c.in-MatchRows in
    matching_fits N L (take c.loop-step.step-index c.args.steps.now) c.step-item.result w.rule w.select w.sources w.equal w.is
    (match_fits_at N L c.args.steps.now c.loop-step.step-index w.rule w.select w.sources w.equal c.step-item.result c.requires.fit c.loop-step-test.true c.step-item.is w.is)

pub returns-in_err-table-clause-refused : goal.returns-in_err-table-clause-refused
returns-in_err-table-clause-refused g c =
    let N = table_names_of c.args.source.now.schema.now in
    let L = offered c.args.source.now.host.now in
    let C = call_named g.M.Meaning.apply L in
    let I = facts (shown_tables c.args.source.now.rows.now.symbols c.args.source.now.rows.now.tables) in
    let w = c.in-MatchRows in
    let m = match_fits_at N L c.args.steps.now c.loop-step.step-index w.rule w.select w.sources w.equal c.step-item.result c.requires.fit c.loop-step-test.true c.step-item.is w.is in
    let f = c.loop-step.invariant in
    let selected = IsSelected N C I w.select w.sources w.equal in
    let rows = matching_at (IsFoundUpTo c.room_for-room.result N C I c.matched_rows.new.symbols c.in_ok-found.found) c.step-item.result w.rule w.select w.sources w.equal w.is c.in_ok-found.ensures.rows in
    let many = too_many c.in_ok-found.found c.room_for-room.result (length w.select) selected c.matched_rows.new.symbols c.in_ok-found.ensures.apart rows c.in_err-table.ensures.err.1 in
    let more = many_cells c.room_for-room.result c.in_ok-cells.cells c.loop-step.left (length many.tuples) c.room_for-room.ensures many.few many.more in
    let over = subst (λ (z : ℕ). c.loop-step.left < length many.tuples * z) c.in_ok-cells.ensures more in
    let p = passes N C I c.args.steps.now L c.args.source.now.rows.now.symbols c.loop-step.symbols c.loop-step.tables.items c.args.limit c.loop-step.left c.loop-step.step-index w.rule w.select w.sources w.equal c.step-item.result many.tuples
    c.requires.fit c.loop-step-test.true c.step-item.is w.is
    (number_is N C I c.args.steps.now L c.args.source.now.rows.now.symbols c.loop-step.symbols c.loop-step.tables.items c.args.limit c.loop-step.left c.loop-step.step-index w.rule w.select w.sources w.equal f m)
    f many.distinct many.each over in
    let e = err_from_is_err_and c.from_residual-in_err-table.result c.from_residual-in_err-table.ensures.1 in
    rw (e.1, e.2) (refused_limit N C c.args.steps.now I c.args.limit c.in_err-table.field-0.0 c.in_err-table.ensures.err.0 p)

pub overflow_mul-left : goal.overflow_mul-left
overflow_mul-left g c =
    let n = c.count.ensures.count in
    let few = c.count.ensures.few in
    let le = c.in_ok-table.ensures.ok.1 in
    let k = few_cells c.room_for-room.result c.in_ok-cells.cells c.loop-step.left c.count.result c.room_for-room.ensures (omega (arith, n, few)) (omega (arith, n, le)) in
    omega (arith, k, c.loop-step.auto.left-fits)

pub loop-step-preserved : goal.loop-step-preserved
loop-step-preserved g c =
    let N = table_names_of c.args.source.now.schema.now in
    let L = offered c.args.source.now.host.now in
    let C = call_named g.M.Meaning.apply L in
    let I = facts (shown_tables c.args.source.now.rows.now.symbols c.args.source.now.rows.now.tables) in
    let f = c.loop-step.invariant in
    elim c.match-step.branch [
      | in-MatchRows+in_ok-cells+in_ok-found+in_ok-table+in_ok-push w ↦
          let m = match_fits_at N L c.args.steps.now c.loop-step.step-index w.in-MatchRows.rule w.in-MatchRows.select w.in-MatchRows.sources w.in-MatchRows.equal c.step-item.result c.requires.fit c.loop-step-test.true c.step-item.is w.in-MatchRows.is in
          let v = w.in-MatchRows in
          let rows = matching_at (IsFoundUpTo w.room_for-room.result N C I w.matched_rows.new.symbols w.in_ok-found.found) c.step-item.result v.rule v.select v.sources v.equal v.is w.in_ok-found.ensures.rows in
          let stand = found w.in_ok-found.found w.in_ok-table.table (MoreTuples w.room_for-room.result (IsSelected N C I v.select v.sources v.equal))
          (IsFoundStep N C I w.matched_rows.new.symbols (of_step v.select v.sources v.equal)) w.in_ok-table.ensures.ok.0 rows in
          let few = few_cells w.room_for-room.result w.in_ok-cells.cells c.loop-step.left (length w.in_ok-table.table.rows) w.room_for-room.ensures w.in_ok-table.ensures.few w.in_ok-table.ensures.ok.1 in
          let less = subst (λ (z : ℕ). length w.in_ok-table.table.rows * z ≤ c.loop-step.left) w.in_ok-cells.ensures few in
          rw (w.symbols-is, w.tables-is, w.left-is, w.count.ensures.count, w.in_ok-cells.ensures) (match_step N C I c.args.steps.now c.args.source.now.rows.now.symbols c.loop-step.symbols w.matched_rows.new.symbols c.loop-step.tables.items w.push.new.self.items
          c.args.limit c.loop-step.left c.loop-step.step-index w.in-MatchRows.rule w.in-MatchRows.select w.in-MatchRows.sources w.in-MatchRows.equal c.step-item.result w.in_ok-table.table c.loop-step-test.true c.step-item.is w.in-MatchRows.is
          (number_is N C I c.args.steps.now L c.args.source.now.rows.now.symbols c.loop-step.symbols c.loop-step.tables.items c.args.limit c.loop-step.left c.loop-step.step-index w.in-MatchRows.rule w.in-MatchRows.select w.in-MatchRows.sources w.in-MatchRows.equal f m)
          f w.in_ok-found.ensures.grows w.in_ok-found.ensures.apart stand w.in_ok-push.ensures.items less)
      | in_default w ↦ rw (w.symbols-is, w.tables-is, w.left-is) (other_step N C I c.args.steps.now c.args.source.now.rows.now.symbols c.loop-step.symbols c.loop-step.tables.items c.args.limit c.loop-step.left c.loop-step.step-index c.step-item.result
          c.loop-step-test.true c.step-item.is w.in_default.not-MatchRows f)
    ]

pub returns-clause-found : goal.returns-clause-found
returns-clause-found g c =
    let N = table_names_of c.args.source.now.schema.now in
    let I = facts (shown_tables c.args.source.now.rows.now.symbols c.args.source.now.rows.now.tables) in
    all_found N (call_named g.M.Meaning.apply (offered c.args.source.now.host.now)) I c.args.steps.now c.args.source.now.rows.now.symbols c.loop-step.symbols c.loop-step.tables.items c.args.limit c.loop-step.left c.loop-step.step-index c.loop-step-test.false c.loop-step.invariant

pub returns-clause-within : goal.returns-clause-within
returns-clause-within g c = let e = c.loop-step.invariant.cells in omega (arith, e)
