use Rattle.std.proofs.Common.{◌∙◌, ◌<◌, ◌-◌, ◌≤◌, ℕ, Err, ap, arith, map, subst, sym}
use Rattle.dx_instance.specs.Shown.{shown_row}
use Rattle.dx_stages.specs.declared.stop.Stop.TheVariants as stops
use Rattle.dx_stages.specs.Running.{Gives}
use Rattle.clio_source.specs.declared.fault.SourceRefusal.{SourceRefusal}
use Rattle.clio_source.specs.declared.reading.Reading.{Reading}
use Rattle.clio_given.specs.Given.{given_loading}
use Rattle.clio_given.specs.Reading.{read_of}
use Rattle.clio_given.proofs.Fits.{cells_are, fit_more, loaded, no_cells_left}
use Rattle.clio_given.proofs.reading.load_given.Goals as goal

pub returns-in_default-clause-read : goal.returns-in_default-clause-read
returns-in_default-clause-read c =
    let f = c.args.schema.now in
    let n = c.args.table in
    let S = c.rows_of_bytes.new.symbols in
    let same = cells_are f n c.count.result c.width.result S c.in_ok-rows.rows c.count.ensures.count c.width.ensures.number in
    subst (λ (e : SourceRefusal). Gives (given_loading f n) (read_of c.args.before, c.args.bytes.now) (Err (stops.Refused e))) (sym c.too_many_cells.ensures)
    (no_cells_left f n (read_of c.args.before) c.args.bytes.now (map (shown_row S) c.in_ok-rows.rows.rows) c.in_ok-rows.ensures.rows
    (subst (λ (k : ℕ). c.args.before.cells_left < k) same c.in_default.ensures))

pub returns-clause-fit : goal.returns-clause-fit
returns-clause-fit c =
    let after : Reading = record { symbols = c.rows_of_bytes.new.symbols; tables = c.push.new.self; bytes_left = c.saturating_sub.result; cells_left = c.in-Some.cells_left } in
    let wide = c.in_ok-rows.ensures.width in
    fit_more c.args.schema.now c.args.table c.args.before after c.in_ok-rows.rows c.requires.fit c.requires.table c.in_ok-rows.ensures.grows c.in_ok-push.ensures.items wide
    (omega (arith, wide, c.width.ensures.number, c.width.ensures.some)) c.in_ok-rows.ensures.below

pub returns-clause-read : goal.returns-clause-read
returns-clause-read c =
    let f = c.args.schema.now in
    let n = c.args.table in
    let S = c.rows_of_bytes.new.symbols in
    let left = c.args.before.cells_left in
    let after : Reading = record { symbols = S; tables = c.push.new.self; bytes_left = c.saturating_sub.result; cells_left = c.in-Some.cells_left } in
    let same = cells_are f n c.count.result c.width.result S c.in_ok-rows.rows c.count.ensures.count c.width.ensures.number in
    loaded f n c.args.before after c.in_ok-rows.rows c.args.bytes.now c.requires.fit c.requires.table c.in_ok-rows.ensures.grows c.in_ok-push.ensures.items c.in_ok-rows.ensures.rows
    (subst (λ (k : ℕ). k ≤ left) same c.in-Some.ensures.1) c.saturating_sub.ensures (c.in-Some.ensures.0 ∙ ap (λ (k : ℕ). left - k) same)
