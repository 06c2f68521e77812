use Rattle.std.proofs.Common.{◌≡◌, ℕ, ◌*◌, ◌-◌, ◌<◌, ◌≤◌, arith, length, List, Bool, Err, map, refl, sym, ◌∙◌, ap, subst}
use Rattle.std.proofs.lemmas.List.{length-map}
use Rattle.dx_model.specs.declared.values.Value.{Value}
use Rattle.dx_instance.specs.Cells.{NumberTable}
use Rattle.dx_instance.specs.Shown.{shown_row}
use Rattle.dx_schema.specs.Forest.{Forest}
use Rattle.dx_schema.specs.Tables.{schema_table}
use Rattle.dx_stages.specs.declared.stop.Stop.TheVariants as stops
use Rattle.clio_source.specs.declared.fault.SourceRefusal.{SourceRefusal}
use Rattle.clio_source.specs.declared.reading.Reading.{Reading}
use Rattle.clio_source.specs.Source.{as_facts, fact_cells, flat, loading}
use Rattle.dx_used.specs.Used.{blanked}
use Rattle.clio_source.specs.Fitting.{GivesTo, rows_shown}
use Rattle.clio_source.proofs.Blank.{blank_more}
use Rattle.clio_source.proofs.Fits.{cells_of_rows, fit_more, holds_more}
use Rattle.clio_source.proofs.Runs.{loaded, no_cells_left}
use Rattle.clio_source.proofs.tables.load_table.Goals as goal

-- rows have as many cells as the facts of the whole rows
cells : (f : Forest) (root many width : ℕ) (S : List Value) (t : NumberTable) (marks : List Bool) (whole : List (List Value)) → many ≡ length t.rows → width ≡ length (schema_table f root).columns
    → rows_shown S t ≡ map (blanked marks) whole → many * width ≡ fact_cells f (as_facts root whole)
cells f root many width S t marks whole m w e =
    let shown : many ≡ length whole = m ∙ sym (length-map t.rows (shown_row S)) ∙ ap length e ∙ length-map whole (blanked marks) in
    ap (λ n. n * width) shown ∙ ap (λ n. length whole * n) w ∙ sym (cells_of_rows f root whole)

pub returns-in_default-clause-read : goal.returns-in_default-clause-read
returns-in_default-clause-read c = λ q h.
    let f = c.args.schema.now in
    let root = c.args.root in
    let read = c.in_ok-rows.ensures.rows in
    let same = cells f root c.count.result c.width.result c.rows_of_bytes.new.symbols c.in_ok-rows.rows c.marks_of-marks.result.now read.0 c.count.ensures.count c.width.ensures.number read.2 in
    subst (λ (e : SourceRefusal). GivesTo c.args.used.now (loading flat f root) (q, c.args.bytes.now) (Err (stops.Refused e))) (sym c.too_many_cells.ensures)
    (no_cells_left c.args.used.now flat f root c.args.before.cells_left q c.args.bytes.now (as_facts root read.0) (read.0, read.1, refl) h.cells (subst (λ n. c.args.before.cells_left < n) same c.in_default.ensures))

pub returns-clause-fit : goal.returns-clause-fit
returns-clause-fit c =
    let after : Reading = record { symbols = c.rows_of_bytes.new.symbols; tables = c.push.new.self; bytes_left = c.saturating_sub.result; cells_left = c.in-Some.cells_left } in
    let wide = c.in_ok-rows.ensures.width in
    fit_more c.args.schema.now c.args.root c.args.before after c.in_ok-rows.rows c.requires.fit c.requires.root c.in_ok-rows.ensures.grows c.in_ok-push.ensures.items wide
    (omega (arith, wide, c.width.ensures.number, c.width.ensures.some)) c.in_ok-rows.ensures.below (omega (arith, c.in-Some.ensures.0))

pub returns-clause-read : goal.returns-clause-read
returns-clause-read c = λ q h.
    let f = c.args.schema.now in
    let root = c.args.root in
    let left = c.args.before.cells_left in
    let read = c.in_ok-rows.ensures.rows in
    let after : Reading = record { symbols = c.rows_of_bytes.new.symbols; tables = c.push.new.self; bytes_left = c.saturating_sub.result; cells_left = c.in-Some.cells_left } in
    let same = cells f root c.count.result c.width.result c.rows_of_bytes.new.symbols c.in_ok-rows.rows c.marks_of-marks.result.now read.0 c.count.ensures.count c.width.ensures.number read.2 in
    loaded c.args.used.now flat f root left q after c.args.bytes.now (as_facts root read.0) (read.0, read.1, refl) h.cells (subst (λ n. n ≤ left) same c.in-Some.ensures.1)
    (holds_more c.args.used.now f root c.args.before after c.in_ok-rows.rows read.0 q c.requires.fit h c.requires.root c.in_ok-rows.ensures.grows c.in_ok-push.ensures.items
    (subst (λ (marks : List Bool). rows_shown c.rows_of_bytes.new.symbols c.in_ok-rows.rows ≡ map (blanked marks) read.0) c.marks_of-marks.ensures read.2))
    (c.saturating_sub.ensures ∙ ap (λ n. n - length c.args.bytes.now) h.bytes)
    (c.in-Some.ensures.0 ∙ ap (λ n. left - n) same)

pub returns-clause-blank : goal.returns-clause-blank
returns-clause-blank c = λ h.
    let read = c.in_ok-rows.ensures.rows in
    let after : Reading = record { symbols = c.rows_of_bytes.new.symbols; tables = c.push.new.self; bytes_left = c.saturating_sub.result; cells_left = c.in-Some.cells_left } in
    blank_more c.args.used.now c.args.schema.now c.args.root c.args.before after c.in_ok-rows.rows read.0 c.requires.fit c.requires.root c.in_ok-rows.ensures.grows c.in_ok-push.ensures.items
    (subst (λ (marks : List Bool). rows_shown c.rows_of_bytes.new.symbols c.in_ok-rows.rows ≡ map (blanked marks) read.0) c.marks_of-marks.ensures read.2) h
