use Rattle.std.proofs.lemmas.Result.{err_from_is_err_and}
use Rattle.clio_given.specs.Given.{TargetRequest}
use Rattle.clio_given.proofs.Fits.{is_stored}
use Rattle.clio_given.proofs.Runs.{given_out, given_passes, given_stops}
use Rattle.clio_given.proofs.files.read_given.Goals as goal

pub returns-in_err-reading : goal.returns-in_err-reading
returns-in_err-reading g c =
    let w : TargetRequest = record { schema = c.args.schema.now; bytes_left = c.args.bytes_left } in
    let p = err_from_is_err_and c.from_residual.result c.from_residual.ensures.1 in
    rw (p.1, p.2) (given_stops w c.in_err-reading.field-0.0 _ _ c.in_err-reading.ensures.read)

pub returns-in_err-from_gathered : goal.returns-in_err-from_gathered
returns-in_err-from_gathered g c =
    let w : TargetRequest = record { schema = c.args.schema.now; bytes_left = c.args.bytes_left } in
    let p = err_from_is_err_and c.from_residual-in_err-from_gathered.result c.from_residual-in_err-from_gathered.ensures.1 in
    rw (p.1, p.2) (given_out w c.in_ok-reading.reading _ _ c.in_ok-reading.ensures.read)

pub returns : goal.returns
returns g c =
    let w : TargetRequest = record { schema = c.args.schema.now; bytes_left = c.args.bytes_left } in
    given_passes w c.in_ok-reading.reading c.in_ok-from_gathered.field-0 _ _ c.in_ok-reading.ensures.read
    (is_stored c.args.schema.now c.in_ok-reading.reading c.in_ok-from_gathered.field-0 c.in_ok-reading.ensures.fit c.in_ok-from_gathered.ensures)
