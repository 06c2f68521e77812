use Rattle.std.proofs.lemmas.Result.{err_from_is_err_and}
use Rattle.clio_source.specs.Source.{SourceRequest}
use Rattle.clio_source.proofs.Whole.{source_blank, source_out, source_passes, source_stops}
use Rattle.clio_source.proofs.files.read_source.Goals as goal

pub returns-in_err-reading-clause-read : goal.returns-in_err-reading-clause-read
returns-in_err-reading-clause-read g c =
    let w : SourceRequest = record { schema = c.args.schema.now; conditions = c.args.conditions.now } in
    let p = err_from_is_err_and c.from_residual.result c.from_residual.ensures.1 in
    rw (p.1, p.2) (source_stops g.M.Meaning.passes c.args.used.now w c.in_err-reading.field-0.0 _ _ c.in_err-reading.ensures.read)

pub returns-in_err-rows-clause-read : goal.returns-in_err-rows-clause-read
returns-in_err-rows-clause-read g c =
    let w : SourceRequest = record { schema = c.args.schema.now; conditions = c.args.conditions.now } in
    let p = err_from_is_err_and c.from_residual-in_err-rows.result c.from_residual-in_err-rows.ensures.1 in
    rw (p.1, p.2) (source_out g.M.Meaning.passes c.args.used.now w c.in_ok-reading.reading _ _ c.in_ok-reading.ensures.read)

pub returns-in_err-passed-clause-read : goal.returns-in_err-passed-clause-read
returns-in_err-passed-clause-read g c =
    let w : SourceRequest = record { schema = c.args.schema.now; conditions = c.args.conditions.now } in
    let p = err_from_is_err_and c.from_residual-in_err-passed.result c.from_residual-in_err-passed.ensures.1 in
    rw (p.1, p.2) (source_out g.M.Meaning.passes c.args.used.now w c.in_ok-reading.reading _ _ c.in_ok-reading.ensures.read)

pub returns-clause-read : goal.returns-clause-read
returns-clause-read g c =
    let w : SourceRequest = record { schema = c.args.schema.now; conditions = c.args.conditions.now } in
    source_passes g.M.Meaning.passes c.args.used.now w c.in_ok-reading.reading c.in_ok-rows.rows c.in_ok-passed.passed _ _
    c.in_ok-reading.ensures.read c.requires.named c.in_ok-reading.ensures.fit c.in_ok-rows.ensures c.in_ok-passed.ensures

pub returns-clause-blank : goal.returns-clause-blank
returns-clause-blank g c =
    let w : SourceRequest = record { schema = c.args.schema.now; conditions = c.args.conditions.now } in
    source_blank g.M.Meaning.passes c.args.used.now w c.in_ok-reading.reading c.in_ok-rows.rows c.in_ok-passed.passed
    c.in_ok-rows.ensures c.in_ok-passed.ensures c.in_ok-reading.ensures.blank
