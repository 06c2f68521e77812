use Rattle.std.proofs.lemmas.Bool.{false≢true}
use Rattle.dx_line_text.proofs.Found.{unknown_set, unknown_column, place_found}
use Rattle.dx_line_text.proofs.places.read_place.Goals as goal

pub returns-in_default : goal.returns-in_default
returns-in_default c = unknown_set c.args.schema.now c.args.place.now (λ m. false≢true (c.in_default.ensures.none.1 m))

pub returns-in_default-column_named : goal.returns-in_default-column_named
returns-in_default-column_named c =
    unknown_column c.args.schema.now c.args.place.now c.in-Some.table c.tables.ensures.facts c.in-Some.ensures.some.0 c.in-Some.ensures.some.1 (λ m. false≢true (c.in_default-column_named.ensures.none.1 m))

pub returns : goal.returns
returns c =
    place_found c.args.schema.now c.args.place.now c.in-Some.table c.in-Some-column_named.column c.tables.ensures.facts c.in-Some.ensures.some.0 c.in-Some.ensures.some.1 c.in-Some-column_named.ensures.some.0 c.in-Some-column_named.ensures.some.1
