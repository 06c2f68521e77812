use Rattle.std.proofs.Common.{◌≤◌, ◌∙◌, length, ap, rules}
use Rattle.clio_folder.proofs.Reading.{all_taken}
use Rattle.clio_folder.proofs.inputs.read_opened.Goals as goal

pub returns-clause-whole : goal.returns-clause-whole
returns-clause-whole g c =
    let within : length c.read_to_end.new.buf.items ≤ c.args.limit = search rules in
    all_taken c.read_to_end.result (g.F.Read.remaining c.args.file) (g.F.Read.remaining c.take.result.inner) c.args.limit c.take.result.limit
    c.make_room.new.into.items c.read_to_end.new.buf.items c.in_ok-map_err.ensures.variant c.read_to_end.ensures.bytes
    c.take.ensures.limit (ap g.F.Read.remaining c.take.ensures.inner) (c.make_room.ensures ∙ c.requires.empty) within
