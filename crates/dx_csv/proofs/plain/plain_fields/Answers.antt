use Rattle.std.proofs.Common.{List, ℕ, [], subst}
use Rattle.dx_csv.specs.Plain.{HasRecords, RecordStandsAt}
use Rattle.dx_csv.proofs.PlainFacts.{table-read}
use Rattle.dx_csv.proofs.plain.plain_fields.Goals as goal

pub returns : goal.returns
returns c =
    let v = c.in-Ok.ensures.cases.0 in
    let under = c.in-Some.under in
    let width = c.args.width in
    let h = rw c.in-Some.is at (c.in_ok-under.ensures [] c.new-header.ensures) in
    let r = rw c.in-Some-2.is at c.in_ok-fields.ensures in
    let t = table-read c.args.bytes.now under width c.in-Some-2.count h.0 c.in-Some-2.fields c.if-bytes.false (subst (λ (bytes : List ℕ). RecordStandsAt bytes 0 under h.0) v h.1)
    (record { rows = r.0; has = subst (λ (bytes : List ℕ). HasRecords bytes under width r.0) v r.1; have = r.2; many = r.3 }) in
    (t.header, t.rows, t.records, t.wide, t.have, t.many)
