use Rattle.std.proofs.Common.{arith, length, sym, ◌∙◌, ap, slice_set}
use Rattle.std.proofs.lemmas.List.{length-map}
use Rattle.dx_instance.specs.Cells.{NumberTable, with_numbers}
use Rattle.dx_instance.specs.Numbers.{value_of}
use Rattle.dx_instance.proofs.ShownFacts.{table_read}
use Rattle.clio_source.proofs.documents.push_fact.Goals as goal

pub push-requires-clause-width : goal.push-requires-clause-width
push-requires-clause-width c =
    let read = table_read c.args.tables.now.items c.args.fact.now.table c.index_mut.result.now c.requires.table c.index_mut.ensures.value in
    let many = sym (length-map c.intern_row.new.numbers.items (value_of c.intern_row.new.symbols)) ∙ ap length c.in_ok-intern_row.ensures.shows.is in
    rw c.deref.ensures.value (many ∙ c.requires.width ∙ sym (ap (λ (t : NumberTable). t.width) read))

pub push-requires-clause-room : goal.push-requires-clause-room
push-requires-clause-room c =
    let read = table_read c.args.tables.now.items c.args.fact.now.table c.index_mut.result.now c.requires.table c.index_mut.ensures.value in
    omega (arith, c.requires.room, ap (λ (t : NumberTable). length t.rows) read)

pub returns-clause-put : goal.returns-clause-put
returns-clause-put c =
    let read = table_read c.args.tables.now.items c.args.fact.now.table c.index_mut.result.now c.requires.table c.index_mut.ensures.value in
    let is = c.in_ok-push.ensures.ok ∙ ap (with_numbers c.index_mut.result.now) c.deref.ensures.value ∙ ap (λ (t : NumberTable). with_numbers t c.intern_row.new.numbers.items) read in
    ap (slice_set c.args.tables.now.items c.args.fact.now.table) is
