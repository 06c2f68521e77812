use Rattle.std.proofs.Common.{arith, sym}
use Rattle.std.proofs.lemmas.List.{get_or_default}
use Rattle.std.proofs.lemmas.Option.{get_or_from_slice_get}
use Rattle.dx_instance.specs.Shown.{numbers_of_table}
use Rattle.clio_source.proofs.Numbers.{is_next, no_numbers, one_put}
use Rattle.clio_source.proofs.documents.push_facts.Goals as goal

pub push_fact-requires-clause-table : goal.push_fact-requires-clause-table
push_fact-requires-clause-table c =
    let stands = sym (get_or_from_slice_get c.args.facts.now c.loop-place.place c.in_ok-fact.fact c.in_ok-fact.fact c.in_ok-fact.ensures) in
    let n =
    is_next c.args.symbols.now c.loop-place.symbols c.args.tables.now.items c.loop-place.tables.items c.args.root c.args.facts.now c.loop-place.place c.in_ok-fact.fact
    c.loop-place.invariant c.requires.fit (omega (arith, c.loop-place-test.true, c.len-place-end.ensures)) stands c.requires.few in
    n.table

pub push_fact-requires-clause-width : goal.push_fact-requires-clause-width
push_fact-requires-clause-width c =
    let stands = sym (get_or_from_slice_get c.args.facts.now c.loop-place.place c.in_ok-fact.fact c.in_ok-fact.fact c.in_ok-fact.ensures) in
    let n =
    is_next c.args.symbols.now c.loop-place.symbols c.args.tables.now.items c.loop-place.tables.items c.args.root c.args.facts.now c.loop-place.place c.in_ok-fact.fact
    c.loop-place.invariant c.requires.fit (omega (arith, c.loop-place-test.true, c.len-place-end.ensures)) stands c.requires.few in
    n.width

pub push_fact-requires-clause-room : goal.push_fact-requires-clause-room
push_fact-requires-clause-room c =
    let stands = sym (get_or_from_slice_get c.args.facts.now c.loop-place.place c.in_ok-fact.fact c.in_ok-fact.fact c.in_ok-fact.ensures) in
    let n =
    is_next c.args.symbols.now c.loop-place.symbols c.args.tables.now.items c.loop-place.tables.items c.args.root c.args.facts.now c.loop-place.place c.in_ok-fact.fact
    c.loop-place.invariant c.requires.fit (omega (arith, c.loop-place-test.true, c.len-place-end.ensures)) stands c.requires.few in
    n.room

pub loop-place-preserved : goal.loop-place-preserved
loop-place-preserved c =
    let tables = c.loop-place.tables.items in
    let fact = c.in_ok-fact.fact in
    let t = numbers_of_table tables fact.table in
    let stands = sym (get_or_from_slice_get c.args.facts.now c.loop-place.place c.in_ok-fact.fact c.in_ok-fact.fact c.in_ok-fact.ensures) in
    let n =
    is_next c.args.symbols.now c.loop-place.symbols c.args.tables.now.items c.loop-place.tables.items c.args.root c.args.facts.now c.loop-place.place c.in_ok-fact.fact
    c.loop-place.invariant c.requires.fit (omega (arith, c.loop-place-test.true, c.len-place-end.ensures)) stands c.requires.few in
    one_put c.args.symbols.now c.loop-place.symbols c.push_fact.new.symbols c.args.tables.now.items tables c.push_fact.new.tables.items c.args.root c.args.facts.now
    c.loop-place.place fact t c.push_fact.new.numbers.items c.loop-place.invariant c.requires.fit (omega (arith, c.loop-place-test.true, c.len-place-end.ensures)) stands
    (get_or_default tables fact.table no_numbers t n.table) c.push_fact.ensures.grows c.in_ok-push_fact.ensures.shows c.in_ok-push_fact.ensures.put
