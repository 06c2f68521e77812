use Rattle.std.proofs.Common.{ap, arith, below_more, length}
use Rattle.dx_base.proofs.Members.{in_at}
use Rattle.dx_holds.proofs.Tables.{link_fits}
use Rattle.dx_fails.proofs.Finding.{link_few}
use Rattle.dx_fails.proofs.Placing.{all_lead, has_numbers, is_lone_in, link_holds}
use Rattle.dx_fails.proofs.alone.alone_in.Goals as goal

pub first_alone-requires-clause-fits : goal.first_alone-requires-clause-fits
first_alone-requires-clause-fits c =
    link_fits c.args.schema.now c.args.instance.now c.args.table c.index-links-i.result c.requires.widths c.tables.ensures.facts c.requires.table
    (rw (← c.links_of-links.ensures, c.index-links-i.is) (in_at c.links_of-links.result.now c.loop-i.i c.index-links-i.result c.loop-i-test.true))

pub first_alone-requires-clause-wide : goal.first_alone-requires-clause-wide
first_alone-requires-clause-wide c =
    let wide = link_few c.args.schema.now c.args.instance.now c.args.table c.index-links-i.result c.requires.widths c.tables.ensures.facts c.requires.table
    (rw (← c.links_of-links.ensures, c.index-links-i.is) (in_at c.links_of-links.result.now c.loop-i.i c.index-links-i.result c.loop-i-test.true)) in
    record { some = wide.0; few = omega (arith, wide.1) }

pub overflow_cast-result : goal.overflow_cast-result
overflow_cast-result c =
    let few = (has_numbers c.args.schema.now c.args.instance.now c.args.table c.requires.widths c.requires.table c.tables.ensures.numbers).links in
    let many = ap length c.links_of-links.ensures in
    omega (arith, few, many, c.loop-i-test.true)

pub returns-in-Some : goal.returns-in-Some
returns-in-Some c =
    let found = rw c.in-Some.is at c.in_ok-place.ensures in
    is_lone_in c.args.schema.now c.args.instance.now c.requires.widths c.args.table c.requires.table c.links_of-links.result.now c.loop-i.i c.index-links-i.result
    c.in-Some.place c.links_of-links.ensures c.loop-i-test.true c.index-links-i.is found.0 found.1 c.loop-i.invariant

pub loop-i-preserved : goal.loop-i-preserved
loop-i-preserved c =
    below_more _ _ c.loop-i.invariant
    (link_holds c.args.schema.now c.args.instance.now c.requires.widths c.args.table c.requires.table c.links_of-links.result.now c.loop-i.i c.index-links-i.result
    c.links_of-links.ensures c.loop-i-test.true c.index-links-i.is (rw c.in_default.is at c.in_ok-place.ensures))

pub returns : goal.returns
returns c =
    all_lead c.args.schema.now c.args.instance.now c.requires.widths c.args.table c.requires.table c.links_of-links.result.now c.loop-i.i
    c.links_of-links.ensures c.loop-i-test.false c.loop-i.invariant
