use Rattle.std.proofs.Common.{◌≡◌, ap, arith, length}
use Rattle.std.proofs.lemmas.List.{with_items_is}
use Rattle.dx_used.proofs.NamedFacts.{only_still}
use Rattle.dx_used.proofs.marking.marks_of.Goals as goal

pub returns-clause-only : goal.returns-clause-only
returns-clause-only c =
    let v = c.deref_mut.ensures.value in
    let n : length c.mark_named.new.marks ≡ c.in_ok-marks.marks.len = omega (arith, ap length v) in
    rw (with_items_is c.in_ok-marks.marks c.mark_named.new.marks n)
    (only_still c.args.rules.now c.args.table c.in_ok-marks.marks.items c.mark_named.new.marks (rw v at c.mark_named.ensures.keep) c.in_ok-marks.ensures.only)
