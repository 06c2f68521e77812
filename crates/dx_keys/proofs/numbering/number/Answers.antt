use Rattle.dx_keys.proofs.InOrder.{ranked_parts}
use Rattle.dx_keys.proofs.numbering.number.Goals as goal

pub returns : goal.returns
returns c =
    let w = ranked_parts c.args.instance c.numbers-numbers.result.symbols c.in_ok-symbols.field-0.symbols c.in_ok-symbols.field-0.ranks.items c.numbers-numbers.result.tables c.in_ok-tables.tables.items c.in_ok-symbols.ensures
    c.numbers-numbers.ensures.fit (rw c.deref.ensures.value at c.in_ok-tables.ensures) c.numbers-numbers.ensures.shown c.tables.ensures.rows c.tables.ensures.distinct c.tables.ensures.few in
    record { ordered = c.count_constants-constants.ensures; is_shown = w.0; parts = w.1 }
