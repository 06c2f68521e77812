use Rattle.std.proofs.lemmas.List.{nil_from_length}
use Rattle.dx_instance.proofs.LayerFacts.{all_ordered, ordered_fits}
use Rattle.dx_instance.proofs.symbols.Symbols.from_ordered.Goals as goal

pub invariant_of-result : goal.invariant_of-result
invariant_of-result c =
    let none = nil_from_length c.new-2.result.keys c.new-2.ensures.len in
    ordered_fits c.args.values c.new.result.items c.new-2.result.keys c.new.ensures.items none c.values.ensures.ascend c.requires

pub returns : goal.returns
returns c = all_ordered c.args.values c.new.result.items c.new-2.result.keys c.new.ensures.items (nil_from_length c.new-2.result.keys c.new-2.ensures.len)
