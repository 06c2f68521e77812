use Rattle.std.proofs.Common.{◌∙◌}
use Rattle.dx_instance.proofs.AfterFacts.{after_stored}
use Rattle.dx_instance.proofs.StoreFacts.{images_ascend, pairs_ascend}
use Rattle.dx_instance.proofs.null_map.NullMap.after.Goals as goal

pub merged-requires-clause-first : goal.merged-requires-clause-first
merged-requires-clause-first c =
    images_ascend c.args.self.now c.in_ok-pairs.field-0.items c.deref.result.now (c.deref.ensures.value ∙ c.in_ok-images.ensures) (pairs_ascend c.in_ok-pairs.field-0.items c.args.first.now c.in_ok-pairs.ensures.pairs)

pub merged-requires-clause-second : goal.merged-requires-clause-second
merged-requires-clause-second c = pairs_ascend c.deref-2.result.now c.args.self.now (c.deref-2.ensures.value ∙ c.in_ok-pairs-2.ensures.pairs)

pub returns : goal.returns
returns c =
    after_stored c.args.first.now c.args.self.now c.in_ok-pairs.field-0.items c.deref.result.now c.deref-2.result.now c.in_ok-pairs-3.pairs.items c.new.result.entries c.in_ok-pairs.ensures.pairs (c.deref.ensures.value ∙ c.in_ok-images.ensures)
    (c.deref-2.ensures.value ∙ c.in_ok-pairs-2.ensures.pairs) c.in_ok-pairs-3.ensures.gives c.new.ensures.len
