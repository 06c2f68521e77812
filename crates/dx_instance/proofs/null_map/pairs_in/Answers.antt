use Rattle.std.proofs.Common.{refl, subst}
use Rattle.dx_model.specs.Instances.{IsNullMap}
use Rattle.dx_instance.specs.NullMaps.{map_of_entries}
use Rattle.dx_instance.proofs.NullFacts.{pairs_more, pairs_all, pairs_stored, null_map_of}
use Rattle.dx_instance.proofs.null_map.pairs_in.Goals as goal

pub loop-null-preserved : goal.loop-null-preserved
loop-null-preserved c =
    pairs_more c.loop-null.pairs.items c.push.new.self.items c.loop-null.null-iterator c.next.new.self c.into_iter-null-iterator.result c.in-Some.null.now c.in-Some.value.now c.in_ok-copy_value.field-0
    c.in-Some.ensures.steps c.in_ok-push.ensures.items c.in_ok-copy_value.ensures c.loop-null.invariant

pub returns-clause-pairs : goal.returns-clause-pairs
returns-clause-pairs c =
    let gives = c.into_iter-null-iterator.ensures.into_iter_gives in
    pairs_all c.loop-null.pairs.items c.loop-null.null-iterator c.args.tree.now.entries (map_of_entries c.args.tree.now.entries) c.in-None.ensures.steps.0 (rw gives.0 at c.loop-null.invariant) gives.5 refl

pub returns-in_err-copy_value-clause-null_map : goal.returns-in_err-copy_value-clause-null_map
returns-in_err-copy_value-clause-null_map c =
    let gives = c.into_iter-null-iterator.ensures.into_iter_gives in
    subst IsNullMap (pairs_stored c.args.tree.now.entries (map_of_entries c.args.tree.now.entries) gives.5 refl) (null_map_of c.args.tree.now.entries gives.5 c.requires)

pub returns-in_err-push-clause-null_map : goal.returns-in_err-push-clause-null_map
returns-in_err-push-clause-null_map c =
    let gives = c.into_iter-null-iterator.ensures.into_iter_gives in
    subst IsNullMap (pairs_stored c.args.tree.now.entries (map_of_entries c.args.tree.now.entries) gives.5 refl) (null_map_of c.args.tree.now.entries gives.5 c.requires)

pub returns-clause-null_map : goal.returns-clause-null_map
returns-clause-null_map c =
    let gives = c.into_iter-null-iterator.ensures.into_iter_gives in
    subst IsNullMap (pairs_stored c.args.tree.now.entries (map_of_entries c.args.tree.now.entries) gives.5 refl) (null_map_of c.args.tree.now.entries gives.5 c.requires)

pub returns-in_err-pairs-clause-null_map : goal.returns-in_err-pairs-clause-null_map
returns-in_err-pairs-clause-null_map c =
    subst IsNullMap (pairs_stored c.args.tree.now.entries (map_of_entries c.args.tree.now.entries) c.len.ensures.ordered refl) (null_map_of c.args.tree.now.entries c.len.ensures.ordered c.requires)
