use Rattle.std.proofs.Common.{length}
use Rattle.dx_instance.specs.Images.{AreImages}
use Rattle.dx_instance.proofs.SortFacts.{if_ok, instance_maps}
use Rattle.dx_instance.proofs.instance.Instance.map_by.Goals as goal

pub image_by-requires-clause-fit : goal.image_by-requires-clause-fit
image_by-requires-clause-fit c = rw c.deref.ensures.value c.self.invariant

pub image_by-requires-clause-long : goal.image_by-requires-clause-long
image_by-requires-clause-long c =
    let o = rw c.in-Some.is at c.in_ok-found.ensures in
    rw c.deref-2.ensures.value o.many

pub image_by-requires-clause-within : goal.image_by-requires-clause-within
image_by-requires-clause-within c =
    let o = rw c.in-Some.is at c.in_ok-found.ensures in
    rw c.deref-2.ensures.value o.within

pub returns : goal.returns
returns c =
    let S = c.self.inside.symbols in
    let o : AreImages c.args.map.now S S c.in-Some.images.items (length S) = rw c.in-Some.is at c.in_ok-found.ensures in
    if_ok c.image_by.result (λ K s. instance_maps c.args.map.now S S c.in-Some.images.items c.self.inside.tables.items c.args.self.now K c.self.view_is o c.self.invariant
    (rw (c.deref.ensures.value, c.deref-2.ensures.value) at s)) c.image_by.ensures
