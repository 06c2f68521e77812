use Rattle.std.proofs.Common.{ap, arith, length}
use Rattle.dx_model.proofs.TupleFacts.{tuple_at, tuple_within}
use Rattle.dx_model.proofs.tuples.Tuples.tuple.Goals as goal

pub overflow_mul-start : goal.overflow_mul-start
overflow_mul-start c =
    let w = tuple_within c.args.self.now c.self.inside.count c.self.inside.width c.self.inside.texts.items c.args.place c.self.view_is c.self.invariant c.requires in
    omega (arith, w, c.self.inside.texts.ok.0)

pub overflow_add-result : goal.overflow_add-result
overflow_add-result c =
    let w = tuple_within c.args.self.now c.self.inside.count c.self.inside.width c.self.inside.texts.items c.args.place c.self.view_is c.self.invariant c.requires in
    omega (arith, w, c.self.inside.texts.ok.0)

pub offset_bounds-deref-start : goal.offset_bounds-deref-start
offset_bounds-deref-start c =
    let w = tuple_within c.args.self.now c.self.inside.count c.self.inside.width c.self.inside.texts.items c.args.place c.self.view_is c.self.invariant c.requires in
    omega (arith, w, ap length c.deref.ensures.value, c.deref.type_inv)

pub slice_bounds-result-end : goal.slice_bounds-result-end
slice_bounds-result-end c =
    let w = tuple_within c.args.self.now c.self.inside.count c.self.inside.width c.self.inside.texts.items c.args.place c.self.view_is c.self.invariant c.requires in
    omega (arith, w, ap length c.deref.ensures.value)

pub returns : goal.returns
returns c = tuple_at c.args.self.now c.self.inside.count c.self.inside.width c.self.inside.texts.items c.deref.result.now c.args.place c.self.view_is c.deref.ensures.value c.requires
