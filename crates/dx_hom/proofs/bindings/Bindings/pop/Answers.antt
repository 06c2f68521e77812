use Rattle.std.proofs.Common.{◌≡◌, ◌∙◌, ◌<◌, ap, arith, length, vec_len}
use Rattle.std.proofs.lemmas.List.{length-append}
use Rattle.dx_hom.specs.Bound.{bucket}
use Rattle.dx_hom.proofs.BoundFacts.{bound_less, many_buckets}
use Rattle.dx_hom.proofs.bindings.Bindings.pop.Goals as goal

pub invariant_of-self : goal.invariant_of-self
invariant_of-self c =
    let heads = c.self.inside.heads.items in
    let b = c.bucket_of-bucket.result in
    let cell = c.in-Some.cell in
    let many : c.len.result ≡ length heads = c.len.ensures ∙ c.self.inside.heads.ok.0 in
    let number : b ≡ bucket (length heads) cell.null =
    c.bucket_of-bucket.ensures.number ∙ ap (λ m. bucket m cell.null) many in
    let within : b < length heads = omega (arith, c.bucket_of-bucket.ensures.within, many) in
    let bound = c.self.invariant.2 in
    let long = simp length-append at (ap length c.in-Some.ensures.items) in
    let each = many_buckets (length heads) c.self.inside.cells.items in
    let some : 0 < vec_len c.self.inside.before = omega (arith, bound.linked.many, each, long, c.self.inside.before.ok.0) in
    let less = bound_less c.self.inside.cells.items c.pop.new.self.items heads c.self.inside.before.items
    c.pop-in-Some.new.self.items cell b c.unwrap_or.result _ c.pop-in-Some.result number within c.in-Some.ensures.items c.pop-in-Some.ensures.items
    (c.pop-in-Some.ensures.value 0 some) c.unwrap_or.ensures bound in (
      omega (arith, c.pop.ensures.capacity, c.self.invariant.0),
      omega (arith, c.pop-in-Some.ensures.capacity, c.self.invariant.1),
      less,
    )
