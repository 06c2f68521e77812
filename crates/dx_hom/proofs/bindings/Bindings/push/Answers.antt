use Rattle.std.proofs.Common.{◌≡◌, ◌∙◌, ◌<◌, ap, arith, length}
use Rattle.std.proofs.lemmas.List.{get_or_default}
use Rattle.dx_hom.specs.Bound.{bucket}
use Rattle.dx_hom.proofs.BoundFacts.{bound_more}
use Rattle.dx_hom.proofs.bindings.Bindings.push.Goals as goal

pub invariant_of-self : goal.invariant_of-self
invariant_of-self c =
    let heads = c.self.inside.heads.items in
    let b = c.bucket_of-bucket.result in
    let many : c.len.result ≡ length heads = c.len.ensures ∙ c.self.inside.heads.ok.0 in
    let number : b ≡ bucket (length heads) c.args.cell.null =
    c.bucket_of-bucket.ensures.number ∙ ap (λ m. bucket m c.args.cell.null) many in
    let within : b < length heads = omega (arith, c.bucket_of-bucket.ensures.within, many) in
    let old = c.index.ensures ∙ get_or_default heads b _ 0 within in
    let bound = bound_more c.self.inside.cells.items c.push_reserved-2.new.self.items heads c.self.inside.before.items
    c.push_reserved.new.self.items c.args.cell b c.len-2.result c.index.result.now number within
    (c.len-2.ensures ∙ c.self.inside.cells.ok.0) old c.push_reserved-2.ensures.items c.push_reserved.ensures.items c.self.invariant.2 in (
      omega (arith, c.push_reserved-2.ensures.capacity, c.self.invariant.0),
      omega (arith, c.push_reserved.ensures.capacity, c.self.invariant.1),
      bound,
    )
