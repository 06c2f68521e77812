use Rattle.std.proofs.Common.{◌≡◌, ◌∙◌, ◌<◌, ◌-◌, List, suc, refl, sym, ap, subst, arith, length, get_or, rules}
use Rattle.std.proofs.lemmas.List.{get_or_default}
use Rattle.dx_base.specs.Members.{◌∈◌}
use Rattle.dx_base.proofs.Members.{in_at}
use Rattle.dx_hom.specs.declared.matching.Found.{Found}
use Rattle.dx_hom.specs.Bound.{BindingState, bucket, found_at}
use Rattle.dx_hom.specs.Narrowing.{found_nulls}
use Rattle.dx_hom.proofs.BoundFacts.{looks_first, looks_next, many_buckets, nowhere}
use Rattle.dx_hom.proofs.bindings.Bindings.find.Goals as goal

pub loop-code-init : goal.loop-code-init
loop-code-init c =
    let heads = c.self.inside.heads.items in
    let many : c.len.result ≡ length heads = c.len.ensures ∙ c.self.inside.heads.ok.0 in
    let number : c.bucket_of.result ≡ bucket (length heads) c.args.null =
    c.bucket_of.ensures.number ∙ ap (λ m. bucket m c.args.null) many in
    let within : c.bucket_of.result < length heads = omega (arith, c.bucket_of.ensures.within, many) in
    let code = c.index-code.ensures ∙ get_or_default heads c.bucket_of.result _ 0 within in
    looks_first (length heads) c.self.inside.cells.items c.args.null heads c.self.inside.before.items c.bucket_of.result
    c.index-code.result.now refl number within code c.self.invariant.2

pub returns-then-eq : goal.returns-then-eq
returns-then-eq c =
    let cells = c.self.inside.cells.items in
    let within : c.loop-code.code - 1 < length cells = omega (arith, c.loop-code.invariant.within) in
    let at : c.index.result.now ≡ get_or cells (c.loop-code.code - 1) c.index.result.now = c.index.ensures in
    let there : c.index.result.now ∈ cells =
    subst (λ (x : Found). x ∈ cells) (sym at) (in_at cells (c.loop-code.code - 1) c.index.result.now within) in
    let e : c.index.result.now.null ≡ c.args.null = search rules in
    (subst (λ (l : List Found). c.index.result.now ∈ l) (ap (λ (b : BindingState). b.cells) c.self.view_is) there, e)

pub loop-code-preserved : goal.loop-code-preserved
loop-code-preserved c =
    let heads = c.self.inside.heads.items in
    let cells = c.self.inside.cells.items in
    let before = c.self.inside.before.items in
    let p = c.loop-code.code - 1 in
    let e : c.loop-code.code ≡ suc p = omega arith in
    let within : p < length cells = omega (arith, c.loop-code.invariant.within) in
    let many = many_buckets (length heads) cells in
    let bound = c.self.invariant.2 in
    let inside : p < length before = omega (arith, within, many, bound.linked.many) in
    let next = c.index-code-in-loop-code.ensures ∙ get_or_default before p _ 0 inside in
    let d : c.index.result.now.null ≡ c.args.null → ⊥ = search rules in
    let at : c.index.result.now ≡ found_at cells p = c.index.ensures ∙ get_or_default cells p _ _ within in
    let differs : ¬ ((found_at cells p).null ≡ c.args.null) = λ q. d (ap (λ (b : Found). b.null) at ∙ q) in
    (looks_next (length heads) cells c.args.null heads before p c.loop-code.code c.index-code-in-loop-code.result.now refl e next bound
    c.loop-code.invariant differs).0

pub loop-code-smaller : goal.loop-code-smaller
loop-code-smaller c =
    let heads = c.self.inside.heads.items in
    let cells = c.self.inside.cells.items in
    let before = c.self.inside.before.items in
    let p = c.loop-code.code - 1 in
    let e : c.loop-code.code ≡ suc p = omega arith in
    let within : p < length cells = omega (arith, c.loop-code.invariant.within) in
    let many = many_buckets (length heads) cells in
    let bound = c.self.invariant.2 in
    let inside : p < length before = omega (arith, within, many, bound.linked.many) in
    let next = c.index-code-in-loop-code.ensures ∙ get_or_default before p _ 0 inside in
    let d : c.index.result.now.null ≡ c.args.null → ⊥ = search rules in
    let at : c.index.result.now ≡ found_at cells p = c.index.ensures ∙ get_or_default cells p _ _ within in
    let differs : ¬ ((found_at cells p).null ≡ c.args.null) = λ q. d (ap (λ (b : Found). b.null) at ∙ q) in
    (looks_next (length heads) cells c.args.null heads before p c.loop-code.code c.index-code-in-loop-code.result.now refl e next bound
    c.loop-code.invariant differs).1

pub returns : goal.returns
returns c =
    let none = nowhere (length c.self.inside.heads.items) c.self.inside.cells.items c.args.null c.loop-code.code (omega arith)
    c.loop-code.invariant in
    subst (λ (l : List Found). ¬ (c.args.null ∈ found_nulls l)) (ap (λ (b : BindingState). b.cells) c.self.view_is) none
