use Rattle.std.proofs.Common.{◌∙◌, ◌^◌, ap, arith, sym}
use Rattle.std.proofs.lemmas.List.{get_or_default}
use Rattle.dx_solver.specs.declared.domain.Domain.{Domain}
use Rattle.dx_solver.specs.declared.domain.Domain.TheVariants.{Any}
use Rattle.dx_solver.specs.Domains.{domain_size}
use Rattle.dx_solver.specs.Questions.{HasImageRow}
use Rattle.dx_solver.proofs.SearchFacts.{ok_weaken, weaken}
use Rattle.dx_solver.proofs.choosing.split_at.Goals as goal

pub returns-in-One : goal.returns-in-One
returns-in-One c =
    let ds = c.args.node.now.domains.items in
    let e = get_or_default ds c.args.position.now.variable Any c.index.result.now c.requires.below ∙ (sym c.index.ensures ∙ c.in-One.is) in
    let z = ap (λ (d : Domain). domain_size (2 ^ 32) d) e in
    absurd (omega (arith, z, c.requires.many))

pub fork-requires-clause-values : goal.fork-requires-clause-values
fork-requires-clause-values c =
    let ds = c.args.node.now.domains.items in
    get_or_default ds c.args.position.now.variable Any c.index.result.now c.requires.below ∙ (sym c.index.ensures ∙ c.in-Many.is)

pub fork-requires-clause-many : goal.fork-requires-clause-many
fork-requires-clause-many c =
    let ds = c.args.node.now.domains.items in
    let e = get_or_default ds c.args.position.now.variable Any c.index.result.now c.requires.below ∙ (sym c.index.ensures ∙ c.in-Many.is) in
    let z = ap (λ (d : Domain). domain_size (2 ^ 32) d) e in
    omega (arith, z, c.requires.many)

pub returns-in-Many : goal.returns-in-Many
returns-in-Many c =
    ok_weaken c.fork.result (weaken (λ a. Unit {0}) (λ a. HasImageRow c.args.question.now.numbers.now.tables c.args.question.now.taken.now a
    c.args.position.now.atom.now) (λ a s. tt) c.args.node.now c.args.nodes.now.items c.fork.new.nodes.items) c.fork.ensures
