use Rattle.std.proofs.Common.{◌∙◌, ◌≤◌, List, length, subst, sym}
use Rattle.std.proofs.lemmas.Bool.{true≢false}
use Rattle.dx_base.specs.Members.{Each}
use Rattle.dx_queries.specs.declared.query.Part.{Part}
use Rattle.clio_answer.proofs.Queried.{never_deep, too_many}
use Rattle.clio_answer.proofs.answering.accept_query.Goals as goal

pub unreachable-requires : goal.unreachable-requires
unreachable-requires c =
    never_deep c.args.target.now c.args.text.now c.in-Err-TooDeep.field-0-0 (rw c.in-Err-TooDeep.field-0-is at c.in-Err-TooDeep.ensures.fault)

pub returns-then-not-have_few_atoms : goal.returns-then-not-have_few_atoms
returns-then-not-have_few_atoms c =
    too_many c.args.target.now c.args.text.now c.in-Ok.query c.in-Ok.ensures.query (λ few.
    let t = c.have_few_atoms.ensures.1 (subst (λ (ps : List Part). Each ps (λ p. length p.atoms ≤ 64)) (sym c.items.ensures) few) in
    true≢false (sym t ∙ c.if-not-have_few_atoms.true))
