use Rattle.std.proofs.Common.{◌∙◌, ◌≡◌, ap, arith}
use Rattle.std.proofs.lemmas.Result.{err_from_is_err_and}
use Rattle.dx_funcs.specs.Serving.{offered}
use Rattle.dx_tgd_text.specs.Numbering.{unknown_names}
use Rattle.dx_tgd_text.specs.Reading.{names_of_premise}
use Rattle.dx_tgd_text.proofs.Appearing.{names_few}
use Rattle.dx_tgd_text.proofs.RuleSteps.{by_conclusion, by_derived, rule_read}
use Rattle.dx_tgd_text.proofs.rules.read_rule.Goals as goal

pub read_derived-requires : goal.read_derived-requires
read_derived-requires g c =
    let few = names_few c.new-none.result c.args.rule.now.premise in
    let known = rw c.items.ensures at c.in_ok-known.ensures in
    rw (c.items-3.ensures, known) (omega (arith, few, c.requires))

pub returns-in_err-derived : goal.returns-in_err-derived
returns-in_err-derived g c =
    let known : c.in_ok-known.known ≡ names_of_premise c.args.rule.now = (rw c.items.ensures at c.in_ok-known.ensures) ∙ ap (λ k. unknown_names k c.args.rule.now.premise) c.new-none.ensures in
    let p = err_from_is_err_and c.from_residual-in_err-derived.result c.from_residual-in_err-derived.ensures.1 in
    let none = (rw c.items-2.ensures at c.in_ok-premise.ensures).1 in
    rw (p.1, p.2)
    (by_derived c.args.source.now c.args.target.now (offered c.args.host.now) c.args.rule.now c.in_ok-known.known _ known none (rw c.items-3.ensures at c.in_err-derived.ensures))

pub returns-in_err-conclusion : goal.returns-in_err-conclusion
returns-in_err-conclusion g c =
    let known : c.in_ok-known.known ≡ names_of_premise c.args.rule.now = (rw c.items.ensures at c.in_ok-known.ensures) ∙ ap (λ k. unknown_names k c.args.rule.now.premise) c.new-none.ensures in
    let p = err_from_is_err_and c.from_residual-in_err-conclusion.result c.from_residual-in_err-conclusion.ensures.1 in
    let none = (rw c.items-2.ensures at c.in_ok-premise.ensures).1 in
    let also = (rw c.items-3.ensures at c.in_ok-derived.ensures).1 in
    rw (p.1, p.2)
    (by_conclusion c.args.source.now c.args.target.now (offered c.args.host.now) c.args.rule.now c.in_ok-known.known _ known none also (rw c.items-5.ensures at c.in_err-conclusion.ensures))

pub returns : goal.returns
returns g c =
    let known : c.in_ok-known.known ≡ names_of_premise c.args.rule.now = (rw c.items.ensures at c.in_ok-known.ensures) ∙ ap (λ k. unknown_names k c.args.rule.now.premise) c.new-none.ensures in
    rule_read c.args.source.now c.args.target.now (offered c.args.host.now) c.args.rule.now c.new-none.result c.in_ok-known.known c.read_derived.new.known c.in_ok-fresh.fresh
    c.in_ok-premise.premise c.in_ok-conclusion.conclusion c.in_ok-derived.derived c.new-none.ensures known (rw c.items-2.ensures at c.in_ok-premise.ensures) (rw c.items-3.ensures at c.in_ok-derived.ensures)
    (rw c.items-4.ensures at c.in_ok-fresh.ensures) (rw c.items-5.ensures at c.in_ok-conclusion.ensures)
