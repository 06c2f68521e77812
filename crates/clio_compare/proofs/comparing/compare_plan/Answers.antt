use Rattle.std.proofs.lemmas.Result.{err_from_is_err_and}
use Rattle.dx_funcs.specs.Judging.{tested}
use Rattle.dx_funcs.specs.Serving.{offered}
use Rattle.dx_base.specs.Entries.{entries_of}
use Rattle.dx_stages.proofs.Running.{ran_become}
use Rattle.dx_compare.specs.declared.comparing.Comparison.{Comparison}
use Rattle.clio_accept.specs.declared.mapping.Mapping.{Mapping}
use Rattle.clio_ending.specs.declared.ending.Done.TheVariants.{Compared}
use Rattle.clio_steps.specs.Steps.{Program, program}
use Rattle.clio_steps.proofs.Plans.{ran_become_none, ran_become_stop}
use Rattle.clio_compare.specs.Comparing.{IsComparedPlan, comparisons}
use Rattle.clio_compare.proofs.Pairs.{files_fit, made}
use Rattle.clio_compare.proofs.comparing.compare_plan.Goals as goal

pub returns-in_err-mapping : goal.returns-in_err-mapping
returns-in_err-mapping g c =
    let P : Program = program (offered c.args.host.now) (tested c.args.tests.now) g.M.Meaning.apply g.M.Meaning.passes in
    let p = err_from_is_err_and c.from_residual.result c.from_residual.ensures.1 in
    rw (p.1, p.2)
    (ran_become_stop (λ u q plan. IsComparedPlan q.0 q.1 plan) (comparisons P) tt c.in_err-mapping.field-0.0 _ _ c.in_err-mapping.ensures)

pub compared_files-requires : goal.compared_files-requires
compared_files-requires g c =
    let P : Program = program (offered c.args.host.now) (tested c.args.tests.now) g.M.Meaning.apply g.M.Meaning.passes in
    let q : Mapping × Comparison = (c.in_ok-mapping.mapping, c.in_ok-mapping.comparison) in
    let m = made P q _ _ c.in_ok-mapping.ensures in
    files_fit P m.0 q m.1

pub returns-in_err-files : goal.returns-in_err-files
returns-in_err-files g c =
    let P : Program = program (offered c.args.host.now) (tested c.args.tests.now) g.M.Meaning.apply g.M.Meaning.passes in
    let p = err_from_is_err_and c.from_residual-in_err-files.result c.from_residual-in_err-files.ensures.1 in
    rw (p.1, p.2)
    (ran_become_none (λ u q plan. IsComparedPlan q.0 q.1 plan) (comparisons P) tt (c.in_ok-mapping.mapping, c.in_ok-mapping.comparison) _ _
    c.in_ok-mapping.ensures)

pub returns : goal.returns
returns g c =
    let P : Program = program (offered c.args.host.now) (tested c.args.tests.now) g.M.Meaning.apply g.M.Meaning.passes in
    let k = c.in_ok-mapping.comparison in
    let w = c.in_ok-files.ensures in
    ran_become (λ u q plan. IsComparedPlan q.0 q.1 plan) (comparisons P) tt (c.in_ok-mapping.mapping, k)
    (record { done = Compared k; files = entries_of c.in_ok-files.files.items; text = c.in_ok-files.text.items }) _ _
    (w.0, w.1, λ i. record { done = Compared k; files = w.2 i; text = w.3 i }) c.in_ok-mapping.ensures
